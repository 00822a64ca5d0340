use Rattle.std.proofs.Common.{◌≡◌, List, ap, sym, subst, ◌∙◌}
use Rattle.ir_core.specs.View.{body_view}
use Rattle.rite_code.specs.Code.{program as of_bodies}
use Rattle.rite_code.specs.declared.code.Irep.{Irep}
use Rattle.file_maker.specs.Making.{code_of, IsFileOf}
use Rattle.file_maker.proofs.Filed.{filed}
use Rattle.file_maker.proofs.making.file_of_core.Goals as goal

pub returns : goal.returns
returns c =
    let core = body_view c.args.core.now in
    let whole = c.code_is_whole.ensures.whole core c.requires.program c.requires.within in
    let verified = c.laws_of_code.ensures.verified core c.requires.program c.requires.within in
    let is : c.new-code.result ≡ code_of core =
    c.new-code.ensures ∙ ap (λ (bodies : List Irep). of_bodies 2 bodies) c.in_ok-main_code.ensures in
    subst (IsFileOf core c.in_ok-bytes.bytes.items) (sym c.new.ensures)
    (filed core c.in_ok-bytes.bytes.items c.new-code.result c.requires.unbuilt c.requires.within is
    c.in_ok-bytes.ensures.value c.in_ok-bytes.ensures.spelled whole verified c.files_spell_programs.ensures.again
    (λ plain input. c.plain_programs_are_implemented.ensures.implemented core input c.requires.program
    c.requires.within plain))
