use Rattle.std.proofs.Common.{◌≡◌, OnOk, true, subst, ap, sym, ◌∙◌}
use Rattle.ir_core.specs.CoreForm as form
use Rattle.ir_core.specs.PartsBy.{core_by, boxed_by}
use Rattle.gen_parts.specs.Pieces.{does}
use Rattle.gen_parts.specs.Emission.{with_piece, here}
use Rattle.gen_forms.specs.Gen.{gen, ask, told}
use Rattle.gen_forms.specs.Around.{context_of}
use Rattle.gen_forms.proofs.Turns.{ok-then}
use Rattle.gen_forms.proofs.questions.defined.Goals as goal

pub returns-in_ok-emit-in-Some : goal.returns-in_ok-emit-in-Some
returns-in_ok-emit-in-Some g c =
    let v = g.T.Emits.form in
    let e = c.args.code.now in
    let around = context_of c.args.context.now in
    let r = c.args.a in
    subst (λ m. OnOk c.answer.result (c.answer.new.code ≡ with_piece e
    (gen around (here e) r (form.defined c.args.kind c.args.name.now (boxed_by v m))))) (sym c.in-Some.is)
    (ok-then c.answer.result e c.emit.new.code c.answer.new.code (gen around (here e) r (core_by v c.in-Some.core))
    (does (ask around c.args.kind c.args.name.now true r (told c.args.kind)))
    (c.in_ok-emit-in-Some.ensures ∙ ap (λ t. with_piece e (gen around (here e) r (v t))) c.deref.ensures)
    c.answer.ensures)
