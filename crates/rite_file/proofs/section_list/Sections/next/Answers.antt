use Rattle.std.proofs.Common.{◌∙◌, sym, ap, arith}
use Rattle.std.specs.Prelude.{slice_get}
use Rattle.rite_file.proofs.SectionSteps.{goes_on}
use Rattle.rite_file.proofs.section_list.Sections.next.Goals as goal

pub returns-in-Some-clause-value : goal.returns-in-Some-clause-value
returns-in-Some-clause-value c =
    let steps = goes_on c.self.inside.bytes.now c.self.inside.at c.in-Some.section (omega arith)
    (sym c.in-Some.ensures.value) in
    sym (ap (λ l. slice_get l 0) (sym c.self.view_is ∙ steps))
