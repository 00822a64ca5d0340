use Rattle.std.proofs.Common.{◌≡◌, ◌∙◌, sym, ap, Some, Err, rules}
use Rattle.code_listing.proofs.SectionLists.{fits_on, fits_not, all_fit}
use Rattle.code_listing.proofs.informing.check_sections.Goals as goal

pub sections-preserved : goal.sections-preserved
sections-preserved c = record {
  same = fits_on c.sections.sections _ c.in_ok-section.field-0 (ap Some (sym c.in_ok-section.was)
      ∙ c.in-Some.ensures.value) c.next.ensures.rest ∙ c.sections.invariant.same;
}

pub returns-in_err-section : goal.returns-in_err-section
returns-in_err-section c =
    let failed = fits_not c.sections.sections _ (ap Some (sym c.in_err-section.was) ∙ c.in-Some.ensures.value) in
    let answer : c.from_residual.result ≡ Err c.in_err-section.field-0.0 = search rules in
    answer ∙ sym failed ∙ c.sections.invariant.same

pub returns : goal.returns
returns c = sym (sym c.sections.invariant.same
    ∙ all_fit c.sections.sections (sym c.in_default.is ∙ c.next.ensures.value))
