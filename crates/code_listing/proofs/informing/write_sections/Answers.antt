use Rattle.std.proofs.Common.{◌∙◌, sym, ap, flat_map, Some}
use Rattle.code_listing.specs.Info.{section_line}
use Rattle.code_listing.proofs.SectionLists.{one_fits, none_fits, none_left}
use Rattle.rb_refusal.proofs.Progress.{started, went_on, stopped, finished}
use Rattle.code_listing.proofs.informing.write_sections.Goals as goal

pub sections-init : goal.sections-init
sections-init g c = record { progress = started _ _ }

pub returns-in_err-write_section : goal.returns-in_err-write_section
returns-in_err-write_section g c = stopped _ _ _ _ _ _ _ _ _ _ c.in_err-write_section.was c.from_residual.ensures.0
    (one_fits c.sections.sections _ _ (ap Some (sym c.in-Ok.is) ∙ c.in-Some.ensures.value) c.next.ensures.rest)
    c.sections.invariant.progress c.write_section.ensures

pub sections-preserved : goal.sections-preserved
sections-preserved g c = record {
  progress = went_on _ _ _ _ _ _ _ _ _ c.in_ok-write_section.was
      (one_fits c.sections.sections _ _ (ap Some (sym c.in-Ok.is) ∙ c.in-Some.ensures.value) c.next.ensures.rest)
      c.sections.invariant.progress c.write_section.ensures;
}

pub returns-in_default-next : goal.returns-in_default-next
returns-in_default-next g c =
    finished _ _ _ _ (ap (flat_map section_line) (none_fits c.sections.sections _ (ap Some (sym c.in_default-next.is)
    ∙ c.in-Some.ensures.value))) c.sections.invariant.progress

pub returns : goal.returns
returns g c =
    finished _ _ _ _ (ap (flat_map section_line)
    (none_left c.sections.sections (sym c.in_default.is ∙ c.next.ensures.value))) c.sections.invariant.progress
