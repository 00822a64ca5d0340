use Rattle.std.proofs.Common.{flat_map, ap, sym, refl}
use Rattle.code_listing.specs.Info as texts
use Rattle.rb_refusal.proofs.Progress.{started, went_on, stopped, ended}
use Rattle.code_listing.proofs.informing.write_lines.Goals as goal

pub returns-in_err-write_header : goal.returns-in_err-write_header
returns-in_err-write_header g c = stopped _ _ _ _ _ _ _ _ _ _ c.in_err-write_header.was c.from_residual.ensures.0 refl
    (started _ _) c.write_header.ensures

pub returns : goal.returns
returns g c = ended _ _ _ _ _ _ _ (ap (λ sections. flat_map texts.section_line (texts.fitting sections))
    (sym c.sections.ensures)) (went_on _ _ _ _ _ _ _ _ _ c.in_ok-write_header.was refl (started _ _)
    c.write_header.ensures) c.write_sections.ensures
