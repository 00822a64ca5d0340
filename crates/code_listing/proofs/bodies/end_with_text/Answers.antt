use Rattle.std.proofs.Common.{refl}
use Rattle.code_listing.specs.Listing as texts
use Rattle.rb_refusal.proofs.Progress.{started, went_on, stopped, ended}
use Rattle.code_listing.proofs.bodies.end_with_text.Goals as goal

pub returns-in_err-write_inspected : goal.returns-in_err-write_inspected
unfolding texts.text_end
returns-in_err-write_inspected g c = stopped _ _ _ _ _ _ _ _ _ _ c.in_err-write_inspected.was
    c.from_residual.ensures.0 refl (started _ _) c.write_inspected.ensures

pub returns : goal.returns
unfolding texts.text_end
returns g c = ended _ _ _ _ _ _ _ refl (went_on _ _ _ _ _ _ _ _ _ c.in_ok-write_inspected.was refl (started _ _)
    c.write_inspected.ensures) c.write_text.ensures
