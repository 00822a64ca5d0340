use Rattle.std.proofs.Common.{refl}
use Rattle.code_listing.specs.Inspect as texts
use Rattle.rb_refusal.proofs.Progress.{started, went_on, stopped, ended}
use Rattle.code_listing.proofs.inspecting.write_inspected.Goals as goal

pub returns-in_err-write_text : goal.returns-in_err-write_text
unfolding texts.inspected
returns-in_err-write_text g c = stopped _ _ _ _ _ _ _ _ _ _ c.in_err-write_text.was c.from_residual.ensures.0 refl
    (started _ _) c.write_text.ensures

pub returns-in_err-write_bytes : goal.returns-in_err-write_bytes
unfolding texts.inspected
returns-in_err-write_bytes g c = stopped _ _ _ _ _ _ _ _ _ _ c.in_err-write_bytes.was
    c.from_residual-in_err-write_bytes.ensures.0 refl
    (went_on _ _ _ _ _ _ _ _ _ c.in_ok-write_text.was refl (started _ _) c.write_text.ensures) c.write_bytes.ensures

pub returns : goal.returns
unfolding texts.inspected
returns g c = ended _ _ _ _ _ _ _ refl
    (went_on _ _ _ _ _ _ _ _ _ c.in_ok-write_bytes.was refl
    (went_on _ _ _ _ _ _ _ _ _ c.in_ok-write_text.was refl (started _ _) c.write_text.ensures) c.write_bytes.ensures)
    c.write_text-2.ensures
