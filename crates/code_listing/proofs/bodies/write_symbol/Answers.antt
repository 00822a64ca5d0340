use Rattle.std.proofs.Common.{refl}
use Rattle.code_listing.specs.Listing as texts
use Rattle.rb_refusal.proofs.Progress.{started, went_on, stopped, ended}
use Rattle.code_listing.proofs.bodies.write_symbol.Goals as goal

pub returns-in_err-write_numbered : goal.returns-in_err-write_numbered
unfolding texts.symbol_line
returns-in_err-write_numbered g c = stopped _ _ _ _ _ _ _ _ _ _ c.in_err-write_numbered.was c.from_residual.ensures.0
    refl (started _ _) c.write_numbered.ensures

pub returns : goal.returns
unfolding texts.symbol_line
returns g c = ended _ _ _ _ _ _ _ refl (went_on _ _ _ _ _ _ _ _ _ c.in_ok-write_numbered.was refl (started _ _)
    c.write_numbered.ensures) c.end_with_text.ensures
