use Rattle.std.proofs.Common.{arith}
use Rattle.code_listing.specs.Listing as texts
use Rattle.code_listing.proofs.Numbered.{next_mapped, none_mapped}
use Rattle.rb_refusal.proofs.Progress.{started, went_on, stopped, finished}
use Rattle.code_listing.proofs.bodies.write_catches.Goals as goal

pub entries-init : goal.entries-init
entries-init g c = record { progress = started _ _ }

pub returns-in_err-write_catch : goal.returns-in_err-write_catch
returns-in_err-write_catch g c = stopped _ _ _ _ _ _ _ _ _ _ c.in_err-write_catch.was c.from_residual.ensures.0
    (next_mapped texts.catch_line c.args.entries.now c.entries.entry-index _ c.entries-test.true)
    c.entries.invariant.progress c.write_catch.ensures

pub entries-preserved : goal.entries-preserved
entries-preserved g c = record {
  progress = went_on _ _ _ _ _ _ _ _ _ c.in_ok-write_catch.was
      (next_mapped texts.catch_line c.args.entries.now c.entries.entry-index _ c.entries-test.true)
      c.entries.invariant.progress c.write_catch.ensures;
}

pub returns : goal.returns
returns g c = finished _ _ _ _ (none_mapped texts.catch_line c.args.entries.now c.entries.entry-index (omega arith))
    c.entries.invariant.progress
