use Rattle.std.proofs.Common.{length, ◌-◌, ◌≤◌, drop}
use Rattle.code_listing.specs.Inspect as texts
use Rattle.rb_refusal.proofs.Progress.{Progress}
use Rattle.code_listing.proofs.inspecting.write_bytes.Given as goal

abbrev pub invariant-bytes : goal.invariant-bytes
invariant-bytes g l = record {
  within : l.at ≤ length l.text;
  progress : Progress (record {
    taken = g.O.Sink.taken l.initial.out;
    faults = g.O.Sink.faults l.initial.out;
  })
      (record { taken = g.O.Sink.taken l.out; faults = g.O.Sink.faults l.out }) (texts.inspected_bytes l.text)
      (texts.inspected_bytes (drop l.at l.text));
}

abbrev pub decreases-bytes : goal.decreases-bytes
decreases-bytes g l = length l.text - l.at
