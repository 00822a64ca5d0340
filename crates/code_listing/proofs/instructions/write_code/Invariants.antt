use Rattle.std.proofs.Common.{ℕ, length, ◌-◌, ◌≤◌}
use Rattle.code_listing.specs.Listing as texts
use Rattle.code_listing.proofs.CodeLines.{lines_at}
use Rattle.rb_refusal.proofs.Progress.{Progress}
use Rattle.code_listing.proofs.instructions.write_code.Given as goal

abbrev pub invariant-instructions : goal.invariant-instructions
invariant-instructions g l = record {
  within : l.at ≤ length l.code;
  most : ℕ;
  enough : length l.code - l.at ≤ most;
  progress : Progress (record {
    taken = g.O.Sink.taken l.initial.out;
    faults = g.O.Sink.faults l.initial.out;
  })
      (record { taken = g.O.Sink.taken l.out; faults = g.O.Sink.faults l.out }) (texts.code_lines l.version l.code)
      (lines_at most l.version l.code l.at);
}

abbrev pub decreases-instructions : goal.decreases-instructions
decreases-instructions g l = length l.code - l.at
