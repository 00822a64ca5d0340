use Rattle.std.proofs.Common.{length, ◌≡◌, ◌-◌, ◌≤◌, ◌++◌, drop}
use Rattle.line_ends.specs.Lines.{as_read}
use Rattle.line_ends.proofs.without_returns.Given as goal

abbrev pub invariant-bytes : goal.invariant-bytes
invariant-bytes l = record {
  within : l.at ≤ length l.text;
  same : l.read.items ++ as_read (drop l.at l.text) ≡ as_read l.text;
}

abbrev pub decreases-bytes : goal.decreases-bytes
decreases-bytes l = length l.text - l.at
