use Rattle.std.proofs.Common.{length, ◌≡◌, ◌-◌, ◌≤◌, drop}
use Rattle.line_ends.specs.Lines.{place_from}
use Rattle.line_ends.proofs.place_in.Given as goal

abbrev pub invariant-bytes : goal.invariant-bytes
invariant-bytes l = record {
  within : l.at ≤ length l.text;
  same : place_from l.at (drop l.at l.text) l.left ≡ place_from 0 l.text l.fn.place;
}

abbrev pub decreases-bytes : goal.decreases-bytes
decreases-bytes l = length l.text - l.at
