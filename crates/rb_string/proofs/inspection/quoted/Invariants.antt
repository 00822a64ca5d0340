use Rattle.std.proofs.Common.{◌≡◌, ◌-◌, ◌≤◌, ◌++◌, length, drop}
use Rattle.rb_string.specs.Inspection.{escaped}
use Rattle.rb_string.proofs.inspection.quoted.Given as goal

abbrev pub invariant-bytes : goal.invariant-bytes
invariant-bytes l = record {
  within : l.at ≤ length l.text;
  same : l.shown.items ++ escaped (drop l.at l.text) ≡ l.start ++ escaped l.text;
}

abbrev pub decreases-bytes : goal.decreases-bytes
decreases-bytes l = length l.text - l.at
