use Rattle.std.proofs.Common.{◌≡◌, ◌-◌, ◌≤◌, ◌++◌, length, drop}
use Rattle.rb_string.specs.Substitution.{expanded}
use Rattle.rb_string.proofs.substitution.append_references.Given as goal

abbrev pub invariant-bytes : goal.invariant-bytes
invariant-bytes l = record {
  within : l.from ≤ length l.new;
  same : l.made.items ++ expanded l.text l.at l.count (drop l.from l.new)
      ≡ l.fn.made.items ++ expanded l.text l.at l.count l.new;
}

abbrev pub decreases-bytes : goal.decreases-bytes
decreases-bytes l = length l.new - l.from
