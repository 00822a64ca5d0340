use Rattle.std.proofs.Common.{◌≡◌, ◌++◌}
use Rattle.rb_string.specs.Padding.{padding}
use Rattle.rb_string.proofs.padding.padding.Given as goal

abbrev pub invariant-pads : goal.invariant-pads
invariant-pads l = l.bytes.items ++ padding l.pad l.left ≡ padding l.pad l.count

abbrev pub decreases-pads : goal.decreases-pads
decreases-pads l = l.left
