use Rattle.std.proofs.Common.{◌≡◌, ◌≤◌, ◌++◌}
use Rattle.std.specs.List.{repeat}
use Rattle.rb_string.proofs.editing.copies.Given as goal

abbrev pub invariant-copies : goal.invariant-copies
invariant-copies l = l.made.items ++ repeat l.left l.text ≡ repeat l.count l.text

abbrev pub decreases-copies : goal.decreases-copies
decreases-copies l = l.left
