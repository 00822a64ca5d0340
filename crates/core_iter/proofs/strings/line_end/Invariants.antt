use Rattle.std.proofs.Common.{◌≡◌, ◌≤◌, ◌-◌, length, drop}
use Rattle.core_iter.specs.Strings.{line_end}
use Rattle.core_iter.proofs.strings.line_end.Given as goal

abbrev pub invariant-bytes : goal.invariant-bytes
invariant-bytes l = (line_end l.at (drop l.at l.text) ≡ line_end l.fn.place (drop l.fn.place l.text)) × (l.fn.place ≤ l.at)

abbrev pub decreases-bytes : goal.decreases-bytes
decreases-bytes l = length l.text - l.at
