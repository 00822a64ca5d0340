use Rattle.std.proofs.Common.{◌≤◌, ◌-◌, length}
use Rattle.code_outline.proofs.Reading.{IsReadTo}
use Rattle.code_outline.proofs.making.put_makers.Given as goal

abbrev pub invariant-places : goal.invariant-places
invariant-places l = record {
  read : IsReadTo l.version l.code l.number l.body l.at l.fn.makers l.makers;
  within : l.at ≤ length l.code;
}

abbrev pub decreases-places : goal.decreases-places
decreases-places l = length l.code - l.at
