use Rattle.std.proofs.Common.{◌≡◌, length}
use Rattle.scope_leaps.specs.Leaps.{AreLow, LeadAll}
use Rattle.scope_leaps.proofs.leap.leaps.Given as goal

abbrev pub invariant-loop-number : goal.invariant-loop-number
invariant-loop-number l = record {
  count : length l.leaps ≡ l.number;
  low : AreLow l.leaps;
  lead : LeadAll l.outers l.leaps;
}
