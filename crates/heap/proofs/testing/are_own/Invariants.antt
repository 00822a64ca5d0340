use Rattle.std.proofs.Common.{◌≡◌, ◌≤◌, ◌-◌, length, true}
use Rattle.std.specs.Prelude.{take}
use Rattle.def_core.specs.Sound.{census, IsValue, AllAre}
use Rattle.heap.specs.Operands.{has_all}
use Rattle.heap.proofs.testing.are_own.Given as goal

abbrev pub invariant-values : goal.invariant-values
invariant-values l = record {
  within : l.at ≤ length l.values;
  good : AllAre (IsValue (census l.st.store)) (take l.at l.values);
  own : has_all l.st.store (take l.at l.values) ≡ true;
}

abbrev pub decreases-values : goal.decreases-values
decreases-values l = length l.values - l.at
