use Rattle.std.proofs.Common.{◌≤◌, ◌-◌, ◌≡◌, ◌++◌, drop, length, map}
use Rattle.def_core.specs.Sound.{census, SoundPart, AllAre}
use Rattle.heap.specs.Copies.{own_part}
use Rattle.heap.proofs.kept_keys.parts_copy.Given as goal

abbrev pub invariant-parts : goal.invariant-parts
invariant-parts l = record {
  within : l.at ≤ length l.parts;
  good : AllAre (SoundPart (census l.st.store)) l.copy.items;
  same : l.copy.items ++ map (own_part l.st.store) (drop l.at l.parts) ≡ map (own_part l.st.store) l.parts;
}

abbrev pub decreases-parts : goal.decreases-parts
decreases-parts l = length l.parts - l.at
