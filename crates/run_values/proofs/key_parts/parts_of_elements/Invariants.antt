use Rattle.std.proofs.Common.{◌≡◌}
use Rattle.def_core.specs.Parts.{elements_at}
use Rattle.def_core.specs.Sound.{census}
use Rattle.def_calls.specs.Values.{all_parts}
use Rattle.run_values.specs.Levels.{whole, steps, parts_within, IsWalk}
use Rattle.run_values.proofs.key_parts.parts_of_elements.Given as goal

abbrev pub invariant-steps : goal.invariant-steps
invariant-steps l = record {
  walk : IsWalk (census l.st.store) l.walk;
  same : whole l.st.store.objects l.walk ≡ all_parts (parts_within l.levels l.st.store.objects)
      (elements_at l.st.store.objects l.fn.id);
}

abbrev pub decreases-steps : goal.decreases-steps
decreases-steps l = steps l.st.store.objects l.walk
