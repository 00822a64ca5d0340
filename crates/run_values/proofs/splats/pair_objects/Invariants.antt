use Rattle.std.proofs.Common.{◌≡◌, map, take}
use Rattle.def_core.specs.Parts.{hash_at}
use Rattle.run_values.specs.Splats.{pair_object}
use Rattle.run_values.proofs.splats.pair_objects.Given as goal

abbrev pub invariant-places : goal.invariant-places
invariant-places l = l.objects.items ≡ map pair_object (take l.place (hash_at l.st.store.objects l.id).pairs)
