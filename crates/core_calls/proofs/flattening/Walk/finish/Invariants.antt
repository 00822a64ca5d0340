use Rattle.std.proofs.Common.{◌≡◌}
use Rattle.core_calls.specs.Flat.{told, turns_of}
use Rattle.core_calls.proofs.flattening.Walk.finish.Given as goal

abbrev pub invariant-elements : goal.invariant-elements
invariant-elements l =
    (told l.heap.store.objects l.fn.self ≡ told l.heap.store.objects l.self) × (l.self.empty ≡ l.fn.self.empty)

abbrev pub decreases-elements : goal.decreases-elements
decreases-elements l = turns_of l.heap.store.objects l.self
