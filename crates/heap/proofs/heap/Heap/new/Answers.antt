use Rattle.heap.proofs.Whole.{new_whole}
use Rattle.heap.proofs.heap.Heap.new.Goals as goal

pub invariant_of-result : goal.invariant_of-result
invariant_of-result c = new_whole _ _ _ c.in_ok-new.ensures.sound c.new-2.ensures (c.new_cache.ensures.goes_with _)
