use Rattle.heap.proofs.Whole.{stays_whole}
use Rattle.heap.proofs.heap.Heap.take_text.Goals as goal

pub invariant_of-self : goal.invariant_of-self
invariant_of-self c = stays_whole _ _ _ _ c.self.invariant c.take_text.ensures.keeps
