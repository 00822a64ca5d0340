use Rattle.heap.proofs.Whole.{stays_whole}
use Rattle.heap.proofs.heap.Heap.set_variable.Goals as goal

pub invariant_of-self : goal.invariant_of-self
invariant_of-self c = stays_whole _ _ _ _ c.self.invariant c.set_variable.ensures.keeps
