use Rattle.heap.proofs.Whole.{stays_whole}
use Rattle.heap.proofs.heap.Heap.get_constant.Goals as goal

pub invariant_of-self : goal.invariant_of-self
invariant_of-self c = stays_whole _ _ _ _ c.self.invariant c.given_constant.ensures.keeps
