use Rattle.heap.proofs.Whole.{one_list_more, list_answered}
use Rattle.heap.proofs.heap.Heap.open_list.Goals as goal

pub invariant_of-self : goal.invariant_of-self
invariant_of-self c = list_answered _ _ _ _ _ _ c.open.result c.self.invariant c.in-Some.ensures.there c.open.ensures.listed
    c.open.ensures.err
