use Rattle.heap.proofs.Copied.{store_left}
use Rattle.heap.proofs.heap.Heap.include_one.Goals as goal

pub returns : goal.returns
returns c = store_left c.args.self.now c.include.new.self _ _ c.in_ok-include.ensures.answers
