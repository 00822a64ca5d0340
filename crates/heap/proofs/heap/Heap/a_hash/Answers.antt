use Rattle.heap.proofs.Sorted.{hash_by}
use Rattle.heap.proofs.heap.Heap.a_hash.Goals as goal

pub returns : goal.returns
returns c = hash_by c.args.self.now.store c.args.value c.of_sort.result c.of_sort.ensures.found c.of_sort.ensures.none
