use Rattle.heap.proofs.Sorted.{array_by}
use Rattle.heap.proofs.heap.Heap.an_array.Goals as goal

pub returns : goal.returns
returns c = array_by c.args.self.now.store c.args.value c.of_sort.result c.of_sort.ensures.found c.of_sort.ensures.none
