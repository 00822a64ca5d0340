use Rattle.heap.proofs.Sorted.{exception_by}
use Rattle.heap.proofs.heap.Heap.an_exception.Goals as goal

pub returns : goal.returns
returns c = exception_by c.args.self.now.store c.args.value c.of_sort.result c.of_sort.ensures.found c.of_sort.ensures.none
