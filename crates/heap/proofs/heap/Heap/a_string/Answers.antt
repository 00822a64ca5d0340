use Rattle.heap.proofs.Sorted.{string_by}
use Rattle.heap.proofs.heap.Heap.a_string.Goals as goal

pub returns : goal.returns
returns c = string_by c.args.self.now.store c.args.value c.of_sort.result c.of_sort.ensures.found c.of_sort.ensures.none
