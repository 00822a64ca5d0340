use Rattle.std.proofs.Common.{◌≡◌, drop}
use Rattle.vm_parts.specs.Beside.{of}
use Rattle.vm_acts.specs.Arithmetic.{all_core}
use Rattle.vm_acts.proofs.arithmetic.all_core.Given as goal

-- all are core exactly if those that are left are, and nothing changes
abbrev pub invariant-operators : goal.invariant-operators
invariant-operators l = record {
  rest : all_core l.fn.parts.heap.store l.fn.parts.operators (drop l.operator-index l.operators)
      ≡ all_core l.fn.parts.heap.store l.fn.parts.operators l.operators;
  heap : l.parts.heap ≡ l.fn.parts.heap;
  operators : l.parts.operators ≡ l.fn.parts.operators;
  same : of l.parts ≡ of l.fn.parts;
}
