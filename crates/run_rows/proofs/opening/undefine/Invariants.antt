use Rattle.std.proofs.Common.{◌≡◌, drop}
use Rattle.def_core.specs.Changes.{intern}
use Rattle.run_rows.specs.Opening.{undefined_by}
use Rattle.run_rows.proofs.opening.undefine.Given as goal

abbrev pub invariant-classes : goal.invariant-classes
invariant-classes l = undefined_by l.heap.store l.name (drop l.class-index l.classes)
    ≡ undefined_by (intern l.fn.heap.store l.fn.name).store (intern l.fn.heap.store l.fn.name).symbol l.classes
