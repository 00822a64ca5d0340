use Rattle.std.proofs.Common.{◌≡◌, drop}
use Rattle.def_calls.specs.World.{World, with_store}
use Rattle.rows_class.specs.Methods.{show_all}
use Rattle.rows_class.proofs.visibility.set_all.Given as goal

abbrev pub invariant-names : goal.invariant-names
invariant-names l = (w : World) → show_all l.visibility l.space l.fn.names (with_store w l.fn.heap.store)
    ≡ show_all l.visibility l.space (drop l.name-index l.names) (with_store w l.heap.store)
