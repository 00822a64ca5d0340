use Rattle.std.proofs.Common.{◌≡◌, take}
use Rattle.def_calls.specs.World.{World, with_store}
use Rattle.rows_class.specs.Spaces.{include_all}
use Rattle.rows_class.proofs.spaces.include_all.Given as goal

abbrev pub invariant-mixins : goal.invariant-mixins
invariant-mixins l = (w : World) → include_all l.space l.fn.mixins (with_store w l.fn.heap.store)
    ≡ include_all l.space (take l.place l.mixins) (with_store w l.heap.store)
