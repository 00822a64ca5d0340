-- What a core method by its row, and binding, give and leave, where the arguments are any values: those that name what
-- the store hasn't are refused.
use Rattle.std.specs.Prelude.{ℕ, List, length, if◌then◌else◌, Option}
use Rattle.rb_value.specs.declared.value.Value.{Value}
use Rattle.rb_value.specs.declared.value.Value.TheVariants.{Nil}
use Rattle.rb_value.specs.declared.value.ObjId.{ObjId}
use Rattle.rb_value.specs.declared.method.Shape.{Shape}
use Rattle.def_core.specs.declared.bound.BindKind.{BindKind}
use Rattle.def_core.specs.declared.bound.Bound.TheVariants.{Wrong}
use Rattle.def_core.specs.Store.{Store, Done}
use Rattle.def_core.specs.Changes.{gives}
use Rattle.def_core.specs.Bind.{Binding, bind}
use Rattle.def_rows.specs.Rows.{prim}
use Rattle.heap.specs.Operands.{own, has_all}

abbrev pub called : Store → ℕ → Value → List Value → Option ObjId → Done
called st row receiver args block =
    if has_all st args then prim row (own st receiver) args block st else gives Nil st

abbrev pub bound : Store → Shape → List Value → BindKind → Binding
bound st shape args kind =
    if has_all st args then bind st shape args kind else record { bound = Wrong (length args); store = st }
