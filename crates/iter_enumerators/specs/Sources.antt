-- Calls of the source of an Enumerator, and of the Proc of a Yielder.
use Rattle.std.specs.Prelude.{ℕ, ◌+◌, ◌*◌, List, [], ◌∷◌, false, Option, Some, None}
use Rattle.rb_value.specs.declared.value.Value.{Value}
use Rattle.rb_value.specs.declared.value.Value.TheVariants.{Nil, Obj}
use Rattle.rb_value.specs.declared.value.ObjId.{ObjId}
use Rattle.rb_value.specs.declared.core_class.CoreClass.TheVariants as class
use Rattle.rb_value.specs.declared.kind.EnumeratorSource.{EnumeratorSource}
use Rattle.rb_value.specs.declared.kind.EnumeratorSource.TheVariants as source
use Rattle.def_core.specs.Store.{Store, object_at, next_number}
use Rattle.def_calls.specs.Rows.{hidden_number}
use Rattle.def_calls.specs.Views.{kind_in}
use Rattle.rb_store.specs.Held.{Held}
use Rattle.heap.specs.Made.{number_for, with_yielder, with_core_proc}
use Rattle.heap.specs.Reading.{source_in, cursor_in, yielder_in}
use Rattle.heap.specs.declared.enumerators.Cursor.{Cursor}
use Rattle.def_plans.specs.Plan.{Planned, sends, calls, wanted}
use Rattle.iter_enumerators.specs.declared.state.EnumeratorState.{EnumeratorState}
use Rattle.iter_enumerators.specs.declared.state.EnumeratorState.TheVariants as state

-- the object of a number as the only argument, where there is one
abbrev pub alone : Option ObjId → List Value
alone None = []
alone (Some id) = Obj id ∷ []

-- the method of the receiver is called with the block, or the Proc with a new Yielder that gives to the block
abbrev pub source_called : Held → EnumeratorState → ObjId → EnumeratorSource → Planned EnumeratorState
source_called held then block (source.Call receiver name args) =
    record { plan = sends then receiver name args (Some block) false; held = held }
source_called held then block (source.Block p) = record {
  plan = calls then p (alone (number_for held.store block)) None;
  held = with_yielder held block;
}

-- the source of an Enumerator is called
abbrev pub run : Held → EnumeratorState → ObjId → ObjId → Planned EnumeratorState
run held then e block = wanted held class.Enumerator (Obj e) (source_in (object_at held.store.objects e).kind)
    (source_called held then block)

-- the row of the Procs that yield their arguments
abbrev pub yield_row : ℕ
yield_row = 256 * hidden_number + 2

abbrev pub fiber_of : Option Cursor → Option ObjId
fiber_of None = None
fiber_of (Some c) = c.fiber

-- the fiber of an Enumerator calls the source with a new Proc that yields the items
abbrev pub enumerate : Held → ObjId → Planned EnumeratorState
enumerate held e = run (with_core_proc held yield_row Nil)
    (state.Runs e (fiber_of (cursor_in (object_at held.store.objects e).kind))) e (next_number held.store)

-- the Proc of a Yielder gets the arguments
abbrev pub put : Held → EnumeratorState → Value → List Value → Planned EnumeratorState
put held then yielder args = wanted held class.Yielder yielder (yielder_in (kind_in held.store.objects yielder))
    (λ p. record { plan = calls then p args None; held = held })
