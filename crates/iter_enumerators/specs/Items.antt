-- The items of an Enumerator.
use Rattle.std.specs.Prelude.{ℕ, ◌+◌, ◌*◌, List, [], slice_get, Bool, true, false, if◌then◌else◌, Option, Some, None}
use Rattle.rb_value.specs.declared.value.Value.{Value}
use Rattle.rb_value.specs.declared.value.Value.TheVariants.{Nil, Obj}
use Rattle.rb_value.specs.declared.value.ObjId.{ObjId}
use Rattle.rb_value.specs.declared.core_class.CoreClass.TheVariants as class
use Rattle.def_core.specs.declared.cause.Cause.TheVariants as cause
use Rattle.def_core.specs.Store.{Store, core, object_at, next_number, same_object}
use Rattle.def_core.specs.Parts.{elements_at}
use Rattle.def_calls.specs.Rows.{hidden_number}
use Rattle.rb_store.specs.Held.{Held, one_more}
use Rattle.heap.specs.Made.{number_for, with_core_proc, with_fiber, with_items}
use Rattle.heap.specs.Changes.{with_cursor, pushed}
use Rattle.heap.specs.Reading.{cursor_in}
use Rattle.heap.specs.declared.enumerators.Cursor.{Cursor}
use Rattle.def_plans.specs.Plan.{Planned, resumes, gives, refuses}
use Rattle.iter_enumerators.specs.declared.state.EnumeratorState.{EnumeratorState}
use Rattle.iter_enumerators.specs.declared.state.EnumeratorState.TheVariants as state

abbrev pub cursor_at : Held → ObjId → Option Cursor
cursor_at held e = cursor_in (object_at held.store.objects e).kind

-- the item that came and wasn't given yet
abbrev pub item_at : Held → Cursor → Option Value
item_at held c = slice_get (elements_at held.store.objects c.items) c.position

-- one item more was given
abbrev pub passed : Cursor → Cursor
passed c = record c { position = one_more c.position }

-- an item is given, and leaves or stays
abbrev pub give : Held → ObjId → Cursor → Value → Bool → Planned EnumeratorState
give held e c v true = gives (with_cursor held e (passed c)) v
give held e c v false = gives held v

-- The fiber that gives the items.

-- the row of the Proc that it runs
abbrev pub enumerate_row : ℕ
enumerate_row = 256 * hidden_number + 3

abbrev pub resumed : Held → ObjId → Bool → Option ObjId → Planned EnumeratorState
resumed held e leaves (Some fiber) = record { plan = resumes (state.Waits e fiber leaves) fiber []; held = held }
resumed held e leaves None = gives held Nil

-- a new fiber that runs a Proc is noted
abbrev pub with_begun : Held → ObjId → Cursor → ObjId → Held
with_begun held e c block =
    with_cursor (with_fiber held (core class.Fiber) block) e (record c { fiber = number_for held.store block })

abbrev pub begun : Held → ObjId → Cursor → Bool → ObjId → Planned EnumeratorState
begun held e c leaves block = resumed (with_begun held e c block) e leaves (number_for held.store block)

-- it goes on, or begins where there is none
abbrev pub wake : Held → ObjId → Cursor → Bool → Option ObjId → Planned EnumeratorState
wake held e c leaves (Some fiber) = resumed held e leaves (Some fiber)
wake held e c leaves None =
    begun (with_core_proc held enumerate_row (Obj e)) e c leaves (next_number held.store)

-- where the end was reached nothing more comes
abbrev pub unless_ended : Held → Option Value → Planned EnumeratorState → Planned EnumeratorState
unless_ended held (Some result) further = refuses held (cause.IterationEnd result)
unless_ended held None further = further

-- `next` and `peek`

abbrev pub next_from : Held → ObjId → Cursor → Bool → Option Value → Planned EnumeratorState
next_from held e c leaves (Some v) = give held e c v leaves
next_from held e c leaves None = unless_ended held c.result (wake held e c leaves c.fiber)

abbrev pub next_by : Held → ObjId → Bool → Option Cursor → Planned EnumeratorState
next_by held e leaves None = gives held Nil
next_by held e leaves (Some c) = next_from held e c leaves (item_at held c)

abbrev pub next_item : Held → ObjId → Bool → Planned EnumeratorState
next_item held e leaves = next_by held e leaves (cursor_at held e)

-- What the fiber gave: an item, or the end. That of a fiber that the Enumerator has no more is given and not held.

abbrev pub is_same : Option ObjId → Option ObjId → Bool
is_same None None = true
is_same None (Some g) = false
is_same (Some f) None = false
is_same (Some f) (Some g) = same_object f g

abbrev pub taken_by : Held → ObjId → ObjId → Bool → Value → Option Cursor → Planned EnumeratorState
taken_by held e fiber leaves v None = gives held v
taken_by held e fiber leaves v (Some c) = if is_same c.fiber (Some fiber)
    then unless_ended held c.result (give (pushed held c.items v) e c v leaves) else gives held v

abbrev pub take_item : Held → ObjId → ObjId → Bool → Value → Planned EnumeratorState
take_item held e fiber leaves v = taken_by held e fiber leaves v (cursor_at held e)

-- the source of the Enumerator has returned, if its fiber is still the same

abbrev pub ended_by : Held → ObjId → Option ObjId → Value → Option Cursor → Held
ended_by held e fiber v None = held
ended_by held e fiber v (Some c) =
    if is_same c.fiber fiber then with_cursor held e (record c { result = Some v }) else held

abbrev pub end : Held → ObjId → Option ObjId → Value → Planned EnumeratorState
end held e fiber v = gives (ended_by held e fiber v (cursor_at held e)) v

-- `rewind`: a new Array for the items, and no fiber

abbrev pub rewind : Held → ObjId → Planned EnumeratorState
rewind held e = gives (with_cursor (with_items held) e (record {
  fiber = None;
  items = next_number held.store;
  position = 0;
  result = None;
})) (Obj e)
