-- The course of an Enumerator of a heap, and what the plans of its methods leave of it.
use Rattle.std.specs.Prelude.{◌≡◌, ◌≤◌, ◌<◌, ◌+◌, ◌^◌, List, [], length, Bool, true, false, Option, Some, None}
use Rattle.rb_value.specs.declared.value.Value.{Value}
use Rattle.rb_value.specs.declared.value.ObjId.{ObjId}
use Rattle.def_core.specs.Sound.{Sound}
use Rattle.def_core.specs.Parts.{elements_at}
use Rattle.rb_store.specs.Held.{Held}
use Rattle.heap.specs.declared.enumerators.Cursor.{Cursor}
use Rattle.def_plans.specs.Plan.{Planned, finishes, resumes}
use Rattle.iter_enumerators.specs.declared.state.EnumeratorState.{EnumeratorState}
use Rattle.iter_enumerators.specs.declared.state.EnumeratorState.TheVariants as state
use Rattle.iter_enumerators.specs.Items.{cursor_at}
use Rattle.enumerator_laws.specs.Course.{Course, gives, comes, after}

abbrev pub course_by : Held → Cursor → Course
course_by held c = record { items = elements_at held.store.objects c.items; given = c.position; result = c.result }

-- An object of a sound heap is an Enumerator with that cursor. No more items were given than came, and there is room in
-- the count for one more.
pub record IsEnumerator (held : Held) (e : ObjId) (c : Cursor) : Type 0 where
  pub sound : Sound held.store
  pub there : cursor_at held e ≡ Some c
  pub within : c.position ≤ length (elements_at held.store.objects c.items)
  pub countable : length (elements_at held.store.objects c.items) + 1 < 2 ^ 64

-- in that heap it has come so far, by that fiber
pub record HasCome (held : Held) (e : ObjId) (c : Course) (fiber : Option ObjId) : Type 0 where
  pub cursor : Cursor
  pub there : cursor_at held e ≡ Some cursor
  pub course : course_by held cursor ≡ c
  pub fiber_is : cursor.fiber ≡ fiber

-- a method gives the value, and the Enumerator has come so far then
pub record Gives (p : Planned EnumeratorState) (v : Value) (e : ObjId) (c : Course) (fiber : Option ObjId) : Type 0 where
  pub plan : p.plan ≡ finishes v
  pub come : HasCome p.held e c fiber

-- it resumes the fiber that gives the items, and waits for one that is then given, or only shown
pub record Asks (p : Planned EnumeratorState) (e : ObjId) (leaves : Bool) (c : Course) : Type 0 where
  pub fiber : ObjId
  pub plan : p.plan ≡ resumes (state.Waits e fiber leaves) fiber []
  pub come : HasCome p.held e c (Some fiber)

-- an item comes and is given, or only shown
abbrev pub taken : Bool → Course → Value → Course
taken true c v = after (after c (comes v)) (gives v)
taken false c v = after c (comes v)
