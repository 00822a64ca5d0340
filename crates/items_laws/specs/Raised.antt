-- Exceptions: which is raised, and what one tells of itself.
use Rattle.std.specs.Prelude.{◌≡◌, List, [], ◌∷◌, codes, Bool, true, false, ◌&&◌, Option, Some, None}
use Rattle.rb_value.specs.declared.value.Value.{Value}
use Rattle.rb_value.specs.declared.value.Value.TheVariants.{Obj}
use Rattle.rb_value.specs.declared.value.ObjId.{ObjId}
use Rattle.rb_value.specs.declared.kind.Kind.TheVariants as kind
use Rattle.rb_value.specs.declared.core_class.CoreClass.TheVariants as class
use Rattle.def_core.specs.declared.cause.Cause.{Cause}
use Rattle.def_core.specs.Store.{core, next_number}
use Rattle.def_calls.specs.Views.{an_exception}
use Rattle.rb_store.specs.Held.{Held}
use Rattle.heap.specs.Changes.{with_message}
use Rattle.heap.specs.Copies.{copy_left, copy_of}
use Rattle.heap.specs.Made.{with_new}
use Rattle.def_plans.specs.Plan.{Planned, raises, refuses}
use Rattle.run_rows.specs.Calls.{inspection}
use Rattle.run_rows.specs.declared.row.StarRow.{StarRow}
use Rattle.core_iter.specs.Rows.{Starts}
use Rattle.core_iter.specs.Stage.{Stage}
use Rattle.core_iter.specs.Telling.{is_it, other_object}
use Rattle.items_laws.specs.Run.{Turn, Runs}
use Rattle.items_laws.specs.Asked.{symbol, with_symbol}
use Rattle.items_laws.specs.Handed.{message_in}
use Rattle.items_laws.specs.Output.{IsAsked}

-- the whole run of a row over these turns, which raises an exception and leaves that heap
pub record Throws (r : StarRow) (held : Held) (recv : Value) (args : List Value) (block : Option ObjId) (ts : List Turn)
    (e : ObjId) (after : Held) : Type 0 where
  pub first : Planned Stage
  pub starts : Starts r held recv args block first
  pub runs : Runs first ts (record { plan = raises e; held = after })

-- or which fails for a cause, by which the machine raises an exception of its own
pub record IsRefused (r : StarRow) (held : Held) (recv : Value) (args : List Value) (block : Option ObjId) (ts : List Turn)
    (c : Cause) (after : Held) : Type 0 where
  pub first : Planned Stage
  pub starts : Starts r held recv args block first
  pub runs : Runs first ts (refuses after c)

-- at once, with that heap
abbrev pub AtOnce : List Turn → ObjId → ObjId → Held → Held → Type 0
AtOnce ts f e after left = (ts ≡ []) × (f ≡ e) × (after ≡ left)

-- a copy of an exception, with another message
pub record IsAgain (held : Held) (x message : Value) (ts : List Turn) (f : ObjId) (after : Held) : Type 0 where
  pub none : ts ≡ []
  pub copy : copy_of held.store x ≡ Obj f
  pub left : after ≡ with_message (copy_left held x) f message

-- a class is sent `new` with the arguments that follow, in a heap in which that is a symbol then; and so it is by the answer
pub record IsMade (held : Held) (x : Value) (more : List Value) (ts : List Turn) (Result : Turn → Type 0) : Type 0 where
  pub turn : Turn
  pub alone : ts ≡ turn ∷ []
  pub message : message_in turn.wanted.plan ≡ Some (x, symbol (codes "new") held, more, None, false)
  pub heap : turn.wanted.held ≡ with_symbol (codes "new") held
  pub result : Result turn

-- the answer is the exception that is raised
pub record IsAnswered (f : ObjId) (after : Held) (t : Turn) : Type 0 where
  pub value : t.answer ≡ Obj f
  pub exception : an_exception t.held.store.objects t.answer ≡ Some f
  pub left : after ≡ t.held

-- An exception is asked for `to_s`, and this is said; but where the answer is the object that it was made with then, which is
-- no String, that object is asked for `to_s` in its turn, if it may be.
pub data IsTold (may : Bool) (held : Held) (e : Value) : List Turn → Value → Held → Type 0 where
  by_itself : (t : Turn) → IsAsked (codes "to_s") held e t.wanted
      → (may && is_it (other_object t.held.store e) t.answer) ≡ false → IsTold may held e (t ∷ []) t.answer t.held
  by_its_object : (t u : Turn) → IsAsked (codes "to_s") held e t.wanted
      → (may && is_it (other_object t.held.store e) t.answer) ≡ true
      → IsAsked (codes "to_s") t.held t.answer u.wanted → IsTold may held e (t ∷ u ∷ []) u.answer u.held

-- The same where the last one that is asked never answers.
pub data IsUntold (may : Bool) (held : Held) (e : Value) : List Turn → Planned Stage → Type 0 where
  in_its_text : (last : Planned Stage) → IsAsked (codes "to_s") held e last → IsUntold may held e [] last
  in_its_objects : (t : Turn) (last : Planned Stage) → IsAsked (codes "to_s") held e t.wanted
      → (may && is_it (other_object t.held.store e) t.answer) ≡ true → IsAsked (codes "to_s") t.held t.answer last
      → IsUntold may held e (t ∷ []) last

-- a new String of the name of its class and of what is said
pub record IsInspected (held : Held) (e : Value) (ts : List Turn) (v : Value) (after : Held) : Type 0 where
  pub said : Value
  pub last : Held
  pub told : IsTold true held e ts said last
  pub value : v ≡ Obj (next_number last.store)
  pub left : after ≡ with_new last (core class.String) (kind.String (inspection last.store e said))
