-- Items that are added to a value, one after another.
use Rattle.std.specs.Prelude.{◌≡◌, ℤ, ◌+ℤ◌, List, [], ◌∷◌, ◌++◌, codes, Option, Some, None}
use Rattle.rb_value.specs.declared.value.Value.{Value}
use Rattle.rb_value.specs.declared.value.Value.TheVariants.{Int}
use Rattle.rb_value.specs.declared.value.ObjId.{ObjId}
use Rattle.rb_value.specs.declared.value.SymId.{SymId}
use Rattle.def_core.specs.Changes.{intern}
use Rattle.def_core.specs.Store.{Store}
use Rattle.rb_store.specs.Held.{Held}
use Rattle.run_values.specs.declared.given.Given.TheVariants.{Gives}
use Rattle.def_plans.specs.Plan.{Plan, finishes, fails, raises, sends, calls, writes, reads, resumes, yields}
use Rattle.iter_comparing.specs.Outright.{outright}
use Rattle.iter_items.specs.declared.source.Source.{Source}
use Rattle.iter_items.specs.Sources.{next}
use Rattle.core_iter.specs.Stage.{Stage}
use Rattle.items_laws.specs.Run.{Turn}
use Rattle.items_laws.specs.Items.{call_of}

-- the receiver of a message, its name and its arguments
abbrev pub send_of : Plan Stage → Option (Value × SymId × List Value)
send_of (finishes v) = None
send_of (fails c) = None
send_of (raises e) = None
send_of (sends s v name args block public) = Some (v, name, args)
send_of (calls s p args block) = None
send_of (writes s bytes) = None
send_of (reads s) = None
send_of (resumes s f args) = None
send_of (yields s args) = None

-- what the method of that name gives of a value and an argument: at once by its row, or as the answer to the message
pub data Told (name : SymId) (held : Held) (x y : Value) : List Turn → Value → Held → Type 0 where
  at_once : (after : Held) (v : Value) → outright held.store x name (y ∷ []) ≡ (Some (Gives v), after.store)
      → Told name held x y [] v after
  when_asked : (t : Turn) → t.wanted.held ≡ held → send_of t.wanted.plan ≡ Some (x, name, y ∷ [])
      → Told name held x y (t ∷ []) t.answer t.held

-- what is added for an item: the item itself, or what the block answers to it
pub data Added (held : Held) (x : Value) : Option ObjId → List Turn → Value → Held → Type 0 where
  itself : Added held x None [] x held
  answered : (b : ObjId) (t : Turn) → t.wanted.held ≡ held → call_of t.wanted.plan ≡ Some (b, x ∷ [])
      → Added held x (Some b) (t ∷ []) t.answer t.held

-- The items of a source are added one after another to what came so far, from a heap on, which gives a value.
pub data Sums (name : SymId) (block : Option ObjId) : Held → Source → Value → List Turn → Value → Held → Type 0 where
  no_item : (held : Held) (s : Source) (so_far : Value) → (next held s).item ≡ None
      → Sums name block held s so_far [] so_far held
  one_item : (held k l after : Held) (s : Source) (so_far x y sum v : Value) (us ws ts : List Turn)
      → (next held s).item ≡ Some x → Added (next held s).held x block us y k → Told name k so_far y ws sum l
      → Sums name block l (next held s).source sum ts v after
      → Sums name block held s so_far (us ++ (ws ++ ts)) v after

-- the symbol of `+`, and the heap that has it
abbrev pub plus : Held → SymId
plus held = (intern held.store (codes "+")).symbol

abbrev pub with_plus : Held → Held
with_plus held = record held { store = (intern held.store (codes "+")).store }

-- The items of a source, or what a block answers to them, are added by `+` to a value.
pub record AddsUp (block : Option ObjId) (held : Held) (s : Source) (first : Value) (ts : List Turn) (v : Value)
    (after : Held) : Type 0 where
  pub begun : Held
  pub same : begun.store ≡ (with_plus held).store
  pub sums : Sums (plus held) block begun s first ts v after

-- Integers that `+` adds at once.

abbrev pub total : ℤ → List ℤ → ℤ
total sum [] = sum
total sum (z ∷ zs) = total (sum +ℤ z) zs

-- what `+` gives at once of two Integers is their sum, and it leaves the store as it is
abbrev pub AddsIntegers : Store → SymId → Type 0
AddsIntegers st name = (x y : ℤ) (v : Value) (left : Store)
    → outright st (Int x) name (Int y ∷ []) ≡ (Some (Gives v), left) → (v ≡ Int (x +ℤ y)) × (left ≡ st)
