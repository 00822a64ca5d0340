-- What a row that gives its outcome at once gives or raises, and the heap that is left.
use Rattle.std.specs.Prelude.{◌≡◌, ℕ, List, [], ◌∷◌, Option, Some, None}
use Rattle.rb_value.specs.declared.value.Value.{Value}
use Rattle.rb_value.specs.declared.value.Value.TheVariants.{Nil}
use Rattle.rb_value.specs.declared.value.ObjId.{ObjId}
use Rattle.def_calls.specs.Views.{an_array}
use Rattle.def_calls.specs.World.{World, Answer, answer, with_store}
use Rattle.rb_store.specs.Held.{Held}
use Rattle.row_table.specs.declared.line.CoreRow.{CoreRow}
use Rattle.run_values.specs.declared.given.Given.{Given}
use Rattle.run_values.specs.declared.given.Given.TheVariants.{Gives}
use Rattle.run_values.specs.Answers.{answered}
use Rattle.heap.specs.Changes.{pushed}
use Rattle.heap.specs.Made.{array_given, with_array}
use Rattle.heap.specs.Rows.{called}
use Rattle.straight_rows.specs.Straight as straight
use Rattle.rows_items.specs.Outcome.{Called}
use Rattle.rows_items.specs.Rows as items
use Rattle.rows_array.specs.Rows as arrays
use Rattle.rows_hash.specs.Rows as hashes
use Rattle.rows_object.specs.Table as objects
use Rattle.rows_class.specs.Rows as classes
pub use Rattle.rows_class.specs.Making.{blank_of}
pub use Rattle.rows_object.specs.Exceptions.{inspection}
use Rattle.run_rows.specs.declared.row.PlainRow.{PlainRow}
use Rattle.run_rows.specs.declared.row.PlainRow.TheVariants as plain
use Rattle.run_rows.specs.declared.row.Row.{Row}
use Rattle.run_rows.specs.declared.row.Row.TheVariants.{OfTable, Plain, Star}

-- A row of the table is given straight on where it can be; else its number is called.

abbrev pub straight_on : Option CoreRow → Held → Value → List Value → Option Value × Held
straight_on None held recv args = (None, held)
straight_on (Some row) held recv args = straight.given row held recv args

abbrev pub GivesOr : Option Value → Held → Held → ℕ → Value → List Value → Option ObjId → Given → Held → Type 0
GivesOr (Some v) left held number recv args block g after = (g ≡ Gives v) × (after ≡ left)
GivesOr None left held number recv args block g after = (w : World)
    → answer (with_store w held.store) (called held.store number recv args block)
    ≡ answered g (with_store w after.store)

abbrev pub CallsOfTable : ℕ → Option CoreRow → Held → Value → List Value → Option ObjId → Given → Held → Type 0
CallsOfTable number row held recv args block g after =
    GivesOr (straight_on row held recv args).0 (straight_on row held recv args).1 held number recv args block g after

-- What a Proc is called with stands behind the elements of the Array that it keeps: several values as one new Array,
-- none as nil.

abbrev pub as_one : Held → List Value → Value × Held
as_one held [] = (Nil, held)
as_one held (v ∷ []) = (v, held)
as_one held (v ∷ u ∷ vs) = (array_given held.store (v ∷ u ∷ vs), with_array held (v ∷ u ∷ vs))

abbrev pub put_in : Option ObjId → Held → Value → Held
put_in None held v = held
put_in (Some array) held v = pushed held array v

abbrev pub put_behind : Value → Value × Held → Held
put_behind kept m = put_in (an_array m.1.store.objects kept) m.1 m.0

abbrev pub collected : Held → Value → List Value → Held
collected held kept args = put_behind kept (as_one held args)

-- Rows beyond the table, each as its crate has it.

abbrev pub FollowsBy : (World → Answer) → Held → Given → Held → Type 0
FollowsBy defined held g after =
    (w : World) → defined (with_store w held.store) ≡ answered g (with_store w after.store)

abbrev pub CallsPlain : PlainRow → Held → Value → List Value → Option ObjId → Given → Held → Type 0
CallsPlain (plain.Object r) held recv args block g after = FollowsBy (objects.called r recv args block) held g after
CallsPlain (plain.Class r) held recv args block g after = FollowsBy (classes.called r recv args block) held g after
CallsPlain (plain.Item r) held recv args block g after = Called (items.Calls r held recv args) g after
CallsPlain (plain.Array r) held recv args block g after = Called (arrays.Calls r held recv args) g after
CallsPlain (plain.Hash r) held recv args block g after = Called (λ o. hashes.call r held recv args ≡ o) g after
CallsPlain plain.Collect held recv args block g after = (g ≡ Gives Nil) × (after ≡ collected held recv args)

-- Any row: one that calls others does nothing yet.
abbrev pub CallsAtOnce : Row → ℕ → Held → Value → List Value → Option ObjId → Option Given → Held → Type 0
CallsAtOnce (OfTable r) number held recv args block (Some g) after =
    CallsOfTable number r held recv args block g after
CallsAtOnce (OfTable r) number held recv args block None after = ⊥
CallsAtOnce (Plain r) number held recv args block (Some g) after = CallsPlain r held recv args block g after
CallsAtOnce (Plain r) number held recv args block None after = ⊥
CallsAtOnce (Star r) number held recv args block found after = (found ≡ None) × (after ≡ held)
