-- The items that a run hands on, and what comes of them.
use Rattle.std.specs.Prelude.{◌≡◌, List, [], ◌∷◌, map, Bool, true, false, Option, Some, None}
use Rattle.rb_value.specs.declared.value.Value.{Value}
use Rattle.rb_value.specs.declared.value.Value.TheVariants.{Obj}
use Rattle.rb_value.specs.declared.value.ObjId.{ObjId}
use Rattle.def_core.specs.Parts.{elements_at}
use Rattle.rb_store.specs.Held.{Held}
use Rattle.heap.specs.Made.{array_given, with_array}
use Rattle.def_plans.specs.Plan.{Plan, finishes, fails, raises, sends, calls, writes, reads, resumes, yields}
use Rattle.iter_items.specs.declared.source.Source.{Source}
use Rattle.iter_items.specs.declared.source.Source.TheVariants.{Elements}
use Rattle.iter_items.specs.declared.row.Task.{Task}
use Rattle.iter_items.specs.declared.row.GatheringRow.TheVariants as gathering
use Rattle.iter_items.specs.declared.row.ItemsRow.TheVariants as items_row
use Rattle.iter_items.specs.Asking.{is_backwards}
use Rattle.iter_items.specs.Checks.{given}
use Rattle.iter_items.specs.Sources.{Passed, source_of, place_for}
use Rattle.iter_items.specs.Rows.{gathering_of}
use Rattle.iter_items.specs.Stage.{gathers}
use Rattle.run_rows.specs.declared.row.StarRow.TheVariants as row
use Rattle.core_iter.specs.Stage.{Stage, items as over_items}
use Rattle.items_laws.specs.Run.{Turn, Gives, waiting}

-- what the block answered
abbrev pub answers : List Turn → List Value
answers ts = map (λ t. t.answer) ts

-- the heap as the last answer left it; the first one where nothing was asked
abbrev pub last_heap : Held → List Turn → Held
last_heap held [] = held
last_heap held (t ∷ ts) = last_heap t.held ts

-- the Proc that is called, and with what
abbrev pub call_of : Plan Stage → Option (ObjId × List Value)
call_of (finishes v) = None
call_of (fails c) = None
call_of (raises e) = None
call_of (sends s v name args block public) = None
call_of (calls s p args block) = Some (p, args)
call_of (writes s bytes) = None
call_of (reads s) = None
call_of (resumes s f args) = None
call_of (yields s args) = None

abbrev pub calls_of : List Turn → List (Option (ObjId × List Value))
calls_of ts = map (λ t. call_of t.wanted.plan) ts

-- the next item of a source, or the one before
abbrev pub Passing : Type 0
Passing = Held → Source → Passed Source

-- each item is the next that the source has, in the heap as the answer before left it
abbrev pub Hands : Passing → Held → Source → List Turn → List Value → Type 0
Hands pass held s [] [] = Unit {0}
Hands pass held s [] (x ∷ xs) = ⊥
Hands pass held s (t ∷ ts) [] = ⊥
Hands pass held s (t ∷ ts) (x ∷ xs) =
    ((pass held s).item ≡ Some x) × (t.wanted.held ≡ (pass held s).held) × Hands pass t.held (pass held s).source ts xs

-- what is left of it then
abbrev pub left_of : Passing → Held → Source → List Turn → Source
left_of pass held s [] = s
left_of pass held s (t ∷ ts) = left_of pass t.held (pass held s).source ts

-- a new Array, made in that heap, which has all of the values if it is sound
pub record IsArrayOf (held : Held) (vs : List Value) (v : Value) (after : Held) : Type 0 where
  pub value : v ≡ array_given held.store vs
  pub left : after ≡ with_array held vs

-- a value, and the heap as it was
pub record IsValue (held : Held) (u v : Value) (after : Held) : Type 0 where
  pub value : v ≡ u
  pub left : after ≡ held

-- Whether items are left at the end, by the answers: none is; or an answer that stops is the last, and where there is no
-- such answer no item is left.

abbrev pub Whole : List Value → Type 0 → Type 0
Whole us NoneLeft = NoneLeft

abbrev pub UntilBy : Bool → List Value → Type 0 → Type 0
UntilBy true us Further = us ≡ []
UntilBy false us Further = Further

abbrev pub Until : (Value → Bool) → List Value → Type 0 → Type 0
Until stops [] NoneLeft = NoneLeft
Until stops (a ∷ us) NoneLeft = UntilBy (stops a) us (Until stops us NoneLeft)

-- A block is called for the items of a source, from a heap on, with these values; and so the result is, by the heap as it
-- is then and the items.
pub record Visits (pass : Passing) (held : Held) (s : Source) (b : ObjId) (End : List Value → Type 0 → Type 0)
    (passed : List Value → List (List Value)) (ts : List Turn) (Result : Held → List Value → Type 0) : Type 0 where
  pub items : List Value
  pub handed : Hands pass held s ts items
  pub called : calls_of ts ≡ map (λ args. Some (b, args)) (passed items)
  pub ended : End (answers ts) ((pass (last_heap held ts) (left_of pass held s ts)).item ≡ None)
  pub result : Result (last_heap held ts) items

-- from a heap on that has the store in which the method was called
pub record Iterates (pass : Passing) (held : Held) (s : Source) (b : ObjId) (End : List Value → Type 0 → Type 0)
    (passed : List Value → List (List Value)) (ts : List Turn) (Result : Held → List Value → Type 0) : Type 0 where
  pub begun : Held
  pub same : begun.store ≡ held.store
  pub visits : Visits pass begun s b End passed ts Result

-- the heap once the arguments are read, by which a name is a symbol then

abbrev pub with_arguments_by : Task → Held → List Value → Option ObjId → Held
with_arguments_by t held args block = (given t held args block).held

abbrev pub with_arguments : Task → Held → List Value → ObjId → Held
with_arguments t held args b = with_arguments_by t held args (Some b)

-- where a method of Enumerable stands while `each` collects the items in an Array
abbrev pub gathers_in : Task → Value → List Value → Option ObjId → ObjId → Stage
gathers_in t recv args block collected =
    over_items (gathers (gathering_of (gathering.Visits t) recv args block collected))

abbrev pub collected_in : Turn → ObjId → List Value
collected_in each collected = elements_at each.held.store.objects collected

-- the run of a method with a block or without one, over these items from a heap on, which gives a value and leaves a heap
pub data IsRunBy (t : Task) (held : Held) (recv : Value) (s : Source) (args : List Value) (block : Option ObjId)
    (ts : List Turn) (v : Value) (after : Held) : Type 0 where
  -- of an Array, a Hash or a Range
  of_its_own : Gives (row.Items (items_row.Visits t)) held recv args block ts v after
      → source_of (with_arguments_by t held args block).store recv (is_backwards t) ≡ Some s
      → IsRunBy t held recv s args block ts v after
  -- of Enumerable, once `each` has returned: over a new Array of what that collected
  of_those_of_each : (before : Held) (each : Turn) (collected a : ObjId)
      → Gives (row.Items (items_row.Gathers (gathering.Visits t))) before recv args block (each ∷ ts) v after
      → waiting each.wanted.plan ≡ Some (gathers_in t recv args block collected)
      → held ≡ with_array each.held (collected_in each collected)
      → array_given each.held.store (collected_in each collected) ≡ Obj a
      → s ≡ Elements a (place_for (is_backwards t))
      → IsRunBy t held recv s args block ts v after

-- with a block
abbrev pub IsRunOf : Task → Held → Value → Source → List Value → ObjId → List Turn → Value → Held → Type 0
IsRunOf t held recv s args b ts v after = IsRunBy t held recv s args (Some b) ts v after
