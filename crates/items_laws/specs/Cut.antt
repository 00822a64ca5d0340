-- Runs that are left: what was called last never answers, since it raised, broke out or went elsewhere.
use Rattle.std.specs.Prelude.{◌≡◌, ℕ, suc, ℤ, pos, List, [], ◌∷◌, ◌++◌, length, map, take, not, Bool, true, false, Option, Some}
use Rattle.rb_value.specs.declared.value.Value.{Value}
use Rattle.rb_value.specs.declared.value.Value.TheVariants.{Int, Obj}
use Rattle.rb_value.specs.declared.value.ObjId.{ObjId}
use Rattle.rb_value.specs.declared.value.SymId.{SymId}
use Rattle.rb_value.specs.declared.hash.HashItem.{HashItem}
use Rattle.rb_value.specs.declared.core_class.CoreClass.TheVariants as class
use Rattle.def_core.specs.Classes.{plain_class_of}
use Rattle.def_core.specs.Store.{Store, core, next_number, object_at}
use Rattle.def_calls.specs.Views.{detail_of}
use Rattle.rb_store.specs.Held.{Held}
use Rattle.heap.specs.Made.{array_given, with_array}
use Rattle.heap.specs.Operands.{own, is_in_chain}
use Rattle.rows_items.specs.Keyed.{with_hash}
use Rattle.def_plans.specs.Plan.{Planned}
use Rattle.iter_items.specs.declared.row.GatheringRow.TheVariants as gathering
use Rattle.iter_items.specs.declared.row.ItemsRow.TheVariants as items_row
use Rattle.iter_items.specs.declared.row.Task.{Task}
use Rattle.iter_items.specs.declared.row.Task.TheVariants as task
use Rattle.iter_items.specs.declared.source.Source.{Source}
use Rattle.iter_items.specs.declared.source.Source.TheVariants as source
use Rattle.iter_items.specs.Asking.{Taken, is_backwards, taken}
use Rattle.iter_items.specs.Sources.{source_of, is_pairs, place_for, next}
use Rattle.run_rows.specs.declared.row.StarRow.TheVariants as row
use Rattle.core_iter.specs.declared.iteration.Iteration.{Iteration}
use Rattle.core_iter.specs.declared.iteration.Iteration.TheVariants as state
use Rattle.core_iter.specs.Stage.{Stage}
use Rattle.core_iter.specs.Rows.{Starts}
use Rattle.items_laws.specs.Run.{Turn, Runs, waiting}
use Rattle.items_laws.specs.Items.{Passing, Hands, call_of, calls_of, last_heap, left_of, with_arguments_by, gathers_in, collected_in}
use Rattle.items_laws.specs.Lists.{alone}
use Rattle.items_laws.specs.Made.{Joins, PutsPicked}
use Rattle.items_laws.specs.Neighbours.{neighbours, items_in, heaps_in, arrays_given, arrays_made, heaps_behind}
use Rattle.items_laws.specs.Numbers.{numbers_from, places_from}
use Rattle.items_laws.specs.Settled.{Settles}
use Rattle.items_laws.specs.Sums.{Told, Added, plus, send_of, with_plus}

-- the run of a method with a block or without one, over these items from a heap on, in which the last thing that is wanted
-- isn't answered
pub data IsLeftBy (t : Task) (held : Held) (recv : Value) (s : Source) (args : List Value) (block : Option ObjId)
    (ts : List Turn) (last : Planned Stage) : Type 0 where
  -- of an Array, a Hash or a Range
  left_itself : (first : Planned Stage) (stage : Stage)
      → Starts (row.Items (items_row.Visits t)) held recv args block first
      → source_of (with_arguments_by t held args block).store recv (is_backwards t) ≡ Some s
      → Runs first ts last → waiting last.plan ≡ Some stage → IsLeftBy t held recv s args block ts last
  -- of Enumerable, once `each` has returned: over a new Array of what that collected
  left_by_each : (before : Held) (first : Planned Stage) (stage : Stage) (each : Turn) (collected a : ObjId)
      → Starts (row.Items (items_row.Gathers (gathering.Visits t))) before recv args block first
      → waiting each.wanted.plan ≡ Some (gathers_in t recv args block collected)
      → held ≡ with_array each.held (collected_in each collected)
      → array_given each.held.store (collected_in each collected) ≡ Obj a
      → s ≡ source.Elements a (place_for (is_backwards t))
      → Runs first (each ∷ ts) last → waiting last.plan ≡ Some stage → IsLeftBy t held recv s args block ts last

-- with a block
abbrev pub IsLeft : Task → Held → Value → Source → List Value → ObjId → List Turn → Planned Stage → Type 0
IsLeft t held recv s args b ts last = IsLeftBy t held recv s args (Some b) ts last

-- The block was called with the items, one after another, and at last with the next item, in the heap as the answers before
-- left it; no other item was handed on.
pub record Cut (pass : Passing) (held : Held) (s : Source) (b : ObjId) (passed : List Value → List (List Value))
    (ts : List Turn) (last : Planned Stage) : Type 0 where
  pub items : List Value
  pub item : Value
  pub handed : Hands pass held s ts items
  pub there : (pass (last_heap held ts) (left_of pass held s ts)).item ≡ Some item
  pub called : calls_of ts ++ call_of last.plan ∷ [] ≡ map (λ args. Some (b, args)) (passed (items ++ item ∷ []))
  pub left : last.held ≡ (pass (last_heap held ts) (left_of pass held s ts)).held

-- from a heap on that has the store in which the method was called
pub record IsCut (pass : Passing) (held : Held) (s : Source) (b : ObjId) (passed : List Value → List (List Value))
    (ts : List Turn) (last : Planned Stage) : Type 0 where
  pub begun : Held
  pub same : begun.store ≡ held.store
  pub cut : Cut pass begun s b passed ts last

-- The same of a method that makes a Hash, in which the answers so far have changed that: each item has joined the group of
-- its answer, or each pair whose answer passes has been put into it.

pub record CutsGroups (held : Held) (s : Source) (b : ObjId) (ts : List Turn) (last : Planned Stage) : Type 0 where
  pub begun : Held
  pub same : begun.store ≡ held.store
  pub settled : List Turn
  pub cut : Cut next (with_hash begun) s b alone settled last
  pub joined : Settles (Joins (next_number begun.store)) cut.items ts settled

pub record CutsPairs (test : Value → Bool) (held : Held) (ps : List HashItem) (b : ObjId) (ts : List Turn)
    (last : Planned Stage) : Type 0 where
  pub begun : Held
  pub same : begun.store ≡ held.store
  pub settled : List Turn
  pub puts : Settles (PutsPicked test (next_number begun.store)) (take (length ts) ps) ts settled
  pub cut : Cut next (with_hash begun) (source.Pairs ps 0) b alone settled last

-- The same of lists of neighbours: one item came when each answer so far had come, and the block was called with a new Array
-- of each so many neighbours, made when the last of them had come.

pub record SlidesOff (n : ℕ) (first : Taken) (b : ObjId) (ts : List Turn) (last : Planned Stage) : Type 0 where
  pub later : List Value
  pub long : length first.items ≡ n
  pub came : items_in first.source (heaps_behind ts) ≡ map Some later
  pub called : calls_of ts ++ call_of last.plan ∷ [] ≡ map (λ x. Some (b, x ∷ [])) (arrays_given
      (neighbours n (suc (length ts)) (first.items ++ later)) (first.held ∷ heaps_in first.source (heaps_behind ts)))
  pub made : map (λ t. t.wanted.held) ts ++ last.held ∷ [] ≡ arrays_made
      (neighbours n (suc (length ts)) (first.items ++ later)) (first.held ∷ heaps_in first.source (heaps_behind ts))

pub record CutsNeighbours (n : ℕ) (held : Held) (s : Source) (b : ObjId) (ts : List Turn) (last : Planned Stage)
    : Type 0 where
  pub begun : Held
  pub same : begun.store ≡ held.store
  pub slides : SlidesOff n (taken n begun s) b ts last

-- A sum: the last thing that was wanted is what the block makes of an item, or the sum of what came so far and that, and so
-- many items before that were added.

pub data SumsOff (name : SymId) (b : ObjId) : Held → Source → Value → List Turn → Planned Stage → Type 0 where
  in_the_block : (held : Held) (s : Source) (so_far x : Value) (last : Planned Stage) → (next held s).item ≡ Some x
      → call_of last.plan ≡ Some (b, x ∷ []) → last.held ≡ (next held s).held → SumsOff name b held s so_far [] last
  in_the_sum : (held k : Held) (s : Source) (so_far x y : Value) (us : List Turn) (last : Planned Stage)
      → (next held s).item ≡ Some x → Added (next held s).held x (Some b) us y k
      → send_of last.plan ≡ Some (so_far, name, y ∷ []) → last.held ≡ k → SumsOff name b held s so_far us last
  one_further : (held k l : Held) (s : Source) (so_far x y sum : Value) (us ws ts : List Turn) (last : Planned Stage)
      → (next held s).item ≡ Some x → Added (next held s).held x (Some b) us y k → Told name k so_far y ws sum l
      → SumsOff name b l (next held s).source sum ts last → SumsOff name b held s so_far (us ++ (ws ++ ts)) last

pub record CutsSums (held : Held) (s : Source) (b : ObjId) (first : Value) (ts : List Turn) (last : Planned Stage)
    : Type 0 where
  pub begun : Held
  pub same : begun.store ≡ (with_plus held).store
  pub sums : SumsOff (plus held) b begun s first ts last

-- the methods that call their block with each item alone, from the first one on, and make no Hash meanwhile
abbrev pub hands_alone : Source → Task → Bool
hands_alone s task.Select = not (is_pairs s)
hands_alone s task.Reject = not (is_pairs s)
hands_alone s task.Map = true
hands_alone s task.FlatMap = true
hands_alone s task.Find = true
hands_alone s task.FindIndex = true
hands_alone s task.Partition = true
hands_alone s task.TakeWhile = true
hands_alone s task.MinBy = true
hands_alone s task.MaxBy = true
hands_alone s task.SortBy = true
hands_alone s task.All = true
hands_alone s task.Any = true
hands_alone s task.Never = true
hands_alone s _ = false

-- The block was called with numbers from one on by steps, and the last call isn't answered.
abbrev pub CutsOff : ℤ → ℤ → ObjId → List Turn → Planned Stage → Type 0
CutsOff first by b ts last = calls_of ts ++ call_of last.plan ∷ []
    ≡ map (λ z. Some (b, Int z ∷ [])) (numbers_from first by (suc (length ts)))

-- The block was called with the places of an Array, one after another, and the last call isn't answered.
abbrev pub CutsPlaces : ObjId → List Turn → Planned Stage → Type 0
CutsPlaces b ts last = calls_of ts ++ call_of last.plan ∷ []
    ≡ map (λ k. Some (b, Int (pos k) ∷ [])) (places_from 0 (suc (length ts)))

-- a `loop` that a StopIteration ends by its result
pub record Stops (st : Store) (s : Iteration) (e : ObjId) (v : Value) : Type 0 where
  pub block : ObjId
  pub loop : s ≡ state.Looping block
  pub stop : is_in_chain st (plain_class_of st.objects (own st (Obj e))) (core class.StopIteration) ≡ true
  pub result : v ≡ detail_of (object_at st.objects e).kind
