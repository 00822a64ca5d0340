-- Items that are handed on with those beside them.
use Rattle.std.specs.Prelude.{◌≡◌, ◌<◌, ℕ, zero, suc, List, [], ◌∷◌, ◌++◌, length, map, take, drop, Option, Some, None}
use Rattle.rb_value.specs.declared.value.Value.{Value}
use Rattle.rb_value.specs.declared.value.ObjId.{ObjId}
use Rattle.rb_store.specs.Held.{Held}
use Rattle.heap.specs.Made.{array_given, with_array}
use Rattle.iter_items.specs.declared.source.Source.{Source}
use Rattle.iter_items.specs.Asking.{Taken, taken}
use Rattle.iter_items.specs.Sources.{next}
use Rattle.items_laws.specs.Run.{Turn}
use Rattle.items_laws.specs.Items.{IsValue, calls_of, last_heap}

-- so many lists of as many neighbours, each from one place further on
abbrev pub neighbours : ℕ → ℕ → List Value → List (List Value)
neighbours n zero xs = []
neighbours n (suc k) xs = take n xs ∷ neighbours n k (drop 1 xs)

-- the items of a source, one in each of these heaps, and the heaps that this leaves

abbrev pub items_in : Source → List Held → List (Option Value)
items_in s [] = []
items_in s (h ∷ hs) = (next h s).item ∷ items_in (next h s).source hs

abbrev pub heaps_in : Source → List Held → List Held
heaps_in s [] = []
heaps_in s (h ∷ hs) = (next h s).held ∷ heaps_in (next h s).source hs

-- new Arrays, one made in each of these heaps, and the heaps that have them

abbrev pub arrays_given : List (List Value) → List Held → List Value
arrays_given [] hs = []
arrays_given (xs ∷ lists) [] = []
arrays_given (xs ∷ lists) (h ∷ hs) = array_given h.store xs ∷ arrays_given lists hs

abbrev pub arrays_made : List (List Value) → List Held → List Held
arrays_made [] hs = []
arrays_made (xs ∷ lists) [] = []
arrays_made (xs ∷ lists) (h ∷ hs) = with_array h xs ∷ arrays_made lists hs

-- the heaps as the answers left them
abbrev pub heaps_behind : List Turn → List Held
heaps_behind ts = map (λ t. t.held) ts

-- Behind the first so many items one comes when each answer has come, until none is left, and the block is called with a
-- new Array of each so many neighbours, made when the last of them has come. Where there are fewer items it isn't called.
pub record Slides (n : ℕ) (first : Taken) (b : ObjId) (ts : List Turn) (recv v : Value) (after : Held) : Type 0 where
  pub later : List Value
  pub few : length first.items < n → ts ≡ []
  pub came : length first.items ≡ n → items_in first.source (heaps_behind ts) ≡ map Some later ++ None ∷ []
  pub called : calls_of ts ≡ map (λ x. Some (b, x ∷ [])) (arrays_given (neighbours n (length ts) (first.items ++ later))
      (first.held ∷ heaps_in first.source (heaps_behind ts)))
  pub made : map (λ t. t.wanted.held) ts ≡ arrays_made (neighbours n (length ts) (first.items ++ later))
      (first.held ∷ heaps_in first.source (heaps_behind ts))
  pub result : IsValue (last_heap first.held ts) recv v after

-- from a heap on that has the store in which the method was called
pub record HandsNeighbours (n : ℕ) (held : Held) (s : Source) (b : ObjId) (ts : List Turn) (recv v : Value) (after : Held)
    : Type 0 where
  pub begun : Held
  pub same : begun.store ≡ held.store
  pub slides : Slides n (taken n begun s) b ts recv v after
