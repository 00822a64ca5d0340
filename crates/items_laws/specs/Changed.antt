-- What becomes of an Array whose elements a block replaces, thins out or makes.
use Rattle.std.specs.Prelude.{◌≡◌, ℕ, ◌+◌, pos, List, [], ◌∷◌, map, slice_get, Bool, true, false, Option, Some, None}
use Rattle.rb_value.specs.declared.value.Value.{Value}
use Rattle.rb_value.specs.declared.value.Value.TheVariants.{Int, Obj}
use Rattle.rb_value.specs.declared.value.ObjId.{ObjId}
use Rattle.rb_value.specs.Value.{is_true}
use Rattle.def_core.specs.Parts.{elements_at}
use Rattle.def_core.specs.Store.{object_at}
use Rattle.rb_store.specs.Held.{Held}
use Rattle.heap.specs.Changes.{pushed, with_element}
use Rattle.heap.specs.Operands.{has_all, own}
use Rattle.core_iter.specs.Visiting.{deleted}
use Rattle.items_laws.specs.Run.{Turn}
use Rattle.items_laws.specs.Items.{IsValue, answers, calls_of, last_heap}
use Rattle.items_laws.specs.Numbers.{places_from}
use Rattle.items_laws.specs.Read.{heaps_before}

-- The same turns, each with the heap once the Array is changed by its answer.

-- its answer stands in the place of the element
abbrev pub replaced_from : ObjId → ℕ → List Turn → List Turn
replaced_from a n [] = []
replaced_from a n (t ∷ ts) = record t { held = with_element t.held a n t.answer } ∷ replaced_from a (n + 1) ts

-- the element is gone, where the answer is true, and the next one stands at its place
abbrev pub without_if : Bool → Held → ObjId → ℕ → Held
without_if true held a n = deleted held a n
without_if false held a n = held

abbrev pub place_behind : Bool → ℕ → ℕ
place_behind true n = n
place_behind false n = n + 1

abbrev pub thinned_from : ObjId → ℕ → List Turn → List Turn
thinned_from a n [] = []
thinned_from a n (t ∷ ts) = record t { held = without_if (is_true t.answer) t.held a n }
    ∷ thinned_from a (place_behind (is_true t.answer) n) ts

-- its answer stands behind the elements
abbrev pub filled_by : ObjId → List Turn → List Turn
filled_by a [] = []
filled_by a (t ∷ ts) = record t { held = pushed t.held a t.answer } ∷ filled_by a ts

-- `delete_if`

-- the elements that are come to, each as it stands in the next of these heaps, by the answers
abbrev pub elements_come_to : ObjId → ℕ → List Held → List Value → List (Option Value)
elements_come_to a n [] us = []
elements_come_to a n (h ∷ hs) [] = []
elements_come_to a n (h ∷ hs) (u ∷ us) =
    slice_get (elements_at h.store.objects a) n ∷ elements_come_to a (place_behind (is_true u) n) hs us

abbrev pub last_place : ℕ → List Value → ℕ
last_place n [] = n
last_place n (u ∷ us) = last_place (place_behind (is_true u) n) us

-- The block is called with each element that is come to from a place on, and those whose answers are true are gone.
pub record ThinsOut (held : Held) (a b : ObjId) (n : ℕ) (ts : List Turn) (v : Value) (after : Held) : Type 0 where
  pub items : List Value
  pub read : map Some items ≡ elements_come_to a n (heaps_before held (thinned_from a n ts)) (answers ts)
  pub called : calls_of ts ≡ map (λ x. Some (b, x ∷ [])) items
  pub heaps : map (λ t. t.wanted.held) ts ≡ heaps_before held (thinned_from a n ts)
  pub over : slice_get (elements_at (last_heap held (thinned_from a n ts)).store.objects a) (last_place n (answers ts))
      ≡ None
  pub result : IsValue (last_heap held (thinned_from a n ts)) (Obj a) v after

-- A new Array that a block fills

-- from a heap on in which it has none of them the block is called with so many places from one on
pub record Fills (held : Held) (a b : ObjId) (n count : ℕ) (ts : List Turn) (v : Value) (after : Held) : Type 0 where
  pub called : calls_of ts ≡ map (λ k. Some (b, Int (pos k) ∷ [])) (places_from n count)
  pub heaps : map (λ t. t.wanted.held) ts ≡ heaps_before held (filled_by a ts)
  pub result : IsValue (last_heap held (filled_by a ts)) (Obj a) v after

-- An Array that the program leaves alone.

-- each answer finds it as the call has left it
abbrev pub LeftAlone : ObjId → List Turn → Type 0
LeftAlone a ts = map (λ t. (object_at t.held.store.objects a).kind) ts
    ≡ map (λ t. (object_at t.wanted.held.store.objects a).kind) ts

-- the answers as the heaps have them then
abbrev pub owned : List Turn → List Value
owned ts = map (λ t. own t.held.store t.answer) ts

-- and its heap has the elements, as a sound one does
abbrev pub HasElements : ObjId → List Turn → Type 0
HasElements a ts = map (λ t. has_all t.held.store (elements_at t.held.store.objects a)) ts ≡ map (λ t. true) ts
