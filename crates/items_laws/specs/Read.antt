-- The items of an Array, which are read anew each time, and those of a Hash, which are the pairs that it had.
use Rattle.std.specs.Prelude.{ℕ, ◌+◌, List, [], ◌∷◌, slice_get, Option, Some, None}
use Rattle.rb_value.specs.declared.value.Value.{Value}
use Rattle.rb_value.specs.declared.value.ObjId.{ObjId}
use Rattle.rb_value.specs.declared.hash.HashItem.{HashItem}
use Rattle.def_core.specs.Parts.{elements_at}
use Rattle.rb_store.specs.Held.{Held}
use Rattle.heap.specs.Made.{array_given}
use Rattle.items_laws.specs.Run.{Turn}

-- the heaps before the turns: the first one, and each as an answer left it, but for the last answer's
abbrev pub heaps_before : Held → List Turn → List Held
heaps_before held [] = []
heaps_before held (t ∷ ts) = held ∷ heaps_before t.held ts

-- the elements of an Array from a place on, each as it stands in the next of these heaps
abbrev pub elements_read : ObjId → ℕ → List Held → List (Option Value)
elements_read a n [] = []
elements_read a n (h ∷ hs) = slice_get (elements_at h.store.objects a) n ∷ elements_read a (n + 1) hs

-- a new Array of what is shown as a key and of its value
abbrev pub pair_in : Held → Option HashItem → Option Value
pair_in held None = None
pair_in held (Some i) = Some (array_given held.store (i.shown ∷ i.value ∷ []))

-- the pairs from a place on, each made in the next of these heaps
abbrev pub pairs_read : List HashItem → ℕ → List Held → List (Option Value)
pairs_read ps n [] = []
pairs_read ps n (h ∷ hs) = pair_in h (slice_get ps n) ∷ pairs_read ps (n + 1) hs
