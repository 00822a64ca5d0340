-- Items that come from the last one back.
use Rattle.std.specs.Prelude.{ℕ, zero, suc, ◌-◌, min, ℤ, pos, List, [], ◌∷◌, length, slice_get, nat_eq, if◌then◌else◌, Option, None}
use Rattle.std.specs.Int.{w64, int_wrapping_sub}
use Rattle.rb_value.specs.declared.value.Value.{Value}
use Rattle.rb_value.specs.declared.value.ObjId.{ObjId}
use Rattle.rb_value.specs.declared.hash.HashItem.{HashItem}
use Rattle.def_core.specs.Parts.{elements_at}
use Rattle.rb_store.specs.Held.{Held}
use Rattle.items_laws.specs.Read.{pair_in}

-- what stands before a place of a list, or last where the list has become shorter
abbrev pub before : {A : Type 0} → ℕ → List A → Option A
before n xs = if nat_eq (min n (length xs)) 0 then None else slice_get xs (min n (length xs) - 1)

-- and its place
abbrev pub place_before : {A : Type 0} → ℕ → List A → ℕ
place_before n xs = min n (length xs) - 1

-- the elements of an Array before a place, each as it stands in the next of these heaps, and the last place
abbrev pub elements_back : ObjId → ℕ → List Held → List (Option Value)
elements_back a n [] = []
elements_back a n (h ∷ hs) =
    before n (elements_at h.store.objects a) ∷ elements_back a (place_before n (elements_at h.store.objects a)) hs

abbrev pub last_back : ObjId → ℕ → List Held → ℕ
last_back a n [] = n
last_back a n (h ∷ hs) = last_back a (place_before n (elements_at h.store.objects a)) hs

-- the pairs before a place, each made in the next of these heaps
abbrev pub pairs_back : List HashItem → ℕ → List Held → List (Option Value)
pairs_back ps n [] = []
pairs_back ps n (h ∷ hs) = pair_in h (before n ps) ∷ pairs_back ps (place_before n ps) hs

-- so many Integers of 64 bits from one back
abbrev pub integers_back : ℤ → ℕ → List ℤ
integers_back z zero = []
integers_back z (suc k) = z ∷ integers_back (int_wrapping_sub w64 z (pos 1)) k
