-- A set of vectors as the list of their texts.
use Rattle.std.proofs.Common.{◌≡◌, ℕ, List, [], ◌∷◌, ◌++◌, map, take, length, refl, sym}
use Rattle.std.specs.Prelude.{Bool, true, false, if◌then◌else◌, ◌||◌, bytes_eq}
use Rattle.std.proofs.lemmas.List.{map-append, length-map, take-map}
use Rattle.std.specs.Global.{Vec}
use Rattle.std.specs.List.{list_any}
use Rattle.text_set.specs.Sets.{is_among, owned, with_text}

among_or : (a b : Bool) → (if a then true else b) ≡ (a || b)
among_or true b = refl
among_or false b = refl

pub is_among-owned : (x : List ℕ) (ks : List (Vec ℕ))
    → is_among x (owned ks) ≡ list_any (λ (k : Vec ℕ). bytes_eq x k.items) ks
is_among-owned x [] = refl
is_among-owned x (k ∷ ks) =
    rw (is_among-owned x ks) (among_or (bytes_eq x k.items) (list_any (λ (k : Vec ℕ). bytes_eq x k.items) ks))

pub with_text-owned : (k : Vec ℕ) (ks : List (Vec ℕ))
    → owned (if list_any (λ (y : Vec ℕ). bytes_eq k.items y.items) ks then ks else ks ++ k ∷ [])
    ≡ with_text (owned ks) k.items
with_text-owned k ks = rw (is_among-owned k.items ks) (at (list_any (λ (y : Vec ℕ). bytes_eq k.items y.items) ks))
  where
    at : (b : Bool) → owned (if b then ks else ks ++ k ∷ []) ≡ (if b then owned ks else owned ks ++ k.items ∷ [])
    at true = refl
    at false = map-append (λ (v : Vec ℕ). v.items) ks (k ∷ [])

pub length-owned : (ks : List (Vec ℕ)) → length (owned ks) ≡ length ks
length-owned ks = length-map ks (λ (v : Vec ℕ). v.items)

pub take-owned : (n : ℕ) (ks : List (Vec ℕ)) → owned (take n ks) ≡ take n (owned ks)
take-owned n ks = sym (take-map (λ (v : Vec ℕ). v.items) n ks)

pub ruleset set_laws = (is_among-owned, with_text-owned, length-owned, take-owned)
