-- A set of slices as the list of their texts.
use Rattle.std.proofs.Common.{◌≡◌, ℕ, List, [], ◌∷◌, ◌++◌, map, take, length, refl, ap, sym, cond, ◌+◌}
use Rattle.std.specs.Prelude.{Bool, true, false, not, if◌then◌else◌, ◌||◌, bytes_eq}
use Rattle.std.proofs.lemmas.List.{map-append, length-map, take-map}
use Rattle.std.specs.Borrow.{Bor}
use Rattle.std.specs.List.{list_any, position, position_or_len}
use Rattle.text_set.specs.Sets.{is_among, text, texts, with_text}

among_or : (a b : Bool) → (if a then true else b) ≡ (a || b)
among_or true b = refl
among_or false b = refl

pub is_among-texts : (x : List ℕ) (ks : List (Bor (List ℕ)))
    → is_among x (texts ks) ≡ list_any (λ (k : Bor (List ℕ)). bytes_eq x k.now) ks
is_among-texts x [] = refl
is_among-texts x (k ∷ ks) =
    rw (is_among-texts x ks) (among_or (bytes_eq x k.now) (list_any (λ (k : Bor (List ℕ)). bytes_eq x k.now) ks))

pub with_text-texts : (k : Bor (List ℕ)) (ks : List (Bor (List ℕ)))
    → texts (if list_any (λ (y : Bor (List ℕ)). bytes_eq k.now y.now) ks then ks else ks ++ k ∷ [])
    ≡ with_text (texts ks) k.now
with_text-texts k ks = rw (is_among-texts k.now ks) (at (list_any (λ (y : Bor (List ℕ)). bytes_eq k.now y.now) ks))
  where
    at : (b : Bool) → texts (if b then ks else ks ++ k ∷ []) ≡ (if b then texts ks else texts ks ++ k.now ∷ [])
    at true = refl
    at false = map-append text ks (k ∷ [])

pub length-texts : (ks : List (Bor (List ℕ))) → length (texts ks) ≡ length ks
length-texts ks = length-map ks text

pub take-texts : (n : ℕ) (ks : List (Bor (List ℕ))) → texts (take n ks) ≡ take n (texts ks)
take-texts n ks = sym (take-map text n ks)

prefix-texts : (x : List ℕ) (ks : List (Bor (List ℕ))) → position_or_len (bytes_eq x) (texts ks)
    ≡ position_or_len (λ (k : Bor (List ℕ)). bytes_eq x k.now) ks
prefix-texts x [] = refl
prefix-texts x (k ∷ ks) = ap (λ (n : ℕ). cond (not (bytes_eq x k.now)) (1 + n) 0) (prefix-texts x ks)

pub position-texts : (x : List ℕ) (ks : List (Bor (List ℕ)))
    → position (bytes_eq x) (texts ks) ≡ position (λ (k : Bor (List ℕ)). bytes_eq x k.now) ks
position-texts x ks = rw (prefix-texts x ks, length-texts ks) refl

pub ruleset set_laws = (is_among-texts, with_text-texts, length-texts, take-texts, position-texts)
