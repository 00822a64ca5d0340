-- Variables with how many different names were known before each.
use Rattle.std.proofs.Common.{◌≡◌, ℕ, zero, suc, List, [], ◌∷◌, ◌++◌, map, take, drop, length, refl, sym, ap, ◌∙◌, subst, ◌<◌}
use Rattle.std.specs.Prelude.{Bool, true, false, if◌then◌else◌, bytes_eq, Option, Some, None, slice_get, get_or}
use Rattle.std.proofs.Math.Seq.{take-length, take-append_seam}
use Rattle.std.proofs.lemmas.List.{take-map, map-append}
use Rattle.std.proofs.lemmas.Slice.Eq.{bytes_eq-Decides}
use native.Mathlib.Omega.{arith}
use Rattle.text_set.specs.Sets.{is_among, with_text, with_texts}
use Rattle.parser_ahead.specs.Names.{is_known}
use Rattle.parser_ahead.specs.Kept.{variables, names, AreCounted, AreKnown}
use Rattle.parser_ahead.specs.declared.names.Kept.{Kept}

itself : (b : Bool) → (if b then true else false) ≡ b
itself true = refl
itself false = refl

among_end : (x y : List ℕ) (known : List (List ℕ))
    → is_among x (known ++ y ∷ []) ≡ (if is_among x known then true else bytes_eq x y)
among_end x y [] = itself (bytes_eq x y)
among_end x y (z ∷ zs) = elim (bytes_eq x z) as (λ (b : Bool). (if b then true else is_among x (zs ++ y ∷ []))
    ≡ (if (if b then true else is_among x zs) then true else bytes_eq x y)) [
      | true ↦ refl
      | false ↦ among_end x y zs
    ]

-- what is among them is among them with an equal one that is there
among_same : (x y : List ℕ) (known : List (List ℕ)) → is_among y known ≡ true
    → is_among x known ≡ (if is_among x known then true else bytes_eq x y)
among_same x y known there = elim (bytes_eq x y) as (λ (b : Bool). bytes_eq x y ≡ b
    → is_among x known ≡ (if is_among x known then true else b)) [
      | true ↦ λ same. subst (λ (z : List ℕ). is_among z known ≡ (if is_among z known then true else true))
          (sym ((bytes_eq-Decides x y).0 same)) (there ∙ sym (ap (λ (b : Bool). if b then true else true) there))
      | false ↦ λ other. sym (itself (is_among x known))
    ] refl

among_with : (x y : List ℕ) (known : List (List ℕ))
    → is_among x (with_text known y) ≡ (if is_among x known then true else bytes_eq x y)
among_with x y known = elim (is_among y known) as (λ (b : Bool). is_among y known ≡ b
    → is_among x (if b then known else known ++ y ∷ []) ≡ (if is_among x known then true else bytes_eq x y)) [
      | true ↦ λ there. among_same x y known there
      | false ↦ λ absent. among_end x y known
    ] refl

nested : (a b c : Bool) → (if (if a then true else b) then true else c) ≡ (if a then true else (if b then true else c))
nested true b c = refl
nested false b c = refl

among_all : (x : List ℕ) (known : List (List ℕ)) (ks : List Kept)
    → is_among x (with_texts known (names ks)) ≡ (if is_among x known then true else is_known x (variables ks))
among_all x known [] = sym (itself (is_among x known))
among_all x known (k ∷ ks) = among_all x (with_text known k.variable.name) ks
    ∙ (ap (λ (b : Bool). if b then true else is_known x (variables ks)) (among_with x k.variable.name known)
    ∙ nested (is_among x known) (bytes_eq x k.variable.name) (is_known x (variables ks)))

-- a name is known where it is among the different names
pub among_known : (x : List ℕ) (ks : List Kept) (known : List (List ℕ)) → AreKnown ks known
    → is_among x known ≡ is_known x (variables ks)
among_known x ks known are = ap (is_among x) are.0 ∙ among_all x [] ks

with_end : (known texts : List (List ℕ)) (x : List ℕ)
    → with_texts known (texts ++ x ∷ []) ≡ with_text (with_texts known texts) x
with_end known [] x = refl
with_end known (y ∷ ys) x = with_end (with_text known y) ys x

counted_end : (known : List (List ℕ)) (ks : List Kept) (k : Kept) → AreCounted known ks
    → k.before ≡ length (with_texts known (names ks)) → AreCounted known (ks ++ k ∷ [])
counted_end known [] k are count = (count, tt)
counted_end known (j ∷ ks) k are count = (are.0, counted_end (with_text known j.variable.name) ks k are.1 count)

-- one more variable
pub known_more : (ks : List Kept) (known : List (List ℕ)) (k : Kept) → AreKnown ks known → k.before ≡ length known
    → AreKnown (ks ++ k ∷ []) (with_text known k.variable.name)
known_more ks known k are count = (
  ap (λ (l : List (List ℕ)). with_text l k.variable.name) are.0
      ∙ (sym (with_end [] (names ks) k.variable.name)
      ∙ ap (with_texts []) (sym (map-append (λ (j : Kept). j.variable.name) ks (k ∷ [])))),
  counted_end [] ks k are.1 (count ∙ ap length are.0),
)

-- without the text that was put behind them
pub without_last : (known : List (List ℕ)) (x : List ℕ) → take (length known) (with_text known x) ≡ known
without_last known x = elim (is_among x known) as
    (λ (b : Bool). take (length known) (if b then known else known ++ x ∷ []) ≡ known) [
      | true ↦ take-length known
      | false ↦ take-append_seam known (x ∷ [])
    ]

front : (known texts : List (List ℕ)) → take (length known) (with_texts known texts) ≡ known
front known [] = take-length known
front known (x ∷ xs) = elim (is_among x known) as (λ (b : Bool).
    take (length known) (with_texts (if b then known else known ++ x ∷ []) xs) ≡ known) [
      | true ↦ front known xs
      | false ↦ shorter known x (with_texts (known ++ x ∷ []) xs) (front (known ++ x ∷ []) xs)
    ]
  where
    shorter : (ys : List (List ℕ)) (y : List ℕ) (zs : List (List ℕ)) → take (length (ys ++ y ∷ [])) zs ≡ ys ++ y ∷ []
        → take (length ys) zs ≡ ys
    shorter [] y zs is = refl
    shorter (w ∷ ws) y [] is = cc
    shorter (w ∷ ws) y (z ∷ zs) is =
        let first : z ≡ w = cc in
        let behind : take (length (ws ++ y ∷ [])) zs ≡ ws ++ y ∷ [] = cc in
        let rest : take (length ws) zs ≡ ws = shorter ws y zs behind in cc

counted_front : (known : List (List ℕ)) (m : ℕ) (ks : List Kept) → AreCounted known ks → AreCounted known (take m ks)
counted_front known zero ks are = tt
counted_front known (suc m) [] are = tt
counted_front known (suc m) (k ∷ ks) are = (are.0, counted_front (with_text known k.variable.name) m ks are.1)

names_front : (known : List (List ℕ)) (m : ℕ) (ks : List Kept) (k : Kept) → AreCounted known ks
    → slice_get ks m ≡ Some k → take k.before (with_texts known (names ks)) ≡ with_texts known (names (take m ks))
names_front known m [] k are is = cc
names_front known zero (j ∷ ks) k are is =
    subst (λ (i : Kept). take i.before (with_texts known (names (j ∷ ks))) ≡ known) (some j k is)
    (ap (λ (n : ℕ). take n (with_texts known (names (j ∷ ks)))) are.0 ∙ front known (names (j ∷ ks)))
  where
    some : (i h : Kept) → Some i ≡ Some h → i ≡ h
    some i h e = cc
names_front known (suc m) (j ∷ ks) k are is = names_front (with_text known j.variable.name) m ks k are.1 is

pub found : (ks : List Kept) (m : ℕ) (k : Kept) → m < length ks → k ≡ get_or ks m k → slice_get ks m ≡ Some k
found [] m k low is = absurd (omega (arith, low))
found (j ∷ ks) zero k low is = ap (λ (i : Kept). Some i) (sym is)
found (j ∷ ks) (suc m) k low is = found ks m k (omega (arith, low)) is

-- the first of them
pub known_front : (ks : List Kept) (known : List (List ℕ)) (m : ℕ) (k : Kept) → AreKnown ks known
    → slice_get ks m ≡ Some k → AreKnown (take m ks) (take k.before known)
known_front ks known m k are is =
    (ap (take k.before) are.0 ∙ names_front [] m ks k are.1 is, counted_front [] m ks are.1)

all_front : (m : ℕ) (ks : List Kept) → slice_get ks m ≡ None → take m ks ≡ ks
all_front zero [] none = refl
all_front (suc m) [] none = refl
all_front zero (k ∷ ks) none = cc
all_front (suc m) (k ∷ ks) none = ap (λ (l : List Kept). k ∷ l) (all_front m ks none)

-- all of them
pub known_all : (ks : List Kept) (known : List (List ℕ)) (m n : ℕ) → slice_get ks m ≡ None → length known ≡ n
    → AreKnown ks known → AreKnown (take m ks) (take n known)
known_all ks known m n none count are =
    subst (λ (l : List Kept). AreKnown l (take n known)) (sym (all_front m ks none))
    (subst (λ (l : List (List ℕ)). AreKnown ks l)
    (sym (take-length known) ∙ ap (λ (i : ℕ). take i known) count) are)

pub variables_front : (m : ℕ) (ks : List Kept) → variables (take m ks) ≡ take m (variables ks)
variables_front m ks = sym (take-map (λ (k : Kept). k.variable) m ks)

pub variables_behind : (m : ℕ) (ks : List Kept) → variables (drop m ks) ≡ drop m (variables ks)
variables_behind zero ks = refl
variables_behind (suc m) [] = refl
variables_behind (suc m) (k ∷ ks) = variables_behind m ks
