-- The last of a list that has one more behind it, and those before it; the first, and those behind it.
use Rattle.std.proofs.Common.{◌≡◌, List, [], ◌∷◌, ◌++◌, Some, None, length, map, refl, ap, sym, arith, ◌∙◌, ◌<◌, slice_index_or}
use Rattle.std.specs.List.{remove}
use Rattle.std.proofs.lemmas.List.{map-append}
use Rattle.parser_form_nodes.specs.Sections.{last_of, before_last, first_of, rest_of}

pub last_of_push : {A : Type 0} (xs : List A) (x : A) → last_of (xs ++ x ∷ []) ≡ Some x
unfolding last_of
last_of_push [] x = refl
last_of_push (y ∷ []) x = refl
last_of_push (y ∷ z ∷ xs) x = last_of_push (z ∷ xs) x

pub before_last_push : {A : Type 0} (xs : List A) (x : A) → before_last (xs ++ x ∷ []) ≡ xs
unfolding before_last
before_last_push [] x = refl
before_last_push (y ∷ []) x = refl
before_last_push (y ∷ z ∷ xs) x = ap (λ ys. y ∷ ys) (before_last_push (z ∷ xs) x)

pub last_of_none : {A B : Type 0} (f : A → B) (xs : List A) → length xs ≡ 0 → last_of (map f xs) ≡ None
unfolding last_of
last_of_none f [] h = refl
last_of_none f (x ∷ xs) h = absurd (omega arith)

pub last_of_map : {A B : Type 0} (f : A → B) (xs : List A) (x : A) → last_of (map f (xs ++ x ∷ [])) ≡ Some (f x)
last_of_map f xs x = ap last_of (map-append f xs (x ∷ [])) ∙ last_of_push (map f xs) (f x)

pub before_last_map : {A B : Type 0} (f : A → B) (xs : List A) (x : A) → before_last (map f (xs ++ x ∷ [])) ≡ map f xs
before_last_map f xs x = ap before_last (map-append f xs (x ∷ [])) ∙ before_last_push (map f xs) (f x)

pub first_of_map : {A B : Type 0} (f : A → B) (xs : List A) (x : A) → 0 < length xs → x ≡ slice_index_or xs 0 x
    → first_of (map f xs) ≡ Some (f x)
unfolding first_of
first_of_map f [] x some is = absurd (omega arith)
first_of_map f (y ∷ xs) x some is = ap (λ y. Some (f y)) (sym is)

pub rest_of_map : {A B : Type 0} (f : A → B) (xs : List A) → 0 < length xs → rest_of (map f xs) ≡ map f (remove xs 0)
unfolding rest_of
rest_of_map f [] some = absurd (omega arith)
rest_of_map f (x ∷ xs) some = refl

pub first_of_none : {A B : Type 0} (f : A → B) (xs : List A) → length xs ≡ 0 → first_of (map f xs) ≡ None
unfolding first_of
first_of_none f [] h = refl
first_of_none f (x ∷ xs) h = absurd (omega arith)

pub rest_of_none : {A B : Type 0} (f : A → B) (xs : List A) → length xs ≡ 0 → rest_of (map f xs) ≡ map f xs
unfolding rest_of
rest_of_none f [] h = refl
rest_of_none f (x ∷ xs) h = absurd (omega arith)

pub ruleset firsts = (first_of_map, rest_of_map, first_of_none, rest_of_none)

pub ruleset lasts = (last_of_map, before_last_map, last_of_none)
