-- The place of a name in a list of names.
use Rattle.std.proofs.Common.{◌≡◌, ℕ, suc, ◌+◌, ◌≤◌, ◌||◌, List, [], ◌∷◌, ◌++◌, length, map, Bool, true, false, cond, refl, ap, sym, ◌∙◌, arith, not, if◌then◌else◌}
use Rattle.std.specs.Prelude.{Some, None, nat_lt}
use Rattle.std.specs.Str.{bytes_eq}
use Rattle.std.specs.List.{position, position_or_len, prefix_len, list_any}
use Rattle.std.proofs.lemmas.List.{length-map, map-append}

pub prefix_len-map : {A B : Type 0} (f : A → B) (p : B → Bool) (xs : List A)
    → prefix_len p (map f xs) ≡ prefix_len (λ x. p (f x)) xs
prefix_len-map f p [] = refl
prefix_len-map f p (x ∷ xs) = ap (λ n. cond (p (f x)) (1 + n) 0) (prefix_len-map f p xs)

pub position-map : {A B : Type 0} (f : A → B) (p : B → Bool) (xs : List A)
    → position p (map f xs) ≡ position (λ x. p (f x)) xs
position-map f p xs = rw (prefix_len-map f (λ x. not (p x)) xs, length-map) refl

-- a first place that passes shows at once
first_is : {A : Type 0} (xs : List A) (n : ℕ) → cond (nat_lt n (suc (length xs))) (Some n) None ≡ None
    → suc (length xs) ≤ n
first_is xs n h = grind (arith, h)

pub none_any : {A : Type 0} (p : A → Bool) (xs : List A) → position p xs ≡ None → list_any p xs ≡ false
none_any p [] h = refl
none_any p (x ∷ xs) h = elim (p x) as (λ b. cond (nat_lt (cond (not b) (1 + position_or_len p xs) 0) (suc (length xs)))
    (Some (cond (not b) (1 + position_or_len p xs) 0)) None ≡ None → (b || list_any p xs) ≡ false) [
      | true ↦ λ e. absurd (grind (arith, first_is xs 0 e))
      | false ↦ λ e. none_any p xs (at_end (position_or_len p xs) (length xs)
          (grind (arith, first_is xs (1 + position_or_len p xs) e)))
    ] h
  where
    at_end : (n m : ℕ) → m ≤ n → cond (nat_lt n m) (Some n) None ≡ None
    at_end n m le = grind arith

-- a name that isn't there goes behind
pub pushed : {A : Type 0} (f : A → List ℕ) (keys new : List A) (k : A) (name : List ℕ) → f k ≡ name
    → position (bytes_eq name) (map f keys) ≡ None
    → new ≡ (if list_any (λ x. bytes_eq (f k) (f x)) keys then keys else keys ++ k ∷ []) → map f new ≡ map f keys
    ++ name ∷ []
pushed f keys new k name is absent e =
    let none = none_any (λ x. bytes_eq (f k) (f x)) keys (sym (position-map f (bytes_eq (f k)) keys) ∙ rw is absent) in
    ap (map f) (e ∙ ap (λ b. if b then keys else keys ++ k ∷ []) none) ∙ map-append f keys (k ∷ [])
    ∙ ap (λ n. map f keys ++ n ∷ []) is
