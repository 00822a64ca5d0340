-- Rows by their places in lists that stand one behind another.
use Rattle.std.proofs.Common.{◌≡◌, ℕ, zero, suc, ◌-◌, ◌<◌, ◌≤◌, ap, sym, ◌∙◌, arith}
use Rattle.std.specs.Prelude.{List, [], ◌∷◌, ◌++◌, map, length, slice_index_or, Result, Ok, Err}
use Rattle.iter_items.specs.Named.{each_is}
use Rattle.run_rows.specs.Numbered.{row_in}

-- among these of one kind, before others

pub found_first : {A B : Type 0} (kind : A → B) (xs : List (List ℕ × A)) (ys : List (List ℕ × B)) (k : ℕ) (r : A)
    → row_in xs k ≡ Ok r → row_in (each_is kind xs ++ ys) k ≡ Ok (kind r)
unfolding row_in
found_first kind [] ys k r e = cc e
found_first kind (x ∷ xs) ys zero r e = cc e
found_first kind (x ∷ xs) ys (suc k) r e = found_first kind xs ys k r e

pub found_behind : {A B : Type 0} (kind : A → B) (xs : List (List ℕ × A)) (ys : List (List ℕ × B)) (k j : ℕ)
    → row_in xs k ≡ Err j → row_in (each_is kind xs ++ ys) k ≡ row_in ys j
unfolding row_in
found_behind kind [] ys k j e = cc e
found_behind kind (x ∷ xs) ys zero j e = cc e
found_behind kind (x ∷ xs) ys (suc k) j e = found_behind kind xs ys k j e

-- among the last of one kind

pub found_last : {A B : Type 0} (kind : A → B) (xs : List (List ℕ × A)) (k : ℕ) (r : A)
    → row_in xs k ≡ Ok r → row_in (each_is kind xs) k ≡ Ok (kind r)
unfolding row_in
found_last kind [] k r e = cc e
found_last kind (x ∷ xs) zero r e = cc e
found_last kind (x ∷ xs) (suc k) r e = found_last kind xs k r e

pub found_nowhere : {A B : Type 0} (kind : A → B) (xs : List (List ℕ × A)) (k j : ℕ)
    → row_in xs k ≡ Err j → row_in (each_is kind xs) k ≡ Err j
unfolding row_in
found_nowhere kind [] k j e = cc e
found_nowhere kind (x ∷ xs) zero j e = cc e
found_nowhere kind (x ∷ xs) (suc k) j e = found_nowhere kind xs k j e

-- in two lists

pub in_first : {A : Type 0} (xs ys : List (List ℕ × A)) (k : ℕ) (r : A) → row_in xs k ≡ Ok r → row_in (xs ++ ys) k ≡ Ok r
unfolding row_in
in_first [] ys k r e = cc e
in_first (x ∷ xs) ys zero r e = e
in_first (x ∷ xs) ys (suc k) r e = in_first xs ys k r e

pub in_second : {A : Type 0} (xs ys : List (List ℕ × A)) (k j : ℕ) → row_in xs k ≡ Err j
    → row_in (xs ++ ys) k ≡ row_in ys j
unfolding row_in
in_second [] ys k j e = cc e
in_second (x ∷ xs) ys zero j e = cc e
in_second (x ∷ xs) ys (suc k) j e = in_second xs ys k j e

-- by the element at the place

pub element_there : {A X : Type 0} (f : X → List ℕ × A) (xs : List X) (k : ℕ) (x d : X) → k < length xs
    → x ≡ slice_index_or xs k d → Ok (f x).1 ≡ row_in (map f xs) k
unfolding row_in
element_there f [] k x d h e = absurd (omega (arith, h))
element_there f (y ∷ ys) zero x d h e = ap (λ (z : _). Ok (f z).1) e
element_there f (y ∷ ys) (suc k) x d h e = element_there f ys k x d (omega (arith, h)) e

pub element_behind : {A X : Type 0} (f : X → List ℕ × A) (xs : List X) (k : ℕ) → length xs ≤ k
    → Err (k - length xs) ≡ row_in (map f xs) k
unfolding row_in
element_behind f [] k h = let same : k - 0 ≡ k = omega arith in ap Err same
element_behind f (y ∷ ys) zero h = absurd (omega (arith, h))
element_behind f (y ∷ ys) (suc k) h =
    let less : suc k - length (y ∷ ys) ≡ k - length ys = omega arith in
    ap Err less ∙ element_behind f ys k (omega (arith, h))

-- what was found in a list, as in that which it shows

pub told : {A X : Type 0} (f : X → List ℕ × A) (xs : List X) (ms : List (List ℕ × A)) (k : ℕ) (r s : Result A ℕ)
    → map f xs ≡ ms → r ≡ row_in (map f xs) k → r ≡ s → row_in ms k ≡ s
told f xs ms k r s shown found is = ap (λ (l : List (List ℕ × _)). row_in l k) (sym shown) ∙ sym found ∙ is
