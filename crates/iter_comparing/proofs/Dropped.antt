-- What is left of a list behind a place.
use Rattle.std.proofs.Common.{◌≡◌, ℕ, zero, suc, ◌+◌, ◌<◌, ◌≤◌, List, [], ◌∷◌, length, drop, refl, ap, ◌∙◌, arith}
use Rattle.std.specs.Prelude.{slice_index_or}

there : {A : Type 0} (xs : List A) (n : ℕ) (d : A) → n < length xs
    → drop n xs ≡ slice_index_or xs n d ∷ drop (suc n) xs
there [] n d lt = absurd (omega (arith, lt))
there (x ∷ xs) zero d lt = refl
there (x ∷ xs) (suc n) d lt = there xs n d (omega (arith, lt))

pub drop_there : {A : Type 0} (xs : List A) (n : ℕ) (d : A) → n < length xs
    → drop n xs ≡ slice_index_or xs n d ∷ drop (n + 1) xs
drop_there xs n d lt = there xs n d lt
    ∙ (let e : suc n ≡ n + 1 = omega arith in ap (λ (k : ℕ). slice_index_or xs n d ∷ drop k xs) e)

pub drop_all : {A : Type 0} (xs : List A) (n : ℕ) → length xs ≤ n → drop n xs ≡ []
drop_all [] zero le = refl
drop_all [] (suc n) le = refl
drop_all (x ∷ xs) zero le = absurd (omega (arith, le))
drop_all (x ∷ xs) (suc n) le = drop_all xs n (omega (arith, le))
