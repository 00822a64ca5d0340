-- A list without elements, many times.
use Rattle.std.proofs.Common.{◌≡◌, ℕ, zero, suc, List, [], ◌∷◌, ◌++◌, refl, ap, sym}
use Rattle.std.specs.Prelude.{None, slice_get}
use Rattle.iter_comparing.specs.Repeating.{repeated}

none_repeated : {A : Type 0} (n : ℕ) → repeated {A = A} n [] ≡ []
none_repeated zero = refl
none_repeated {A = A} (suc n) = ap (λ (xs : List A). xs ++ []) (none_repeated n)

pub nothing_repeated : {A : Type 0} (n : ℕ) (xs : List A) → None ≡ slice_get xs 0 → [] ≡ repeated n xs
nothing_repeated n [] h = sym (none_repeated n)
nothing_repeated n (x ∷ xs) h = cc
