-- Items of a stack, which are the first of a list.
use Rattle.std.proofs.Common.{◌≡◌, ℕ, zero, suc, ◌-◌, ◌≤◌, List, [], ◌∷◌, length, take, ap, refl}
use Rattle.std.specs.List.{slice_set}
use Rattle.std.proofs.lemmas.List.{length-take-le}

take_set : {X : Type 0} (n i : ℕ) (xs : List X) (v : X) → take n (slice_set xs i v) ≡ slice_set (take n xs) i v
take_set zero i xs v = refl
take_set (suc n) i [] v = refl
take_set (suc n) zero (x ∷ xs) v = refl
take_set (suc n) (suc i) (x ∷ xs) v = ap (λ ys. x ∷ ys) (take_set n i xs v)

-- the last item is replaced
pub set_at_end : {X : Type 0} (xs : List X) (count last : ℕ) (v : X) → count ≤ length xs → last ≡ count - 1
    → take count (slice_set xs last v) ≡ slice_set (take count xs) (length (take count xs) - 1) v
set_at_end xs count last v within same = rw (length-take-le count xs within, same) (take_set count (count - 1) xs v)
