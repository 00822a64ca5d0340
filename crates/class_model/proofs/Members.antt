-- What holds of every member of a list.
use Rattle.std.proofs.Common.{ℕ, zero, suc, ◌<◌, List, [], ◌∷◌, ◌++◌, length, get_or, filter, Bool, true, false, cond, arith}
use Rattle.def_core.specs.Sound.{AllAre}

module _ {A : Type 0} (P : A → Type 0) where
  pub all_at : (xs : List A) (i : ℕ) (d : A) → AllAre P xs → i < length xs → P (get_or xs i d)
  all_at [] i d all h = absurd (omega (arith, h))
  all_at (x ∷ xs) zero d all h = all.0
  all_at (x ∷ xs) (suc i) d all h = all_at xs i d all.1 (omega (arith, h))

  pub all_append : (xs ys : List A) → AllAre P xs → AllAre P ys → AllAre P (xs ++ ys)
  all_append [] ys f g = g
  all_append (x ∷ xs) ys f g = (f.0, all_append xs ys f.1 g)

  pub all_filter : (p : A → Bool) (xs : List A) → AllAre P xs → AllAre P (filter p xs)
  all_filter p [] all = tt
  all_filter p (x ∷ xs) all = elim (p x) as (λ b. AllAre P (cond b (x ∷ filter p xs) (filter p xs))) [
    | true ↦ (all.0, all_filter p xs all.1)
    | false ↦ all_filter p xs all.1
  ]
