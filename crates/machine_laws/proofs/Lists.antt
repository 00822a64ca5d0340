-- What holds of each element of a list.
use Rattle.std.proofs.Common.{◌≡◌, ℕ, zero, suc, List, [], ◌∷◌, ◌++◌, get_or, subst}
use Rattle.std.specs.Prelude.{Some, slice_get}
use Rattle.std.proofs.lemmas.Option.{none-some, same_Some}
use Rattle.def_core.specs.Sound.{AllAre}

module _ {A : Type 0} (P : A → Type 0) where
  pub all_get : (xs : List A) (d : A) (n : ℕ) → AllAre P xs → P d → P (get_or xs n d)
  all_get [] d n h e = e
  all_get (x ∷ xs) d zero h e = h.0
  all_get (x ∷ xs) d (suc n) h e = all_get xs d n h.1 e

  pub all_at : (xs : List A) (n : ℕ) (x : A) → AllAre P xs → slice_get xs n ≡ Some x → P x
  all_at [] n x h e = absurd (none-some x e)
  all_at (y ∷ xs) zero x h e = subst P (same_Some y x e) h.0
  all_at (y ∷ xs) (suc n) x h e = all_at xs n x h.1 e

  pub all_append : (xs ys : List A) → AllAre P xs → AllAre P ys → AllAre P (xs ++ ys)
  all_append [] ys h k = k
  all_append (x ∷ xs) ys h k = (h.0, all_append xs ys h.1 k)
