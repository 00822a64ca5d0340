-- What holds of all of a list holds of all of its parts.
use Rattle.std.proofs.Common.{ℕ, zero, suc, List, [], ◌∷◌, ◌++◌, take, drop, replicate}
use Rattle.def_core.specs.Sound.{AllAre}

module _ {A : Type 0} (P : A → Type 0) where
  pub all_append : (xs ys : List A) → AllAre P xs → AllAre P ys → AllAre P (xs ++ ys)
  all_append [] ys h g = g
  all_append (x ∷ xs) ys h g = (h.0, all_append xs ys h.1 g)

  pub all_take : (n : ℕ) (xs : List A) → AllAre P xs → AllAre P (take n xs)
  all_take zero xs h = tt
  all_take (suc n) [] h = tt
  all_take (suc n) (x ∷ xs) h = (h.0, all_take n xs h.1)

  pub all_drop : (n : ℕ) (xs : List A) → AllAre P xs → AllAre P (drop n xs)
  all_drop zero xs h = h
  all_drop (suc n) [] h = tt
  all_drop (suc n) (x ∷ xs) h = all_drop n xs h.1

  pub all_replicate : (n : ℕ) (x : A) → P x → AllAre P (replicate n x)
  all_replicate zero x h = tt
  all_replicate (suc n) x h = (h, all_replicate n x h)

pub all_more : {A : Type 0} (P Q : A → Type 0) → ((x : A) → P x → Q x) → (xs : List A) → AllAre P xs → AllAre Q xs
all_more P Q f [] h = tt
all_more P Q f (x ∷ xs) h = (f x h.0, all_more P Q f xs h.1)
