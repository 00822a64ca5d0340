-- Texts of the entries of a list, one after the other.
use Rattle.std.proofs.Common.{◌≡◌, ℕ, ◌+◌, ◌<◌, ◌≤◌, List, [], ◌∷◌, ◌++◌, length, get_or, drop, ap, add-one, drop-cons}
use Rattle.std.proofs.lemmas.List.{drop_all}
use Rattle.std.specs.List.{flat_map}
use Rattle.code_listing.specs.Listing.{numbered}

pub next_mapped : {A : Type 0} (f : A → List ℕ) (xs : List A) (i : ℕ) (d : A) → i < length xs
    → flat_map f (drop i xs) ≡ f (get_or xs i d) ++ flat_map f (drop (i + 1) xs)
next_mapped f xs i d h = rw (add-one, drop-cons xs i d)

pub none_mapped : {A : Type 0} (f : A → List ℕ) (xs : List A) (i : ℕ) → length xs ≤ i → flat_map f (drop i xs) ≡ []
none_mapped f xs i h = ap (flat_map f) (drop_all i xs h)

pub next_numbered : {A : Type 0} (f : ℕ → A → List ℕ) (xs : List A) (i : ℕ) (x d : A) → x ≡ get_or xs i d
    → i < length xs → numbered f i (drop i xs) ≡ f i x ++ numbered f (i + 1) (drop (i + 1) xs)
unfolding numbered
next_numbered f xs i x d is h =
    let first : drop i xs ≡ get_or xs i d ∷ drop (i + 1) xs = rw (add-one, drop-cons xs i d) in
    rw is (ap (numbered f i) first)

pub none_numbered : {A : Type 0} (f : ℕ → A → List ℕ) (xs : List A) (i : ℕ) → length xs ≤ i
    → numbered f i (drop i xs) ≡ []
unfolding numbered
none_numbered f xs i h = ap (numbered f i) (drop_all i xs h)
