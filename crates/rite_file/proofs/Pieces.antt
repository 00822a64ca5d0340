-- Pieces that are put one after the other.
use Rattle.std.proofs.Common.{◌≡◌, ℕ, zero, suc, ◌+◌, ◌<◌, ◌≤◌, List, [], ◌∷◌, ◌++◌, length, get_or, take, sym, ap, ◌∙◌, append_assoc, arith}
use Rattle.std.specs.List.{flat_map}
use Rattle.std.proofs.lemmas.List.{take_more, flat_map_more, length-append}
use Rattle.std.proofs.lemmas.List.Concat.{flat_map-cons}

pub puts_more : {A : Type 0} (f : A → List ℕ) (start out next : List ℕ) (xs : List A) (i : ℕ) (x d : A)
    → i < length xs → x ≡ get_or xs i d → out ≡ start ++ flat_map f (take i xs) → next ≡ out ++ f x
    → next ≡ start ++ flat_map f (take (i + 1) xs)
puts_more f start out next xs i x d lt is before more =
    more ∙ ap (λ (t : List ℕ). t ++ f x) before ∙ flat_map_more f start (take i xs) x
    ∙ ap (λ y. start ++ flat_map f (take i xs ++ y ∷ [])) is
    ∙ ap (λ ys. start ++ flat_map f ys) (sym (take_more xs i d lt))

pub piece : {A : Type 0} (f : A → List ℕ) (xs : List A) (i : ℕ) (d : A) → i < length xs
    → length (f (get_or xs i d)) ≤ length (flat_map f xs)
piece f [] i d lt = absurd (omega (arith, lt))
piece f (x ∷ xs) zero d lt = omega (arith, ap length (flat_map-cons f x xs), length-append (f x) (flat_map f xs))
piece f (x ∷ xs) (suc i) d lt = let more = piece f xs i d (omega (arith, lt)) in
    omega (arith, more, ap length (flat_map-cons f x xs), length-append (f x) (flat_map f xs))

pub seven : (o a b c d e f g : List ℕ)
    → ((((((o ++ a) ++ b) ++ c) ++ d) ++ e) ++ f) ++ g ≡ o ++ (a ++ (b ++ (c ++ ((d ++ e) ++ (f ++ g)))))
seven o a b c d e f g = simp append_assoc
