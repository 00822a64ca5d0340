-- The one tree of a list.
use Rattle.std.proofs.Common.{◌≡◌, ◌<◌, List, [], ◌∷◌, ◌++◌, Some, None, length, map, refl, arith}
use Rattle.parser_statements.specs.Sections.{only}

pub only_last : {A B : Type 0} (f : A → B) (xs : List A) (x : A) → length xs ≡ 0
    → only (map f (xs ++ x ∷ [])) ≡ Some (f x)
unfolding only
only_last f [] x h = refl
only_last f (y ∷ xs) x h = absurd (omega arith)

pub only_nothing : {A B : Type 0} (f : A → B) (xs : List A) → length xs ≡ 0 → only (map f xs) ≡ None
unfolding only
only_nothing f [] h = refl
only_nothing f (x ∷ xs) h = absurd (omega arith)

pub only_several : {A B : Type 0} (f : A → B) (xs : List A) → 1 < length xs → only (map f xs) ≡ None
unfolding only
only_several f [] h = absurd (omega arith)
only_several f (x ∷ []) h = absurd (omega arith)
only_several f (x ∷ y ∷ xs) h = refl

pub ruleset only_views = (only_last, only_nothing, only_several)
