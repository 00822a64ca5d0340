-- Values that are put at the end, one after another.
use Rattle.std.proofs.Common.{◌≡◌, ◌≤◌, List, [], ◌∷◌, ◌++◌, length, take, ◌∙◌, append_assoc}
use Rattle.std.proofs.lemmas.List.{take-append-le}

-- the first values stay
pub still_first : {T : Type 0} (old values : List T) (x : T) → length old ≤ length values
    → take (length old) values ≡ old → take (length old) (values ++ x ∷ []) ≡ old
still_first old values x le e = take-append-le (length old) values (x ∷ []) le ∙ e

-- one of those that are left
pub one_given : {T : Type 0} (values rest : List T) (x : T) → (values ++ x ∷ []) ++ rest ≡ values ++ x ∷ rest
one_given values rest x = append_assoc values (x ∷ []) rest
