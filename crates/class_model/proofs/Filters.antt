-- One step of the walk along the ancestors.
use Rattle.std.proofs.Common.{◌≡◌, List, [], ◌∷◌, Bool, true, false, filter, refl}

pub filter_kept : {A : Type 0} (p : A → Bool) (before after : List A) (x : A) → before ≡ x ∷ after → p x ≡ true
    → filter p before ≡ x ∷ filter p after
filter_kept p before after x h k = rw (h, k) refl

pub filter_passed : {A : Type 0} (p : A → Bool) (before after : List A) (x : A) → before ≡ x ∷ after → p x ≡ false
    → filter p before ≡ filter p after
filter_passed p before after x h k = rw (h, k) refl

pub filter_none : {A : Type 0} (p : A → Bool) (xs : List A) → xs ≡ [] → filter p xs ≡ []
filter_none p xs h = rw h refl
