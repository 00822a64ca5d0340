-- Conjunctions of tests.
use Rattle.std.proofs.Common.{◌≡◌, Bool, true, false, ◌&&◌, if◌then◌else◌, refl, inl, inr, ◌⊎◌}
use Rattle.std.proofs.lemmas.Bool.{and_from}

pub both : {x y : Bool} → x ≡ true → y ≡ true → (x && y) ≡ true
both {x} {y} h k = and_from x y h k

-- either branch of a choice
pub either : {A : Type 0} (P : A → Type 0) (c : Bool) (x y : A) → P x → P y → P (if c then x else y)
either P true x y h k = h
either P false x y h k = k

-- the branch that is taken, where the test tells of it
pub chosen : {A : Type 0} (P : A → Type 0) (c : Bool) (x y : A) → (c ≡ true → P x) → P y → P (if c then x else y)
chosen P true x y h k = h refl
chosen P false x y h k = k

pub if_first : (c d : Bool) → c ≡ true → (if c then true else d) ≡ true
if_first true d h = refl
if_first false d h = absurd (cc)

pub if_second : (c d : Bool) → d ≡ true → (if c then true else d) ≡ true
if_second true d h = refl
if_second false d h = h

pub if_either : (c d : Bool) → (if c then true else d) ≡ true → (c ≡ true) ⊎ (d ≡ true)
if_either true d h = inl refl
if_either false d h = inr h
