-- Conjunctions and disjunctions of tests.
use Rattle.std.proofs.Common.{◌≡◌, Bool, true, false, ◌&&◌, refl, sym, true≢false}
use Rattle.std.specs.Prelude.{◌||◌, if◌then◌else◌}

pub and_true : {x y : Bool} → (x && y) ≡ true → (x ≡ true) × (y ≡ true)
and_true {x = true} {y = y} h = (refl, h)
and_true {x = false} {y = y} h = absurd (true≢false (sym h))

pub or_left : (x y : Bool) → x ≡ true → (x || y) ≡ true
or_left true y h = refl
or_left false y h = absurd (true≢false (sym h))

pub or_right : (x y : Bool) → y ≡ true → (x || y) ≡ true
or_right true y h = refl
or_right false y h = h

-- either branch of a choice, and each where the test tells of it
pub either : {A : Type 0} (P : A → Type 0) (t : Bool) (x y : A) → P x → P y → P (if t then x else y)
either P true x y h k = h
either P false x y h k = k

pub tested : {A : Type 0} (P : A → Type 0) (t : Bool) (x y : A) → (t ≡ true → P x) → (t ≡ false → P y)
    → P (if t then x else y)
tested P true x y h k = h refl
tested P false x y h k = k refl
