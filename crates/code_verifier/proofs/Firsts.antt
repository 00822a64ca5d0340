-- The first failure of a list, an element or a part at a time.
use Rattle.std.proofs.Common.{◌≡◌, refl, sym, ap, ◌∙◌, ℕ, ◌+◌, ◌<◌, ◌≤◌, List, [], ◌∷◌, ◌++◌, length, get_or, drop, map, Bool, true, false}
use Rattle.std.specs.Prelude.{None, Some, Option, Ok, Err}
use Rattle.std.proofs.lemmas.List.{at_drop_more, at_drop_all}
use Rattle.code_verifier.specs.Answers.{answer, outcome}
use Rattle.code_verifier.specs.Checks.{Bad, bad, first, unless}
use Rattle.code_verifier.specs.declared.error.VerifyError.{VerifyError}
use Rattle.code_verifier.specs.declared.error.VerifyError.TheVariants as error
use Rattle.rite_code.specs.declared.cause.Cause.{Cause}

-- where the front has no failure, what is after it counts
pub past : (xs ys : List (Option Bad)) → Ok tt ≡ answer (first xs) → answer (first (xs ++ ys)) ≡ answer (first ys)
unfolding first
past [] ys h = refl
past (None ∷ xs) ys h = past xs ys h
past (Some x ∷ xs) ys h = absurd cc

-- a failure of the front is the first
pub before : (xs ys : List (Option Bad)) (e : VerifyError) → Err e ≡ answer (first xs)
    → answer (first (xs ++ ys)) ≡ Err e
unfolding first
before [] ys e h = absurd cc
before (None ∷ xs) ys e h = before xs ys e h
before (Some x ∷ xs) ys e h = sym h

pub head_past : (x : Option Bad) (ys : List (Option Bad)) → Ok tt ≡ answer x
    → answer (first (x ∷ ys)) ≡ answer (first ys)
unfolding first
head_past None ys h = refl
head_past (Some x) ys h = absurd cc

pub head_before : (x : Option Bad) (ys : List (Option Bad)) (e : VerifyError) → Err e ≡ answer x
    → answer (first (x ∷ ys)) ≡ Err e
unfolding first
head_before None ys e h = absurd cc
head_before (Some x) ys e h = sym h

-- one check: nothing where it holds, else its cause with the place
pub unbroken : (k at : ℕ) (x : Option Cause) → Ok tt ≡ outcome x → Ok tt ≡ answer (bad k at x)
unbroken k at None h = refl
unbroken k at (Some c) h = absurd cc

pub broken : (k at : ℕ) (x : Option Cause) (c : Cause) → Err c ≡ outcome x
    → Err (error.Bad k at c) ≡ answer (bad k at x)
broken k at None c h = absurd cc
broken k at (Some d) c h = let e : c ≡ d = cc in ap (λ (y : Cause). Err (error.Bad k at y)) e

pub held : (b : Bool) (c : Cause) → b ≡ true → Ok tt ≡ outcome (unless b c)
held true c h = refl
held false c h = absurd cc

pub failed : (b : Bool) (c : Cause) → b ≡ false → Err c ≡ outcome (unless b c)
failed true c h = absurd cc
failed false c h = refl

-- an element of a list that is walked
pub one_past : {A : Type 0} (f : A → Option Bad) (xs : List A) (i : ℕ) (d : A) → i < length xs
    → Ok tt ≡ answer (f (get_or xs i d)) → answer (first (map f (drop i xs))) ≡ answer (first (map f (drop (i + 1) xs)))
one_past f xs i d lt h = at_drop_more (λ ys. answer (first (map f ys))) xs i d lt
    ∙ head_past (f (get_or xs i d)) (map f (drop (i + 1) xs)) h

pub one_before : {A : Type 0} (f : A → Option Bad) (xs : List A) (i : ℕ) (d : A) (e : VerifyError) → i < length xs
    → Err e ≡ answer (f (get_or xs i d)) → answer (first (map f (drop i xs))) ≡ Err e
one_before f xs i d e lt h = at_drop_more (λ ys. answer (first (map f ys))) xs i d lt
    ∙ head_before (f (get_or xs i d)) (map f (drop (i + 1) xs)) e h

pub all_past : {A : Type 0} (f : A → Option Bad) (xs : List A) (i : ℕ) → length xs ≤ i
    → answer (first (map f (drop i xs))) ≡ Ok tt
unfolding first
all_past f xs i le = at_drop_all (λ ys. answer (first (map f ys))) xs i le

-- the same where the element has a name
pub step_past : {A : Type 0} (f : A → Option Bad) (xs : List A) (i : ℕ) (x : A) → i < length xs → x ≡ get_or xs i x
    → Ok tt ≡ answer (f x) → answer (first (map f (drop i xs))) ≡ answer (first (map f (drop (i + 1) xs)))
step_past f xs i x lt is h = one_past f xs i x lt (h ∙ ap (λ y. answer (f y)) is)

pub step_before : {A : Type 0} (f : A → Option Bad) (xs : List A) (i : ℕ) (x : A) (e : VerifyError) → i < length xs
    → x ≡ get_or xs i x → Err e ≡ answer (f x) → answer (first (map f (drop i xs))) ≡ Err e
step_before f xs i x e lt is h = one_before f xs i x e lt (h ∙ ap (λ y. answer (f y)) is)
