-- The limit of the sections is never reached.
use Rattle.std.proofs.Common.{◌≡◌, ℕ, zero, suc, ◌+◌, ◌-◌, ◌≤◌, ◌<◌, Bool, true, false, cond, ltb, List, [], ◌∷◌, length, refl, sym, ap, ◌∙◌, arith}
use Rattle.std.specs.Prelude.{not, Option, Some, None, Result, Ok, Err}
use Rattle.std.proofs.lemmas.Bool.{lt-ltb, le-ltb, ltb-false}
use Rattle.rite_file.specs.declared.error.LoadError.{LoadError}
use Rattle.rite_file.specs.declared.error.LoadError.TheVariants.{BadSection}
use Rattle.rite_file.specs.declared.front.Section.{Section}
use Rattle.rite_file.specs.Front.{section_at, fits_at, sections_from}

-- what fits has a size, and ends within the bytes
pub record Fits (bytes : List ℕ) (at : ℕ) : Type 0 where
  pub size : 8 ≤ (section_at bytes at).size
  pub within : (section_at bytes at).size ≤ length bytes - at

fits-from : (left size : ℕ) (a b c : Bool) → a ≡ ltb left 8 → b ≡ ltb size 8 → c ≡ ltb left size
    → cond a false (cond b false (not c)) ≡ true → (8 ≤ size) × (size ≤ left)
fits-from left size true b c p q r h = absurd cc
fits-from left size false true c p q r h = absurd cc
fits-from left size false false true p q r h = absurd cc
fits-from left size false false false p q r h = (ltb-false _ _ (sym q), ltb-false _ _ (sym r))

pub fits-is : (bytes : List ℕ) (at : ℕ) → fits_at bytes at ≡ true → Fits bytes at
unfolding fits_at
fits-is bytes at h =
    let f = fits-from (length bytes - at) (section_at bytes at).size (ltb (length bytes - at) 8)
    (ltb (section_at bytes at).size 8) (ltb (length bytes - at) (section_at bytes at).size) refl refl refl h in
    record { size = f.0; within = f.1 }

pub nothing_left : (most : ℕ) (bytes : List ℕ) (at : ℕ) → length bytes ≤ at → sections_from most bytes at ≡ []
unfolding sections_from
nothing_left zero bytes at h = refl
nothing_left (suc most) bytes at h = rw (le-ltb at (length bytes) h) refl

abbrev Listed : Type 0
Listed = List (Result Section LoadError)

-- one step, whatever it is
abbrev step : List ℕ → ℕ → Bool → Bool → Listed → Listed
step bytes at inside fits others =
    cond inside (cond fits (Ok (section_at bytes at) ∷ others) (Err (BadSection at) ∷ [])) []

same_step : (bytes : List ℕ) (at : ℕ) (inside fits : Bool) (xs ys : Listed) → (inside ≡ true → fits ≡ true → xs ≡ ys)
    → step bytes at inside fits xs ≡ step bytes at inside fits ys
same_step bytes at false fits xs ys h = refl
same_step bytes at true false xs ys h = refl
same_step bytes at true true xs ys h = ap (λ (l : Listed). Ok (section_at bytes at) ∷ l) (h refl refl)

pub enough : (m n : ℕ) (bytes : List ℕ) (at : ℕ) → length bytes ≤ at + m → length bytes ≤ at + n
    → sections_from m bytes at ≡ sections_from n bytes at
unfolding sections_from
enough zero n bytes at h k = sym (nothing_left n bytes at (omega (arith, h)))
enough (suc m) zero bytes at h k = nothing_left (suc m) bytes at (omega (arith, k))
enough (suc m) (suc n) bytes at h k =
    let next = at + (section_at bytes at).size in
    same_step bytes at (ltb at (length bytes)) (fits_at bytes at) (sections_from m bytes next)
    (sections_from n bytes next)
    (λ p q. let f = (fits-is bytes at q).size in enough m n bytes next (omega (arith, h, f)) (omega (arith, k, f)))

at_most : (n : ℕ) (bytes : List ℕ) (at : ℕ) → length bytes ≤ at + n → at < length bytes → fits_at bytes at ≡ true
    → sections_from n bytes at ≡ Ok (section_at bytes at) ∷ sections_from (length bytes) bytes
    (at + (section_at bytes at).size)
unfolding sections_from
at_most zero bytes at h lt fits = absurd (omega (arith, h, lt))
at_most (suc n) bytes at h lt fits =
    let next = at + (section_at bytes at).size in
    let f = (fits-is bytes at fits).size in
    rw (lt-ltb _ _ lt, fits)
    (ap (λ (l : Listed). Ok (section_at bytes at) ∷ l)
    (enough n (length bytes) bytes next (omega (arith, h, f)) (omega arith)))

-- what was looked for at a place, and whether it was found
found_none : {A : Type 0} (b : Bool) (x : A) → cond b (Some x) None ≡ None → b ≡ false
found_none true x h = absurd cc
found_none false x h = refl

found_some : {A : Type 0} (b : Bool) (x y : A) → cond b (Some x) None ≡ Some y → (b ≡ true) × (x ≡ y)
found_some true x y h = (refl, cc)
found_some false x y h = absurd cc

abbrev found : List ℕ → ℕ → Option Section
found bytes at = cond (fits_at bytes at) (Some (section_at bytes at)) None

pub goes_on : (bytes : List ℕ) (at : ℕ) (s : Section) → at < length bytes → found bytes at ≡ Some s
    → sections_from (length bytes) bytes at ≡ Ok s ∷ sections_from (length bytes) bytes (at + s.size)
goes_on bytes at s lt h =
    let f = found_some (fits_at bytes at) (section_at bytes at) s h in
    at_most (length bytes) bytes at (omega arith) lt f.0
    ∙ ap (λ (t : Section). Ok t ∷ sections_from (length bytes) bytes (at + t.size)) f.1

stops_at : (n : ℕ) (bytes : List ℕ) (at : ℕ) → length bytes ≤ at + n → at < length bytes → fits_at bytes at ≡ false
    → sections_from n bytes at ≡ Err (BadSection at) ∷ []
unfolding sections_from
stops_at zero bytes at h lt fits = absurd (omega (arith, h, lt))
stops_at (suc n) bytes at h lt fits = rw (lt-ltb _ _ lt, fits) refl

pub stops : (bytes : List ℕ) (at : ℕ) → at < length bytes → found bytes at ≡ None
    → sections_from (length bytes) bytes at ≡ Err (BadSection at) ∷ []
stops bytes at lt h = stops_at (length bytes) bytes at (omega arith) lt
    (found_none (fits_at bytes at) (section_at bytes at) h)
