-- Reading values one after the other, as a loop does.
use Rattle.std.proofs.Common.{◌≡◌, ℕ, suc, ◌-◌, ◌+◌, ◌≤◌, ◌<◌, Bool, true, false, List, [], ◌∷◌, ◌++◌, refl, sym, ◌∙◌, arith}
use Rattle.std.specs.Prelude.{Result, Ok, Err}
use Rattle.rite_file.specs.declared.error.LoadError.{LoadError}
use Rattle.rite_file.specs.declared.error.LoadError.TheVariants.{NotRite, Foreign, Truncated, BadSection, BadRecord, NoMemory}
use Rattle.rite_file.specs.Gives.{Fails}
use Rattle.rite_file.specs.Record.{Reader, list_at}

pub list_done : {A : Type 0} (fits : List A → A → Bool) (read : Reader A) (seen : List A) (n k : ℕ) (bytes : List ℕ)
    (at : ℕ) → n ≤ k → list_at fits read seen (n - k) bytes at ≡ Ok (seen, at)
unfolding list_at
list_done fits read seen n k bytes at h = let e : n - k ≡ 0 = omega (arith, h) in rw e refl

-- a failure that is told is the one wanted
pub fails_as : {A : Type 0} (e : LoadError) (wanted : Result A LoadError) → wanted ≡ Err e → Fails e wanted
fails_as NotRite wanted h = h
fails_as (Foreign name) wanted h = h
fails_as (Truncated at) wanted h = h
fails_as (BadSection at) wanted h = h
fails_as (BadRecord at) wanted h = h
fails_as NoMemory wanted h = tt

-- what fails where another fails so
pub fails_with : {A B : Type 0} (e : LoadError) (first : Result A LoadError) (wanted : Result B LoadError)
    → (first ≡ Err e → wanted ≡ Err e) → Fails e first → Fails e wanted
fails_with NotRite first wanted f h = f h
fails_with (Foreign name) first wanted f h = f h
fails_with (Truncated at) first wanted f h = f h
fails_with (BadSection at) first wanted f h = f h
fails_with (BadRecord at) first wanted f h = f h
fails_with NoMemory first wanted f h = tt

pub list_goes_on : {A : Type 0} (fits : List A → A → Bool) (read : Reader A) (seen more : List A) (n k : ℕ)
    (bytes : List ℕ) (at : ℕ) (x : A) (next : ℕ) (total : Result (List A × ℕ) LoadError)
    → k < n → read bytes at ≡ Ok (x, next) → fits seen x ≡ true → more ≡ seen ++ x ∷ []
    → list_at fits read seen (n - k) bytes at ≡ total → list_at fits read more (n - (k + 1)) bytes next ≡ total
unfolding list_at
list_goes_on fits read seen more n k bytes at x next total lt r f e so_far =
    let m : n - k ≡ suc (n - (k + 1)) = omega (arith, lt) in
    let one : list_at fits read seen (n - k) bytes at ≡ list_at fits read (seen ++ x ∷ []) (n - (k + 1)) bytes next =
    rw (m, r, f) refl in
    rw e (sym one ∙ so_far)

pub list_refuses : {A : Type 0} (fits : List A → A → Bool) (read : Reader A) (seen : List A) (n k : ℕ)
    (bytes : List ℕ) (at : ℕ) (x : A) (next : ℕ) (total : Result (List A × ℕ) LoadError)
    → k < n → read bytes at ≡ Ok (x, next) → fits seen x ≡ false → list_at fits read seen (n - k) bytes at ≡ total
    → total ≡ Err (BadRecord at)
unfolding list_at
list_refuses fits read seen n k bytes at x next total lt r f so_far =
    let m : n - k ≡ suc (n - (k + 1)) = omega (arith, lt) in
    let one : list_at fits read seen (n - k) bytes at ≡ Err (BadRecord at) = rw (m, r, f) refl in
    sym so_far ∙ one

pub list_fails : {A : Type 0} (fits : List A → A → Bool) (read : Reader A) (seen : List A) (n k : ℕ) (bytes : List ℕ)
    (at : ℕ) (e : LoadError) (total : Result (List A × ℕ) LoadError)
    → k < n → Fails e (read bytes at) → list_at fits read seen (n - k) bytes at ≡ total → Fails e total
unfolding list_at
list_fails fits read seen n k bytes at e total lt h so_far =
    let m : n - k ≡ suc (n - (k + 1)) = omega (arith, lt) in
    fails_with e (read bytes at) total (λ r. sym so_far ∙ rw (m, r) refl) h
