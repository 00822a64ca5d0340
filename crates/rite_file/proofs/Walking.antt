-- Going over sections and records, as a loop does.
use Rattle.std.proofs.Common.{◌≡◌, ℕ, suc, ◌-◌, ◌+◌, ◌≤◌, ◌<◌, true, false, List, [], ◌∷◌, ◌++◌, drop, refl, sym, ap, ◌∙◌, arith, length}
use Rattle.std.specs.Prelude.{Option, Some, None, Result, Ok, Err, slice_get}
use Rattle.rite_file.specs.declared.error.LoadError.{LoadError}
use Rattle.rite_file.specs.declared.error.LoadError.TheVariants.{BadSection, BadRecord}
use Rattle.rite_file.specs.declared.front.Section.{Section}
use Rattle.rite_file.specs.declared.records.Record.{Record}
use Rattle.rite_file.specs.Gives.{Fails}
use Rattle.rite_file.specs.Record.{record_at, records_at}
use Rattle.rite_file.specs.Loaded.{is_skipped, is_irep, is_end, irep_in}
use Rattle.rite_file.proofs.Listing.{fails_with}

-- ---- sections

abbrev Listed : Type 0
Listed = List (Result Section LoadError)

pub popped : {A : Type 0} (xs : List A) (x : A) → slice_get xs 0 ≡ Some x → xs ≡ x ∷ drop 1 xs
popped [] x h = absurd cc
popped (y ∷ xs) x h = let e : y ≡ x = cc in ap (λ z. z ∷ xs) e

pub popped_none : {A : Type 0} (xs : List A) → slice_get xs 0 ≡ None → xs ≡ []
popped_none [] h = refl
popped_none (y ∷ xs) h = absurd cc

abbrev Answer : Type 0
Answer = Result Section LoadError

pub walk_err : (bytes : List ℕ) (found : Option Section) (xs : Listed) (total : Answer) (e : LoadError)
    → irep_in bytes found xs ≡ total → slice_get xs 0 ≡ Some (Err e) → total ≡ Err e
unfolding irep_in
walk_err bytes None xs total e w h = sym w ∙ ap (irep_in bytes None) (popped xs (Err e) h)
walk_err bytes (Some s) xs total e w h = sym w ∙ ap (irep_in bytes (Some s)) (popped xs (Err e) h)

pub walk_none : (bytes : List ℕ) (found : Option Section) (xs : Listed) (total : Answer)
    → irep_in bytes found xs ≡ total → slice_get xs 0 ≡ None → total ≡ Err (BadSection (length bytes))
unfolding irep_in
walk_none bytes None xs total w h = sym w ∙ ap (irep_in bytes None) (popped_none xs h)
walk_none bytes (Some s) xs total w h = sym w ∙ ap (irep_in bytes (Some s)) (popped_none xs h)

pub walk_skip : (bytes : List ℕ) (found : Option Section) (xs : Listed) (total : Answer) (s : Section)
    → irep_in bytes found xs ≡ total → slice_get xs 0 ≡ Some (Ok s) → is_skipped s ≡ true
    → irep_in bytes found (drop 1 xs) ≡ total
unfolding irep_in
walk_skip bytes None xs total s w h k =
    let one : irep_in bytes None xs ≡ irep_in bytes None (drop 1 xs) = ap (irep_in bytes None) (popped xs (Ok s) h)
    ∙ rw k refl in
    sym one ∙ w
walk_skip bytes (Some t) xs total s w h k =
    let one : irep_in bytes (Some t) xs ≡ irep_in bytes (Some t) (drop 1 xs) = ap (irep_in bytes (Some t))
    (popped xs (Ok s) h) ∙ rw k refl in
    sym one ∙ w

pub walk_irep : (bytes : List ℕ) (xs : Listed) (total : Answer) (s : Section) → irep_in bytes None xs ≡ total
    → slice_get xs 0 ≡ Some (Ok s) → is_skipped s ≡ false → is_irep bytes s ≡ true
    → irep_in bytes (Some s) (drop 1 xs) ≡ total
unfolding irep_in
walk_irep bytes xs total s w h k i =
    let one : irep_in bytes None xs ≡ irep_in bytes (Some s) (drop 1 xs) = ap (irep_in bytes None)
    (popped xs (Ok s) h) ∙ rw (k, i) refl in
    sym one ∙ w

pub walk_no_irep : (bytes : List ℕ) (xs : Listed) (total : Answer) (s : Section) → irep_in bytes None xs ≡ total
    → slice_get xs 0 ≡ Some (Ok s) → is_skipped s ≡ false → is_irep bytes s ≡ false → total ≡ Err (BadSection s.at)
unfolding irep_in
walk_no_irep bytes xs total s w h k i = sym w ∙ ap (irep_in bytes None) (popped xs (Ok s) h) ∙ rw (k, i) refl

pub walk_end : (bytes : List ℕ) (irep : Section) (xs : Listed) (total : Answer) (s : Section)
    → irep_in bytes (Some irep) xs ≡ total → slice_get xs 0 ≡ Some (Ok s) → is_skipped s ≡ false
    → is_end bytes s ≡ true → total ≡ Ok irep
unfolding irep_in
walk_end bytes irep xs total s w h k i = sym w ∙ ap (irep_in bytes (Some irep)) (popped xs (Ok s) h) ∙ rw (k, i) refl

pub walk_no_end : (bytes : List ℕ) (irep : Section) (xs : Listed) (total : Answer) (s : Section)
    → irep_in bytes (Some irep) xs ≡ total → slice_get xs 0 ≡ Some (Ok s) → is_skipped s ≡ false
    → is_end bytes s ≡ false → total ≡ Err (BadSection s.at)
unfolding irep_in
walk_no_end bytes irep xs total s w h k i = sym w ∙ ap (irep_in bytes (Some irep)) (popped xs (Ok s) h) ∙ rw (k, i) refl

-- ---- records

abbrev Answers : Type 0
Answers = Result (List Record × ℕ) LoadError

pub records_done : (most version : ℕ) (seen : List Record) (awaited : ℕ) (bytes : List ℕ) (at : ℕ) (total : Answers)
    → awaited ≡ 0 → records_at most version seen awaited bytes at ≡ total → total ≡ Ok (seen, at)
unfolding records_at
records_done most version seen awaited bytes at total a w =
    let one : records_at most version seen awaited bytes at ≡ Ok (seen, at) = rw a refl in
    sym w ∙ one

pub records_full : (most k version : ℕ) (seen : List Record) (awaited : ℕ) (bytes : List ℕ) (at : ℕ) (total : Answers)
    → most ≤ k → 0 < awaited → records_at (most - k) version seen awaited bytes at ≡ total → total ≡ Err (BadRecord at)
unfolding records_at
records_full most k version seen awaited bytes at total m a w =
    let none : most - k ≡ 0 = omega (arith, m) in
    let some : awaited ≡ suc (awaited - 1) = omega (arith, a) in
    let one : records_at (most - k) version seen awaited bytes at ≡ Err (BadRecord at) = rw (none, some) refl in
    sym w ∙ one

pub records_go_on : (most k version : ℕ) (seen more : List Record) (awaited : ℕ) (bytes : List ℕ) (at : ℕ)
    (r : Record) (next : ℕ) (total : Answers) → k < most → 0 < awaited → record_at version bytes at ≡ Ok (r, next)
    → more ≡ seen ++ r ∷ []
    → records_at (most - k) version seen awaited bytes at ≡ total
    → records_at (most - (k + 1)) version more (awaited - 1 + r.children) bytes next ≡ total
unfolding records_at
records_go_on most k version seen more awaited bytes at r next total m a read e w =
    let left : most - k ≡ suc (most - (k + 1)) = omega (arith, m) in
    let some : awaited ≡ suc (awaited - 1) = omega (arith, a) in
    let one : records_at (suc (most - (k + 1))) version seen (suc (awaited - 1)) bytes at
    ≡ records_at (most - (k + 1)) version (seen ++ r ∷ []) (awaited - 1 + r.children) bytes next = rw read refl in
    let same : records_at (suc (most - (k + 1))) version seen (suc (awaited - 1)) bytes at
    ≡ records_at (most - k) version seen awaited bytes at =
    ap (λ (n : ℕ). records_at n version seen (suc (awaited - 1)) bytes at) (sym left)
    ∙ ap (λ (n : ℕ). records_at (most - k) version seen n bytes at) (sym some) in
    rw e (sym one ∙ same ∙ w)

pub records_fail : (most k version : ℕ) (seen : List Record) (awaited : ℕ) (bytes : List ℕ) (at : ℕ) (e : LoadError)
    (total : Answers) → k < most → 0 < awaited → Fails e (record_at version bytes at)
    → records_at (most - k) version seen awaited bytes at ≡ total → Fails e total
unfolding records_at
records_fail most k version seen awaited bytes at e total m a h w =
    let left : most - k ≡ suc (most - (k + 1)) = omega (arith, m) in
    let some : awaited ≡ suc (awaited - 1) = omega (arith, a) in
    let same : records_at (suc (most - (k + 1))) version seen (suc (awaited - 1)) bytes at
    ≡ records_at (most - k) version seen awaited bytes at =
    ap (λ (n : ℕ). records_at n version seen (suc (awaited - 1)) bytes at) (sym left)
    ∙ ap (λ (n : ℕ). records_at (most - k) version seen n bytes at) (sym some) in
    fails_with e (record_at version bytes at) total (λ r. sym w ∙ sym same ∙ rw r refl) h
