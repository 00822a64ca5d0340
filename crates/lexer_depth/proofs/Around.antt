-- The levels that an array holds.
use Rattle.std.proofs.Common.{◌≡◌, ◌≢◌, ℕ, zero, suc, ◌+◌, ◌-◌, ◌≤◌, ◌<◌, List, [], ◌∷◌, length, Bool, Some, get_or, arith, refl, sym, ap, ◌∙◌, add-one, slice_set}
use Rattle.std.specs.Prelude.{slice_get}
use Rattle.std.proofs.lemmas.List.{get_or-set_other, get_or-set_same, length-set}
use Rattle.std.proofs.lemmas.Option.{slice_get-get_or}
use Rattle.lexer_depth.specs.declared.level.Level.{Level}
use Rattle.lexer_depth.specs.Held.{around_of, measures_of}
use Rattle.lexer_depth.specs.Levels.{Measures, Levels, fresh, nested, opened, closed, closed_in, finished, value_of}
use Rattle.lexer_depth.proofs.Growth.{at_least}

pub length_around : (n : ℕ) (xs : List Level) → length (around_of n xs) ≡ n
unfolding around_of
length_around zero xs = refl
length_around (suc n) xs = omega (arith, length_around n xs)

get_other : (xs : List Level) (i n : ℕ) (v : Level) → n < i → i < length xs
    → slice_get (slice_set xs i v) n ≡ slice_get xs n
get_other xs i n v less here =
    let other : n ≢ i = λ e. omega arith in
    let one : slice_get (slice_set xs i v) n ≡ Some (get_or (slice_set xs i v) n v) =
    slice_get-get_or (slice_set xs i v) n v (simp length-set (omega arith)) in
    let two : slice_get xs n ≡ Some (get_or xs n v) = slice_get-get_or xs n v (omega arith) in
    one ∙ ap (λ (l : Level). Some l) (get_or-set_other xs i n v v other) ∙ sym two

get_same : (xs : List Level) (i : ℕ) (v : Level) → i < length xs → slice_get (slice_set xs i v) i ≡ Some v
get_same xs i v here =
    let one : slice_get (slice_set xs i v) i ≡ Some (get_or (slice_set xs i v) i v) =
    slice_get-get_or (slice_set xs i v) i v (simp length-set here) in
    one ∙ ap (λ (l : Level). Some l) (get_or-set_same xs i v v here)

around_set : (n : ℕ) (xs : List Level) (i : ℕ) (v : Level) → n ≤ i → i < length xs
    → around_of n (slice_set xs i v) ≡ around_of n xs
unfolding around_of
around_set zero xs i v le here = refl
around_set (suc n) xs i v le here = rw (get_other xs i n v (omega arith) here, around_set n xs i v (omega arith) here)
    refl

around_push : (n : ℕ) (xs : List Level) (v : Level) → n < length xs
    → around_of (n + 1) (slice_set xs n v) ≡ measures_of v ∷ around_of n xs
unfolding around_of
around_push n xs v here = rw (add-one, get_same xs n v here, around_set n xs n v (omega arith) here) refl

around_pop : (n : ℕ) (xs : List Level) (d : Level) → 0 < n → n ≤ length xs
    → around_of n xs ≡ measures_of (get_or xs (n - 1) d) ∷ around_of (n - 1) xs
unfolding around_of
around_pop zero xs d some few = absurd (omega arith)
around_pop (suc n) xs d some few =
    let less : suc n - 1 ≡ n = omega arith in
    rw (less, slice_get-get_or xs n d (omega arith)) refl

pub started_is : (xs : List Level) (n : ℕ) (top new : Level) (head : Bool) → n < length xs
    → measures_of new ≡ fresh head
    → (let s : Levels = record { top = measures_of new; around = around_of (n + 1) (slice_set xs n top) } in s)
    ≡ opened (record { top = measures_of top; around = around_of n xs }) head
started_is xs n top new head here is = rw (is, around_push n xs top here) refl

pub none_closed : (xs : List Level) (n : ℕ) (top : Measures) → n ≡ 0
    → (let s : Levels = record { top = top; around = around_of n xs } in s) ≡ closed_in top (around_of n xs)
unfolding around_of
none_closed xs zero top is = refl
none_closed xs (suc n) top is = absurd (omega arith)

pub ended_is : (xs : List Level) (n : ℕ) (top : Measures) (d new : Level) → 0 < n → n ≤ length xs
    → measures_of new ≡ nested (measures_of (get_or xs (n - 1) d)) top.value
    → (let s : Levels = record { top = measures_of new; around = around_of (n - 1) xs } in s)
    ≡ closed_in top (around_of n xs)
ended_is xs n top d new some few is = rw (around_pop n xs d some few, is) refl

pub ended_deep : (xs : List Level) (n : ℕ) (top : Measures) (d : Level) → 0 < n → n ≤ length xs
    → 256 < (nested (measures_of (get_or xs (n - 1) d)) top.value).value
    → 256 < value_of (closed_in top (around_of n xs))
ended_deep xs n top d some few more = rw (around_pop n xs d some few)
    (omega (arith, at_least (nested (measures_of (get_or xs (n - 1) d)) top.value) (around_of (n - 1) xs)))

pub started_deep : (xs : List Level) (n : ℕ) (top : Measures) (head : Bool) → n ≡ 256
    → 256 < finished (fresh head) (top ∷ around_of n xs)
started_deep xs n top head is = omega (arith, at_least (fresh head) (top ∷ around_of n xs), length_around n xs)

closed_value : (top : Measures) (ls : List Measures) → value_of (closed_in top ls) ≡ finished top ls
unfolding finished
closed_value top [] = refl
closed_value top (l ∷ ls) = refl

-- that a level ends leaves the value
pub closed_same : (s : Levels) → value_of (closed s) ≡ value_of s
closed_same s = closed_value s.top s.around

pub outer_value : (xs : List Level) (n : ℕ) (top : Measures) → n ≡ 0 → finished top (around_of n xs) ≡ top.value
unfolding around_of finished
outer_value xs zero top is = refl
outer_value xs (suc n) top is = absurd (omega arith)
