-- Texts that may be made, and texts that are too long.
use Rattle.std.proofs.Common.{◌≡◌, ℕ, ◌+◌, ◌<◌, ◌≤◌, true, false, List, [], ◌++◌, length, Ok, Err, refl, sym, ap, ◌∙◌, arith, leb, append-nil, length-append}
use Rattle.std.proofs.lemmas.Bool.Decides.{nat_tests}
use Rattle.rb_string.specs.declared.failure.StringFailure.TheVariants.{TooLong}
use Rattle.rb_string.specs.Limit.{fits, limited}

pub limited_fits : (text : List ℕ) → fits (length text) ≡ true → limited text ≡ Ok text
unfolding limited
limited_fits text h = rw h refl

pub limited_short : (text : List ℕ) → length text ≤ 268435456 → limited text ≡ Ok text
limited_short text h = limited_fits text (grind (arith, nat_tests))

pub limited_long : (text : List ℕ) → 268435456 < length text → limited text ≡ Err TooLong
unfolding limited
limited_long text h = let wide : leb (length text) 268435456 ≡ false = grind (arith, nat_tests) in rw wide refl

not_fits : (n : ℕ) → fits n ≡ false → 268435456 < n
not_fits n h = grind (arith, nat_tests)

large_fits_not : (n : ℕ) → 268435456 < n → fits n ≡ false
large_fits_not n h = grind (arith, nat_tests)

-- a text is too long where a front of it is
pub too_long : (text front rest : List ℕ) → front ++ rest ≡ text → fits (length front) ≡ false
    → limited text ≡ Err TooLong
too_long text front rest is wide =
    let long : 268435456 < length front = not_fits (length front) wide in
    let size : length (front ++ rest) ≡ length front + length rest = length-append front rest in
    rw (← is) (limited_long (front ++ rest) (omega arith))

pub three_long : (a b c : List ℕ) → 268435456 < length a + length b + length c → limited (a ++ b ++ c) ≡ Err TooLong
three_long a b c h =
    let front : length (a ++ b) ≡ length a + length b = length-append a b in
    let whole : length (a ++ b ++ c) ≡ length (a ++ b) + length c = length-append (a ++ b) c in
    limited_long (a ++ b ++ c) (omega arith)

pub three_short : (a b c : List ℕ) → length a + length b + length c ≤ 268435456
    → limited (a ++ b ++ c) ≡ Ok (a ++ b ++ c)
three_short a b c h =
    let front : length (a ++ b) ≡ length a + length b = length-append a b in
    let whole : length (a ++ b ++ c) ≡ length (a ++ b) + length c = length-append (a ++ b) c in
    limited_short (a ++ b ++ c) (omega arith)

pub two_joined : (a b : List ℕ) → limited (a ++ b ++ []) ≡ limited (a ++ b)
two_joined a b = ap limited (append-nil (a ++ b))

pub one_joined : (a : List ℕ) → limited (a ++ [] ++ []) ≡ limited a
one_joined a = ap limited (append-nil (a ++ []) ∙ append-nil a)

pub front_fits_not : (whole front rest : List ℕ) → front ++ rest ≡ whole → fits (length front) ≡ false
    → fits (length whole) ≡ false
front_fits_not whole front rest is wide =
    let long : 268435456 < length front = not_fits (length front) wide in
    let size : length (front ++ rest) ≡ length front + length rest = length-append front rest in
    let larger : 268435456 < length (front ++ rest) = omega arith in
    ap (λ l. fits (length l)) (sym is) ∙ large_fits_not (length (front ++ rest)) larger

pub middle_long : (a b c : List ℕ) → fits (length b) ≡ false → limited (a ++ b ++ c) ≡ Err TooLong
middle_long a b c wide =
    let long : 268435456 < length b = not_fits (length b) wide in
    three_long a b c (omega arith)
