-- Numeric literals: integers and what may stand after them.
use Rattle.std.specs.Prelude.{ℕ, ◌+◌, List, drop, slice_index, ◌==◌, if◌then◌else◌, Bool, true, not, ◌||◌, ◌&&◌, Result, Ok}
use Rattle.lexer_literals.specs.declared.fault.Fault.{Fault}
use Rattle.lexer_literals.specs.declared.numbers.Number.{Number}
use Rattle.lexer_literals.specs.declared.numbers.Tail.{Tail}
use Rattle.lexer_literals.specs.declared.numbers.Tail.TheVariants.{Nothing, Float, Rational, Imaginary}
use Rattle.lexer_literals.specs.Kinds.{is_digit, goes_on}
use Rattle.lexer_literals.specs.Integers.{digits, radix_at, integer_at}
use Rattle.rb_base.specs.Result.{◌>>=◌}

-- the place after the decimal digits that begin at a place
abbrev pub decimal_end : List ℕ → ℕ → Result ℕ Fault
decimal_end text at = digits 10 true 0 at (drop at text) >>= λ d. Ok d.1

-- a fraction is a point and digits; without one, the place itself
unfoldable pub fraction_end : List ℕ → ℕ → Result ℕ Fault
fraction_end text at =
    if (slice_index text at == 46) && is_digit (slice_index text (at + 1)) then decimal_end text (at + 1) else Ok at

-- the place after a sign, where one stands
unfoldable pub sign_end : List ℕ → ℕ → ℕ
sign_end text at = if (slice_index text at == 43) || (slice_index text at == 45) then at + 1 else at

-- an exponent is e or E, maybe a sign, and digits; without one, the place itself
unfoldable pub exponent_end : List ℕ → ℕ → Result ℕ Fault
exponent_end text at =
    let first = sign_end text (at + 1) in
    if ((slice_index text at == 101) || (slice_index text at == 69)) && is_digit (slice_index text first)
    then decimal_end text first else Ok at

-- a literal without a prefix, whose digits are decimal and begin at its place, may have these two
abbrev pub is_plain : ℕ × ℕ → ℕ → Bool
is_plain radix at = (radix.0 == 10) && (radix.1 == at)

-- the places after the fraction and after the exponent of the literal at a place, whose integer ends at end
unfoldable pub parts_end : List ℕ → ℕ → ℕ → Result (ℕ × ℕ) Fault
parts_end text at end =
    if is_plain (radix_at text at) at then (fraction_end text end >>= λ f. exponent_end text f >>= λ e. Ok (f, e))
    else Ok (end, end)

-- The suffixes are r, i and ri where no name goes on after them; after an exponent i alone. The place after
-- the suffix, and the tail that it makes of the tail before.
unfoldable pub suffix_at : List ℕ → ℕ → Bool → Tail → ℕ × Tail
suffix_at text at has_exponent tail =
    let first = slice_index text at in
    let second = slice_index text (at + 1) in
    if (first == 105) && not (goes_on second) then (at + 1, Imaginary)
    else (if has_exponent || not (first == 114) then (at, tail)
    else (if not (goes_on second) then (at + 1, Rational)
    else (if (second == 105) && not (goes_on (slice_index text (at + 2))) then (at + 2, Imaginary)
    else (at, tail))))

-- the numeric literal at a place of a text
unfoldable pub numeral_at : List ℕ → ℕ → Result Number Fault
numeral_at text at =
    integer_at text at >>= λ i. parts_end text at i.end >>= λ p.
    let s = suffix_at text p.1 (not (p.0 == p.1)) (if p.1 == i.end then Nothing else Float) in
    Ok (record { end = s.0; value = i.value; tail = s.1 })
