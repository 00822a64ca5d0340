-- Integer literals.
use Rattle.std.specs.Prelude.{ℕ, ◌+◌, ◌*◌, List, [], ◌∷◌, drop, slice_index, ◌==◌, nat_lt, nat_le, if◌then◌else◌, Bool, true, false, not, ◌||◌, Option, Some, None, Result, Ok, Err}
use Rattle.lexer_literals.specs.declared.fault.Fault.{Fault}
use Rattle.lexer_literals.specs.declared.integers.Scanned.{Scanned}
use Rattle.lexer_literals.specs.Kinds.{is_digit, digit_value}
use Rattle.rb_base.specs.Result.{◌>>=◌}

abbrev pub fault_at : {A : Type 0} → ℕ → Result A Fault
fault_at at = Err (record { at = at })

-- Digits of a base with single _ between them, after digits of that value: the value of them all, and the
-- place after them. A decimal digit that the base lacks may not follow. wanted: a digit has to come.
unfoldable pub digits : ℕ → Bool → ℕ → ℕ → List ℕ → Result (ℕ × ℕ) Fault
digits base true value at [] = fault_at at
digits base false value at [] = Ok (value, at)
digits base wanted value at (x ∷ xs) =
    if nat_lt (digit_value x) base then digits base false (value * base + digit_value x) (at + 1) xs
    else (if wanted || is_digit x then fault_at at
    else (if x == 95 then digits base true value (at + 1) xs
    else Ok (value, at)))

-- The base of the literal at a place, and the place of its digits. The prefixes are 0b, 0o, 0d and 0x, with
-- small or capital letter, and 0 before a digit or _, which is of base 8 and a digit itself.
unfoldable pub radix_at : List ℕ → ℕ → ℕ × ℕ
radix_at text at =
    let next = slice_index text (at + 1) in
    if not (slice_index text at == 48) then (10, at)
    else (if (next == 98) || (next == 66) then (2, at + 2)
    else (if (next == 111) || (next == 79) then (8, at + 2)
    else (if (next == 100) || (next == 68) then (10, at + 2)
    else (if (next == 120) || (next == 88) then (16, at + 2)
    else (if is_digit next || (next == 95) then (8, at)
    else (10, at))))))

-- a value of an integer token is at most 2 ^ 63
abbrev pub narrow : ℕ → Option ℕ
narrow n = if nat_le n 9223372036854775808 then Some n else None

-- the literal at a place of a text
unfoldable pub integer_at : List ℕ → ℕ → Result Scanned Fault
integer_at text at =
    let radix = radix_at text at in
    digits radix.0 true 0 radix.1 (drop radix.1 text) >>= λ d. Ok (record { end = d.1; value = narrow d.0 })
