-- Integer literals: digits of a base with single _ between them.
use Rattle.std.specs.Prelude.{◌≡◌, ℕ, ◌+◌, ◌-◌, ◌*◌, ◌<◌, ◌≤◌, ◌⊎◌, Bool, true, false, nat_lt, List, [], ◌∷◌, Ok, length, take, drop, slice_index}
use Rattle.lexer_literals.specs.Kinds.{is_digit, digit_value, goes_on}
use Rattle.lexer_literals.specs.declared.numbers.Number.{Number}
use Rattle.lexer_literals.specs.declared.numbers.Tail.{Tail}
use Rattle.lexer_literals.specs.Numbers.{is_plain, numeral_at, sign_end}
use Rattle.lexer_literals.specs.Integers.{radix_at}

abbrev pub begins_with_digit : ℕ → List ℕ → Bool
begins_with_digit base [] = false
begins_with_digit base (x ∷ xs) = nat_lt (digit_value x) base

-- digits, each of which may stand after one _, go on from a value to another
abbrev pub GoesOn : ℕ → ℕ → List ℕ → ℕ → Type 0
GoesOn base value [] n = value ≡ n
GoesOn base value (x ∷ xs) n =
    ((nat_lt (digit_value x) base ≡ true) × GoesOn base (value * base + digit_value x) xs n)
    ⊎ ((x ≡ 95) × (begins_with_digit base xs ≡ true) × GoesOn base value xs n)

abbrev pub IsNumeral : ℕ → List ℕ → ℕ → Type 0
IsNumeral base [] n = ⊥
IsNumeral base (x ∷ xs) n = (nat_lt (digit_value x) base ≡ true) × GoesOn base (digit_value x) xs n

-- from a place to its end stand the prefix of a base and digits of that base, whose value is n
pub record IsInteger (text : List ℕ) (at end n : ℕ) : Type 0 where
  pub forward : (radix_at text at).1 ≤ end
  pub within : end ≤ length text
  pub numeral : IsNumeral ((radix_at text at).0) (take (end - (radix_at text at).1) (drop ((radix_at text at).1) text))
      n

-- an integer literal: the longest at its place, with no decimal digit and no _ after it
pub record IsWholeInteger (text : List ℕ) (at end n : ℕ) : Type 0 where
  pub there : IsInteger text at end n
  pub longest : (other m : ℕ) → IsInteger text at other m → other ≤ end
  pub no_digit : is_digit (slice_index text end) ≡ false
  pub no_bar : slice_index text end ≡ 95 → ⊥

-- After an integer stands nothing that makes it another number: no fraction and no exponent after decimal digits
-- without a prefix, and no suffix r, i or ri before which no name goes on.
pub record NoTail (text : List ℕ) (at end : ℕ) : Type 0 where
  pub no_fraction : is_plain (radix_at text at) at ≡ true → slice_index text end ≡ 46
      → is_digit (slice_index text (end + 1)) ≡ false
  pub no_exponent : is_plain (radix_at text at) at ≡ true → (slice_index text end ≡ 101) ⊎ (slice_index text end ≡ 69)
      → is_digit (slice_index text (sign_end text (end + 1))) ≡ false
  pub no_imaginary : slice_index text end ≡ 105 → goes_on (slice_index text (end + 1)) ≡ true
  pub no_rational : slice_index text end ≡ 114 → goes_on (slice_index text (end + 1)) ≡ true
  pub no_rational_imaginary : slice_index text end ≡ 114 → slice_index text (end + 1) ≡ 105
      → goes_on (slice_index text (end + 2)) ≡ true

-- an integer token, of a value up to 2 ^ 63
pub record IsNarrowInteger (text : List ℕ) (at end n : ℕ) : Type 0 where
  pub literal : IsWholeInteger text at end n
  pub small : n ≤ 9223372036854775808
  pub no_tail : NoTail text at end

-- an integer of a greater value
pub record IsWideInteger (text : List ℕ) (at end : ℕ) : Type 0 where
  pub value : ℕ
  pub literal : IsWholeInteger text at end value
  pub great : 9223372036854775808 < value
  pub no_tail : NoTail text at end

-- a number that its fraction, its exponent or its suffix makes another than an integer
pub record IsTailed (tail : Tail) (text : List ℕ) (at end : ℕ) : Type 0 where
  pub number : Number
  pub literal : numeral_at text at ≡ Ok number
  pub tail_is : number.tail ≡ tail
  pub ends : end ≡ number.end
