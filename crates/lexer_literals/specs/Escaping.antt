-- The escapes of string literals.
use Rattle.std.specs.Prelude.{ℕ, ◌+◌, ◌-◌, ◌*◌, ◌%◌, List, [], ◌∷◌, length, drop, slice_index, ◌==◌, nat_lt, nat_le, if◌then◌else◌, Bool, not, ◌||◌, ◌&&◌, Result, Ok, encode_utf8}
use Rattle.lexer_literals.specs.declared.fault.Fault.{Fault}
use Rattle.lexer_literals.specs.declared.escaped.Escape.{Escape}
use Rattle.lexer_literals.specs.declared.escaped.Escaped.{Escaped}
use Rattle.lexer_literals.specs.declared.escaped.Escaped.TheVariants.{Nothing, Byte, Character}
use Rattle.lexer_literals.specs.Kinds.{between, digit_value}
use Rattle.lexer_literals.specs.Integers.{fault_at}

-- the bytes that an escape stands for
abbrev pub bytes_of : Escaped → List ℕ
bytes_of Nothing = []
bytes_of (Byte b) = b ∷ []
bytes_of (Character c) = encode_utf8 c

abbrev pub escape_to : ℕ → Escaped → Escape
escape_to end stands_for = record { end = end; stands_for = stands_for }

-- the byte that a letter stands for: n t r a b e f v s; any other stands for itself
abbrev pub letter : ℕ → ℕ
letter b =
    if b == 110 then 10 else (if b == 116 then 9 else (if b == 114 then 13 else (if b == 97 then 7
    else (if b == 98 then 8 else (if b == 101 then 27 else (if b == 102 then 12 else (if b == 118 then 11
    else (if b == 115 then 32 else b))))))))

-- at most so many digits of a base, after digits of that value: the value of them all, and the place after them
unfoldable pub up_to : ℕ → ℕ → ℕ → ℕ → List ℕ → ℕ × ℕ
up_to base most value at [] = (value, at)
up_to base most value at (x ∷ xs) =
    if most == 0 then (value, at)
    else (if nat_le base (digit_value x) then (value, at)
    else up_to base (most - 1) (value * base + digit_value x) (at + 1) xs)

-- one to three octal digits, of whose value the lowest eight bits count
unfoldable pub octal_at : List ℕ → ℕ → Escape
octal_at text at = let n = up_to 8 3 0 at (drop at text) in escape_to n.1 (Byte (n.0 % 256))

-- one or two hexadecimal digits
unfoldable pub hexadecimal_at : List ℕ → ℕ → Result Escape Fault
hexadecimal_at text at =
    let n = up_to 16 2 0 at (drop at text) in
    if n.1 == at then fault_at at else Ok (escape_to n.1 (Byte n.0))

-- the number of a character: no surrogate, and at most 10FFFF
abbrev pub is_scalar : ℕ → Bool
is_scalar n = nat_lt n 0xd800 || (nat_le 0xe000 n && nat_lt n 0x110000)

abbrev pub character : ℕ → ℕ → ℕ → Result Escape Fault
character number at end = if is_scalar number then Ok (escape_to end (Character number)) else fault_at at

-- four hexadecimal digits
unfoldable pub short_at : List ℕ → ℕ → Result Escape Fault
short_at text at =
    let n = up_to 16 4 0 at (drop at text) in
    if n.1 == at + 4 then character n.0 at n.1 else fault_at at

-- one to six hexadecimal digits and a closing brace
unfoldable pub braced_at : List ℕ → ℕ → Result Escape Fault
braced_at text at =
    let n = up_to 16 6 0 at (drop at text) in
    if (n.1 == at) || not (slice_index text n.1 == 125) then fault_at at else character n.0 at (n.1 + 1)

-- c, C and M begin a control or a meta character
abbrev pub is_modifier : ℕ → Bool
is_modifier b = (b == 99) || (b == 67) || (b == 77)

-- the escape after a backslash of a literal with interpolation, where it is no control or meta character
unfoldable pub plain_character_at : List ℕ → ℕ → Result Escape Fault
plain_character_at text at =
    let first = slice_index text at in
    if nat_le (length text) at then fault_at at
    else (if first == 10 then Ok (escape_to (at + 1) Nothing)
    else (if between 48 55 first then Ok (octal_at text at)
    else (if first == 120 then hexadecimal_at text (at + 1)
    else (if is_modifier first then fault_at at
    else (if not (first == 117) then Ok (escape_to (at + 1) (Byte (letter first)))
    else (if slice_index text (at + 1) == 123 then braced_at text (at + 2)
    else short_at text (at + 1)))))))
