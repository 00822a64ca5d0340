-- Control and meta characters.
use Rattle.std.specs.Prelude.{ℕ, ◌+◌, ◌*◌, ◌/◌, ◌%◌, List, length, slice_index, ◌==◌, nat_lt, nat_le, if◌then◌else◌, Bool, true, false, not, ◌||◌, ◌&&◌, Option, Some, None, Result, Ok, Err}
use Rattle.lexer_literals.specs.declared.fault.Fault.{Fault}
use Rattle.lexer_literals.specs.declared.escaped.Escape.{Escape}
use Rattle.lexer_literals.specs.declared.escaped.Escaped.{Escaped}
use Rattle.lexer_literals.specs.declared.escaped.Escaped.TheVariants.{Nothing, Byte, Character}
use Rattle.lexer_literals.specs.declared.modified.Modifier.{Modifier}
use Rattle.lexer_literals.specs.declared.modified.Modifier.TheVariants.{Control, Meta}
use Rattle.lexer_literals.specs.Integers.{fault_at}
use Rattle.lexer_literals.specs.Escaping.{escape_to, plain_character_at}

-- what the letters after a backslash make of the character after them: c and C- a control character, M- a meta one
abbrev pub modifier_at : List ℕ → ℕ → Option Modifier
modifier_at text at =
    let first = slice_index text at in
    if first == 99 then Some Control
    else (if not (slice_index text (at + 1) == 45) then None
    else (if first == 67 then Some Control else (if first == 77 then Some Meta else None)))

-- the place after those letters
abbrev pub modifier_end : List ℕ → ℕ → ℕ
modifier_end text at = if slice_index text at == 99 then at + 1 else at + 2

abbrev pub is_control : Modifier → Bool
is_control Control = true
is_control Meta = false

abbrev pub are_equal : Modifier → Modifier → Bool
are_equal Control m = is_control m
are_equal Meta m = if is_control m then false else true

-- a control character has the bits 5 and 6 of its byte cleared, a meta character the bit 7 set
abbrev pub changed : Modifier → ℕ → ℕ
changed Control b = b % 32 + (b / 128) * 128
changed Meta b = b % 128 + 128

-- the byte of a character that is no escape; ? as a control character is 0x7F
abbrev pub changed_byte : Modifier → ℕ → ℕ
changed_byte m b = if is_control m && (b == 63) then 127 else changed m b

abbrev pub changed_at : Modifier → List ℕ → ℕ → Result Escape Fault
changed_at m text at =
    if nat_le (length text) at || nat_lt 127 (slice_index text at) then fault_at at
    else Ok (escape_to (at + 1) (Byte (changed_byte m (slice_index text at))))

-- of an escape that is a byte; one that is nothing is the newline after the backslash
abbrev pub changed_escape : Modifier → ℕ → Escaped → ℕ → Result Escape Fault
changed_escape m at Nothing end = Ok (escape_to end (Byte (changed m 10)))
changed_escape m at (Byte b) end = Ok (escape_to end (Byte (changed m b)))
changed_escape m at (Character c) end = fault_at at

abbrev pub changed_result : Modifier → ℕ → Result Escape Fault → Result Escape Fault
changed_result m at (Ok e) = changed_escape m at e.stands_for e.end
changed_result m at (Err f) = Err f

-- the character after one of the two: a byte, or an escape that is none of them
unfoldable pub once_at : Modifier → List ℕ → ℕ → Result Escape Fault
once_at m text at =
    if slice_index text at == 92 then changed_result m at (plain_character_at text (at + 1)) else changed_at m text at

-- the escape after a backslash within one of the two: maybe the other
abbrev pub within_by : Option Modifier → Modifier → List ℕ → ℕ → Result Escape Fault
within_by None m text at = plain_character_at text at
within_by (Some inner) m text at =
    if are_equal inner m then fault_at at else once_at inner text (modifier_end text at)

unfoldable pub within_at : Modifier → List ℕ → ℕ → Result Escape Fault
within_at m text at = within_by (modifier_at text at) m text at

-- the character after the first of them
unfoldable pub twice_at : Modifier → List ℕ → ℕ → Result Escape Fault
twice_at m text at =
    if slice_index text at == 92 then changed_result m at (within_at m text (at + 1)) else changed_at m text at

abbrev pub full_by : Option Modifier → List ℕ → ℕ → Result Escape Fault
full_by None text at = plain_character_at text at
full_by (Some m) text at = twice_at m text (modifier_end text at)

-- the escape after a backslash of a literal with interpolation
unfoldable pub full_escape_at : List ℕ → ℕ → Result Escape Fault
full_escape_at text at = full_by (modifier_at text at) text at
