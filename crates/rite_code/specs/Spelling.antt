-- How bytes spell instructions.
use Rattle.std.specs.Prelude.{ℕ, ◌+◌, ◌*◌, ◌/◌, ◌%◌, ℤ, Bool, true, false, List, [], ◌∷◌, ◌++◌, Option, Some, None, length, drop, slice_index, nat_lt, nat_eq, if◌then◌else◌, flat_map}
use Rattle.std.specs.Int.{to_be_bytes, from_be_bytes, cast_unsigned, cast_signed, w8, w16, w32}
use Rattle.rite_code.specs.declared.opcode.Opcode.{Opcode}
use Rattle.rite_code.specs.declared.opcode.Shape.{Shape}
use Rattle.rite_code.specs.declared.opcode.Shape.TheVariants.{Z, B, BB, BBB, BBI, S, BS, BSS, W}
use Rattle.rite_code.specs.declared.operation.Parameters.{Parameters}
use Rattle.rite_code.specs.declared.operation.Operands.{Operands}
use Rattle.rite_code.specs.declared.operation.Operation.{Operation}
use Rattle.rite_code.specs.Instruction.{Instruction}
use Rattle.rite_code.specs.Table.{number_of, shape_of, opcode_of}
use Rattle.rite_code.specs.Operation.{opcode_in, operands_in, operation_of, numbers, with_signed, with_parameters}
use Rattle.rite_code.specs.Shape.{index_size, operand_size, grows}

-- the number of EXT, the prefix of a wide instruction
abbrev pub ext : ℕ
ext = 73

-- the bytes of an operand, big-endian: an index, a signed index, a distance, four bytes
abbrev pub index_bytes : Bool → ℕ → List ℕ
index_bytes false n = n ∷ []
index_bytes true n = to_be_bytes w16 n

abbrev pub signed_index_bytes : Bool → ℤ → List ℕ
signed_index_bytes false z = cast_unsigned w8 z ∷ []
signed_index_bytes true z = to_be_bytes w16 (cast_unsigned w16 z)

abbrev pub distance_bytes : Bool → ℤ → List ℕ
distance_bytes false z = to_be_bytes w16 (cast_unsigned w16 z)
distance_bytes true z = to_be_bytes w32 (cast_unsigned w32 z)

abbrev pub long_bytes : ℤ → List ℕ
long_bytes z = to_be_bytes w32 (cast_unsigned w32 z)

abbrev pub bit : Bool → ℕ
bit false = 0
bit true = 1

-- the 24 bits of ENTER: seven of required parameters, seven of optional ones, one of the rest parameter, seven of
-- those after it, one of the block, one to spare
abbrev pub word_of : Parameters → ℕ
word_of p = p.required * 131072 + p.optional * 1024 + bit p.rest * 512 + p.post * 4 + bit p.block * 2 + bit p.spare

abbrev pub word_bytes : ℕ → List ℕ
word_bytes n = n / 65536 ∷ n / 256 % 256 ∷ n % 256 ∷ []

abbrev pub shape_bytes : Bool → Shape → Operands → List ℕ
shape_bytes w Z o = []
shape_bytes w B o = index_bytes w o.a
shape_bytes w BB o = index_bytes w o.a ++ index_bytes w o.b
shape_bytes w BBB o = index_bytes w o.a ++ index_bytes w o.b ++ index_bytes w o.c
shape_bytes w BBI o = index_bytes w o.a ++ index_bytes w o.b ++ signed_index_bytes w o.by
shape_bytes w S o = distance_bytes w o.by
shape_bytes w BS o = index_bytes w o.a ++ distance_bytes w o.by
shape_bytes w BSS o = index_bytes w o.a ++ long_bytes o.by
shape_bytes w W o = word_bytes (word_of o.parameters)

abbrev pub operand_bytes : Bool → Operation → List ℕ
operand_bytes w o = shape_bytes w (shape_of (opcode_in o)) (operands_in o)

-- an instruction: EXT where it is wide, its number, and its operands
unfoldable pub encoding : Instruction → List ℕ
encoding i = (if i.wide then ext ∷ [] else []) ++ (number_of (opcode_in i.operation) ∷ operand_bytes i.wide i.operation)

abbrev pub encodings : List Instruction → List ℕ
encodings is = flat_map encoding is

-- what an operand at a place is
abbrev pub index_at : Bool → List ℕ → ℕ → ℕ
index_at false bytes i = slice_index bytes i
index_at true bytes i = from_be_bytes w16 (slice_index bytes i ∷ slice_index bytes (i + 1) ∷ [])

abbrev pub short_at : List ℕ → ℕ → ℤ
short_at bytes i = cast_signed w16 (from_be_bytes w16 (slice_index bytes i ∷ slice_index bytes (i + 1) ∷ []))

abbrev pub long_at : List ℕ → ℕ → ℤ
long_at bytes i =
    cast_signed w32 (from_be_bytes w32 (slice_index bytes i ∷ slice_index bytes (i + 1) ∷ slice_index bytes (i + 2)
    ∷ slice_index bytes (i + 3) ∷ []))

abbrev pub signed_index_at : Bool → List ℕ → ℕ → ℤ
signed_index_at false bytes i = cast_signed w8 (slice_index bytes i)
signed_index_at true bytes i = short_at bytes i

abbrev pub distance_at : Bool → List ℕ → ℕ → ℤ
distance_at false bytes i = short_at bytes i
distance_at true bytes i = long_at bytes i

abbrev pub word_at : List ℕ → ℕ → ℕ
word_at bytes i = slice_index bytes i * 65536 + slice_index bytes (i + 1) * 256 + slice_index bytes (i + 2)

abbrev pub parameters_of : ℕ → Parameters
parameters_of n = record {
  required = n / 131072;
  optional = n / 1024 % 128;
  rest = nat_eq (n / 512 % 2) 1;
  post = n / 4 % 128;
  block = nat_eq (n / 2 % 2) 1;
  spare = nat_eq (n % 2) 1;
}

-- the operands at the front of the bytes
abbrev pub operands : Bool → Shape → List ℕ → Operands
operands w Z bytes = numbers 0 0 0
operands w B bytes = numbers (index_at w bytes 0) 0 0
operands w BB bytes = numbers (index_at w bytes 0) (index_at w bytes (index_size w)) 0
operands w BBB bytes = numbers (index_at w bytes 0) (index_at w bytes (index_size w))
    (index_at w bytes (index_size w + index_size w))
operands w BBI bytes = with_signed (index_at w bytes 0) (index_at w bytes (index_size w))
    (signed_index_at w bytes (index_size w + index_size w))
operands w S bytes = with_signed 0 0 (distance_at w bytes 0)
operands w BS bytes = with_signed (index_at w bytes 0) 0 (distance_at w bytes (index_size w))
operands w BSS bytes = with_signed (index_at w bytes 0) 0 (long_at bytes (index_size w))
operands w W bytes = with_parameters (parameters_of (word_at bytes 0))

-- the instruction with the operands at the front of the bytes after a prefix of this size, and how many bytes
-- it takes in all
abbrev pub body_of : Bool → ℕ → Opcode → List ℕ → Option (Instruction × ℕ)
body_of w prefix o rest =
    if nat_lt (length rest) (operand_size w (shape_of o)) then None
    else Some (
      record {
        wide = w;
        operation = operation_of o (operands w (shape_of o) rest);
      },
      prefix + 1 + operand_size w (shape_of o),
    )

abbrev pub narrow_body : Option Opcode → List ℕ → Option (Instruction × ℕ)
narrow_body None rest = None
narrow_body (Some o) rest = body_of false 0 o rest

-- a wide instruction has an operand that grows
abbrev pub wide_body : Option Opcode → List ℕ → Option (Instruction × ℕ)
wide_body None rest = None
wide_body (Some o) rest = if grows (shape_of o) then body_of true 1 o rest else None

-- the instruction at the front of the bytes, after EXT, without EXT, and either way
unfoldable pub wide_front : List ℕ → Option (Instruction × ℕ)
wide_front [] = None
wide_front (n ∷ rest) = wide_body (opcode_of n) rest

unfoldable pub narrow_front : List ℕ → Option (Instruction × ℕ)
narrow_front [] = None
narrow_front (n ∷ rest) = narrow_body (opcode_of n) rest

unfoldable pub front : List ℕ → Option (Instruction × ℕ)
front [] = None
front (n ∷ rest) = if nat_eq n ext then wide_front rest else narrow_front (n ∷ rest)

-- the instruction that stands whole at a place, with the place after it
abbrev pub placed : ℕ → Option (Instruction × ℕ) → Option (Instruction × ℕ)
placed at None = None
placed at (Some p) = Some (p.0, at + p.1)

unfoldable pub decode_at : List ℕ → ℕ → Option (Instruction × ℕ)
decode_at code at = placed at (narrow_front (drop at code))

unfoldable pub decode_wide_at : List ℕ → ℕ → Option (Instruction × ℕ)
decode_wide_at code at = placed at (front (drop at code))

-- by the version of the code
abbrev pub decode : ℕ → List ℕ → ℕ → Option (Instruction × ℕ)
decode version code at = if nat_eq version 1 then decode_at code at else decode_wide_at code at
