-- How many bytes an instruction takes, and which operands fit them.
use Rattle.std.specs.Prelude.{ℕ, ◌+◌, ℤ, pos, negsuc, Bool, true, false, ◌&&◌, not, nat_lt}
use Rattle.rite_code.specs.declared.opcode.Shape.{Shape}
use Rattle.rite_code.specs.declared.opcode.Shape.TheVariants.{Z, B, BB, BBB, BBI, S, BS, BSS, W}
use Rattle.rite_code.specs.declared.operation.Parameters.{Parameters}
use Rattle.rite_code.specs.declared.operation.Operands.{Operands}
use Rattle.rite_code.specs.declared.operation.Operation.{Operation}
use Rattle.rite_code.specs.Table.{shape_of}
use Rattle.rite_code.specs.Operation.{opcode_in, operands_in}
use Rattle.rite_code.specs.Instruction.{Instruction}

-- how many bytes an operand takes: an index, and a distance
abbrev pub index_size : Bool → ℕ
index_size false = 1
index_size true = 2

abbrev pub distance_size : Bool → ℕ
distance_size false = 2
distance_size true = 4

-- how many bytes the operands take
abbrev pub operand_size : Bool → Shape → ℕ
operand_size w Z = 0
operand_size w B = index_size w
operand_size w BB = index_size w + index_size w
operand_size w BBB = index_size w + index_size w + index_size w
operand_size w BBI = index_size w + index_size w + index_size w
operand_size w S = distance_size w
operand_size w BS = index_size w + distance_size w
operand_size w BSS = index_size w + 4
operand_size w W = 3

-- the bytes of an instruction without EXT
abbrev pub size_of : Operation → ℕ
size_of o = 1 + operand_size false (shape_of (opcode_in o))

-- a byte; two bytes; a byte, two bytes and four bytes, signed
abbrev pub is_byte : ℕ → Bool
is_byte n = nat_lt n 256

abbrev pub is_two_bytes : ℕ → Bool
is_two_bytes n = nat_lt n 65536

abbrev pub is_signed_byte : ℤ → Bool
is_signed_byte (pos n) = nat_lt n 128
is_signed_byte (negsuc n) = nat_lt n 128

abbrev pub is_short : ℤ → Bool
is_short (pos n) = nat_lt n 32768
is_short (negsuc n) = nat_lt n 32768

abbrev pub is_long : ℤ → Bool
is_long (pos n) = nat_lt n 2147483648
is_long (negsuc n) = nat_lt n 2147483648

-- an operand of an instruction that is wide or not
abbrev pub is_index : Bool → ℕ → Bool
is_index false n = is_byte n
is_index true n = is_two_bytes n

abbrev pub is_signed_index : Bool → ℤ → Bool
is_signed_index false z = is_signed_byte z
is_signed_index true z = is_short z

abbrev pub is_distance : Bool → ℤ → Bool
is_distance false z = is_short z
is_distance true z = is_long z

-- seven bits a count
abbrev pub are_counts : Parameters → Bool
are_counts p = nat_lt p.required 128 && nat_lt p.optional 128 && nat_lt p.post 128

-- whether the shape has an operand that grows with EXT
abbrev pub grows : Shape → Bool
grows Z = false
grows B = true
grows BB = true
grows BBB = true
grows BBI = true
grows S = true
grows BS = true
grows BSS = true
grows W = false

-- whether the operands that the shape has fit it
abbrev pub fits_shape : Bool → Shape → Operands → Bool
fits_shape w Z o = not w
fits_shape w B o = is_index w o.a
fits_shape w BB o = is_index w o.a && is_index w o.b
fits_shape w BBB o = is_index w o.a && is_index w o.b && is_index w o.c
fits_shape w BBI o = is_index w o.a && is_index w o.b && is_signed_index w o.by
fits_shape w S o = is_distance w o.by
fits_shape w BS o = is_index w o.a && is_distance w o.by
fits_shape w BSS o = is_index w o.a && is_long o.by
fits_shape w W o = not w && are_counts o.parameters

abbrev pub fits_as : Bool → Operation → Bool
fits_as w o = fits_shape w (shape_of (opcode_in o)) (operands_in o)

abbrev pub fits : Instruction → Bool
fits i = fits_as i.wide i.operation
