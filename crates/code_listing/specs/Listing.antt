-- The listing of a program: a line for each body, and in it one for each instruction, catch entry, pool entry and
-- symbol.
use Rattle.std.specs.Prelude.{ℕ, ◌+◌, ◌-◌, ℤ, pos, ◌+ℤ◌, List, [], ◌∷◌, ◌++◌, Bool, ◌&&◌, nat_le, nat_lt, length, codes, decimal, replicate, flat_map, if◌then◌else◌}
use Rattle.std.specs.Fmt.{signed_decimal}
use Rattle.rite_code.specs.declared.code.Irep.{Irep}
use Rattle.rite_code.specs.declared.code.CatchEntry.{CatchEntry}
use Rattle.rite_code.specs.declared.code.PoolItem.{PoolItem}
use Rattle.rite_code.specs.declared.code.PoolItem.TheVariants.{Int, Text}
use Rattle.rite_code.specs.declared.opcode.Opcode.{Opcode}
use Rattle.rite_code.specs.declared.opcode.Opcode.TheVariants as opcode
use Rattle.rite_code.specs.declared.opcode.Shape.{Shape}
use Rattle.rite_code.specs.declared.opcode.Shape.TheVariants.{Z, B, BB, BBB, BBI, S, BS, BSS, W}
use Rattle.rite_code.specs.declared.operation.Operands.{Operands}
use Rattle.rite_code.specs.declared.operation.Operation.{Operation}
use Rattle.rite_code.specs.Code.{Program}
use Rattle.rite_code.specs.Operation.{opcode_in, operands_in}
use Rattle.rite_code.specs.Spelling.{word_of}
use Rattle.rite_code.specs.Table.{number_of, name_of, shape_of}
use Rattle.code_outline.specs.Layout.{Standing, layout, end_of}
use Rattle.code_listing.specs.Inspect.{inspected}

abbrev pub line : List ℕ → List ℕ
line text = text ++ 10 ∷ []

-- the zeros in front of so many digits, so that there are five
abbrev pub zeros_before : ℕ → List ℕ
zeros_before digits = replicate (5 - digits) 48

unfoldable pub address : ℕ → List ℕ
address at = zeros_before (length (decimal at)) ++ decimal at

-- each after a space
abbrev pub number : ℕ → List ℕ
number n = 32 ∷ decimal n

abbrev pub signed_number : ℤ → List ℕ
signed_number z = 32 ∷ signed_decimal z

-- JMP, JMPIF, JMPNOT and JMPUW stand side by side in the table
abbrev pub is_jump : Opcode → Bool
is_jump o = nat_le (number_of opcode.Jmp) (number_of o) && nat_le (number_of o) (number_of opcode.JmpUw)

-- a jump shows its target, from the place after the instruction
abbrev pub signed_shown : ℕ → Opcode → ℤ → ℤ
signed_shown next o by = if is_jump o then pos next +ℤ by else by

-- the operands as the shape has them; ENTER shows its 24 bits as one number
abbrev pub numbers_shown : Shape → Operands → ℤ → List ℤ
numbers_shown Z o by = []
numbers_shown B o by = pos o.a ∷ []
numbers_shown BB o by = pos o.a ∷ (pos o.b ∷ [])
numbers_shown BBB o by = pos o.a ∷ (pos o.b ∷ (pos o.c ∷ []))
numbers_shown BBI o by = pos o.a ∷ (pos o.b ∷ (by ∷ []))
numbers_shown S o by = by ∷ []
numbers_shown BS o by = pos o.a ∷ (by ∷ [])
numbers_shown BSS o by = pos o.a ∷ (by ∷ [])
numbers_shown W o by = pos (word_of o.parameters) ∷ []

abbrev pub operands_shown : ℕ → Operation → List ℤ
operands_shown next o = numbers_shown (shape_of (opcode_in o)) (operands_in o)
    (signed_shown next (opcode_in o) (operands_in o).by)

-- a wide instruction shows its prefix
abbrev pub prefix : Bool → List ℕ
prefix wide = if wide then codes " EXT " else codes " "

abbrev pub mnemonic : Bool → Opcode → List ℕ
mnemonic wide o = prefix wide ++ name_of o

unfoldable pub instruction_line : Standing → List ℕ
instruction_line s =
    line (address s.at ++ (mnemonic s.instruction.wide (opcode_in s.instruction.operation) ++ flat_map signed_number
    (operands_shown s.next s.instruction.operation)))

unfoldable pub unreadable_line : ℕ → List ℕ
unreadable_line at = line (address at ++ codes " ???")

-- the instructions from a place on, and a line where reading ends within the code
abbrev pub lines_from : List ℕ → ℕ → List Standing → List ℕ
lines_from code at ss = flat_map instruction_line ss
    ++ (if nat_lt (end_of at ss) (length code) then unreadable_line (end_of at ss) else [])

unfoldable pub code_lines : ℕ → List ℕ → List ℕ
code_lines version code = lines_from code 0 (layout version code)

abbrev pub reach : Bool → List ℕ
reach rescue = if rescue then codes "rescue" else codes "ensure"

unfoldable pub catch_line : CatchEntry → List ℕ
catch_line c = line (codes "catch " ++ (reach c.rescue ++ (number c.begin ++ (number c.end ++ number c.target))))

-- the end of a line: a text in quotes, and an integer
unfoldable pub text_end : List ℕ → List ℕ
text_end text = line (inspected text)

abbrev pub integer_end : ℤ → List ℕ
integer_end z = line (signed_decimal z)

unfoldable pub pool_line : ℕ → PoolItem → List ℕ
pool_line n (Int z) = (codes "pool " ++ (decimal n ++ codes " int ")) ++ integer_end z
pool_line n (Text bytes) = (codes "pool " ++ (decimal n ++ codes " str ")) ++ text_end bytes

unfoldable pub symbol_line : ℕ → List ℕ → List ℕ
symbol_line n name = (codes "sym " ++ (decimal n ++ codes " ")) ++ text_end name

unfoldable pub head_line : ℕ → Irep → List ℕ
head_line n b =
    line (codes "irep " ++ (decimal n
    ++ (codes " locals " ++ (decimal b.locals
    ++ (codes " registers " ++ (decimal b.registers ++ (codes " children " ++ decimal (length b.children))))))))

-- the texts of a list's entries, each by its number
unfoldable pub numbered : {A : Type 0} → (ℕ → A → List ℕ) → ℕ → List A → List ℕ
numbered f n [] = []
numbered f n (x ∷ xs) = f n x ++ numbered f (n + 1) xs

unfoldable pub body_lines : ℕ → ℕ → Irep → List ℕ
body_lines version n b =
    head_line n b ++ (code_lines version b.code
    ++ (flat_map catch_line b.catches ++ (numbered pool_line 0 b.pool ++ numbered symbol_line 0 b.symbols)))

-- the bodies by number
unfoldable pub listing_of : Program → List ℕ
listing_of p = numbered (body_lines p.version) 0 p.bodies
