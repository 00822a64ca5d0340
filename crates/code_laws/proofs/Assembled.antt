-- The layout of code that is assembled of lines: each instruction stands where its line is placed.
use Rattle.std.proofs.Common.{◌≡◌, ◌<◌, ◌≤◌, ℕ, zero, suc, ◌+◌, ℤ, pos, negsuc, List, [], ◌∷◌, ◌++◌, length, get_or, arith, refl, sym, ap, ◌∙◌, Bool, true, false, nat_eq, length-append, append_assoc}
use Rattle.std.specs.Prelude.{Option, Some, None, ◌-ℤ◌, ◌+ℤ◌, ◌||◌, not}
use Rattle.std.proofs.lemmas.List.{drop_all}
use Rattle.std.proofs.lemmas.Bool.{lt-ltb, eq-eqb}
use Rattle.std.proofs.lemmas.Int.{ints}
use Rattle.rite_code.specs.declared.operation.Operation.{Operation}
use Rattle.rite_code.specs.declared.operation.Operation.TheVariants as op
use Rattle.rite_code.specs.declared.opcode.Shape.{Shape}
use Rattle.rite_code.specs.declared.opcode.Shape.TheVariants as shape
use Rattle.rite_code.specs.Instruction.{Instruction, instruction}
use Rattle.rite_code.specs.Operation.{opcode_in, operands_in}
use Rattle.rite_code.specs.Table.{shape_of}
use Rattle.rite_code.specs.Shape.{operand_size, fits, fits_as, is_short, is_long, is_distance}
use Rattle.rite_code.specs.Spelling.{encoding, encodings, decode, decode_wide_at, front, placed}
use Rattle.rite_code.proofs.RoundTrip.{decode_encoded, length-shape_bytes}
use Rattle.code_outline.specs.Layout.{Standing, begun, standings, layout, end_of, is_start}
use Rattle.code_verifier.specs.Checks.{leads_to_start, read_whole}
use Rattle.gen_parts.specs.declared.line.Line.{Line}
use Rattle.gen_parts.specs.declared.line.Line.TheVariants as line
use Rattle.gen_parts.specs.Assembly.{size_of, size, places, instruction_before, instructions}
use Rattle.code_laws.proofs.Wells.{weight_of, weights}

-- ## Instructions, one after the other

unfoldable pub standing_of : ℕ → List Instruction → List Standing
standing_of at [] = []
standing_of at (i ∷ is) = record { at = at; next = at + size_of i; instruction = i } ∷ standing_of (at + size_of i) is

abbrev pub AllFit : List Instruction → Type 0
AllFit [] = Unit
AllFit (i ∷ is) = (fits i ≡ true) × AllFit is

abbrev pub total : List Instruction → ℕ
total [] = 0
total (i ∷ is) = size_of i + total is

encoded_size : (w : Bool) (o : Operation) → length (encoding (instruction w o)) ≡ size_of (instruction w o)
unfolding encoding
encoded_size false o = omega (arith, length-shape_bytes false (shape_of (opcode_in o)) (operands_in o))
encoded_size true o = omega (arith, length-shape_bytes true (shape_of (opcode_in o)) (operands_in o))

pub length_encodings : (is : List Instruction) → length (encodings is) ≡ total is
length_encodings [] = refl
length_encodings (i ∷ is) =
    length-append (encoding i) (encodings is)
    ∙ omega (arith, encoded_size i.wide i.operation, length_encodings is)

some_size : (w : Bool) (o : Operation) → 0 < size_of (instruction w o)
some_size false o = omega arith
some_size true o = omega arith

short : (is : List Instruction) → length is ≤ total is
short [] = omega arith
short (i ∷ is) = omega (arith, short is, some_size i.wide i.operation)

-- nothing can be read at the end
read_past : (code : List ℕ) (at : ℕ) → length code ≤ at → decode 2 code at ≡ None
unfolding decode_wide_at front
read_past code at h = ap (λ (bytes : List ℕ). placed at (front bytes)) (drop_all at code h)

read_there : (code bytes : List ℕ) (at : ℕ) (i : Instruction) (is : List Instruction)
    → code ≡ bytes ++ encodings (i ∷ is)
    → length bytes ≡ at → fits i ≡ true → decode 2 code at ≡ Some (i, at + size_of i)
read_there code bytes at i is e long fit =
    ap (λ (c : List ℕ). decode_wide_at c at) e
    ∙ ap (decode_wide_at (bytes ++ (encoding i ++ encodings is))) (sym long)
    ∙ decode_encoded bytes (encodings is) i fit
    ∙ ap (λ (n : ℕ). Some (i, n)) (omega (arith, long, encoded_size i.wide i.operation))

laid : (is : List Instruction) (code bytes : List ℕ) (at most : ℕ) → code ≡ bytes ++ encodings is → length bytes ≡ at
    → AllFit is → length is ≤ most → standings most 2 code at ≡ standing_of at is
unfolding standings standing_of
laid [] code bytes at zero e long fit h = refl
laid [] code bytes at (suc most) e long fit h =
    ap (λ (found : Option (Instruction × ℕ)). begun at found (standings most 2 code))
    (read_past code at (omega (arith, ap length e, length-append bytes [], long)))
laid (i ∷ is) code bytes at zero e long fit h = absurd (omega (arith, h))
laid (i ∷ is) code bytes at (suc most) e long fit h =
    let size = encoded_size i.wide i.operation in
    ap (λ (found : Option (Instruction × ℕ)). begun at found (standings most 2 code))
    (read_there code bytes at i is e long fit.0)
    ∙ ap (λ (ss : List Standing). record { at = at; next = at + size_of i; instruction = i } ∷ ss)
    (laid is code (bytes ++ encoding i) (at + size_of i) most
    (e ∙ sym (append_assoc bytes (encoding i) (encodings is)))
    (omega (arith, length-append bytes (encoding i), long, size)) fit.1 (omega (arith, h)))

pub layout_is : (is : List Instruction) → AllFit is → layout 2 (encodings is) ≡ standing_of 0 is
unfolding layout
layout_is is fit =
    laid is (encodings is) [] 0 (length (encodings is)) refl refl fit (omega (arith, short is, length_encodings is))

pub end_is : (at : ℕ) (is : List Instruction) → end_of at (standing_of at is) ≡ at + total is
unfolding end_of standing_of
end_is at [] = omega arith
end_is at (i ∷ is) = end_is (at + size_of i) is ∙ omega arith

pub read_all : (code : List ℕ) (end : ℕ) → 0 < length code → end ≡ length code → read_whole 2 code end ≡ None
read_all [] end some e = absurd (omega (arith, some))
read_all (n ∷ rest) end some e = rw (eq-eqb end (length rest + 1) (omega (arith, e))) refl

-- ## Lines

pub same_size : (wide : Bool) (at : List ℕ) (next : ℕ) (l : Line)
    → size_of (instruction_before wide at next l) ≡ size wide l
unfolding instruction_before
same_size wide at next (line.Does o) = refl
same_size wide at next (line.Jump to) = refl
same_size wide at next (line.JumpIf r to) = refl
same_size wide at next (line.JumpNot r to) = refl
same_size wide at next (line.Leave to) = refl

unfoldable pub sizes : Bool → List Line → ℕ
sizes wide [] = 0
sizes wide (l ∷ ls) = size wide l + sizes wide ls

pub total_is : (wide : Bool) (at : List ℕ) (here : ℕ) (ls : List Line) → total (instructions wide at here ls) ≡ sizes
    wide ls
unfolding sizes
total_is wide at here [] = refl
total_is wide at here (l ∷ ls) =
    omega (arith, same_size wide at (here + size wide l) l, total_is wide at (here + size wide l) ls)

-- the instruction of a line, and those of the lines behind it
pub standing_lines : (wide : Bool) (at : List ℕ) (here : ℕ) (l : Line) (ls : List Line)
    → standing_of here (instructions wide at here (l ∷ ls))
    ≡ record { at = here; next = here + size wide l; instruction = instruction_before wide at (here + size wide l) l }
    ∷ standing_of (here + size wide l) (instructions wide at (here + size wide l) ls)
unfolding standing_of
standing_lines wide at here l ls =
    let i = instruction_before wide at (here + size wide l) l in
    let rest = instructions wide at (here + size wide l) ls in
    ap (λ (n : ℕ). record { at = here; next = here + n; instruction = i } ∷ standing_of (here + n) rest)
    (same_size wide at (here + size wide l) l)

pub some_line : (wide : Bool) (l : Line) → 0 < size wide l
some_line wide (line.Does o) = some_size (not (fits_as false o)) o
some_line wide (line.Jump to) = some_size wide (op.Jmp (pos 0))
some_line wide (line.JumpIf r to) = some_size wide (op.JmpIf r (pos 0))
some_line wide (line.JumpNot r to) = some_size wide (op.JmpNot r (pos 0))
some_line wide (line.Leave to) = some_size wide (op.JmpUw (pos 0))

-- no line takes more than its weight
shape_least : (s : Shape) → operand_size false s ≤ operand_size true s
shape_least shape.Z = omega arith
shape_least shape.B = omega arith
shape_least shape.BB = omega arith
shape_least shape.BBB = omega arith
shape_least shape.BBI = omega arith
shape_least shape.S = omega arith
shape_least shape.BS = omega arith
shape_least shape.BSS = omega arith
shape_least shape.W = omega arith

by_weight : (w : Bool) (o : Operation) → size_of (instruction w o) ≤ 2 + operand_size true (shape_of (opcode_in o))
by_weight false o = omega (arith, shape_least (shape_of (opcode_in o)))
by_weight true o = omega arith

line_weight : (wide : Bool) (l : Line) → size wide l ≤ weight_of l
line_weight wide (line.Does o) = by_weight (not (fits_as false o)) o
line_weight wide (line.Jump to) = by_weight wide (op.Jmp (pos 0))
line_weight wide (line.JumpIf r to) = by_weight wide (op.JmpIf r (pos 0))
line_weight wide (line.JumpNot r to) = by_weight wide (op.JmpNot r (pos 0))
line_weight wide (line.Leave to) = by_weight wide (op.JmpUw (pos 0))

pub sizes_weights : (wide : Bool) (ls : List Line) → sizes wide ls ≤ weights ls
unfolding sizes
sizes_weights wide [] = omega arith
sizes_weights wide (l ∷ ls) = omega (arith, line_weight wide l, sizes_weights wide ls)

-- ## Places

pub place_starts : (wide : Bool) (at : List ℕ) (here n : ℕ) (ls : List Line) → n < length ls
    → is_start (standing_of here (instructions wide at here ls)) (get_or (places wide here ls) n 0) ≡ true
place_starts wide at here n [] h = absurd (omega (arith, h))
place_starts wide at here zero (l ∷ ls) h =
    ap (λ ss. is_start ss here) (standing_lines wide at here l ls) ∙ rw (eq-eqb here here refl) refl
place_starts wide at here (suc n) (l ∷ ls) h =
    let to = get_or (places wide (here + size wide l) ls) n 0 in
    ap (λ ss. is_start ss to) (standing_lines wide at here l ls)
    ∙ second (nat_eq here to) (place_starts wide at (here + size wide l) n ls (omega (arith, h)))
  where
    second : {r : Bool} → (b : Bool) → r ≡ true → (b || r) ≡ true
    second true e = refl
    second false e = e

pub place_least : (wide : Bool) (here n : ℕ) (ls : List Line) → n ≤ length ls → here ≤ get_or (places wide here ls) n 0
place_least wide here zero [] h = omega arith
place_least wide here (suc n) [] h = absurd (omega (arith, h))
place_least wide here zero (l ∷ ls) h = omega arith
place_least wide here (suc n) (l ∷ ls) h =
    omega (arith, place_least wide (here + size wide l) n ls (omega (arith, h)))

pub place_most : (wide : Bool) (here n : ℕ) (ls : List Line) → n ≤ length ls
    → get_or (places wide here ls) n 0 ≤ here + sizes wide ls
unfolding sizes
place_most wide here zero [] h = omega arith
place_most wide here (suc n) [] h = absurd (omega (arith, h))
place_most wide here zero (l ∷ ls) h = omega arith
place_most wide here (suc n) (l ∷ ls) h =
    omega (arith, place_most wide (here + size wide l) n ls (omega (arith, h)))

pub places_rise : (wide : Bool) (here n k : ℕ) (ls : List Line) → n < k → k ≤ length ls
    → get_or (places wide here ls) n 0 < get_or (places wide here ls) k 0
places_rise wide here n zero ls h g = absurd (omega (arith, h))
places_rise wide here n (suc k) [] h g = absurd (omega (arith, g))
places_rise wide here zero (suc k) (l ∷ ls) h g =
    omega (arith, place_least wide (here + size wide l) k ls (omega (arith, g)), some_line wide l)
places_rise wide here (suc n) (suc k) (l ∷ ls) h g =
    places_rise wide (here + size wide l) n k ls (omega (arith, h)) (omega (arith, g))

-- ## Jumps

leads : (ss : List Standing) (to : ℕ) (z : ℤ) → z ≡ pos to → is_start ss to ≡ true → leads_to_start ss z ≡ true
leads ss to (pos n) e h = let same : n ≡ to = omega (arith, ints, e) in ap (is_start ss) same ∙ h
leads ss to (negsuc n) e h = absurd (cc)

pub leads_there : (ss : List Standing) (next to : ℕ) → is_start ss to ≡ true
    → leads_to_start ss (pos next +ℤ (pos to -ℤ pos next)) ≡ true
leads_there ss next to h = leads ss to (pos next +ℤ (pos to -ℤ pos next)) (omega (arith, ints)) h

-- a distance between places of code that isn't long
short_distance : (z : ℤ) (to next : ℕ) → z ≡ pos to -ℤ pos next → to ≤ 32767 → next ≤ 32767 → is_short z ≡ true
short_distance (pos n) to next e h k = lt-ltb n 32768 (let few : n ≤ to = omega (arith, ints, e) in omega
    (arith, few, h))
short_distance (negsuc n) to next e h k =
    lt-ltb n 32768 (let few : n < next = omega (arith, ints, e) in omega (arith, few, k))

long_distance : (z : ℤ) (to next : ℕ) → z ≡ pos to -ℤ pos next → to ≤ 4194303 → next ≤ 4194303 → is_long z ≡ true
long_distance (pos n) to next e h k =
    lt-ltb n 2147483648 (let few : n ≤ to = omega (arith, ints, e) in omega (arith, few, h))
long_distance (negsuc n) to next e h k =
    lt-ltb n 2147483648 (let few : n < next = omega (arith, ints, e) in omega (arith, few, k))

pub distance_fits : (wide : Bool) (to next : ℕ) → (wide ≡ false → (to ≤ 32767) × (next ≤ 32767)) → to ≤ 4194303
    → next ≤ 4194303 → is_distance wide (pos to -ℤ pos next) ≡ true
distance_fits true to next f h k = long_distance (pos to -ℤ pos next) to next refl h k
distance_fits false to next f h k = short_distance (pos to -ℤ pos next) to next refl (f refl).0 (f refl).1
