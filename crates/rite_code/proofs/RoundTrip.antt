-- What is spelled is decoded again.
use Rattle.std.proofs.Common.{ℕ, ◌+◌, ◌*◌, ◌/◌, ◌%◌, ◌^◌, ◌<◌, ◌≤◌, ◌≡◌, List, [], ◌∷◌, ◌++◌, length, arith, ap, refl, sym, ◌∙◌, Bool, true, false, ltb}
use Rattle.std.specs.Prelude.{◌&&◌, ℤ, pos, negsuc, IsTrue, Option, Some, nat_eq, if◌then◌else◌}
use Rattle.std.specs.Int.{to_be_bytes, from_be_bytes, cast_unsigned, cast_signed, w8, w16, w32}
use Rattle.std.proofs.lemmas.Nat.{from_be_bytes-to_be_bytes_2, from_be_bytes-to_be_bytes_4}
use Rattle.std.proofs.lemmas.Int.{to_z-of_z}
use Rattle.std.proofs.lemmas.Bool.{ltb-true, le-ltb, and_parts}
use Rattle.std.proofs.lemmas.List.{drop_at, length-append}
use mir.Val.{SFits}
use Rattle.rite_code.specs.declared.opcode.Opcode.{Opcode}
use Rattle.rite_code.specs.declared.opcode.Shape.{Shape}
use Rattle.rite_code.specs.declared.opcode.Shape.TheVariants.{Z, B, BB, BBB, BBI, S, BS, BSS, W}
use Rattle.rite_code.specs.declared.operation.Parameters.{Parameters}
use Rattle.rite_code.specs.declared.operation.Operands.{Operands}
use Rattle.rite_code.specs.declared.operation.Operation.{Operation}
use Rattle.rite_code.specs.Instruction.{Instruction, narrow}
use Rattle.rite_code.specs.Table.{number_of, shape_of, opcode_of}
use Rattle.rite_code.specs.Operation.{opcode_in, operands_in, operation_of, keep, numbers, with_signed, with_parameters}
use Rattle.rite_code.specs.Shape.{size_of, operand_size, grows, fits, fits_as, fits_shape, are_counts, is_byte, is_short, is_two_bytes, is_long, is_signed_byte, is_index, is_signed_index, is_distance}
use Rattle.rite_code.specs.Spelling.{bit, word_of, word_at, word_bytes, parameters_of, operands, shape_bytes, body_of, narrow_body, wide_body, encoding, front, wide_front, narrow_front, placed, decode_at, decode_wide_at, decode, index_bytes, distance_bytes, signed_index_bytes, index_at, signed_index_at, distance_at}
use Rattle.rite_code.proofs.Tables.{opcode_of-number_of, operation_of-keep, number_of-ext}

-- two bytes of a number, and a signed number of one byte, of two and of four
pub two : (n : ℕ) → IsTrue (is_two_bytes n) → from_be_bytes w16 (to_be_bytes w16 n) ≡ n
two n h = from_be_bytes-to_be_bytes_2 n (omega (arith, ltb-true n 65536 h))

byte_fits : (z : ℤ) → IsTrue (is_signed_byte z) → SFits w8 z
byte_fits (pos n) h = record { sfits = omega (arith, ltb-true n 128 h) }
byte_fits (negsuc n) h = record { sfits = omega (arith, ltb-true n 128 h) }

short_fits : (z : ℤ) → IsTrue (is_short z) → SFits w16 z
short_fits (pos n) h = record { sfits = omega (arith, ltb-true n 32768 h) }
short_fits (negsuc n) h = record { sfits = omega (arith, ltb-true n 32768 h) }

long_fits : (z : ℤ) → IsTrue (is_long z) → SFits w32 z
long_fits (pos n) h = record { sfits = omega (arith, ltb-true n 2147483648 h) }
long_fits (negsuc n) h = record { sfits = omega (arith, ltb-true n 2147483648 h) }

short_bits : (z : ℤ) → IsTrue (is_short z) → cast_unsigned w16 z < 2 ^ 16
short_bits (pos n) h = omega (arith, ltb-true n 32768 h)
short_bits (negsuc n) h = omega arith

long_bits : (z : ℤ) → IsTrue (is_long z) → cast_unsigned w32 z < 2 ^ 32
long_bits (pos n) h = omega (arith, ltb-true n 2147483648 h)
long_bits (negsuc n) h = omega arith

pub tiny : (z : ℤ) → IsTrue (is_signed_byte z) → cast_signed w8 (cast_unsigned w8 z) ≡ z
tiny z h = to_z-of_z w8 z (byte_fits z h)

pub short : (z : ℤ) → IsTrue (is_short z)
    → cast_signed w16 (from_be_bytes w16 (to_be_bytes w16 (cast_unsigned w16 z))) ≡ z
short z h = ap (cast_signed w16) (from_be_bytes-to_be_bytes_2 (cast_unsigned w16 z) (short_bits z h))
    ∙ to_z-of_z w16 z (short_fits z h)

pub long : (z : ℤ) → IsTrue (is_long z) → cast_signed w32 (from_be_bytes w32 (to_be_bytes w32 (cast_unsigned w32 z)))
    ≡ z
long z h = ap (cast_signed w32) (from_be_bytes-to_be_bytes_4 (cast_unsigned w32 z) (long_bits z h))
    ∙ to_z-of_z w32 z (long_fits z h)

-- the bits of ENTER
bit_small : (b : Bool) → bit b < 2
bit_small false = omega arith
bit_small true = omega arith

bit_again : (b : Bool) (n : ℕ) → n ≡ bit b → nat_eq n 1 ≡ b
bit_again false n h = rw h refl
bit_again true n h = rw h refl

record Counts (p : Parameters) : Type 0 where
  required : p.required < 128
  optional : p.optional < 128
  post : p.post < 128

counts : (p : Parameters) → IsTrue (are_counts p) → Counts p
counts p h = let last = and_parts (ltb p.required 128 && ltb p.optional 128) (ltb p.post 128) h in
    let first = and_parts (ltb p.required 128) (ltb p.optional 128) last.0 in record {
      required = ltb-true p.required 128 first.0;
      optional = ltb-true p.optional 128 first.1;
      post = ltb-true p.post 128 last.1;
    }

abbrev parameters : ℕ → ℕ → Bool → ℕ → Bool → Bool → Parameters
parameters r o e p b s = record { required = r; optional = o; rest = e; post = p; block = b; spare = s }

same_parameters : {r r' o o' p p' : ℕ} {e e' b b' s s' : Bool} → r ≡ r' → o ≡ o' → e ≡ e' → p ≡ p' → b ≡ b' → s ≡ s'
    → parameters r o e p b s ≡ parameters r' o' e' p' b' s'
same_parameters a b c d e f = cc

pub parameters_again : (p : Parameters) → IsTrue (are_counts p) → parameters_of (word_of p) ≡ p
parameters_again p h =
    let k = counts p h in
    let r = bit_small p.rest in
    let b = bit_small p.block in
    let s = bit_small p.spare in
    same_parameters
    (omega (arith, k.required, k.optional, k.post, r, b, s))
    (omega (arith, k.required, k.optional, k.post, r, b, s))
    (bit_again p.rest _ (omega (arith, k.required, k.optional, k.post, r, b, s)))
    (omega (arith, k.required, k.optional, k.post, r, b, s))
    (bit_again p.block _ (omega (arith, k.required, k.optional, k.post, r, b, s)))
    (bit_again p.spare _ (omega (arith, k.required, k.optional, k.post, r, b, s)))

word_again : (n : ℕ) (rest : List ℕ) → n < 16777216 → word_at (word_bytes n ++ rest) 0 ≡ n
word_again n rest h = omega (arith, h)

word_small : (p : Parameters) → IsTrue (are_counts p) → word_of p < 16777216
word_small p h = let k = counts p h in
    omega (arith, k.required, k.optional, k.post, bit_small p.rest, bit_small p.block, bit_small p.spare)

-- the operands of a shape
numbers_same : {a a' b b' c c' : ℕ} → a ≡ a' → b ≡ b' → c ≡ c' → numbers a b c ≡ numbers a' b' c'
numbers_same p q r = cc

signed_same : {a a' b b' : ℕ} {z z' : ℤ} → a ≡ a' → b ≡ b' → z ≡ z' → with_signed a b z ≡ with_signed a' b' z'
signed_same p q r = cc

narrow_again : (s : Shape) (x : Operands) (rest : List ℕ) → IsTrue (fits_shape false s x)
    → operands false s (shape_bytes false s x ++ rest) ≡ keep s x
narrow_again Z x rest h = refl
narrow_again B x rest h = refl
narrow_again BB x rest h = refl
narrow_again BBB x rest h = refl
narrow_again BBI x rest h = signed_same refl refl
    (tiny x.by (and_parts (is_byte x.a && is_byte x.b) (is_signed_byte x.by) h).1)
narrow_again S x rest h = signed_same refl refl (short x.by h)
narrow_again BS x rest h = signed_same refl refl (short x.by (and_parts (is_byte x.a) (is_short x.by) h).1)
narrow_again BSS x rest h = signed_same refl refl (long x.by (and_parts (is_byte x.a) (is_long x.by) h).1)
narrow_again W x rest h = ap (λ n. with_parameters (parameters_of n))
    (word_again (word_of x.parameters) rest (word_small x.parameters h))
    ∙ ap with_parameters (parameters_again x.parameters h)

wide_again : (s : Shape) (x : Operands) (rest : List ℕ) → IsTrue (fits_shape true s x)
    → operands true s (shape_bytes true s x ++ rest) ≡ keep s x
wide_again Z x rest h = absurd cc
wide_again B x rest h = numbers_same (two x.a h) refl refl
wide_again BB x rest h = let p = and_parts (is_two_bytes x.a) (is_two_bytes x.b) h in
    numbers_same (two x.a p.0) (two x.b p.1) refl
wide_again BBB x rest h = let q = and_parts (is_two_bytes x.a && is_two_bytes x.b) (is_two_bytes x.c) h in
    let p = and_parts (is_two_bytes x.a) (is_two_bytes x.b) q.0 in
    numbers_same (two x.a p.0) (two x.b p.1) (two x.c q.1)
wide_again BBI x rest h = let q = and_parts (is_two_bytes x.a && is_two_bytes x.b) (is_short x.by) h in
    let p = and_parts (is_two_bytes x.a) (is_two_bytes x.b) q.0 in
    signed_same (two x.a p.0) (two x.b p.1) (short x.by q.1)
wide_again S x rest h = signed_same refl refl (long x.by h)
wide_again BS x rest h = let p = and_parts (is_two_bytes x.a) (is_long x.by) h in
    signed_same (two x.a p.0) refl (long x.by p.1)
wide_again BSS x rest h = let p = and_parts (is_two_bytes x.a) (is_long x.by) h in
    signed_same (two x.a p.0) refl (long x.by p.1)
wide_again W x rest h = absurd cc

operands_again : (w : Bool) (s : Shape) (x : Operands) (rest : List ℕ) → IsTrue (fits_shape w s x)
    → operands w s (shape_bytes w s x ++ rest) ≡ keep s x
operands_again false s x rest h = narrow_again s x rest h
operands_again true s x rest h = wide_again s x rest h

pub length-shape_bytes : (w : Bool) (s : Shape) (x : Operands) → length (shape_bytes w s x) ≡ operand_size w s
length-shape_bytes false Z x = refl
length-shape_bytes false B x = refl
length-shape_bytes false BB x = refl
length-shape_bytes false BBB x = refl
length-shape_bytes false BBI x = refl
length-shape_bytes false S x = refl
length-shape_bytes false BS x = refl
length-shape_bytes false BSS x = refl
length-shape_bytes false W x = refl
length-shape_bytes true Z x = refl
length-shape_bytes true B x = refl
length-shape_bytes true BB x = refl
length-shape_bytes true BBB x = refl
length-shape_bytes true BBI x = refl
length-shape_bytes true S x = refl
length-shape_bytes true BS x = refl
length-shape_bytes true BSS x = refl
length-shape_bytes true W x = refl

long_enough : (w : Bool) (s : Shape) (x : Operands) (rest : List ℕ)
    → ltb (length (shape_bytes w s x ++ rest)) (operand_size w s) ≡ false
long_enough w s x rest = le-ltb _ _ (simp (length-append, length-shape_bytes w s x) (omega arith))

body_again : (w : Bool) (prefix : ℕ) (op : Opcode) (x : Operands) (rest : List ℕ)
    → IsTrue (fits_shape w (shape_of op) x)
    → body_of w prefix op (shape_bytes w (shape_of op) x ++ rest) ≡ Some (
      record {
        wide = w;
        operation = operation_of op (keep (shape_of op) x);
      },
      prefix + 1 + operand_size w (shape_of op),
    )
body_again w prefix op x rest h = rw (long_enough w (shape_of op) x rest, operands_again w (shape_of op) x rest h) refl

wide_grows : (s : Shape) (x : Operands) → IsTrue (fits_shape true s x) → grows s ≡ true
wide_grows Z x h = absurd cc
wide_grows B x h = refl
wide_grows BB x h = refl
wide_grows BBB x h = refl
wide_grows BBI x h = refl
wide_grows S x h = refl
wide_grows BS x h = refl
wide_grows BSS x h = refl
wide_grows W x h = absurd cc

abbrev whole : Bool → Operation → ℕ → Option (Instruction × ℕ)
whole w o size = Some (record { wide = w; operation = o }, size)

narrow_front_again : (o : Operation) (rest : List ℕ) → IsTrue (fits_as false o) → narrow_front (encoding (record {
  wide = false;
  operation = o;
}) ++ rest) ≡ whole false o (1 + operand_size false (shape_of (opcode_in o)))
unfolding encoding narrow_front
narrow_front_again o rest h = rw (opcode_of-number_of (opcode_in o))
    (body_again false 0 (opcode_in o) (operands_in o) rest h
    ∙ ap (λ p. whole false p (1 + operand_size false (shape_of (opcode_in o)))) (operation_of-keep o))

front_narrow : (o : Operation) (rest : List ℕ) → IsTrue (fits_as false o) → front (encoding (record {
  wide = false;
  operation = o;
}) ++ rest) ≡ whole false o (1 + operand_size false (shape_of (opcode_in o)))
unfolding encoding front narrow_front
front_narrow o rest h = rw (number_of-ext (opcode_in o)) (narrow_front_again o rest h)

front_wide : (o : Operation) (rest : List ℕ) → IsTrue (fits_as true o) → front (encoding (record {
  wide = true;
  operation = o;
}) ++ rest) ≡ whole true o (2 + operand_size true (shape_of (opcode_in o)))
unfolding encoding front wide_front
front_wide o rest h = rw (opcode_of-number_of (opcode_in o), wide_grows (shape_of (opcode_in o)) (operands_in o) h)
    (body_again true 1 (opcode_in o) (operands_in o) rest h
    ∙ ap (λ p. whole true p (2 + operand_size true (shape_of (opcode_in o)))) (operation_of-keep o))

length-encoding : (w : Bool) (o : Operation) → length (encoding (record {
  wide = w;
  operation = o;
})) ≡ (if w then 2 else 1) + operand_size w (shape_of (opcode_in o))
unfolding encoding
length-encoding false o = omega (arith, length-shape_bytes false (shape_of (opcode_in o)) (operands_in o))
length-encoding true o = omega (arith, length-shape_bytes true (shape_of (opcode_in o)) (operands_in o))

front_as : (w : Bool) (o : Operation) (rest : List ℕ) → IsTrue (fits_as w o) → front (encoding (record {
  wide = w;
  operation = o;
}) ++ rest)
    ≡ Some (record { wide = w; operation = o }, length (encoding (record { wide = w; operation = o })))
front_as false o rest h = front_narrow o rest h ∙ ap (whole false o) (sym (length-encoding false o))
front_as true o rest h = front_wide o rest h ∙ ap (whole true o) (sym (length-encoding true o))

front_encoding : (i : Instruction) (rest : List ℕ) → IsTrue (fits i)
    → front (encoding i ++ rest) ≡ Some (i, length (encoding i))
front_encoding i rest h = front_as i.wide i.operation rest h

pub decode_encoded : (pre rest : List ℕ) (i : Instruction) → IsTrue (fits i)
    → decode_wide_at (pre ++ (encoding i ++ rest)) (length pre) ≡ Some (i, length pre + length (encoding i))
unfolding decode_wide_at
decode_encoded pre rest i h = ap (λ (bytes : List ℕ). placed (length pre) (front bytes))
    (drop_at pre (encoding i ++ rest) (length pre) refl) ∙ ap (placed (length pre)) (front_encoding i rest h)

-- a narrow instruction is decoded without EXT, too
pub decode_narrow : (pre rest : List ℕ) (o : Operation) → IsTrue (fits_as false o)
    → decode_at (pre ++ (encoding (narrow o) ++ rest)) (length pre) ≡ Some (narrow o, length pre + size_of o)
unfolding decode_at
decode_narrow pre rest o h = ap (λ (bytes : List ℕ). placed (length pre) (narrow_front bytes))
    (drop_at pre (encoding (narrow o) ++ rest) (length pre) refl)
    ∙ ap (placed (length pre)) (narrow_front_again o rest h)

pub length-encoding_narrow : (o : Operation) → length (encoding (narrow o)) ≡ size_of o
length-encoding_narrow o = length-encoding false o
