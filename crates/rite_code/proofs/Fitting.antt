-- What is decoded fits.
use Rattle.std.proofs.Common.{ℕ, ◌+◌, ◌<◌, ◌/◌, ◌%◌, List, [], ◌∷◌, get_or, arith, refl, Bool, true, false, suc, ◌-◌, inl, inr}
use Rattle.std.specs.Prelude.{not, IsTrue}
use Rattle.std.specs.Int.{from_be_bytes, cast_signed, w8, w16, w32}
use Rattle.std.proofs.lemmas.Bool.{lt-ltb, le-ltb, and_from, cases_lt}
use Rattle.rite_code.specs.declared.opcode.Opcode.{Opcode}
use Rattle.rite_code.specs.declared.opcode.Shape.{Shape}
use Rattle.rite_code.specs.declared.opcode.Shape.TheVariants.{Z, B, BB, BBB, BBI, S, BS, BSS, W}
use Rattle.rite_code.specs.Table.{shape_of}
use Rattle.rite_code.specs.Operation.{operation_of, keep}
use Rattle.rite_code.specs.Shape.{fits_as, fits_shape, grows, index_size, are_counts, is_index, is_signed_index, is_signed_byte, is_distance, is_short, is_long}
use Rattle.rite_code.specs.Spelling.{operands, index_at, signed_index_at, distance_at, long_at, short_at, word_at, parameters_of}
use Rattle.rite_code.proofs.Tables.{opcode_in-operation_of, operands_in-operation_of}

-- a list of bytes
abbrev pub AreBytes : List ℕ → Type 0
AreBytes bytes = (i : ℕ) → get_or bytes i 0 < 256

index_fits : (w : Bool) (bytes : List ℕ) (i : ℕ) → AreBytes bytes → IsTrue (is_index w (index_at w bytes i))
index_fits false bytes i h = lt-ltb _ _ (h i)
index_fits true bytes i h = lt-ltb _ _ (omega (arith, h i, h (i + 1)))

signed_byte : (n : ℕ) → n < 256 → IsTrue (is_signed_byte (cast_signed w8 n))
signed_byte n h =
    elim (cases_lt n 128) [
      | inl lt ↦ rw (lt-ltb n 128 lt) (lt-ltb n 128 lt)
      | inr le ↦ rw (le-ltb n 128 le) (lt-ltb (256 - suc n) 128 (omega arith))
    ]

signed_short : (n : ℕ) → n < 65536 → IsTrue (is_short (cast_signed w16 n))
signed_short n h =
    elim (cases_lt n 32768) [
      | inl lt ↦ rw (lt-ltb n 32768 lt) (lt-ltb n 32768 lt)
      | inr le ↦ rw (le-ltb n 32768 le) (lt-ltb (65536 - suc n) 32768 (omega arith))
    ]

signed_long : (n : ℕ) → n < 4294967296 → IsTrue (is_long (cast_signed w32 n))
signed_long n h =
    elim (cases_lt n 2147483648) [
      | inl lt ↦ rw (lt-ltb n 2147483648 lt) (lt-ltb n 2147483648 lt)
      | inr le ↦ rw (le-ltb n 2147483648 le) (lt-ltb (4294967296 - suc n) 2147483648 (omega arith))
    ]

short_fits : (bytes : List ℕ) (i : ℕ) → AreBytes bytes → IsTrue (is_short (short_at bytes i))
short_fits bytes i h = signed_short (from_be_bytes w16 (get_or bytes i 0 ∷ get_or bytes (i + 1) 0 ∷ []))
    (omega (arith, h i, h (i + 1)))

long_fits : (bytes : List ℕ) (i : ℕ) → AreBytes bytes → IsTrue (is_long (long_at bytes i))
long_fits bytes i h =
    signed_long (from_be_bytes w32 (get_or bytes i 0 ∷ get_or bytes (i + 1) 0 ∷ get_or bytes (i + 2) 0 ∷ get_or bytes
    (i + 3) 0 ∷ [])) (omega (arith, h i, h (i + 1), h (i + 2), h (i + 3)))

signed_index_fits : (w : Bool) (bytes : List ℕ) (i : ℕ) → AreBytes bytes
    → IsTrue (is_signed_index w (signed_index_at w bytes i))
signed_index_fits false bytes i h = signed_byte (get_or bytes i 0) (h i)
signed_index_fits true bytes i h = short_fits bytes i h

distance_fits : (w : Bool) (bytes : List ℕ) (i : ℕ) → AreBytes bytes → IsTrue (is_distance w (distance_at w bytes i))
distance_fits false bytes i h = short_fits bytes i h
distance_fits true bytes i h = long_fits bytes i h

pub word_small : (bytes : List ℕ) → AreBytes bytes → word_at bytes 0 < 16777216
word_small bytes h = omega (arith, h 0, h 1, h 2)

counts_fit : (n : ℕ) → n < 16777216 → IsTrue (are_counts (parameters_of n))
counts_fit n h =
    and_from _ _ (and_from _ _ (lt-ltb (n / 131072) 128 (omega (arith, h)))
    (lt-ltb (n / 1024 % 128) 128 (omega arith))) (lt-ltb (n / 4 % 128) 128 (omega arith))

-- EXT stands before an instruction that has an operand that grows
abbrev pub MayBe : Bool → Shape → Type 0
MayBe w s = IsTrue w → IsTrue (grows s)

never_wide : (w : Bool) → (IsTrue w → IsTrue false) → IsTrue (not w)
never_wide false may = refl
never_wide true may = may refl

shape_fits : (w : Bool) (s : Shape) (bytes : List ℕ) → AreBytes bytes → MayBe w s
    → IsTrue (fits_shape w s (keep s (operands w s bytes)))
shape_fits w Z bytes h may = never_wide w may
shape_fits w B bytes h may = index_fits w bytes 0 h
shape_fits w BB bytes h may = and_from _ _ (index_fits w bytes 0 h) (index_fits w bytes (index_size w) h)
shape_fits w BBB bytes h may =
    and_from _ _ (and_from _ _ (index_fits w bytes 0 h) (index_fits w bytes (index_size w) h))
    (index_fits w bytes (index_size w + index_size w) h)
shape_fits w BBI bytes h may =
    and_from _ _ (and_from _ _ (index_fits w bytes 0 h) (index_fits w bytes (index_size w) h))
    (signed_index_fits w bytes (index_size w + index_size w) h)
shape_fits w S bytes h may = distance_fits w bytes 0 h
shape_fits w BS bytes h may = and_from _ _ (index_fits w bytes 0 h) (distance_fits w bytes (index_size w) h)
shape_fits w BSS bytes h may = and_from _ _ (index_fits w bytes 0 h) (long_fits bytes (index_size w) h)
shape_fits w W bytes h may = and_from _ _ (never_wide w may) (counts_fit (word_at bytes 0) (word_small bytes h))

pub decoded_fits : (w : Bool) (op : Opcode) (bytes : List ℕ) → AreBytes bytes → MayBe w (shape_of op)
    → IsTrue (fits_as w (operation_of op (operands w (shape_of op) bytes)))
decoded_fits w op bytes h may = rw (
  opcode_in-operation_of op (operands w (shape_of op) bytes),
  operands_in-operation_of op (operands w (shape_of op) bytes),
) (shape_fits w (shape_of op) bytes h may)
