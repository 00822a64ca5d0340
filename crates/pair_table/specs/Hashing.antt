-- What a NearHasher computes.
use Rattle.std.specs.Prelude.{ℕ, ◌+◌, ◌*◌, ◌/◌, ◌%◌, ◌^◌, List, length, nat_eq, if◌then◌else◌, bit_xor}
use Rattle.std.specs.Int.{w64, from_le_bytes}
use Rattle.std.specs.Hash.FoldHasher as folding
use Rattle.pair_table.specs.declared.hasher.NearHasher.{NearHasher}

abbrev pub initial : NearHasher
initial = record { near = 0 }

abbrev pub spread : ℕ
spread = 0x9e37_79b9_7f4a_7c15

abbrev pub number_of : List ℕ → ℕ
number_of bs = from_le_bytes w64 bs

-- what the standard library makes of other bytes
abbrev pub others : List ℕ → ℕ
others bs = folding.finish (folding.write folding.initial bs)

abbrev pub joined : NearHasher → ℕ → NearHasher
joined h n = record h { near = ((h.near * spread) % 2 ^ 64 + n) % 2 ^ 64 }

-- Eight bytes are a number, which joins the others; all else is hashed by the standard library.
abbrev pub write : NearHasher → List ℕ → NearHasher
write h bs = joined h (if nat_eq (length bs) 8 then number_of bs else others bs)

abbrev pub halves : ℕ → ℕ → ℕ
halves p n = bit_xor p (p / 2 ^ n)

-- a place in which the higher bits tell, too
abbrev pub folded : ℕ → ℕ
folded p = halves (halves (halves p 9) 18) 36

-- The highest eight of 32 bits are those of the number times `spread`, the others the place that two neighbours share.
abbrev pub finish : NearHasher → ℕ
finish h = ((h.near * spread) % 2 ^ 64 / 2 ^ 56 * 2 ^ 24) % 2 ^ 64 + folded (h.near / 2 ^ 1) % 0x100_0000
