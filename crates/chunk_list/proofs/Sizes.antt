-- How many values chunks have.
use Rattle.std.proofs.Common.{◌≡◌, ℕ, zero, suc, ◌+◌, ◌*◌, ◌<◌, ◌≤◌, ◌/◌, ◌%◌, List, [], ◌∷◌, length, arith, length-append}
use Rattle.std.specs.Global.{Vec}
use Rattle.chunk_list.specs.Chunks.{joined, AreChunks}

pub of_one : {T : Type 0} (c : Vec T) → length (joined (c ∷ [])) ≡ length c.items
of_one c = omega (arith, length-append c.items [])

pub of_more : {T : Type 0} (c : Vec T) (cs : List (Vec T))
    → length (joined (c ∷ cs)) ≡ length c.items + length (joined cs)
of_more c cs = length-append c.items (joined cs)

-- a place by its chunk and its place there
pub place_of : (i : ℕ) → i / 1024 * 1024 + i % 1024 ≡ i
place_of i = omega arith

pub in_chunk : (i : ℕ) → i % 1024 < 1024
in_chunk i = omega arith

pub first_chunk : (r : ℕ) → r ≡ zero * 1024 + r
first_chunk r = omega arith
