-- Distances of jumps.
use Rattle.std.proofs.Common.{◌≡◌, ℕ, ◌<◌, ℤ, pos, negsuc, refl, arith, true}
use Rattle.std.specs.Prelude.{◌+ℤ◌, ◌-ℤ◌}
use Rattle.std.proofs.lemmas.Int.{ints}
use Rattle.std.proofs.lemmas.Bool.Decides.{nat_tests}
use Rattle.rite_code.specs.Shape.{is_short}
use Rattle.path_turns.specs.Turn.{target}
use Rattle.code_generator.specs.Gen.{distance}

target_of : (z : ℤ) (next to : ℕ) → pos next +ℤ z ≡ pos to → target next z ≡ to
unfolding target
target_of z next to e = rw e refl

pub distance_leads : (from to : ℕ) → target from (distance from to) ≡ to
distance_leads from to = let e : pos from +ℤ (pos to -ℤ pos from) ≡ pos to = omega (arith, ints) in
    target_of (distance from to) from to e

short_of : (z : ℤ) (from to : ℕ) → z ≡ pos to -ℤ pos from → from < 32768 → to < 32768 → is_short z ≡ true
short_of (pos n) from to e f t = let lt : n < 32768 = omega (arith, ints) in grind (arith, nat_tests)
short_of (negsuc n) from to e f t = let lt : n < 32768 = omega (arith, ints) in grind (arith, nat_tests)

pub distance_short : (from to : ℕ) → from < 32768 → to < 32768 → is_short (distance from to) ≡ true
distance_short from to f t = short_of (distance from to) from to refl f t
