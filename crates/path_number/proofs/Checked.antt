-- What a checked operation gives.
use Rattle.std.proofs.Common.{◌≡◌, ◌<◌, ◌^◌, ℤ, pos, negsuc, Option, Some, None, FitsSigned, w64, arith}
use Rattle.std.proofs.lemmas.Bool.Decides.{nat_tests}
use Rattle.std.specs.Option.{SomeIff}
use Rattle.path_core.specs.Rows.{integer}
use Rattle.path_number.specs.Outcome.{checked}

pub checked_as : (z : ℤ) (o : Option ℤ) → SomeIff o (FitsSigned w64 z) z → checked o ≡ integer z
unfolding integer
checked_as (pos n) None h = let no : n < 2 ^ 63 → ⊥ = λ lt. h (record { sfits = lt }) in grind (arith, nat_tests)
checked_as (pos n) (Some x) h = let yes : n < 2 ^ 63 = h.0.sfits in rw h.1 (grind (arith, nat_tests))
checked_as (negsuc n) None h = let no : n < 2 ^ 63 → ⊥ = λ lt. h (record { sfits = lt }) in grind (arith, nat_tests)
checked_as (negsuc n) (Some x) h = let yes : n < 2 ^ 63 = h.0.sfits in rw h.1 (grind (arith, nat_tests))
