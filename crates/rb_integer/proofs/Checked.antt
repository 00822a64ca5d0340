-- What a checked operation gives.
use Rattle.std.proofs.Common.{◌≡◌, ◌<◌, ◌^◌, ℤ, pos, negsuc, Option, Some, None, Ok, ok_or, FitsSigned, w64, arith}
use Rattle.std.proofs.lemmas.Bool.Decides.{nat_tests}
use Rattle.std.specs.Option.{SomeIff}
use Rattle.rb_integer.specs.declared.failure.IntegerFailure.TheVariants.{Overflow}
use Rattle.rb_integer.specs.Exact.{exact}

pub checked_as : (z : ℤ) (o : Option ℤ) → SomeIff o (FitsSigned w64 z) z → ok_or o Overflow ≡ exact z
unfolding exact
checked_as (pos n) None h = let no : n < 2 ^ 63 → ⊥ = λ lt. h (record { sfits = lt }) in grind (arith, nat_tests)
checked_as (pos n) (Some x) h = let yes : n < 2 ^ 63 = h.0.sfits in rw h.1 (grind (arith, nat_tests))
checked_as (negsuc n) None h = let no : n < 2 ^ 63 → ⊥ = λ lt. h (record { sfits = lt }) in grind (arith, nat_tests)
checked_as (negsuc n) (Some x) h = let yes : n < 2 ^ 63 = h.0.sfits in rw h.1 (grind (arith, nat_tests))

pub exact_at : (z : ℤ) → FitsSigned w64 z → exact z ≡ Ok z
unfolding exact
exact_at (pos n) f = let small : n < 2 ^ 63 = f.sfits in grind (arith, nat_tests)
exact_at (negsuc n) f = let small : n < 2 ^ 63 = f.sfits in grind (arith, nat_tests)
