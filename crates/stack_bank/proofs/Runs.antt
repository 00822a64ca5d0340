-- Blocks that follow one another by number.
use Rattle.std.proofs.Common.{◌≡◌, ◌≢◌, ℕ, ◌+◌, ◌-◌, ◌*◌, ◌/◌, ◌<◌, min, List, length, get_or, arith}
use Rattle.std.proofs.lemmas.List.{drop_more}
use Rattle.std.proofs.lemmas.Bool.Decides.{nat_tests}
use Rattle.stack_bank.specs.Window.{following, run_last, near_slots}

-- the next block follows: the run ends where it ends from there on
pub run_on : (table : List ℕ) (j : ℕ) → j + 1 < length table → get_or table (j + 1) 0 ≡ get_or table j 0 + 1
    → run_last table (j + 1) ≡ run_last table j
unfolding following
run_on table j within next = rw (drop_more table (j + 1) 0 within, next) (grind (arith, nat_tests))

-- the next block doesn't: the run ends here
pub run_ends : (table : List ℕ) (j : ℕ) → j + 1 < length table → get_or table (j + 1) 0 ≢ get_or table j 0 + 1
    → run_last table j ≡ j
unfolding following
run_ends table j within other = rw (drop_more table (j + 1) 0 within) (grind (arith, nat_tests))

-- what stands in the run up to the last block that is wanted is all that stands in the run
pub near_is : (table : List ℕ) (base n : ℕ) → 0 < n
    → min n (64 * (min ((base + n - 1) / 64) (run_last table (base / 64)) + 1) - base) ≡ near_slots table base n
near_is table base n some = omega arith
