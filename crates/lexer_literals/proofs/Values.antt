-- What was scanned has the value of its digits, where that is narrow.
use Rattle.std.proofs.Common.{◌≡◌, ℕ, ◌≤◌, refl, ap, arith, Option, Some, None, Result, Ok, Err}
use Rattle.std.specs.Prelude.{SomeIff, MatchResult}
use Rattle.lexer_literals.specs.declared.fault.Fault.{Fault}
use Rattle.lexer_literals.specs.declared.integers.Scanned.{Scanned}
use Rattle.lexer_literals.specs.Integers.{narrow}
use Rattle.rb_base.specs.Result.{◌>>=◌}

pub is_narrow : (value : Option ℕ) (n : ℕ) → SomeIff value (n ≤ 9223372036854775808) n → value ≡ narrow n
is_narrow (Some v) n is = grind (arith, is.0, is.1)
is_narrow None n is = grind (arith, is)

pub scanned_is : (result : Result Scanned Fault) (read : Result (ℕ × ℕ) Fault)
    → MatchResult result (λ s. (n : ℕ) × (read ≡ Ok (n, s.end)) × SomeIff s.value (n ≤ 9223372036854775808) n)
    (λ f. read ≡ Err f)
    → result ≡ (read >>= λ d. Ok (record { end = d.1; value = narrow d.0 }))
scanned_is (Ok s) read is = rw is.1 (ap (λ (v : Option ℕ). Ok (record { end = s.end; value = v }))
    (is_narrow s.value is.0 is.2))
scanned_is (Err f) read is = rw is refl
