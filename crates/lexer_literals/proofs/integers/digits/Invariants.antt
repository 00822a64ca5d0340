use Rattle.std.proofs.Common.{length, ◌≡◌, ◌-◌, ◌≤◌, ◌<◌, drop, true, false, ℕ}
use Rattle.std.specs.Prelude.{SomeIff}
use Rattle.lexer_literals.specs.Integers.{digits}
use Rattle.lexer_literals.proofs.integers.digits.Given as goal

abbrev pub invariant-bytes : goal.invariant-bytes
invariant-bytes l = record {
  forward : l.fn.start ≤ l.at;
  some : l.wanted ≡ false → l.fn.start < l.at;
  within : l.at ≤ length l.text;
  same : (n : ℕ) × SomeIff l.value (n ≤ 9223372036854775808) n
      × (digits l.base l.wanted n l.at (drop l.at l.text) ≡ digits l.base true 0 l.fn.start (drop l.fn.start l.text));
}

abbrev pub decreases-bytes : goal.decreases-bytes
decreases-bytes l = length l.text - l.at
