use Rattle.std.proofs.Common.{◌≡◌, ℕ, ◌-◌, ◌≤◌, length, drop}
use Rattle.std.specs.Prelude.{SomeIff}
use Rattle.rb_string.specs.Numeral.{digits}
use Rattle.rb_string.proofs.numeral.magnitude.Given as goal

abbrev pub invariant-digits : goal.invariant-digits
invariant-digits l = record {
  within : l.at ≤ length l.text;
  same : (n : ℕ) × SomeIff l.value (n ≤ 9223372036854775808) n
      × (digits l.base n (drop l.at l.text) ≡ digits l.base 0 l.text);
}

abbrev pub decreases-digits : goal.decreases-digits
decreases-digits l = length l.text - l.at
