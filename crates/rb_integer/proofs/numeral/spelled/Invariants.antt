use Rattle.std.proofs.Common.{◌≡◌, ◌≤◌, ◌++◌, length, drop}
use Rattle.rb_integer.specs.Numeral.{letters}
use Rattle.rb_integer.proofs.numeral.spelled.Given as goal

abbrev pub invariant-digits : goal.invariant-digits
invariant-digits l = record {
  buffer : length l.bytes ≡ 64;
  room : length (letters l.base l.left) ≤ l.start;
  within : l.start ≤ 64;
  same : letters l.base l.number ≡ letters l.base l.left ++ drop l.start l.bytes;
}

abbrev pub decreases-digits : goal.decreases-digits
decreases-digits l = l.left
