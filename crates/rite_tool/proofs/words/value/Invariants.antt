use Rattle.std.proofs.Common.{◌≡◌, ◌≤◌, true, drop}
use Rattle.rite_tool.specs.Words.{are_digits, value_after, most_turns}
use Rattle.rite_tool.proofs.words.value.Given as goal

abbrev pub invariant-digits : goal.invariant-digits
invariant-digits l = record {
  left : are_digits (drop l.digit-index l.digits) ≡ true;
  same : value_after l.value (drop l.digit-index l.digits) ≡ value_after 0 l.digits;
  fits : l.value ≤ most_turns;
}
