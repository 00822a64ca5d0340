use Rattle.std.proofs.Common.{length, ◌≡◌, ◌-◌, ◌≤◌, drop}
use Rattle.lexer_steps.specs.Trivia.{next_token}
use Rattle.lexer_steps.proofs.trivia.next_token.Given as goal

abbrev pub invariant-bytes : goal.invariant-bytes
invariant-bytes l = record {
  forward : l.fn.from ≤ l.at;
  within : l.at ≤ length l.text;
  same : next_token l.at l.between (drop l.at l.text) ≡ next_token l.fn.from l.fn.start (drop l.fn.from l.text);
}

abbrev pub decreases-bytes : goal.decreases-bytes
decreases-bytes l = length l.text - l.at
