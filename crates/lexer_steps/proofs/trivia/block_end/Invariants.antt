use Rattle.std.proofs.Common.{length, ◌≡◌, ◌-◌, ◌≤◌, drop, false}
use Rattle.lexer_steps.specs.Trivia.{block_end}
use Rattle.lexer_steps.proofs.trivia.block_end.Given as goal

abbrev pub invariant-bytes : goal.invariant-bytes
invariant-bytes l = record {
  forward : l.fn.from ≤ l.at;
  within : l.at ≤ length l.text;
  same : block_end l.at l.fresh (drop l.at l.text) ≡ block_end l.fn.from false (drop l.fn.from l.text);
}

abbrev pub decreases-bytes : goal.decreases-bytes
decreases-bytes l = length l.text - l.at
