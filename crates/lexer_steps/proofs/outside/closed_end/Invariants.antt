use Rattle.std.proofs.Common.{length, ◌≡◌, ◌-◌, ◌≤◌, drop, false}
use Rattle.lexer_steps.specs.Closed.{closed_end}
use Rattle.lexer_steps.proofs.outside.closed_end.Given as goal

abbrev pub invariant-bytes : goal.invariant-bytes
invariant-bytes l = record {
  forward : l.fn.from ≤ l.at;
  within : l.at ≤ length l.text;
  small : l.depth ≤ l.at;
  same : closed_end l.opener l.closer l.escaped l.depth l.at (drop l.at l.text)
      ≡ closed_end l.opener l.closer false 0 l.fn.from (drop l.fn.from l.text);
}

abbrev pub decreases-bytes : goal.decreases-bytes
decreases-bytes l = length l.text - l.at
