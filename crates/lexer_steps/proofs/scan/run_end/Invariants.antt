use Rattle.std.proofs.Common.{length, ◌≡◌, ◌-◌, ◌≤◌, drop}
use Rattle.lexer_steps.specs.Scan.{belongs, run_end}
use Rattle.lexer_steps.proofs.scan.run_end.Given as goal

abbrev pub invariant-bytes : goal.invariant-bytes
invariant-bytes l = record {
  forward : l.fn.from ≤ l.at;
  within : l.at ≤ length l.text;
  same : run_end (belongs l.run) l.at (drop l.at l.text) ≡ run_end (belongs l.fn.run) l.fn.from (drop l.fn.from l.text);
}

abbrev pub decreases-bytes : goal.decreases-bytes
decreases-bytes l = length l.text - l.at
