use Rattle.std.proofs.Common.{length, ◌≡◌, ◌-◌, ◌≤◌, drop}
use Rattle.rb_heredoc.specs.Lines.{line_end}
use Rattle.rb_heredoc.proofs.line.line_end.Given as goal

abbrev pub invariant-bytes : goal.invariant-bytes
invariant-bytes l = record {
  forward : l.fn.from ≤ l.at;
  within : l.at ≤ length l.text;
  same : line_end l.at (drop l.at l.text) ≡ line_end l.fn.from (drop l.fn.from l.text);
}

abbrev pub decreases-bytes : goal.decreases-bytes
decreases-bytes l = length l.text - l.at
