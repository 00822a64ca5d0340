use Rattle.std.proofs.Common.{length, ◌≡◌, ◌-◌, ◌≤◌, drop}
use Rattle.rb_lexer.specs.Heads.{quoted_end}
use Rattle.rb_lexer.proofs.heads.quoted_end.Given as goal

abbrev pub invariant-bytes : goal.invariant-bytes
invariant-bytes l = record {
  forward : l.fn.from ≤ l.at;
  within : l.at ≤ length l.text;
  same : quoted_end l.quote l.at (drop l.at l.text) ≡ quoted_end l.quote l.fn.from (drop l.fn.from l.text);
}

abbrev pub decreases-bytes : goal.decreases-bytes
decreases-bytes l = length l.text - l.at
