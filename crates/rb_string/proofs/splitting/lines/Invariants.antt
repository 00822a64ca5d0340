use Rattle.std.proofs.Common.{◌≡◌, ◌++◌, length}
use Rattle.rb_string.specs.Parts.{ended, lines}
use Rattle.rb_string.proofs.Apart.{Apart}
use Rattle.rb_string.proofs.splitting.lines.Given as goal

abbrev pub invariant-newlines : goal.invariant-newlines
invariant-newlines l = record {
  apart : Apart (length l.text) 1 l.from l.newlines;
  same : l.list ++ ended (length l.text) l.from l.newlines ≡ lines l.text;
}

abbrev pub decreases-newlines : goal.decreases-newlines
decreases-newlines l = length l.newlines
