use Rattle.std.proofs.Common.{length, ◌≡◌, ◌-◌, ◌≤◌, drop, take}
use Rattle.rb_heredoc.specs.Lines.{lines_of}
use Rattle.rb_heredoc.specs.Bodies.{body_in}
use Rattle.rb_heredoc.proofs.BodySteps.{with_front}
use Rattle.rb_heredoc.proofs.search.body_end.Given as goal

abbrev pub invariant-lines : goal.invariant-lines
invariant-lines l = record {
  forward : l.fn.from ≤ l.at;
  within : l.at ≤ length l.text;
  same : with_front (take (l.at - l.fn.from) (drop l.fn.from l.text)) (body_in l.head (lines_of (drop l.at l.text)))
      ≡ body_in l.head (lines_of (drop l.fn.from l.text));
}

abbrev pub decreases-lines : goal.decreases-lines
decreases-lines l = length l.text - l.at
