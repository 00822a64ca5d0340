use Rattle.std.proofs.Common.{length, ◌≡◌, ◌≤◌, drop}
use Rattle.rb_heredoc.specs.Lines.{lines_of}
use Rattle.rb_heredoc.specs.Bodies.{bodies_in}
use Rattle.rb_heredoc.proofs.BodySteps.{with_pieces}
use Rattle.rb_heredoc.proofs.search.bodies.Given as goal

abbrev pub invariant-heads : goal.invariant-heads
invariant-heads l = record {
  forward : l.fn.from ≤ l.next;
  count : length l.pieces ≡ l.head-index;
  within : l.next ≤ length l.text;
  same : with_pieces l.pieces
      (bodies_in (drop l.head-index l.heads) (lines_of (drop l.next l.text)))
      ≡ bodies_in l.heads (lines_of (drop l.fn.from l.text));
}
