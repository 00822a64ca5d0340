use Rattle.std.proofs.Common.{length, ◌+◌}
use Rattle.rb_lexer.specs.Lexing.{Fits, unread, run, whole}
use Rattle.lexer_steps.specs.State.{state_of, opening}
use Rattle.rb_lexer.proofs.Steps.{Enough}
use Rattle.rb_lexer.proofs.lexer.lex.Given as goal

abbrev pub invariant-steps : goal.invariant-steps
invariant-steps l = record {
  fits : Fits (length l.text) l.reach;
  enough : Enough l.text (unread (length l.text) l.reach) (state_of l.lexer) l.reach
      (run (length l.text + 1) l.text opening (whole l.text));
}

abbrev pub decreases-steps : goal.decreases-steps
decreases-steps l = unread (length l.text) l.reach
