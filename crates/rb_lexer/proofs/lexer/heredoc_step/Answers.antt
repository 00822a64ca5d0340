use Rattle.std.proofs.Common.{length, arith}
use Rattle.rb_lexer.proofs.lexer.heredoc_step.Goals as goal

pub returns-clause-fits : goal.returns-clause-fits
returns-clause-fits c =
    let lines = c.in-Some.ensures.order in
    let body = rw c.in-Some-2.is at c.in_ok-end.ensures.order in
    c.in_ok-entered.ensures.fits (length c.args.text.now) lines.0 lines.2 body.0 (omega (arith, body.1, body.2)) body.2
