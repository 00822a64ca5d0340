use Rattle.std.proofs.Common.{◌≡◌, ◌+◌, ◌<◌, length, Ok}
use Rattle.std.proofs.lemmas.Result.{err_from_is_err_and}
use Rattle.rb_lexer.specs.declared.reach.Reach.{Reach}
use Rattle.rb_lexer.specs.Lexing.{Fits, unread, run, whole, tokens_of}
use Rattle.lexer_steps.specs.State.{state_of, opening}
use Rattle.rb_lexer.proofs.Steps.{kept, goes_on, ends, fails}
use Rattle.rb_lexer.proofs.lexer.lex.Goals as goal

pub steps-preserved : goal.steps-preserved
steps-preserved c = record {
  fits = kept (λ (r : Reach). Fits (length c.args.text.now) r) _ c.in-Some.next c.in-Some.is c.in_ok-next.ensures.fits;
  enough = goes_on c.args.text.now (state_of c.steps.lexer) (state_of c.advance.new.lexer) c.steps.reach c.in-Some.next
      _
      (unread (length c.args.text.now) c.steps.reach) (unread (length c.args.text.now) c.in-Some.next) _
      c.steps.invariant.enough
      c.in_ok-next.ensures.value c.in-Some.is
      (kept (λ (r : Reach). unread (length c.args.text.now) r < unread (length c.args.text.now) c.steps.reach) _
      c.in-Some.next c.in-Some.is c.in_ok-next.ensures.smaller);
}

pub returns-in_err-next-clause-value : goal.returns-in_err-next-clause-value
unfolding tokens_of
returns-in_err-next-clause-value c =
    let p = err_from_is_err_and c.from_residual.result c.from_residual.ensures.1 in
    rw (p.1, p.2) (fails c.args.text.now (state_of c.steps.lexer) c.steps.reach
    (unread (length c.args.text.now) c.steps.reach) c.in_err-next.field-0.0 _ c.steps.invariant.enough
    c.in_err-next.ensures.value)

pub returns-clause-value : goal.returns-clause-value
unfolding tokens_of
returns-clause-value c =
    let all : run (length c.args.text.now + 1) c.args.text.now opening (whole c.args.text.now)
    ≡ Ok (state_of c.advance.new.lexer) =
    ends c.args.text.now (state_of c.steps.lexer) (state_of c.advance.new.lexer) c.steps.reach _
    (unread (length c.args.text.now) c.steps.reach) _ c.steps.invariant.enough c.in_ok-next.ensures.value
    c.in-None.is in
    rw all c.finish.ensures.value
