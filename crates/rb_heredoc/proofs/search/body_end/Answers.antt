use Rattle.std.proofs.Common.{arith, sym, ◌∙◌}
use Rattle.rb_heredoc.proofs.BodySteps.{goes_on, ends, missing}
use Rattle.rb_heredoc.proofs.search.body_end.Goals as goal

pub returns-then-is_end_line-clause-found : goal.returns-then-is_end_line-clause-found
returns-then-is_end_line-clause-found c =
    ends c.args.head.now c.args.text.now c.args.from c.lines.at c.line_end-end.result _ c.lines-test.true
    c.line_end-end.ensures.value (sym c.is_end_line.ensures ∙ c.if-is_end_line.true) c.lines.invariant.same

pub lines-preserved : goal.lines-preserved
lines-preserved c = record {
  forward = omega arith;
  within = omega arith;
  same = goes_on c.args.head.now c.args.text.now c.args.from c.lines.at c.line_end-end.result _
      c.lines.invariant.forward c.lines-test.true c.line_end-end.ensures.forward c.line_end-end.ensures.value
      (sym c.is_end_line.ensures ∙ c.if-is_end_line.false) c.lines.invariant.same;
}

pub returns-clause-found : goal.returns-clause-found
returns-clause-found c = missing c.args.head.now c.args.text.now _ c.lines.at _ c.lines-test.false
    c.lines.invariant.same
