use Rattle.frame_machine.proofs.Runs.{ends_asked, ends_over}
use Rattle.frame_machine.proofs.machine.Machine.stands_at.Goals as goal

pub returns-then-branch-clause-ends : goal.returns-then-branch-clause-ends
returns-then-branch-clause-ends c = ends_asked c.args.self.now c.asks.new.self c.args.end c.in_ok-asks.field-0
    c.in_ok-asks.ensures.left c.in_ok-asks.ensures.asked c.if-branch.true

pub returns-in_ok-end_of-clause-ends : goal.returns-in_ok-end_of-clause-ends
returns-in_ok-end_of-clause-ends c = ends_over c.args.self.now c.asks.new.self c.args.end c.in_ok-end_of.field-0
    c.in_ok-asks.field-0 c.in_ok-asks.ensures.left c.in_ok-asks.ensures.asked c.if-branch.false
