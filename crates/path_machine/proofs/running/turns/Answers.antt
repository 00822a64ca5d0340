-- Each arm of a turn, by the course.
use Rattle.std.proofs.Common.{◌∙◌, arith}
use Rattle.path_machine.proofs.Loop.{reached_to, reached_puts, over_spent, over_ended, over_uncaught, stopped_puts, on_err}
use Rattle.path_machine.proofs.running.turns.Goals as goal

pub turns-preserved-in-To : goal.turns-preserved-in-To
turns-preserved-in-To g c = (
  reached_to c.args.body.now _ _ _ c.turns.left c.turns.place c.in-To.next c.turns.registers c.step.new.registers
      c.turns.invariant.0 c.turns-test.true c.in-To.ensures,
  c.turns.invariant.1,
)

pub turns-preserved : goal.turns-preserved
turns-preserved g c = (
  reached_puts c.args.body.now _ _ _ _ c.turns.left c.turns.place c.in-Puts.next c.in-Puts.value c.turns.registers
      c.step.new.registers c.turns.invariant.0 c.turns-test.true c.in-Puts.ensures c.in_ok-put-in-Puts.ensures.took,
  c.in_ok-put-in-Puts.ensures.counted ∙ c.turns.invariant.1,
)

pub returns-in_err-put-in-Puts-clause-front : goal.returns-in_err-put-in-Puts-clause-front
returns-in_err-put-in-Puts-clause-front g c =
    on_err c.from_residual.result _
    (stopped_puts c.args.body.now _ _ _ _ c.turns.left c.turns.place c.in-Puts.next c.in-Puts.value c.turns.registers
    c.step.new.registers c.turns.invariant.0 c.turns-test.true c.in-Puts.ensures c.in_err-put-in-Puts.ensures.front)

pub returns-in-Ended-clause-ran : goal.returns-in-Ended-clause-ran
returns-in-Ended-clause-ran g c = (over_ended c.args.body.now _ _ _ c.turns.left c.turns.place c.in-Ended.status
    c.turns.registers c.step.new.registers c.turns.invariant.0 c.turns-test.true c.in-Ended.ensures).ran_is

pub returns-in-Ended-clause-written : goal.returns-in-Ended-clause-written
returns-in-Ended-clause-written g c = (over_ended c.args.body.now _ _ _ c.turns.left c.turns.place c.in-Ended.status
    c.turns.registers c.step.new.registers c.turns.invariant.0 c.turns-test.true c.in-Ended.ensures).written_is

pub returns-in-Uncaught-clause-ran : goal.returns-in-Uncaught-clause-ran
returns-in-Uncaught-clause-ran g c = (over_uncaught c.args.body.now _ _ _ c.turns.left c.turns.place
    c.in-Uncaught.failure c.turns.registers c.step.new.registers c.turns.invariant.0 c.turns-test.true
    c.in-Uncaught.ensures).ran_is

pub returns-in-Uncaught-clause-written : goal.returns-in-Uncaught-clause-written
returns-in-Uncaught-clause-written g c = (over_uncaught c.args.body.now _ _ _ c.turns.left c.turns.place
    c.in-Uncaught.failure c.turns.registers c.step.new.registers c.turns.invariant.0 c.turns-test.true
    c.in-Uncaught.ensures).written_is

pub returns-clause-ran : goal.returns-clause-ran
returns-clause-ran g c = (over_spent c.args.body.now _ _ _ c.turns.left c.turns.place c.turns.registers
    c.turns.invariant.0 (omega arith)).ran_is

pub returns-clause-written : goal.returns-clause-written
returns-clause-written g c = (over_spent c.args.body.now _ _ _ c.turns.left c.turns.place c.turns.registers
    c.turns.invariant.0 (omega arith)).written_is
