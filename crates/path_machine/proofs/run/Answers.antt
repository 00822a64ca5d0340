-- What is seen of the code is the course of its first body.
use Rattle.std.proofs.Common.{ap}
use Rattle.path_turns.specs.State.{no_body}
use Rattle.path_machine.specs.Course.{Course}
use Rattle.path_machine.specs.Standing.{whole_course}
use Rattle.path_machine.proofs.Whole.{first_is, none_is, whole_ran, whole_written, ok_ran, ok_written, err_stopped, silent_written}
use Rattle.path_machine.proofs.run.Goals as goal

pub returns-in-Some-clause-ran : goal.returns-in-Some-clause-ran
returns-in-Some-clause-ran g c =
    ok_ran c.args.code.now c.in-Some.body.now c.args.budget c.run_body.result
    (first_is c.bodies.result.now c.args.code.now.bodies c.in-Some.body.now c.in-Some.ensures.value
    c.bodies.ensures.value) c.run_body.ensures.ran

pub returns-in-Some-clause-written : goal.returns-in-Some-clause-written
returns-in-Some-clause-written g c =
    ok_written c.args.code.now c.in-Some.body.now c.args.budget c.run_body.result _ _
    (first_is c.bodies.result.now c.args.code.now.bodies c.in-Some.body.now c.in-Some.ensures.value
    c.bodies.ensures.value) c.run_body.ensures.written

pub returns-in-Some-clause-stopped : goal.returns-in-Some-clause-stopped
returns-in-Some-clause-stopped g c =
    err_stopped c.args.code.now c.in-Some.body.now c.args.budget c.run_body.result _ _
    (first_is c.bodies.result.now c.args.code.now.bodies c.in-Some.body.now c.in-Some.ensures.value
    c.bodies.ensures.value) c.run_body.ensures.stopped

pub returns-in-None-clause-ran : goal.returns-in-None-clause-ran
returns-in-None-clause-ran g c =
    whole_ran c.args.code.now no_body c.args.budget c.ended.result
    (none_is c.bodies.result.now c.args.code.now.bodies c.in-None.ensures.value c.bodies.ensures.value)
    (ap (λ (k : Course). k.ran) c.ended.ensures)

pub returns-in-None-clause-written : goal.returns-in-None-clause-written
returns-in-None-clause-written g c =
    whole_written c.args.code.now no_body c.args.budget _ _
    (none_is c.bodies.result.now c.args.code.now.bodies c.in-None.ensures.value c.bodies.ensures.value)
    (silent_written (whole_course no_body c.args.budget) c.ended.result _ c.ended.ensures)
