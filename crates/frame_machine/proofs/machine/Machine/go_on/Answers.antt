use Rattle.std.proofs.Common.{refl}
use Rattle.frame_machine.proofs.Runs.{ended, has_read, spent, written}
use Rattle.frame_machine.proofs.machine.Machine.go_on.Goals as goal

pub returns-in-Spent-clause-goes : goal.returns-in-Spent-clause-goes
returns-in-Spent-clause-goes g c = spent c.args.self.now
    (record c.args.self.now { hot = c.run_turns.new.hot; parts = c.run_turns.new.parts }) c.args.at c.in-Spent.at c.args.budget
    (g.O.Sink.taken c.args.out.now) c.in_ok-at.field-0 c.in_ok-at.ensures.pauses c.in-Spent.is refl

pub returns-in_ok-stands_at-in-Ends-clause-goes : goal.returns-in_ok-stands_at-in-Ends-clause-goes
returns-in_ok-stands_at-in-Ends-clause-goes g c = ended c.args.self.now
    (record c.args.self.now { hot = c.run_turns.new.hot; parts = c.run_turns.new.parts }) c.stands_at.new.self c.args.at
    c.args.budget c.in-Ends.left c.in_ok-stands_at-in-Ends.field-0 c.in-Ends.end (g.O.Sink.taken c.args.out.now)
    c.in_ok-at.field-0 c.in_ok-at.ensures.pauses c.in-Ends.is c.in_ok-stands_at-in-Ends.ensures.ends refl

pub returns-in_ok-write_out-in-Writes-clause-goes : goal.returns-in_ok-write_out-in-Writes-clause-goes
returns-in_ok-write_out-in-Writes-clause-goes g c = written c.args.self.now
    (record c.args.self.now { hot = c.run_turns.new.hot; parts = c.run_turns.new.parts }) c.args.at c.args.budget
    c.in-Writes.left c.in-Writes.bytes (g.O.Sink.taken c.args.out.now) (g.O.Sink.taken c.write_out.new.out)
    c.in_ok-at.field-0 c.in_ok-at.ensures.pauses c.in-Writes.is refl c.in_ok-write_out-in-Writes.ensures

pub returns-in_ok-read-in-Reads-clause-goes : goal.returns-in_ok-read-in-Reads-clause-goes
returns-in_ok-read-in-Reads-clause-goes g c = has_read c.args.self.now
    (record c.args.self.now { hot = c.run_turns.new.hot; parts = c.run_turns.new.parts }) c.read.new.self c.args.at
    c.args.budget c.in-Reads.left c.in_ok-read-in-Reads.field-0 (g.O.Sink.taken c.args.out.now) c.in_ok-at.field-0
    c.in_ok-at.ensures.pauses c.in-Reads.is c.in_ok-read-in-Reads.ensures.reads refl
