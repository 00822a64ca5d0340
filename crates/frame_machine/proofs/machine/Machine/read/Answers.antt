use Rattle.std.proofs.Common.{refl}
use Rattle.frame_machine.proofs.Runs.{read_so}
use Rattle.frame_machine.proofs.machine.Machine.read.Goals as goal

pub returns-clause-reads : goal.returns-clause-reads
returns-clause-reads g c = read_so c.in_ok-stands.field-0 c.args.self.now c.read_line.new.self
    (record c.read_line.new.self { parts = c.answer_read.new.parts }) c.stands.new.self c.in_ok-flow.flow
    c.in_ok-given.given c.in_ok-given.ensures.alone c.in_ok-given.ensures.given c.in_ok-flow.ensures refl refl
    c.in_ok-stands.ensures.stands
