use Rattle.frame_machine.proofs.Runs.{has_run}
use Rattle.frame_machine.proofs.machine.Machine.run.Goals as goal

pub returns-in_ok-after-in-At-clause-ran : goal.returns-in_ok-after-in-At-clause-ran
returns-in_ok-after-in-At-clause-ran g c = λ at is. has_run c.args.self.now c.run_from.new.self c.stand.new.self
    c.replace.new.dest c.in_ok-after-in-At.after at c.in-At.at c.args.budget c.in_ok-after-in-At.left
    c.saturating_sub.result c.saturating_add-self.result (g.O.Sink.taken c.args.out.now)
    (g.O.Sink.taken c.run_from.new.out) c.in_ok-after-in-At.ensures.goes c.in_ok-after-in-At.ensures.spends
    c.stand.ensures.stands c.in-At.ensures.value is c.saturating_add-self.ensures
    c.in_ok-after-in-At.ensures.apart.0 c.saturating_sub.ensures
