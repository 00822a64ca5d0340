use Rattle.rite_tool.proofs.Sent.{buffered, run_unsent}
use Rattle.rite_tool.proofs.sending.send_run.Goals as goal

pub returns-in-Err-clause-runs : goal.returns-in-Err-clause-runs
returns-in-Err-clause-runs g c = λ code n given runs.
    let mid = buffered g.O.Sink.taken g.O.Sink.faults c.args.out.now in
    let left = buffered g.O.Sink.taken g.O.Sink.faults c.flush.new.self in
    run_unsent code n given mid left c.args.ran c.in-Err.ensures.told c.in-Err.ensures.failed runs
