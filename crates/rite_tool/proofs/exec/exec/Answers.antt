use Rattle.std.proofs.Common.{subst}
use Rattle.rite_code.specs.Code.{Program}
use Rattle.rb_refusal.specs.Writing.{Stream}
use Rattle.rite_tool.specs.Running.{Runs}
use Rattle.rite_tool.proofs.Runs.{runs}
use Rattle.rite_tool.proofs.exec.exec.Goals as goal

pub returns-clause-execs : goal.returns-clause-execs
returns-clause-execs g c =
    let given : Stream = record { taken = g.O.Sink.taken c.args.out.now; faults = g.O.Sink.faults c.args.out.now } in
    let left : Stream = record { taken = g.O.Sink.taken c.run.new.out; faults = g.O.Sink.faults c.run.new.out } in
    let said = c.run.ensures in (
      c.in_ok-verified.verified,
      c.in_ok-verified.ensures,
      subst (λ (code : Program). Runs code c.args.steps given left c.run.result) c.code.ensures.value
          (runs _ c.args.steps given left c.run.result said.ran said.written said.counted said.fault said.stopped),
    )
