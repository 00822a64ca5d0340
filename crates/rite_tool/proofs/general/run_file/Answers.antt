use Rattle.std.proofs.Common.{subst}
use Rattle.rite_tool.specs.Asked.{run_meant}
use Rattle.rite_tool.specs.General.{run_text}
use Rattle.rite_tool.specs.Writing.{IsAnswer}
use Rattle.rite_tool.specs.declared.end.End.{End}
use Rattle.rite_tool.proofs.Sent.{buffered}
use Rattle.rite_tool.proofs.general.run_file.Goals as goal

pub returns : goal.returns
returns g c =
    let given = buffered g.E.Sink.taken g.E.Sink.faults c.args.err.now in
    let told = buffered g.E.Sink.taken g.E.Sink.faults c.send_answer.new.err in
    let counts = c.run-played.result.1 in
    let text = run_text (run_meant c.args.asked) c.run-played.result.0 counts.turns counts.peak in (
      c.run-played.result.0,
      counts.turns,
      counts.peak,
      c.run-played.ensures,
      subst (λ (meant : End). IsAnswer text meant given told c.send_answer.result) c.end_of.ensures
          (c.send_answer.ensures.answer text given c.tell_run-said.ensures),
    )
