use Rattle.std.proofs.Common.{subst}
use Rattle.rite_tool.specs.General.{text_of}
use Rattle.rite_tool.specs.Writing.{IsAnswer}
use Rattle.rite_tool.specs.declared.end.End.{End}
use Rattle.rite_tool.proofs.Sent.{buffered}
use Rattle.rite_tool.proofs.general.execute.Goals as goal

pub returns : goal.returns
returns g c =
    let given = buffered g.E.Sink.taken g.E.Sink.faults c.args.err.now in
    let told = buffered g.E.Sink.taken g.E.Sink.faults c.send_answer.new.err in
    let text = text_of c.args.steps c.in_ok-played.played in (
      c.in_ok-played.played,
      c.in_ok-played.ensures,
      subst (λ (meant : End). IsAnswer text meant given told c.send_answer.result) c.end_of.ensures
          (c.send_answer.ensures.answer text given c.tell-said.ensures),
    )
