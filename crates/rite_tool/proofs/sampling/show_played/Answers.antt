use Rattle.std.proofs.Common.{subst, refl}
use Rattle.rite_tool.specs.General.{text_of}
use Rattle.rite_tool.specs.Words.{most_turns}
use Rattle.rite_tool.specs.Writing.{IsAnswer}
use Rattle.rite_tool.specs.declared.end.End.{End}
use Rattle.rite_tool.proofs.Samples.{told_played}
use Rattle.rite_tool.proofs.Sent.{buffered}
use Rattle.rite_tool.proofs.sampling.show_played.Goals as goal

pub returns : goal.returns
returns g c =
    let given = buffered g.E.Sink.taken g.E.Sink.faults c.args.err.now in
    let told = buffered g.E.Sink.taken g.E.Sink.faults c.send_answer.new.err in
    let text = text_of most_turns c.args.played.now in
    told_played c.args.size c.args.text.now c.args.output.now c.args.played.now _ _ c.send_answer.result
    c.in_default.not-Ended (
      subst (λ (meant : End). IsAnswer text meant given told c.send_answer.result) c.end_of.ensures
          (c.send_answer.ensures.answer text given c.tell-said.ensures),
      (refl, refl),
    )
