use Rattle.std.proofs.Common.{ℕ, List, subst}
use Rattle.rite_tool.specs.Sampling.{last_line, sample_text}
use Rattle.rite_tool.specs.Writing.{IsAnswer}
use Rattle.rite_tool.specs.declared.end.End.TheVariants.{Ended}
use Rattle.rite_tool.proofs.Sent.{buffered}
use Rattle.rite_tool.proofs.sampling.show.Goals as goal

pub returns : goal.returns
returns g c =
    let given = buffered g.O.Sink.taken g.O.Sink.faults c.args.out.now in
    let told = buffered g.O.Sink.taken g.O.Sink.faults c.send_answer.new.err in
    let text = λ (last : List ℕ). sample_text c.args.size c.args.bytes c.args.status last in
    subst (λ (last : List ℕ). IsAnswer (text last) (Ended 0) given told c.send_answer.result) c.last_line.ensures
    (c.send_answer.ensures.answer (text c.last_line.result.now) given c.tell_sample-said.ensures)
