use Rattle.std.proofs.Common.{subst}
use Rattle.rite_tool.specs.Reporting.{text_of}
use Rattle.rite_tool.specs.Writing.{IsAnswer}
use Rattle.rite_tool.specs.declared.end.End.{End}
use Rattle.rite_tool.proofs.Sent.{buffered}
use Rattle.rite_tool.proofs.report.Report.answer.Goals as goal

pub returns-clause-answer : goal.returns-clause-answer
returns-clause-answer g c =
    let given = buffered g.E.Sink.taken g.E.Sink.faults c.args.err.now in
    let told = buffered g.E.Sink.taken g.E.Sink.faults c.send_answer.new.err in
    subst (λ (meant : End). IsAnswer (text_of c.args.self) meant given told c.send_answer.result) c.end.ensures
    (c.send_answer.ensures.answer (text_of c.args.self) given c.tell-said.ensures)
