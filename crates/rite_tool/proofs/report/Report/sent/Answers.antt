use Rattle.std.proofs.Common.{subst}
use Rattle.rite_tool.specs.Answer.{Reports}
use Rattle.rite_tool.specs.declared.report.Report.{Report}
use Rattle.rite_tool.proofs.Sent.{buffered, ran_reported, shown_reported}
use Rattle.rite_tool.proofs.report.Report.sent.Goals as goal

pub returns-in-Ran-clause-reports : goal.returns-in-Ran-clause-reports
returns-in-Ran-clause-reports g c = λ command before after given reports.
    let mid = buffered g.O.Sink.taken g.O.Sink.faults c.args.out.now in
    let left = buffered g.O.Sink.taken g.O.Sink.faults c.send_run.new.out in
    ran_reported command before after given mid left c.in-Ran.steps c.in-Ran.ran c.send_run.result
    c.send_run.ensures.runs
    (subst (λ (r : Report). Reports command before after given mid r) c.in-Ran.is reports)

pub returns-in-Shown-clause-reports : goal.returns-in-Shown-clause-reports
returns-in-Shown-clause-reports g c = λ command before after given reports.
    let mid = buffered g.O.Sink.taken g.O.Sink.faults c.args.out.now in
    let left = buffered g.O.Sink.taken g.O.Sink.faults c.send_text.new.out in
    shown_reported command before after given mid left c.in-Shown.said c.send_text.result c.send_text.ensures.says
    (subst (λ (r : Report). Reports command before after given mid r) c.in-Shown.is reports)
