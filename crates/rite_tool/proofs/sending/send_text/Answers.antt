use Rattle.std.proofs.Common.{Result, subst}
use Rattle.rb_base.specs.declared.outside.Failed.{Failed}
use Rattle.rb_refusal.specs.Writing.{Says}
use Rattle.rite_tool.proofs.Sent.{buffered, text_sent}
use Rattle.rite_tool.proofs.sending.send_text.Goals as goal

pub returns-clause-says : goal.returns-clause-says
returns-clause-says g c = λ text given says.
    let mid = buffered g.O.Sink.taken g.O.Sink.faults c.args.out.now in
    let left = buffered g.O.Sink.taken g.O.Sink.faults c.flush.new.self in
    text_sent text given mid left c.flush.result
    (subst (λ (r : Result Unit Failed). Says text given mid r) c.in_ok-said.was says) c.flush.ensures.told
    c.flush.ensures.counted c.flush.ensures.failed
