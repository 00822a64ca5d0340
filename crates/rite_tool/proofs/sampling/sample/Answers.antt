use Rattle.std.proofs.Common.{ℕ, List, inl, refl, subst, ◌∙◌, []}
use Rattle.rb_exec.specs.declared.running.Played.TheVariants.{NoMemory}
use Rattle.rite_tool.specs.Texts.{no_memory}
use Rattle.rite_tool.specs.Sampling.{Streams, Tries}
use Rattle.rite_tool.proofs.Sent.{buffered}
use Rattle.rite_tool.proofs.sampling.sample.Goals as goal

pub returns-in-Err : goal.returns-in-Err
returns-in-Err g c =
    let given = buffered g.E.Sink.taken g.E.Sink.faults c.args.err.now in
    inl (NoMemory, [], tt, (c.send_answer.ensures.answer no_memory given c.tell_no_memory.ensures, (refl, refl)))

pub returns : goal.returns
returns g c =
    let before : Streams = record {
      out = buffered g.O.Sink.taken g.O.Sink.faults c.args.out.now;
      err = buffered g.E.Sink.taken g.E.Sink.faults c.args.err.now;
    } in
    let after : Streams = record {
      out = buffered g.O.Sink.taken g.O.Sink.faults c.try_text.new.out;
      err = buffered g.E.Sink.taken g.E.Sink.faults c.try_text.new.err;
    } in
    subst (λ (text : List ℕ). Tries c.args.size text before after c.try_text.result)
    (c.deref.ensures.value ∙ c.in-Ok.ensures) c.try_text.ensures
