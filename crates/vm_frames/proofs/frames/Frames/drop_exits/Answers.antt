use Rattle.std.proofs.Common.{sym, ap, ◌∙◌}
use Rattle.vm_frames.specs.Seen.{Seen, Exits, of, with_exits}
use Rattle.vm_frames.proofs.Steps.{without_more, without_end}
use Rattle.vm_frames.proofs.Keeping.{all_dropped_none, dropped_some}
use Rattle.vm_frames.proofs.frames.Frames.drop_exits.Goals as goal

pub returns-then-not-may_keep : goal.returns-then-not-may_keep
returns-then-not-may_keep c = sym (ap (λ (xs : Exits). with_exits (of c.args.self.now) xs)
    (all_dropped_none c.args.frame.now.keeps c.args.self.now.around.exits c.args.frame.now.number
    c.args.frame.now.registers (sym c.may_keep.ensures ∙ c.if-not-may_keep.true)))

pub registers-preserved : goal.registers-preserved
registers-preserved c = record {
  rest = ap (λ (r : Seen). with_exits r c.remove-in-registers.new.self) c.registers.invariant.rest;
  whole = rw (c.remove-in-registers.ensures.rest, c.from.ensures)
      (sym (without_more _ _ _ c.registers.a c.args.frame.now.registers c.registers-test.true)
      ∙ c.registers.invariant.whole);
}

pub returns : goal.returns
returns c = c.registers.invariant.rest ∙ ap (λ (xs : Exits). with_exits (of c.args.self.now) xs)
    (sym (without_end _ _ _ c.registers.a c.args.frame.now.registers c.registers-test.false)
    ∙ c.registers.invariant.whole
    ∙ sym (dropped_some c.args.frame.now.keeps c.args.self.now.around.exits _
    (sym c.may_keep.ensures ∙ c.if-not-may_keep.false)))
