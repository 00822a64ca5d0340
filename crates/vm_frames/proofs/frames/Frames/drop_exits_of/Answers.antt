use Rattle.std.proofs.Common.{sym, ap, ◌∙◌}
use Rattle.vm_frames.specs.Seen.{Seen, Exits, of, with_exits}
use Rattle.vm_frames.proofs.Steps.{without_more, without_end}
use Rattle.vm_frames.proofs.frames.Frames.drop_exits_of.Goals as goal

pub registers-preserved : goal.registers-preserved
registers-preserved c = record {
  rest = ap (λ (r : Seen). with_exits r c.remove.new.self) c.registers.invariant.rest;
  whole = rw c.remove.ensures.rest
      (sym (without_more _ _ _ c.registers.i c.args.count c.registers-test.true) ∙ c.registers.invariant.whole);
}

pub returns : goal.returns
returns c = c.registers.invariant.rest ∙ ap (λ (xs : Exits). with_exits (of c.args.self.now) xs)
    (sym (without_end _ _ _ c.registers.i c.args.count c.registers-test.false) ∙ c.registers.invariant.whole)
