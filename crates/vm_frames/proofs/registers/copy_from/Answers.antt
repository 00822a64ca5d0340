use Rattle.std.proofs.Common.{◌+◌, arith, sym, ◌∙◌}
use Rattle.vm_frames.specs.Registers.{wrapped}
use Rattle.vm_frames.proofs.Writing.{refill_start, refill_more, refill_end}
use Rattle.vm_frames.proofs.registers.copy_from.Goals as goal

pub values-init : goal.values-init
values-init c = refill_start c.args.values.now c.args.registers.now c.args.from

pub values-preserved : goal.values-preserved
unfolding wrapped
values-preserved c = sym (refill_more c.values.values c.args.registers.now c.args.from c.values.i _ _
    (omega (arith, c.values-test.true, c.values.auto.values)) c.register_or.ensures) ∙ c.values.invariant

pub returns : goal.returns
returns c = sym (refill_end c.values.values c.args.registers.now (c.args.from + c.values.i) c.values.i
    (omega (arith, c.values-test.false, c.values.auto.values))) ∙ c.values.invariant
