use Rattle.std.proofs.Common.{◌+◌, sym, ◌∙◌}
use Rattle.vm_frames.specs.Registers.{wrapped}
use Rattle.vm_frames.proofs.Writing.{copied_start, copied_more, copied_end}
use Rattle.vm_frames.proofs.registers.copy_within.Goals as goal

pub values-init : goal.values-init
values-init c = copied_start c.args.registers.now c.args.from c.args.to c.args.count

pub values-preserved : goal.values-preserved
unfolding wrapped
values-preserved c = rw c.copy_one.ensures
    (sym (copied_more c.values.registers c.args.from c.args.to c.values.i c.args.count c.values-test.true)
    ∙ c.values.invariant)

pub returns : goal.returns
returns c = sym (copied_end c.values.registers (c.args.from + c.values.i) (c.args.to + c.values.i) c.values.i
    c.args.count c.values-test.false) ∙ c.values.invariant
