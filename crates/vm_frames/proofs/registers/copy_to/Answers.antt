use Rattle.std.proofs.Common.{◌+◌, sym, ◌∙◌}
use Rattle.vm_frames.specs.Registers.{wrapped}
use Rattle.vm_frames.proofs.Writing.{put_start, put_more, put_end}
use Rattle.vm_frames.proofs.registers.copy_to.Goals as goal

pub values-init : goal.values-init
values-init c = put_start c.args.registers.now c.args.from c.args.values.now

pub values-preserved : goal.values-preserved
unfolding wrapped
values-preserved c = rw c.put_at.ensures
    (sym (put_more c.values.registers c.args.from c.values.i c.args.values.now _ c.values-test.true)
    ∙ c.values.invariant)

pub returns : goal.returns
returns c = sym (put_end c.values.registers (c.args.from + c.values.i) c.values.i c.args.values.now
    c.values-test.false) ∙ c.values.invariant
