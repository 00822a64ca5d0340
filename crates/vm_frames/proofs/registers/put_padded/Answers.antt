use Rattle.std.proofs.Common.{◌+◌, sym, ◌∙◌}
use Rattle.vm_frames.specs.Registers.{wrapped, padded}
use Rattle.vm_frames.proofs.Writing.{put_start}
use Rattle.vm_frames.proofs.Padding.{padded_more, padded_end}
use Rattle.vm_frames.proofs.registers.put_padded.Goals as goal

pub values-init : goal.values-init
values-init c = put_start c.args.registers.now c.args.place (padded c.args.values.now c.args.wanted)

pub values-preserved : goal.values-preserved
unfolding wrapped
values-preserved c = rw (c.put_at.ensures, c.register_or.ensures)
    (sym (padded_more c.values.registers c.args.place c.values.i c.args.values.now c.args.wanted c.values-test.true)
    ∙ c.values.invariant)

pub returns : goal.returns
returns c = sym (padded_end c.values.registers (c.args.place + c.values.i) c.values.i c.args.values.now c.args.wanted
    c.values-test.false) ∙ c.values.invariant
