use Rattle.std.proofs.Common.{sym, ◌∙◌}
use Rattle.vm_frames.specs.Seen.{of}
use Rattle.vm_frames.proofs.Steps.{kept_more, kept_end}
use Rattle.vm_frames.proofs.frames.Frames.keep_all.Goals as goal

pub values-preserved : goal.values-preserved
values-preserved c = rw c.in_ok-keep.ensures.ok
    (sym (kept_more (of c.values.self) c.values.value-index c.args.values.now _ c.values-test.true)
    ∙ c.values.invariant)

pub returns-clause-ok : goal.returns-clause-ok
returns-clause-ok c = sym (kept_end (of c.values.self) c.values.value-index c.args.values.now c.values-test.false)
    ∙ c.values.invariant
