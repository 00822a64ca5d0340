use Rattle.std.proofs.Common.{◌+◌, sym, ◌∙◌}
use Rattle.vm_frames.specs.Registers.{wrapped}
use Rattle.vm_frames.specs.Seen.{of}
use Rattle.vm_frames.proofs.Steps.{registers_start, registers_more, registers_end}
use Rattle.vm_frames.proofs.frames.Frames.keep_before.Goals as goal

pub arguments-init : goal.arguments-init
arguments-init c = rw c.in_ok-keep.ensures.ok (registers_start _ c.args.arguments.first c.args.arguments.count)

pub arguments-preserved : goal.arguments-preserved
unfolding wrapped
arguments-preserved c = rw (c.in_ok-keep-2.ensures.ok, c.register_or-again.ensures, c.deref.ensures.value)
    (sym (registers_more (of c.arguments.self) c.args.arguments.first c.arguments.i c.args.arguments.count
    c.arguments-test.true) ∙ c.arguments.invariant)

pub returns-clause-ok : goal.returns-clause-ok
returns-clause-ok c = sym (registers_end (of c.arguments.self) (c.args.arguments.first + c.arguments.i) c.arguments.i
    c.args.arguments.count c.arguments-test.false) ∙ c.arguments.invariant
