use Rattle.std.proofs.Common.{sym}
use Rattle.vm_frames.specs.Seen.{of}
use Rattle.vm_frames.proofs.Storing.{taken_some}
use Rattle.vm_frames.proofs.frames.Frames.take_pending.Goals as goal

pub returns-in_ok-insert-in-Some-clause-ok : goal.returns-in_ok-insert-in-Some-clause-ok
returns-in_ok-insert-in-Some-clause-ok c =
    rw (c.put.ensures, c.remove.ensures.rest, c.in_ok-insert-in-Some.ensures.ok, c.read.ensures, c.from.ensures)
    (sym (taken_some (of c.args.self.now) c.args.frame.now c.args.a c.in-Some.exit (sym c.in-Some.ensures)))
