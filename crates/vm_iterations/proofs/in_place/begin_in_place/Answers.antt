use Rattle.vm_parts.specs.Below.frames.seen as seen
use Rattle.vm_parts.specs.Beside.{of}
use Rattle.vm_iterations.proofs.Found.{begins_here, begins_not}
use Rattle.vm_iterations.proofs.in_place.begin_in_place.Goals as goal

pub returns-in_ok-begin_with-in-Some : goal.returns-in_ok-begin_with-in-Some
returns-in_ok-begin_with-in-Some c = begins_here c.args.code.now (of c.args.parts.now) (of c.first_of.new.parts)
    (seen.of c.take_begun-begun.new.self) c.args.hot.now c.begin_with.new.hot c.args.begun (of c.begin_with.new.parts)
    c.in_ok-first.field-0 c.in-Some.first c.in_ok-begin_with-in-Some.field-0 c.in_ok-first.ensures
    c.in_ok-begin_with-in-Some.ensures c.take_begun-begun.ensures.line c.in-Some.is

pub returns-in-None : goal.returns-in-None
returns-in-None c = begins_not c.args.code.now (of c.args.parts.now) (of c.first_of.new.parts) c.args.hot.now
    c.args.begun c.in_ok-first.field-0 c.in_ok-first.ensures c.in-None.is
