use Rattle.vm_parts.specs.Below.frames.level as level
use Rattle.vm_parts.specs.Below.frames.seen as seen
use Rattle.vm_parts.specs.Beside.{of}
use Rattle.vm_iterations.proofs.Sending.{entered}
use Rattle.vm_iterations.proofs.iterating.enter_sent.Goals as goal

pub returns : goal.returns
returns c = entered c.args.code.now (of c.args.parts.now) (of c.find_sent.new.parts) (seen.of c.keep_all.new.self)
    (seen.of c.push_iteration.new.self) c.args.hot.now (level.Iteration c.args.waiting) c.args.sent
    c.as_slice.result.now c.as_slice-2.result.now c.in_ok-arguments.arguments c.in_ok-found.found
    c.find_sent.new.parts.known c.in_ok-next_activation.field-0 c.in_ok-entry.entry c.send_by_core.new.heap
    c.enter_above.result c.enter_above.new.hot (of c.enter_above.new.parts) c.as_slice.ensures.value
    c.as_slice-2.ensures.value c.in_ok-arguments.ensures.arguments c.in_ok-arguments.ensures.ok
    c.in_ok-found.ensures.found c.in_ok-found.ensures.noted c.find_sent.ensures.alone c.in_ok-next_activation.ensures
    c.in_ok-entry.ensures c.in_ok-push_iteration.ensures.ok c.enter_above.ensures
