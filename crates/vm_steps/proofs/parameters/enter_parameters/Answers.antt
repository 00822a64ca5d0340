use Rattle.vm_parts.specs.Beside.{of}
use Rattle.vm_steps.proofs.Binding.{bound_enters}
use Rattle.vm_steps.proofs.parameters.enter_parameters.Goals as goal

pub returns : goal.returns
returns c = bound_enters c.args.code.now (of c.args.parts.now) c.args.hot.now c.args.parameters c.shape_of-shape.result
    c.arguments.result.now c.bind.new.self c.in_ok-bound.bound c.enter_bound.result c.enter_bound.new.hot
    (of c.enter_bound.new.parts) c.shape_of-shape.ensures c.arguments.ensures c.in_ok-bound.ensures.store
    c.in_ok-bound.ensures.bound c.enter_bound.ensures
