use Rattle.vm_parts.specs.Beside.{of}
use Rattle.vm_iterations.proofs.Found.{equal_found}
use Rattle.vm_iterations.proofs.firsts.first_of_equal.Goals as goal

pub returns : goal.returns
returns c = equal_found (of c.args.parts.now) (of c.found_in.new.parts) (of c.first_by_usual.new.parts)
    c.class_of-class.result c.found_in.new.parts.known c.in_ok-usual.usual c.args.negating c.args.begun.now
    c.first_by_usual.result c.found_in.ensures.alone c.in_ok-usual.ensures.noted c.in_ok-usual.ensures.found
    c.class_of-class.ensures.class c.first_by_usual.ensures
