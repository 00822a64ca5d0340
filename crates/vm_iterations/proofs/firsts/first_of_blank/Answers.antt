use Rattle.vm_parts.specs.Beside.{of}
use Rattle.vm_iterations.proofs.Found.{object_found}
use Rattle.vm_iterations.proofs.firsts.first_of_blank.Goals as goal

pub returns : goal.returns
returns c = object_found (of c.args.parts.now) (of c.initialize_of.new.parts) c.args.class c.args.blank
    c.initialize_of.new.parts.known c.in_ok-initialize.initialize c.makes.result c.initialize_of.ensures.alone
    c.in_ok-initialize.ensures.noted c.in_ok-initialize.ensures.found c.makes.ensures
