use Rattle.std.proofs.Common.{sym, ◌∙◌}
use Rattle.vm_parts.specs.Beside.{of}
use Rattle.vm_iterations.proofs.Found.{raise_found, raise_not}
use Rattle.vm_iterations.proofs.firsts.first_of_raised.Goals as goal

pub returns-then-not-can_raise : goal.returns-then-not-can_raise
returns-then-not-can_raise c =
    raise_not (of c.args.parts.now) c.args.raised (sym c.can_raise.ensures ∙ c.if-not-can_raise.true)

pub returns : goal.returns
returns c = raise_found (of c.args.parts.now) (of c.found_in.new.parts) c.class_of-class.result
    c.found_in.new.parts.known c.in_ok-usual.usual c.args.raised c.raises.result c.found_in.ensures.alone
    c.in_ok-usual.ensures.noted c.in_ok-usual.ensures.found c.class_of-class.ensures.class c.raises.ensures
    (sym c.can_raise.ensures ∙ c.if-not-can_raise.false)
