use Rattle.std.proofs.Common.{◌-◌}
use Rattle.vm_parts.specs.declared.flow.Flow.{Flow}
use Rattle.vm_parts.specs.Beside.{Beside, of}
use Rattle.vm_parts.specs.Leaving.{ThrownThrough}
use Rattle.vm_parts.proofs.exits.throw.Given as goal

-- what is said of the exit where it has come to is said of all
abbrev pub invariant-fibers : goal.invariant-fibers
invariant-fibers l = (flow : Flow) (c : Beside)
    → ThrownThrough (l.rounds - l._fiber) l.code.code (of l.parts) l.at l.exit flow c
    → ThrownThrough l.rounds l.code.code (of l.initial.parts) l.initial.at l.initial.exit flow c
