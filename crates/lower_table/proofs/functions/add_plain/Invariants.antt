use Rattle.std.proofs.Common.{◌≡◌, ◌++◌, drop}
use Rattle.ir_core.specs.View.{locals_of}
use Rattle.lower_table.specs.Parts.{plain}
use Rattle.lower_table.specs.Lowering.{passes}
use Rattle.lower_table.proofs.functions.add_plain.Given as goal

abbrev pub invariant-loop-variable : goal.invariant-loop-variable
invariant-loop-variable l =
    passes l.items.items ++ plain (locals_of (drop l.variable-index l.locals))
    ≡ passes l.fn.items.items ++ plain (locals_of l.locals)
