use Rattle.std.proofs.Common.{◌≡◌, drop}
use Rattle.parser_tree.specs.PartsBy.{optionals_by}
use Rattle.ir_core.specs.Forms.{append}
use Rattle.ir_core.specs.Parts.{cores}
use Rattle.lower_table.specs.Lowering.{passes, core_all}
use Rattle.lower_table.proofs.functions.lower_optionals.Given as goal

abbrev pub invariant-loop-parameter : goal.invariant-loop-parameter
invariant-loop-parameter g l =
    append (cores l.all.items)
    (core_all (passes l.fn.passed) 0 (optionals_by g.T.Whole.node (drop l.parameter-index l.parameters.items)))
    ≡ core_all (passes l.fn.passed) 0 (optionals_by g.T.Whole.node l.parameters.items)
