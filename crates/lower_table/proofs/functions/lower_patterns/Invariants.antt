use Rattle.std.proofs.Common.{◌≡◌, drop}
use Rattle.parser_tree.specs.PartsBy.{parameters_by}
use Rattle.ir_core.specs.Forms.{append}
use Rattle.ir_core.specs.Parts.{cores}
use Rattle.lower_table.specs.Lowering.{passes, patterns}
use Rattle.lower_table.proofs.functions.lower_patterns.Given as goal

abbrev pub invariant-loop-parameter : goal.invariant-loop-parameter
invariant-loop-parameter g l =
    append (cores l.all.items)
    (patterns (passes l.fn.passed) l.place (parameters_by g.T.Whole.node (drop l.parameter-index l.parameters)))
    ≡ patterns (passes l.fn.passed) l.fn.first (parameters_by g.T.Whole.node l.parameters)
