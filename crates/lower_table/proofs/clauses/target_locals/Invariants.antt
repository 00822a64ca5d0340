use Rattle.std.proofs.Common.{◌≡◌, ◌++◌, drop}
use Rattle.parser_tree.specs.PartsBy.{trees_by}
use Rattle.ir_core.specs.View.{locals_of}
use Rattle.lower_table.specs.Parts as read
use Rattle.lower_table.proofs.clauses.target_locals.Given as goal

abbrev pub invariant-loop-target : goal.invariant-loop-target
invariant-loop-target g l =
    locals_of l.locals.items ++ read.target_locals l.place (trees_by g.T.Whole.node (drop l._target-index l.targets))
    ≡ read.target_locals 0 (trees_by g.T.Whole.node l.targets)
