use Rattle.std.proofs.Common.{◌≡◌, drop}
use Rattle.parser_tree.specs.PartsBy.{rescues_by}
use Rattle.ir_core.specs.Forms.{append_clauses}
use Rattle.ir_core.specs.Parts as part
use Rattle.lower_table.specs.Lowering.{passes, clauses}
use Rattle.lower_table.proofs.clauses.lower_clauses.Given as goal

abbrev pub invariant-loop-clause : goal.invariant-loop-clause
invariant-loop-clause g l =
    append_clauses (part.clauses l.all.items)
    (clauses (passes l.fn.passed) l.fn.depth (rescues_by g.T.Whole.node (drop l.clause-index l.clauses.items)))
    ≡ clauses (passes l.fn.passed) l.fn.depth (rescues_by g.T.Whole.node l.clauses.items)
