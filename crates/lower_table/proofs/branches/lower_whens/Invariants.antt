use Rattle.std.proofs.Common.{◌≡◌, drop}
use Rattle.parser_tree.specs.PartsBy.{whens_by}
use Rattle.ir_core.specs.Forms.{append_branches}
use Rattle.ir_core.specs.Parts as part
use Rattle.lower_table.specs.Lowering.{passes, whens, asked_by}
use Rattle.lower_table.proofs.branches.lower_whens.Given as goal

abbrev pub invariant-loop-clause : goal.invariant-loop-clause
invariant-loop-clause g l =
    append_branches (part.branches l.all.items)
    (whens (passes l.fn.passed) l.fn.depth (asked_by l.fn.subject) (whens_by g.T.Whole.node (drop l.clause-index l.clauses.items)))
    ≡ whens (passes l.fn.passed) l.fn.depth (asked_by l.fn.subject) (whens_by g.T.Whole.node l.clauses.items)
