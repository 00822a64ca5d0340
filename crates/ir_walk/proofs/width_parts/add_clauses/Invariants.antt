use Rattle.std.proofs.Common.{◌≡◌, ◌++◌, drop}
use Rattle.ir_core.specs.PartsBy.{clauses_by}
use Rattle.ir_walk.specs.Width.{clause_widths}
use Rattle.ir_walk.proofs.width_parts.add_clauses.Given as goal

abbrev pub invariant-loop-clause : goal.invariant-loop-clause
invariant-loop-clause g l =
    l.all.items ++ clause_widths (clauses_by g.T.Measured.form (drop l.clause-index l.clauses.items)) ≡ l.fn.all.items
    ++ clause_widths (clauses_by g.T.Measured.form l.clauses.items)
