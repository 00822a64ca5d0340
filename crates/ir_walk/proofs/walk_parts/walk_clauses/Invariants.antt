use Rattle.std.proofs.Common.{◌≡◌, drop}
use Rattle.ir_core.specs.PartsBy.{clauses_by}
use Rattle.ir_walk.specs.Steps.{steps}
use Rattle.ir_walk.specs.Walk.{walked_clauses}
use Rattle.ir_walk.proofs.walk_parts.walk_clauses.Given as goal

abbrev pub invariant-loop-clause : goal.invariant-loop-clause
invariant-loop-clause g l =
    walked_clauses l.extent (steps l.trail.items)
    (clauses_by g.T.Walked.form (drop l.clause-index l.clauses.items)) ≡ walked_clauses l.extent
    (steps l.fn.trail.items) (clauses_by g.T.Walked.form l.clauses.items)
