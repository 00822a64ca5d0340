use Rattle.std.proofs.Common.{◌≡◌, ◌+◌, drop}
use Rattle.ir_core.specs.Parts as part
use Rattle.ir_counts.specs.Tables.{classes}
use Rattle.ir_counts.proofs.shares.classes.Given as goal

abbrev pub invariant-loop-clause : goal.invariant-loop-clause
invariant-loop-clause l = classes (part.clauses l.clauses) ≡ l.sum + classes
    (part.clauses (drop l.clause-index l.clauses))
