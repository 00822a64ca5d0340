use Rattle.std.proofs.Common.{◌≡◌, ◌≤◌, drop, take, length}
use Rattle.code_generator.specs.Limits.{lines_scoped}
use Rattle.code_generator.specs.Emission.{all_forms}
use Rattle.code_generator.proofs.limits.+scopes.Given as goal

abbrev pub invariant-lines_scoped-loop-line : goal.invariant-lines_scoped-loop-line
invariant-lines_scoped-loop-line l =
    (length l.initial.known ≤ length l.known) × (take (length l.initial.known) l.known ≡ l.initial.known)
    × (lines_scoped l.known (all_forms (drop l.line-index l.lines)) ≡ lines_scoped l.initial.known (all_forms l.lines))
