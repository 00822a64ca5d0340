use Rattle.std.proofs.Common.{◌≡◌, ℕ, ◌<◌, ◌≤◌, length}
use Rattle.parser_tree.specs.View.{view}
use Rattle.parser_operands.specs.Operators.{operators, operators_from}
use Rattle.parser_operands.proofs.operators.operators.Given as goal

abbrev pub invariant-operators : goal.invariant-operators
invariant-operators g l =
    (n : ℕ) × (length l.rest < n)
    × (operators (g.I.Inner.inside l.inner) (view l.fn.left) l.fn.names l.fn.tokens l.loosest l.owner ≡ operators_from
    (g.I.Inner.inside l.inner) n l.loosest l.owner (view l.left) l.names l.rest)
    × (length l.rest ≤ length l.fn.tokens)

abbrev pub decreases-operators : goal.decreases-operators
decreases-operators g l = length l.rest
