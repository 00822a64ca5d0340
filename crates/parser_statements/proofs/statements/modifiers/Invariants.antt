use Rattle.std.proofs.Common.{◌≡◌, ℕ, ◌<◌, ◌≤◌, length}
use Rattle.parser_tree.specs.View.{view}
use Rattle.parser_statements.specs.Statements.{modifiers, modifiers_from}
use Rattle.parser_statements.proofs.statements.modifiers.Given as goal

abbrev pub invariant-modifiers : goal.invariant-modifiers
invariant-modifiers g l =
    (n : ℕ) × (length l.rest < n)
    × (modifiers (g.I.Inner.inside l.inner) (view l.fn.body) l.fn.names l.fn.tokens ≡ modifiers_from
    (g.I.Inner.inside l.inner) n (view l.tree) l.names l.rest)
    × (length l.rest ≤ length l.fn.tokens)

abbrev pub decreases-modifiers : goal.decreases-modifiers
decreases-modifiers g l = length l.rest
