use Rattle.std.proofs.Common.{◌≡◌, ℕ, ◌<◌, ◌≤◌, length}
use Rattle.parser_tree.specs.View.{view}
use Rattle.parser_statements.specs.Statements.{junctions, junctions_from}
use Rattle.parser_statements.proofs.statements.junctions.Given as goal

abbrev pub invariant-junctions : goal.invariant-junctions
invariant-junctions g l =
    (n : ℕ) × (length l.rest < n)
    × (junctions (g.I.Inner.inside l.inner) (view l.fn.left) l.fn.names l.fn.tokens l.owner ≡ junctions_from
    (g.I.Inner.inside l.inner) n l.owner (view l.tree) l.names l.rest)
    × (length l.rest ≤ length l.fn.tokens)

abbrev pub decreases-junctions : goal.decreases-junctions
decreases-junctions g l = length l.rest
