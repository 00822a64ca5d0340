use Rattle.std.proofs.Common.{◌≡◌, ℕ, ◌<◌, ◌≤◌, length}
use Rattle.parser_nodes.specs.Nodes.{views}
use Rattle.parser_statements.specs.Statements.{statement_list, statements_from}
use Rattle.parser_statements.proofs.statements.statement_list.Given as goal

abbrev pub invariant-statements : goal.invariant-statements
invariant-statements g l =
    (n : ℕ) × (length l.rest < n)
    × (statement_list (g.I.Inner.inside l.inner) l.fn.names l.fn.tokens ≡ statements_from (g.I.Inner.inside l.inner) n
    (views l.list) l.names l.rest)
    × (length l.rest ≤ length l.fn.tokens)

abbrev pub decreases-statements : goal.decreases-statements
decreases-statements g l = length l.rest
