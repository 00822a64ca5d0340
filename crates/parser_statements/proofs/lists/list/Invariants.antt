use Rattle.std.proofs.Common.{◌≡◌, ℕ, ◌<◌, ◌≤◌, length}
use Rattle.parser_nodes.specs.Listed.{listed_view}
use Rattle.parser_statements.specs.Lists.{list, list_from}
use Rattle.parser_statements.proofs.lists.list.Given as goal

abbrev pub invariant-parts : goal.invariant-parts
invariant-parts g l =
    (n : ℕ) × (length l.rest < n)
    × (list (g.I.Inner.inside l.inner) l.fn.names l.fn.tokens l.owner ≡ list_from (g.I.Inner.inside l.inner) n l.owner
    l.alone l.more (listed_view l.listed) l.names l.rest)
    × (length l.rest ≤ length l.fn.tokens)

abbrev pub decreases-parts : goal.decreases-parts
decreases-parts g l = length l.rest
