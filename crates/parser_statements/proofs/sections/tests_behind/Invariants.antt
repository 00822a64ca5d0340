use Rattle.std.proofs.Common.{◌≡◌, ℕ, ◌<◌, ◌≤◌, length}
use Rattle.parser_nodes.specs.Nodes.{views}
use Rattle.parser_statements.specs.Sections.{tests_behind, tests_from}
use Rattle.parser_statements.proofs.sections.tests_behind.Given as goal

abbrev pub invariant-tests : goal.invariant-tests
invariant-tests g l =
    (n : ℕ) × (length l.rest < n)
    × (tests_behind (g.I.Inner.inside l.inner) (views l.fn.found) l.fn.names l.fn.tokens ≡ tests_from
    (g.I.Inner.inside l.inner) n (views l.list) l.names l.rest)
    × (length l.rest ≤ length l.fn.tokens)

abbrev pub decreases-tests : goal.decreases-tests
decreases-tests g l = length l.rest
