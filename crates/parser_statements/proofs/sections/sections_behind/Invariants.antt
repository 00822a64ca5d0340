use Rattle.std.proofs.Common.{◌≡◌, ℕ, ◌<◌, ◌≤◌, length}
use Rattle.parser_form_nodes.specs.Sections.{sections_view}
use Rattle.parser_statements.specs.Sections.{sections_behind, sections_from}
use Rattle.parser_statements.proofs.sections.sections_behind.Given as goal

abbrev pub invariant-sections : goal.invariant-sections
invariant-sections g l =
    (n : ℕ) × (length l.rest < n)
    × (sections_behind (g.I.Inner.inside l.inner) l.form l.fn.kind (sections_view l.fn.found) l.fn.names
    l.fn.tokens ≡ sections_from (g.I.Inner.inside l.inner) n l.form l.before (sections_view l.list) l.names l.rest)
    × (length l.rest ≤ length l.fn.tokens)

abbrev pub decreases-sections : goal.decreases-sections
decreases-sections g l = length l.rest
