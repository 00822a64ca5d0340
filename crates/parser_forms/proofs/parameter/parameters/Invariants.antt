use Rattle.std.proofs.Common.{◌≡◌, ℕ, ◌<◌, ◌≤◌, length}
use Rattle.parser_form_nodes.specs.Parameters.{parameters_view}
use Rattle.parser_forms.specs.Parameters.{parameters, parameters_from}
use Rattle.parser_forms.proofs.parameter.parameters.Given as goal

abbrev pub invariant-parameters : goal.invariant-parameters
invariant-parameters g l =
    (n : ℕ) × (length l.rest < n)
    × (parameters (g.I.Inner.inside l.inner) l.fn.names l.fn.tokens ≡ parameters_from (g.I.Inner.inside l.inner) n
    l.more l.comma (parameters_view l.list) l.names l.rest)
    × (length l.rest ≤ length l.fn.tokens)

abbrev pub decreases-parameters : goal.decreases-parameters
decreases-parameters g l = length l.rest
