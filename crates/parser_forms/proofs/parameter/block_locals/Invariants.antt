use Rattle.std.proofs.Common.{◌≡◌, ℕ, ◌<◌, ◌≤◌, length}
use Rattle.parser_forms.specs.Parameters.{block_locals, locals_from}
use Rattle.parser_forms.proofs.parameter.block_locals.Given as goal

abbrev pub invariant-names : goal.invariant-names
invariant-names l =
    (n : ℕ) × (length l.rest < n)
    × (block_locals l.fn.names l.fn.tokens ≡ locals_from n l.more l.names l.rest)
    × (length l.rest ≤ length l.fn.tokens)

abbrev pub decreases-names : goal.decreases-names
decreases-names l = length l.rest
