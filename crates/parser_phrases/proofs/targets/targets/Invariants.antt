use Rattle.std.proofs.Common.{◌≡◌, ℕ, ◌<◌, ◌≤◌, length}
use Rattle.parser_form_nodes.specs.Targets.{targets_view}
use Rattle.parser_phrases.specs.Targets.{targets, targets_from}
use Rattle.parser_phrases.proofs.targets.targets.Given as goal

abbrev pub invariant-targets : goal.invariant-targets
invariant-targets g l =
    (n : ℕ) × (length l.rest < n)
    × (targets (g.I.Inner.inside l.inner) l.fn.names (targets_view l.fn.found) l.fn.tokens l.target_use ≡ targets_from
    (g.I.Inner.inside l.inner) n l.target_use l.more (targets_view l.targets) l.names l.rest)
    × (length l.rest ≤ length l.fn.tokens)

abbrev pub decreases-targets : goal.decreases-targets
decreases-targets g l = length l.rest
