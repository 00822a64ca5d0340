use Rattle.std.proofs.Common.{◌≡◌, ℕ, ◌<◌, ◌≤◌, length}
use Rattle.parser_forms.specs.Literals.{pieces_view, strings, strings_from}
use Rattle.parser_forms.proofs.literal.strings.Given as goal

abbrev pub invariant-strings : goal.invariant-strings
invariant-strings g l =
    (n : ℕ) × (length l.rest < n)
    × (strings (g.I.Inner.inside l.inner) (pieces_view l.fn.found) l.fn.names l.fn.tokens ≡ strings_from
    (g.I.Inner.inside l.inner) n (pieces_view l.list) l.names l.rest)
    × (length l.rest ≤ length l.fn.tokens)

abbrev pub decreases-strings : goal.decreases-strings
decreases-strings g l = length l.rest
