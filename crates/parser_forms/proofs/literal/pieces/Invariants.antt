use Rattle.std.proofs.Common.{◌≡◌, ℕ, ◌<◌, ◌≤◌, length}
use Rattle.parser_forms.specs.Literals.{pieces_view, pieces, pieces_from}
use Rattle.parser_forms.proofs.literal.pieces.Given as goal

abbrev pub invariant-pieces : goal.invariant-pieces
invariant-pieces g l =
    (n : ℕ) × (length l.rest < n)
    × (pieces (g.I.Inner.inside l.inner) (pieces_view l.fn.found) l.fn.names l.fn.tokens ≡ pieces_from
    (g.I.Inner.inside l.inner) n (pieces_view l.list) l.names l.rest)
    × (length l.rest ≤ length l.fn.tokens)

abbrev pub decreases-pieces : goal.decreases-pieces
decreases-pieces g l = length l.rest
