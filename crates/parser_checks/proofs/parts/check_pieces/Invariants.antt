use Rattle.std.proofs.Common.{◌≡◌, drop}
use Rattle.parser_tree.specs.PartsBy.{pieces_by}
use Rattle.parser_checks.specs.Places.{walk_all}
use Rattle.parser_checks.proofs.parts.check_pieces.Given as goal

abbrev pub invariant-loop-piece : goal.invariant-loop-piece
invariant-loop-piece g l =
    walk_all l.context.around (pieces_by g.T.Placed.node (drop l.piece-index l.pieces.items)) l.found
    ≡ walk_all l.context.around (pieces_by g.T.Placed.node l.pieces.items) l.fn.best
