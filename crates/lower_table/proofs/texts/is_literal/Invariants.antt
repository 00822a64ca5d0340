use Rattle.std.proofs.Common.{◌≡◌, drop}
use Rattle.parser_tree.specs.PartsBy.{pieces_by}
use Rattle.lower_table.specs.Parts.{is_literal}
use Rattle.lower_table.proofs.texts.is_literal.Given as goal

abbrev pub invariant-loop-piece : goal.invariant-loop-piece
invariant-loop-piece g l =
    is_literal (pieces_by g.T.Whole.node (drop l.piece-index l.pieces))
    ≡ is_literal (pieces_by g.T.Whole.node l.pieces)
