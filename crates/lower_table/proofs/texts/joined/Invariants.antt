use Rattle.std.proofs.Common.{◌≡◌, ◌++◌, drop}
use Rattle.parser_tree.specs.PartsBy.{pieces_by}
use Rattle.lower_table.specs.Parts.{joined}
use Rattle.lower_table.proofs.texts.joined.Given as goal

abbrev pub invariant-loop-piece : goal.invariant-loop-piece
invariant-loop-piece g l =
    l.bytes.items ++ joined (pieces_by g.T.Whole.node (drop l.piece-index l.pieces))
    ≡ joined (pieces_by g.T.Whole.node l.pieces)
