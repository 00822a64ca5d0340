use Rattle.std.proofs.Common.{◌≡◌, drop}
use Rattle.parser_tree.specs.PartsBy.{pieces_by}
use Rattle.ir_core.specs.Forms.{append}
use Rattle.ir_core.specs.Parts.{cores}
use Rattle.lower_table.specs.Lowering.{passes, pieces}
use Rattle.lower_table.proofs.texts.lower_pieces.Given as goal

abbrev pub invariant-loop-piece : goal.invariant-loop-piece
invariant-loop-piece g l =
    append (cores l.all.items)
    (pieces (passes l.fn.passed) l.fn.depth (pieces_by g.T.Whole.node (drop l.piece-index l.pieces)))
    ≡ pieces (passes l.fn.passed) l.fn.depth (pieces_by g.T.Whole.node l.pieces)
