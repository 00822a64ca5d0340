use Rattle.std.proofs.Common.{◌≡◌, drop}
use Rattle.parser_tree.specs.PartsBy.{pairs_by}
use Rattle.ir_core.specs.Forms.{append_pairs}
use Rattle.ir_core.specs.Parts as part
use Rattle.lower_table.specs.Lowering.{passes, pairs}
use Rattle.lower_table.proofs.lists.lower_pairs.Given as goal

abbrev pub invariant-loop-pair : goal.invariant-loop-pair
invariant-loop-pair g l =
    append_pairs (part.pairs l.all.items)
    (pairs (passes l.fn.passed) l.fn.depth (pairs_by g.T.Whole.node (drop l.pair-index l.pairs.items)))
    ≡ pairs (passes l.fn.passed) l.fn.depth (pairs_by g.T.Whole.node l.pairs.items)
