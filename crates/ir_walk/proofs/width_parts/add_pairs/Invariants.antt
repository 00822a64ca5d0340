use Rattle.std.proofs.Common.{◌≡◌, ◌++◌, drop}
use Rattle.ir_core.specs.PartsBy.{pairs_by}
use Rattle.ir_walk.specs.Width.{pair_widths}
use Rattle.ir_walk.proofs.width_parts.add_pairs.Given as goal

abbrev pub invariant-loop-pair : goal.invariant-loop-pair
invariant-loop-pair g l =
    l.all.items ++ pair_widths (pairs_by g.T.Measured.form (drop l.pair-index l.pairs.items)) ≡ l.fn.all.items
    ++ pair_widths (pairs_by g.T.Measured.form l.pairs.items)
