use Rattle.std.proofs.Common.{◌≡◌, drop}
use Rattle.ir_core.specs.PartsBy.{cores_by}
use Rattle.ir_walk.specs.Width.{greatest_of, widths}
use Rattle.ir_walk.proofs.width_parts.greatest_width.Given as goal

abbrev pub invariant-loop-core : goal.invariant-loop-core
invariant-loop-core g l =
    greatest_of l.most (widths (cores_by g.T.Measured.form (drop l.core-index l.list.items))) ≡ greatest_of 0
    (widths (cores_by g.T.Measured.form l.list.items))
