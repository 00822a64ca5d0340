use Rattle.std.proofs.Common.{◌≡◌, ◌++◌, drop}
use Rattle.ir_core.specs.PartsBy.{cores_by}
use Rattle.ir_walk.specs.Width.{widths}
use Rattle.ir_walk.proofs.width_parts.add_all.Given as goal

abbrev pub invariant-loop-core : goal.invariant-loop-core
invariant-loop-core g l =
    l.all.items ++ widths (cores_by g.T.Measured.form (drop l.core-index l.list.items)) ≡ l.fn.all.items
    ++ widths (cores_by g.T.Measured.form l.list.items)
