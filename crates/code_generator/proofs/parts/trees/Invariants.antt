use Rattle.std.proofs.Common.{◌≡◌, drop, map}
use Rattle.ir_core.specs.PartsBy as by
use Rattle.code_generator.specs.Built.{all_of}
use Rattle.code_generator.specs.Emission.{form, before_all}
use Rattle.code_generator.proofs.parts.trees.Given as goal

abbrev pub invariant-loop-core : goal.invariant-loop-core
invariant-loop-core g l =
    all_of (by.cores_by g.T.Formed.core l.list.items) ≡ before_all (map form l.trees.items)
    (all_of (by.cores_by g.T.Formed.core (drop l.core-index l.list.items)))
