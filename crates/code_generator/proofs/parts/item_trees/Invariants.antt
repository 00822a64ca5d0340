use Rattle.std.proofs.Common.{◌≡◌, drop, map}
use Rattle.ir_core.specs.PartsBy as by
use Rattle.code_generator.specs.Built.{all_items}
use Rattle.code_generator.specs.Emission.{form, before_all}
use Rattle.code_generator.proofs.parts.item_trees.Given as goal

abbrev pub invariant-loop-item : goal.invariant-loop-item
invariant-loop-item g l =
    all_items (by.items_by g.T.Formed.core l.items.items) ≡ before_all (map form l.trees.items)
    (all_items (by.items_by g.T.Formed.core (drop l.item-index l.items.items)))
