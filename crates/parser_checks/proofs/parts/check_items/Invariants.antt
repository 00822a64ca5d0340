use Rattle.std.proofs.Common.{◌≡◌, drop}
use Rattle.parser_tree.specs.PartsBy.{items_by}
use Rattle.parser_checks.specs.Places.{walk_all}
use Rattle.parser_checks.proofs.parts.check_items.Given as goal

abbrev pub invariant-loop-item : goal.invariant-loop-item
invariant-loop-item g l =
    walk_all l.context.around (items_by g.T.Placed.node (drop l.item-index l.items.items)) l.found
    ≡ walk_all l.context.around (items_by g.T.Placed.node l.items.items) l.fn.best
