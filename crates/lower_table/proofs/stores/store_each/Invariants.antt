use Rattle.std.proofs.Common.{◌≡◌, drop}
use Rattle.parser_tree.specs.PartsBy.{trees_by}
use Rattle.ir_core.specs.Forms.{append}
use Rattle.ir_core.specs.Parts.{cores}
use Rattle.lower_table.specs.Lowering.{passes, stores}
use Rattle.lower_table.specs.Sources.{source_form}
use Rattle.lower_table.proofs.stores.store_each.Given as goal

abbrev pub invariant-loop-target : goal.invariant-loop-target
invariant-loop-target g l =
    append (cores l.all.items)
    (stores (passes l.fn.passed) l.fn.depth (source_form l.fn.source) l.place (trees_by g.T.Whole.node (drop l.target-index l.targets)))
    ≡ stores (passes l.fn.passed) l.fn.depth (source_form l.fn.source) 0 (trees_by g.T.Whole.node l.targets)
