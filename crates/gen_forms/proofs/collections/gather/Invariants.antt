use Rattle.std.proofs.Common.{◌≡◌, drop}
use Rattle.ir_core.specs.PartsBy.{items_by}
use Rattle.gen_parts.specs.Emission.{with_piece, here}
use Rattle.gen_forms.specs.Gen.{gather}
use Rattle.gen_forms.specs.Around.{context_of}
use Rattle.gen_forms.proofs.collections.gather.Given as goal

abbrev pub invariant-loop-item : goal.invariant-loop-item
invariant-loop-item g l =
    with_piece l.code (gather (context_of l.context) (here l.code) l.a
    (items_by g.T.Emits.form (drop l.item-index l.items.items)))
    ≡ with_piece l.fn.code (gather (context_of l.context) (here l.fn.code) l.a (items_by g.T.Emits.form l.items.items))
