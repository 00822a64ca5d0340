use Rattle.std.proofs.Common.{◌≡◌, drop}
use Rattle.ir_core.specs.PartsBy.{pairs_by}
use Rattle.gen_parts.specs.Emission.{with_piece, here}
use Rattle.gen_forms.specs.Gen.{gather_pairs}
use Rattle.gen_forms.specs.Around.{context_of}
use Rattle.gen_forms.proofs.collections.gather_pairs.Given as goal

abbrev pub invariant-loop-pair : goal.invariant-loop-pair
invariant-loop-pair g l =
    with_piece l.code (gather_pairs (context_of l.context) (here l.code) l.a
    (pairs_by g.T.Emits.form (drop l.pair-index l.pairs.items)))
    ≡ with_piece l.fn.code (gather_pairs (context_of l.context) (here l.fn.code) l.a
    (pairs_by g.T.Emits.form l.pairs.items))
