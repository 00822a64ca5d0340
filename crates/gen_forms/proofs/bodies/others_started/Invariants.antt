use Rattle.std.proofs.Common.{◌≡◌, ◌++◌, drop}
use Rattle.ir_core.specs.PartsBy.{cores_by}
use Rattle.gen_parts.specs.Emission.{with_piece, here}
use Rattle.gen_forms.specs.Gen.{others_in_turn, starts}
use Rattle.gen_forms.specs.Around.{context_of}
use Rattle.gen_forms.proofs.bodies.others_started.Given as goal

abbrev pub invariant-loop-core : goal.invariant-loop-core
invariant-loop-core g l = record {
  code : with_piece l.code (others_in_turn (context_of l.context) (here l.code) l.a
      (cores_by g.T.Emits.form (drop l.core-index l.list.items)))
      ≡ with_piece l.fn.code (others_in_turn (context_of l.context) (here l.fn.code) l.a
      (cores_by g.T.Emits.form l.list.items));
  starts : l.starts.items ++ starts (context_of l.context) (here l.code) l.a l.left
      (cores_by g.T.Emits.form (drop l.core-index l.list.items))
      ≡ l.fn.starts.items ++ starts (context_of l.context) (here l.fn.code) l.a l.fn.count
      (cores_by g.T.Emits.form l.list.items);
}
