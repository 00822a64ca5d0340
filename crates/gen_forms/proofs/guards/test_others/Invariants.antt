use Rattle.std.proofs.Common.{◌≡◌, ◌++◌, drop}
use Rattle.ir_core.specs.PartsBy.{cores_by}
use Rattle.gen_parts.specs.Emission.{with_piece, here}
use Rattle.gen_forms.specs.Open.{tests_to, test_outs}
use Rattle.gen_forms.specs.Around.{context_of}
use Rattle.gen_forms.proofs.guards.test_others.Given as goal

abbrev pub invariant-loop-class : goal.invariant-loop-class
invariant-loop-class g l = record {
  code : with_piece l.code (tests_to 0 (context_of l.context) (here l.code) l.a
      (cores_by g.T.Emits.form (drop l.class-index l.classes)))
      ≡ with_piece l.fn.code (tests_to 0 (context_of l.context) (here l.fn.code) l.a
      (cores_by g.T.Emits.form l.classes));
  outs : l.outs.items ++ test_outs (context_of l.context) (here l.code) l.a
      (cores_by g.T.Emits.form (drop l.class-index l.classes))
      ≡ l.fn.outs.items ++ test_outs (context_of l.context) (here l.fn.code) l.a (cores_by g.T.Emits.form l.classes);
}
