use Rattle.std.proofs.Common.{◌≡◌, ◌++◌, drop}
use Rattle.ir_core.specs.PartsBy.{branches_by}
use Rattle.gen_parts.specs.Emission.{with_piece, here}
use Rattle.gen_forms.specs.Open.{branches_to, branch_outs}
use Rattle.gen_forms.specs.Around.{context_of}
use Rattle.gen_forms.proofs.branches.branches.Given as goal

abbrev pub invariant-loop-each : goal.invariant-loop-each
invariant-loop-each g l = record {
  code : with_piece l.code (branches_to 0 (context_of l.context) (here l.code) l.a
      (branches_by g.T.Emits.form (drop l.each-index l.list.items)))
      ≡ with_piece l.fn.code (branches_to 0 (context_of l.context) (here l.fn.code) l.a
      (branches_by g.T.Emits.form l.list.items));
  outs : l.outs.items ++ branch_outs (context_of l.context) (here l.code) l.a
      (branches_by g.T.Emits.form (drop l.each-index l.list.items))
      ≡ l.fn.outs.items ++ branch_outs (context_of l.context) (here l.fn.code) l.a
      (branches_by g.T.Emits.form l.list.items);
}
