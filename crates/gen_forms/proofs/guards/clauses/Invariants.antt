use Rattle.std.proofs.Common.{◌≡◌, ◌++◌, drop}
use Rattle.ir_core.specs.PartsBy.{clauses_by}
use Rattle.gen_parts.specs.Emission.{with_piece, here}
use Rattle.gen_forms.specs.Open.{clauses_to, clause_outs}
use Rattle.gen_forms.specs.Around.{context_of}
use Rattle.gen_forms.proofs.guards.clauses.Given as goal

abbrev pub invariant-loop-each : goal.invariant-loop-each
invariant-loop-each g l = record {
  code : with_piece l.code (clauses_to 0 (context_of l.context) (here l.code) l.a
      (clauses_by g.T.Emits.form (drop l.each-index l.list)))
      ≡ with_piece l.fn.code (clauses_to 0 (context_of l.context) (here l.fn.code) l.a
      (clauses_by g.T.Emits.form l.list));
  outs : l.outs.items ++ clause_outs (context_of l.context) (here l.code) l.a
      (clauses_by g.T.Emits.form (drop l.each-index l.list))
      ≡ l.fn.outs.items ++ clause_outs (context_of l.context) (here l.fn.code) l.a (clauses_by g.T.Emits.form l.list);
}
