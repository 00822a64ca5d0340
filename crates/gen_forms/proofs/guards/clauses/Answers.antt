use Rattle.std.proofs.Common.{◌+◌, ◌++◌, ◌∷◌, [], drop, ap, ◌∙◌, sym, refl}
use Rattle.ir_core.specs.PartsBy.{boxed_by, clauses_by, core_by, cores_by}
use Rattle.gen_parts.specs.Pieces.{behind}
use Rattle.gen_parts.specs.Emission.{with_piece, here}
use Rattle.gen_forms.specs.Open.{clause_to, clauses_to, clause_out, clause_outs}
use Rattle.gen_forms.specs.Around.{context_of}
use Rattle.gen_forms.proofs.Landings.{past-clause}
use Rattle.gen_forms.proofs.Chains.{piece-end}
use Rattle.gen_forms.proofs.Turns.{next-item, piece-turn, line-turn}
use Rattle.gen_forms.proofs.guards.clauses.Goals as goal

pub loop-each-preserved : goal.loop-each-preserved
loop-each-preserved g c =
    let v = g.T.Emits.form in
    let around = context_of c.args.context.now in
    let e = c.loop-each.code in
    let f = c.clause.new.code in
    let r = c.args.a in
    let es = cores_by v c.each-item.result.classes.items in
    let t = boxed_by v c.each-item.result.target in
    let d = core_by v c.each-item.result.body in
    let others = clauses_by v (drop (c.loop-each.each-index + 1) c.args.list.now) in
    let end = behind (clause_out around (here e) r es t d) in
    let items = next-item c.args.list.now c.loop-each.each-index c.each-item.result c.loop-each-test.true c.each-item.is in
    let at = past-clause 0 around (here e) r es t d in
    record {
      code = piece-turn (λ k. clauses_to 0 around k r others) e f
          (with_piece c.args.code.now (clauses_to 0 around (here c.args.code.now) r (clauses_by v c.args.list.now)))
          (clause_to 0 around (here e) r es t d) end c.in_ok-out.ensures.code at
          (ap (λ xs. with_piece e (clauses_to 0 around (here e) r (clauses_by v xs))) (sym items)
          ∙ c.loop-each.invariant.code);
      outs = line-turn (λ k. clause_outs around k r others) e f (clause_to 0 around (here e) r es t d) end
          c.loop-each.outs.items c.push.new.self.items
          (c.args.outs.now.items ++ clause_outs around (here c.args.code.now) r (clauses_by v c.args.list.now))
          (clause_out around (here e) r es t d).line c.in_ok-out.ensures.code at
          (c.in_ok-push.ensures.items ∙ ap (λ n. c.loop-each.outs.items ++ n ∷ []) c.in_ok-out.ensures.out)
          (ap (λ xs. c.loop-each.outs.items ++ clause_outs around (here e) r (clauses_by v xs)) (sym items)
          ∙ c.loop-each.invariant.outs);
    }

pub returns-clause-code : goal.returns-clause-code
returns-clause-code g c =
    let v = g.T.Emits.form in
    let around = context_of c.args.context.now in
    let e = c.args.code.now in
    piece-end (λ cs. clauses_to 0 around (here c.loop-each.code) c.args.a (clauses_by v cs)) c.args.list.now
    c.loop-each.each-index c.loop-each.code
    (with_piece e (clauses_to 0 around (here e) c.args.a (clauses_by v c.args.list.now))) c.loop-each-test.false refl
    c.loop-each.invariant.code
