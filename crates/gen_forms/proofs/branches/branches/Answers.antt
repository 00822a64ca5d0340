use Rattle.std.proofs.Common.{◌+◌, ◌++◌, ◌∷◌, [], drop, ap, ◌∙◌, sym}
use Rattle.ir_core.specs.PartsBy.{branches_by, core_by}
use Rattle.gen_parts.specs.Pieces.{behind}
use Rattle.gen_parts.specs.Emission.{with_piece, here}
use Rattle.gen_forms.specs.Open.{branch_to, branches_to, branch_out, branch_outs}
use Rattle.gen_forms.specs.Around.{context_of}
use Rattle.gen_forms.proofs.Landings.{past-branch}
use Rattle.gen_forms.proofs.Turns.{next-item-of, piece-turn, line-turn}
use Rattle.gen_forms.proofs.branches.branches.Goals as goal

pub loop-each-preserved : goal.loop-each-preserved
loop-each-preserved g c =
    let v = g.T.Emits.form in
    let around = context_of c.args.context.now in
    let e = c.loop-each.code in
    let f = c.branch-code.new.code in
    let r = c.args.a in
    let t = core_by v c.each-item.result.test in
    let b = core_by v c.each-item.result.body in
    let others = branches_by v (drop (c.loop-each.each-index + 1) c.args.list.now.items) in
    let end = behind (branch_out around (here e) r t b) in
    let items = next-item-of c.args.list.now.items c.deref-each-items.result.now c.loop-each.each-index c.each-item.result
    c.deref-each-items.ensures.value c.loop-each-test.true c.each-item.is in
    let at = past-branch 0 around (here e) r t b in
    record {
      code = piece-turn (λ k. branches_to 0 around k r others) e f
          (with_piece c.args.code.now (branches_to 0 around (here c.args.code.now) r (branches_by v c.args.list.now.items)))
          (branch_to 0 around (here e) r t b) end c.in_ok-out.ensures.code at
          (ap (λ xs. with_piece e (branches_to 0 around (here e) r (branches_by v xs))) (sym items)
          ∙ c.loop-each.invariant.code);
      outs = line-turn (λ k. branch_outs around k r others) e f (branch_to 0 around (here e) r t b) end
          c.loop-each.outs.items c.push.new.self.items
          (c.args.outs.now.items ++ branch_outs around (here c.args.code.now) r (branches_by v c.args.list.now.items))
          (branch_out around (here e) r t b).line c.in_ok-out.ensures.code at
          (c.in_ok-push.ensures.items ∙ ap (λ n. c.loop-each.outs.items ++ n ∷ []) c.in_ok-out.ensures.out)
          (ap (λ xs. c.loop-each.outs.items ++ branch_outs around (here e) r (branches_by v xs)) (sym items)
          ∙ c.loop-each.invariant.outs);
    }
