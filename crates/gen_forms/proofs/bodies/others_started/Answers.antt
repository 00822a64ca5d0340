use Rattle.std.proofs.Common.{◌≡◌, ◌+◌, ◌++◌, ◌≤◌, length, drop, ap, subst, ◌∙◌, sym, refl}
use Rattle.ir_core.specs.PartsBy.{core_by, cores_by}
use Rattle.gen_parts.specs.Pieces.{past}
use Rattle.gen_parts.specs.Emission.{with_piece, here}
use Rattle.gen_forms.specs.Gen.{gen, others_in_turn, starts}
use Rattle.gen_forms.specs.Around.{context_of}
use Rattle.gen_forms.proofs.Chains.{always, piece-end}
use Rattle.gen_forms.proofs.Turns.{next-item-of, piece-turn}
use Rattle.gen_forms.proofs.Marking.{marked-turn}
use Rattle.gen_forms.proofs.bodies.others_started.Goals as goal

pub loop-core-preserved : goal.loop-core-preserved
loop-core-preserved g c =
    let v = g.T.Emits.form in
    let around = context_of c.args.context.now in
    let e = c.loop-core.code in
    let f = c.emit.new.code in
    let r = c.args.a in
    let list = c.args.list.now.items in
    let t = core_by v c.core-item.result in
    let piece = gen around (here e) r t in
    let others = cores_by v (drop (c.loop-core.core-index + 1) list) in
    let items = next-item-of list c.deref-core-items.result.now c.loop-core.core-index c.core-item.result
    c.deref-core-items.ensures.value c.loop-core-test.true c.core-item.is in
    let taken : f ≡ with_piece e piece =
    c.in_ok-emit.ensures ∙ ap (λ x. with_piece e (gen around (here e) r (v x))) c.deref.ensures in
    record {
      code = piece-turn (λ k. others_in_turn around k r others) e f
          (with_piece c.args.code.now (others_in_turn around (here c.args.code.now) r (cores_by v list)))
          piece (past (here e) piece) taken refl
          (ap (λ xs. with_piece e (others_in_turn around (here e) r (cores_by v xs))) (sym items)
          ∙ c.loop-core.invariant.code);
      starts = marked-turn around r c.loop-core.left _ e f t others
          c.loop-core.starts.items c.mark_start.new.starts.items
          (c.args.starts.now.items ++ starts around (here c.args.code.now) r c.args.count (cores_by v list)) taken
          c.in_ok-left.ensures.wanted c.in_ok-left.ensures.marked
          (ap (λ xs. c.loop-core.starts.items ++ starts around (here e) r c.loop-core.left (cores_by v xs)) (sym items)
          ∙ c.loop-core.invariant.starts);
    }

pub returns-clause-code : goal.returns-clause-code
returns-clause-code g c =
    let v = g.T.Emits.form in
    let around = context_of c.args.context.now in
    let e = c.args.code.now in
    let list = c.args.list.now.items in
    let passed : length list ≤ c.loop-core.core-index =
    subst (λ xs. length xs ≤ c.loop-core.core-index) c.deref-core-items.ensures.value c.loop-core-test.false in
    always c.add_ends.result
    (piece-end (λ cs. others_in_turn around (here c.loop-core.code) c.args.a (cores_by v cs)) list
    c.loop-core.core-index c.loop-core.code
    (with_piece e (others_in_turn around (here e) c.args.a (cores_by v list))) passed refl c.loop-core.invariant.code)
