use Rattle.std.proofs.Common.{◌≡◌, ℕ, ◌+◌, ◌++◌, ◌∷◌, [], drop, ap, ◌∙◌, sym, refl}
use Rattle.ir_core.specs.PartsBy.{core_by, cores_by}
use Rattle.gen_parts.specs.declared.emitter.Spot.{Spot}
use Rattle.gen_parts.specs.declared.line.Line.TheVariants as line
use Rattle.gen_parts.specs.Pieces.{past, behind, both, jump_if}
use Rattle.gen_parts.specs.Emission.{with_piece, here}
use Rattle.gen_parts.proofs.Laws.{both-both, past-both, past-puts}
use Rattle.gen_forms.specs.Open.{test_one, tests_to, test_outs}
use Rattle.gen_forms.specs.Around.{context_of}
use Rattle.gen_forms.proofs.Chains.{piece-end}
use Rattle.gen_forms.proofs.Turns.{next-item, piece-turn, line-turn, test-turn}
use Rattle.gen_forms.proofs.guards.test_others.Goals as goal

pub loop-class-preserved : goal.loop-class-preserved
loop-class-preserved g c =
    let v = g.T.Emits.form in
    let around = context_of c.args.context.now in
    let e = c.loop-class.code in
    let f = c.test_class.new.code in
    let r = c.args.a in
    let t = core_by v c.class-item.result in
    let others = cores_by v (drop (c.loop-class.class-index + 1) c.args.classes.now) in
    let leap = jump_if (r + 2) 0 in
    let test = test_one around (behind (here e)) r t in
    let end = past (behind (here e)) test in
    let items = next-item c.args.classes.now c.loop-class.class-index c.class-item.result c.loop-class-test.true
    c.class-item.is in
    let held : c.hold.new.self ≡ with_piece e leap =
    c.in_ok-out.ensures.taken ∙ ap (λ (n : ℕ). with_piece e (jump_if n 0)) c.in_ok-register.ensures in
    let taken : f ≡ with_piece e (both leap test) =
    test-turn around r t e c.hold.new.self f held c.in_ok-test_class.ensures in
    let at : past (here e) (both leap test) ≡ end =
    past-both (here e) leap test ∙ ap (λ (k : Spot). past k test) (past-puts (here e) (line.JumpIf (r + 2) 0)) in
    record {
      code = piece-turn (λ k. tests_to 0 around k r others) e f
          (with_piece c.args.code.now (tests_to 0 around (here c.args.code.now) r (cores_by v c.args.classes.now)))
          (both leap test) end taken at
          (ap (with_piece e) (both-both leap test (tests_to 0 around end r others))
          ∙ (ap (λ xs. with_piece e (tests_to 0 around (here e) r (cores_by v xs))) (sym items)
          ∙ c.loop-class.invariant.code));
      outs = line-turn (λ k. test_outs around k r others) e f (both leap test) end
          c.loop-class.outs.items c.push.new.self.items
          (c.args.outs.now.items ++ test_outs around (here c.args.code.now) r (cores_by v c.args.classes.now))
          (here e).line taken at
          (c.in_ok-push.ensures.items ∙ ap (λ n. c.loop-class.outs.items ++ n ∷ []) c.in_ok-out.ensures.number)
          (ap (λ xs. c.loop-class.outs.items ++ test_outs around (here e) r (cores_by v xs)) (sym items)
          ∙ c.loop-class.invariant.outs);
    }

pub returns-clause-code : goal.returns-clause-code
returns-clause-code g c =
    let v = g.T.Emits.form in
    let around = context_of c.args.context.now in
    let e = c.args.code.now in
    piece-end (λ cs. tests_to 0 around (here c.loop-class.code) c.args.a (cores_by v cs)) c.args.classes.now
    c.loop-class.class-index c.loop-class.code
    (with_piece e (tests_to 0 around (here e) c.args.a (cores_by v c.args.classes.now))) c.loop-class-test.false refl
    c.loop-class.invariant.code
