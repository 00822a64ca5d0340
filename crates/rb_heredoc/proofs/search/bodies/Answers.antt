use Rattle.std.proofs.Common.{◌≡◌, ◌++◌, ◌∷◌, [], arith, ap, ◌∙◌, rules, refl, length-append, take, drop, ◌-◌}
use Rattle.rb_heredoc.specs.Lines.{lines_of}
use Rattle.rb_heredoc.specs.Bodies.{bodies_at}
use Rattle.rb_heredoc.proofs.BodySteps.{next_body, no_body, all_bodies, head_here, next_is}
use Rattle.rb_heredoc.proofs.search.bodies.Goals as goal

pub returns-in_default-clause-found : goal.returns-in_default-clause-found
unfolding bodies_at
returns-in_default-clause-found c =
    let here = head_here c.args.heads.now c.heads.head-index c.head-item.result c.heads-test.true c.head-item.is in
    let none = no_body c.args.heads.now c.heads.head-index c.head-item.result c.heads.pieces _ _ here
    c.in_default.ensures.found c.heads.invariant.same in
    rw none refl

pub heads-preserved : goal.heads-preserved
heads-preserved c =
    let here = head_here c.args.heads.now c.heads.head-index c.head-item.result c.heads-test.true c.head-item.is in
    let pushed : c.push.new.self ≡ c.heads.pieces ++ take (c.in-Some.end - c.heads.next)
    (drop c.heads.next c.args.text.now) ∷ [] = c.in_ok-push.ensures.ok
    ∙ ap (λ piece. c.heads.pieces ++ piece ∷ []) c.in_ok-from_slice.ensures in
    record {
      forward = omega (arith, c.in-Some.ensures.forward.0, c.in-Some.ensures.forward.1);
      count = rw (pushed, length-append) (omega (arith, c.heads.invariant.count));
      within = search rules;
      same = rw pushed (next_body c.args.heads.now c.heads.head-index c.head-item.result c.heads.pieces _ _
          (lines_of (drop c.in-Some.behind c.args.text.now)) _ here c.in-Some.ensures.found c.heads.invariant.same);
    }

pub returns-clause-found : goal.returns-clause-found
unfolding bodies_at
returns-clause-found c =
    let all = all_bodies c.args.heads.now c.heads.head-index c.heads.pieces _ _ c.heads-test.false
    c.heads.invariant.same in
    rw (all, next_is c.args.text.now c.heads.next c.heads.invariant.within) refl
