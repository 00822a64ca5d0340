use Rattle.std.proofs.Common.{◌≡◌, ◌∙◌, ap, sym, drop, ◌+◌, None}
use Rattle.vm_steps.specs.Collections.{pairs_put}
use Rattle.vm_steps.proofs.Pairing.{pending, key_taken, pair_taken, pair_refused}
use Rattle.vm_steps.proofs.collections.add_pairs.Goals.{in-Some+in_ok-add_pair-in-Some+in-None-2, in-None}
use Rattle.vm_steps.proofs.collections.add_pairs.Goals as goal

pub returns-in-Some-2 : goal.returns-in-Some-2
returns-in-Some-2 c =
    c.values.invariant
    ∙ ap (λ k. pairs_put c.args.id c.values.heap (pending k (drop c.values.value-index c.args.values.now))) c.in-Some.is
    ∙ pair_refused c.args.id c.values.heap c.add_pair.new.heap c.in-Some.shown c.in-Some-2.cause c.args.values.now
    c.values.value-index _ c.values-test.true
    (c.in_ok-add_pair-in-Some.ensures ∙ ap (λ o. (o, c.add_pair.new.heap)) c.in-Some-2.is)

pub values-preserved : goal.values-preserved
values-preserved c =
    let rest = drop (c.values.value-index + 1) c.args.values.now in
    elim c.match-key.branch [
      | in-Some+in_ok-add_pair-in-Some+in-None-2 w ↦
          c.values.invariant
          ∙ ap (λ k. pairs_put c.args.id c.values.heap (pending k (drop c.values.value-index c.args.values.now))) w.in-Some.is
          ∙ pair_taken c.args.id c.values.heap w.add_pair.new.heap w.in-Some.shown c.args.values.now c.values.value-index _
          c.values-test.true (w.in_ok-add_pair-in-Some.ensures ∙ ap (λ o. (o, w.add_pair.new.heap)) w.in-None-2.is)
          ∙ ap (λ h. pairs_put c.args.id h (pending None rest)) (sym w.heap-is)
          ∙ ap (λ k. pairs_put c.args.id c.match-key.heap (pending k rest)) (sym w.key-is)
      | in-None w ↦
          c.values.invariant
          ∙ ap (λ k. pairs_put c.args.id c.values.heap (pending k (drop c.values.value-index c.args.values.now))) w.in-None.is
          ∙ key_taken c.args.id c.values.heap c.args.values.now c.values.value-index _ c.values-test.true
          ∙ ap (λ k. pairs_put c.args.id c.values.heap (pending k rest)) (sym w.key-is)
          ∙ ap (λ h. pairs_put c.args.id h (pending c.match-key.key rest)) (sym w.heap-is)
    ]
