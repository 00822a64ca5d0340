use Rattle.std.proofs.Common.{◌≡◌, ◌∙◌, sym, ap, subst, arith, length, position, slice_get, Some, None}
use Rattle.std.specs.Map.{keys_of, values_of}
use Rattle.std.specs.List.{IsDistinct}
use Rattle.std.proofs.lemmas.List.{with_items_is}
use Rattle.indexmap.specs.IndexMap.{set_value_at}
use Rattle.pair_table.proofs.Apart.{apart_with}
use Rattle.pair_table.proofs.Places.{under_key, no_value, given_there, given_last}
use Rattle.pair_table.proofs.few.put.Goals as goal

pub returns-in-Some-clause-before : goal.returns-in-Some-clause-before
returns-in-Some-clause-before g c =
    let t = g.K.PartialEq.eq c.args.key in
    let es = c.args.pairs.now.items in
    let at : position t (keys_of es) ≡ Some c.in-Some.place = ap (λ l. position t (keys_of l)) (sym c.deref.ensures.value) ∙ sym c.in-Some.ensures.place in
    sym c.replace_at.ensures.before ∙ ap (λ l. slice_get (values_of l) c.in-Some.place) c.deref_mut.ensures.value ∙ sym (under_key t es c.in-Some.place at)

pub returns-in-Some-clause-ok : goal.returns-in-Some-clause-ok
returns-in-Some-clause-ok g c =
    let t = g.K.PartialEq.eq c.args.key in
    let es = c.args.pairs.now.items in
    let at : position t (keys_of es) ≡ Some c.in-Some.place = ap (λ l. position t (keys_of l)) (sym c.deref.ensures.value) ∙ sym c.in-Some.ensures.place in
    let long : length c.replace_at.new.pairs ≡ c.args.pairs.now.len = omega (arith, c.replace_at.auto.pairs, ap length c.deref_mut.ensures.value, c.args.pairs.now.ok.0) in
    with_items_is c.args.pairs.now c.replace_at.new.pairs long ∙ c.replace_at.ensures.pairs
    ∙ ap (λ l. set_value_at l c.in-Some.place c.args.value) c.deref_mut.ensures.value
    ∙ sym (given_there g.K.PartialEq.eq es c.args.key c.args.value c.in-Some.place at)

pub returns-in-Some-clause-apart : goal.returns-in-Some-clause-apart
returns-in-Some-clause-apart g c =
    subst (λ l. IsDistinct g.K.PartialEq.eq (keys_of l)) (sym (returns-in-Some-clause-ok g c))
    (apart_with g.K.PartialEq.eq c.args.key c.args.value g.met.K.Eq.laws c.args.pairs.now.items c.requires)

pub returns-in_ok-push_last-in-None-clause-before : goal.returns-in_ok-push_last-in-None-clause-before
returns-in_ok-push_last-in-None-clause-before g c =
    let t = g.K.PartialEq.eq c.args.key in
    let at : position t (keys_of c.args.pairs.now.items) ≡ None = ap (λ l. position t (keys_of l)) (sym c.deref.ensures.value) ∙ sym c.in-None.ensures.place in
    sym (no_value t c.args.pairs.now.items at)

pub returns-in_ok-push_last-in-None-clause-ok : goal.returns-in_ok-push_last-in-None-clause-ok
returns-in_ok-push_last-in-None-clause-ok g c =
    let t = g.K.PartialEq.eq c.args.key in
    let at : position t (keys_of c.args.pairs.now.items) ≡ None = ap (λ l. position t (keys_of l)) (sym c.deref.ensures.value) ∙ sym c.in-None.ensures.place in
    c.in_ok-push_last-in-None.ensures.ok ∙ sym (given_last g.K.PartialEq.eq c.args.pairs.now.items c.args.key c.args.value at)

pub returns-in_ok-push_last-in-None-clause-apart : goal.returns-in_ok-push_last-in-None-clause-apart
returns-in_ok-push_last-in-None-clause-apart g c =
    subst (λ l. IsDistinct g.K.PartialEq.eq (keys_of l)) (sym (returns-in_ok-push_last-in-None-clause-ok g c))
    (apart_with g.K.PartialEq.eq c.args.key c.args.value g.met.K.Eq.laws c.args.pairs.now.items c.requires)
