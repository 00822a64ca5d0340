use Rattle.std.proofs.Common.{◌≡◌, ◌∙◌, sym, ap, subst, position, Some, None}
use Rattle.std.specs.Map.{keys_of}
use Rattle.std.specs.List.{IsDistinct}
use Rattle.pair_table.proofs.Apart.{apart_without}
use Rattle.pair_table.proofs.Places.{value_there, no_value, taken_out, none_taken_out}
use Rattle.pair_table.proofs.few.remove_from.Goals as goal

pub returns-in-Some-clause-value : goal.returns-in-Some-clause-value
returns-in-Some-clause-value g c =
    let t = g.K.PartialEq.eq c.args.key.now in
    let es = c.args.pairs.now.items in
    let at : position t (keys_of es) ≡ Some c.in-Some.place = ap (λ l. position t (keys_of l)) (sym c.deref.ensures.value) ∙ sym c.in-Some.ensures.place in
    ap (λ r. Some r.1) c.remove.ensures.value ∙ sym (value_there t es c.in-Some.place c.remove.result at)

pub returns-in-Some-clause-rest : goal.returns-in-Some-clause-rest
returns-in-Some-clause-rest g c =
    let t = g.K.PartialEq.eq c.args.key.now in
    let es = c.args.pairs.now.items in
    let at : position t (keys_of es) ≡ Some c.in-Some.place = ap (λ l. position t (keys_of l)) (sym c.deref.ensures.value) ∙ sym c.in-Some.ensures.place in
    c.remove.ensures.items ∙ sym (taken_out t es c.in-Some.place at)

pub returns-in-Some-clause-apart : goal.returns-in-Some-clause-apart
returns-in-Some-clause-apart g c =
    subst (λ l. IsDistinct g.K.PartialEq.eq (keys_of l)) (sym (returns-in-Some-clause-rest g c))
    (apart_without g.K.PartialEq.eq (g.K.PartialEq.eq c.args.key.now) c.args.pairs.now.items c.requires)

pub returns-in-None-clause-value : goal.returns-in-None-clause-value
returns-in-None-clause-value g c =
    let t = g.K.PartialEq.eq c.args.key.now in
    let es = c.args.pairs.now.items in
    let at : position t (keys_of es) ≡ None = ap (λ l. position t (keys_of l)) (sym c.deref.ensures.value) ∙ sym c.in-None.ensures.place in
    sym (no_value t es at)

pub returns-in-None-clause-rest : goal.returns-in-None-clause-rest
returns-in-None-clause-rest g c =
    let t = g.K.PartialEq.eq c.args.key.now in
    let es = c.args.pairs.now.items in
    let at : position t (keys_of es) ≡ None = ap (λ l. position t (keys_of l)) (sym c.deref.ensures.value) ∙ sym c.in-None.ensures.place in
    sym (none_taken_out t es at)
