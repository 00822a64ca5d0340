use Rattle.std.proofs.Common.{◌≡◌, ℕ, ◌-◌, ap, sym, ◌∙◌, subst, arith, filter}
use Rattle.std.specs.Prelude.{Option}
use Rattle.rb_value.specs.declared.value.Value.{Value}
use Rattle.rb_value.specs.declared.value.ObjId.{ObjId}
use Rattle.def_core.specs.Sound.{census, Is, ClassOrModule}
use Rattle.def_calls.specs.World as world
use Rattle.def_calls.specs.World.{classes_around, classes_within, enclosing_at}
use Rattle.def_calls.specs.Constants.{option_or, first_constant}
use Rattle.run_definitions.specs.Enclosing.{enclosed, inner_constant}
use Rattle.run_definitions.proofs.Paths.{bare, is_inner, around_next, around_none, class_at_number}
use Rattle.run_definitions.proofs.constants.constant_around.Goals as goal

pub inner_constant-requires-clause-class : goal.inner_constant-requires-clause-class
inner_constant-requires-clause-class c =
    let st = c.args.st.now.store in
    subst (Is (census st) ClassOrModule)
    (sym (c.class.ensures ∙ ap (λ (e : world.Enclosing). e.class) (c.at-enclosing.ensures (bare st))))
    (class_at_number st c.requires.sound c.args.lists.now (bare st) c.outward.at c.requires.lists)

pub returns-then-at-eq0-clause-constant : goal.returns-then-at-eq0-clause-constant
unfolding classes_around
returns-then-at-eq0-clause-constant c = λ w.
    let objects = c.args.st.now.store.objects in
    let at = enclosed c.args.lists.now w in
    sym (around_none objects c.args.name at c.outward.left)
    ∙ ap (λ (n : ℕ). first_constant objects (filter is_inner (classes_within c.outward.left at n)) c.args.name)
    (sym c.if-at-eq0.true)
    ∙ c.outward.invariant w

pub returns-in-Some-clause-constant : goal.returns-in-Some-clause-constant
unfolding classes_around
returns-in-Some-clause-constant c = λ w.
    let objects = c.args.st.now.store.objects in
    let at = enclosed c.args.lists.now w in
    let own = enclosing_at at c.outward.at in
    let rest = first_constant objects (filter is_inner (classes_within (c.outward.left - 1) at own.around)) c.args.name in
    ap (λ (o : Option Value). option_or o rest)
    (c.in-Some.ensures.constant ∙ ap (λ (k : ObjId). inner_constant objects k c.args.name)
    (c.class.ensures ∙ ap (λ (e : world.Enclosing). e.class) (c.at-enclosing.ensures w)))
    ∙ sym (around_next objects c.args.name at c.outward.left c.outward.at c.outward-test.true (omega
    (arith, c.if-at-eq0.false)))
    ∙ c.outward.invariant w

pub outward-preserved : goal.outward-preserved
outward-preserved c = λ w.
    let objects = c.args.st.now.store.objects in
    let at = enclosed c.args.lists.now w in
    let own = enclosing_at at c.outward.at in
    let rest = first_constant objects (filter is_inner (classes_within (c.outward.left - 1) at own.around)) c.args.name in
    ap (λ (n : ℕ). first_constant objects (filter is_inner (classes_within (c.outward.left - 1) at n)) c.args.name)
    (c.around-at.ensures ∙ ap (λ (e : world.Enclosing). e.around) (c.at-enclosing.ensures w))
    ∙ ap (λ (o : Option Value). option_or o rest)
    (c.in-None.ensures.constant ∙ ap (λ (k : ObjId). inner_constant objects k c.args.name)
    (c.class.ensures ∙ ap (λ (e : world.Enclosing). e.class) (c.at-enclosing.ensures w)))
    ∙ sym (around_next objects c.args.name at c.outward.left c.outward.at c.outward-test.true (omega
    (arith, c.if-at-eq0.false)))
    ∙ c.outward.invariant w

pub returns-clause-constant : goal.returns-clause-constant
unfolding classes_around
returns-clause-constant c = λ w.
    let objects = c.args.st.now.store.objects in
    let at = enclosed c.args.lists.now w in
    let e : 0 ≡ c.outward.left = omega (arith, c.outward-test.false) in
    ap (λ (k : ℕ). first_constant objects (filter is_inner (classes_within k at c.outward.at)) c.args.name) e
    ∙ c.outward.invariant w
