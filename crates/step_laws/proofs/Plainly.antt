-- Simple forms are plain ones.
use Rattle.std.proofs.Common.{◌≡◌, arith, refl, Bool, true, false}
use Rattle.ir_core.specs.CoreForm as form
use Rattle.ir_core.specs.CoreForm.{CoreForm, Forms, Items, Branches}
use Rattle.def_eval.specs.Source.{over_forms, over_items, over_branches, how_many, span}
use Rattle.step_laws.specs.Simple.{IsSimple, AreSimple, AreSimpleItems, AreSimpleBranches}
use Rattle.step_laws.specs.Passed.{in_array, MayHand}
use Rattle.step_laws.specs.Plain.{IsPlain, ArePlain, ArePlainItems, ArePlainBranches}

-- without a block
none_handed : (t : Bool) → MayHand t form.absent
none_handed false = tt
none_handed true = tt

-- no body stands in them
mutual
  pub no_bodies : (e : CoreForm) → IsSimple e → span e ≡ 0
  no_bodies form.nil is = refl
  no_bodies form.truth is = refl
  no_bodies form.falsehood is = refl
  no_bodies form.self_ref is = absurd is
  no_bodies (form.int z) is = refl
  no_bodies (form.str t) is = absurd is
  no_bodies (form.sym x) is = absurd is
  no_bodies (form.local x) is = refl
  no_bodies (form.own x) is = absurd is
  no_bodies form.exception is = absurd is
  no_bodies (form.set_local x e) is = no_bodies e is.0
  no_bodies (form.ivar x) is = absurd is
  no_bodies (form.set_ivar x e) is = absurd is
  no_bodies (form.gvar x) is = absurd is
  no_bodies (form.set_gvar x e) is = absurd is
  no_bodies (form.constant x) is = absurd is
  no_bodies (form.top_constant x) is = absurd is
  no_bodies (form.in_constant e x) is = absurd is
  no_bodies (form.set_constant x e) is = absurd is
  no_bodies (form.set_in_constant e x v) is = absurd is
  no_bodies (form.array is') is = absurd is
  no_bodies (form.hash ps) is = absurd is
  no_bodies (form.range a b x) is = absurd is
  no_bodies (form.text es) is = absurd is
  no_bodies (form.intern e) is = absurd is
  no_bodies (form.seq es) is = none_in_forms es is
  no_bodies (form.cond bs o) is = omega (arith, none_in_branches bs is.0, no_bodies o is.1)
  no_bodies (form.and_form a b) is = omega (arith, no_bodies a is.0, no_bodies b is.1)
  no_bodies (form.or_form a b) is = omega (arith, no_bodies a is.0, no_bodies b is.1)
  no_bodies (form.while_form first t b) is = omega (arith, no_bodies t is.0, no_bodies b is.1)
  no_bodies (form.call (form.to e) x is' form.absent) is = omega (arith, no_bodies e is.0, none_in_items is' is.1)
  no_bodies (form.call (form.to e) x is' (form.there b)) is = absurd is
  no_bodies (form.call form.on_self x is' form.absent) is = omega (arith, none_in_items is' is.0)
  no_bodies (form.call form.on_self x is' (form.there b)) is = absurd is
  no_bodies (form.call form.bare x is' b) is = absurd is
  no_bodies (form.yield_form is') is = absurd is
  no_bodies (form.super_form is' b) is = absurd is
  no_bodies (form.function f) is = absurd is
  no_bodies (form.lambda f) is = absurd is
  no_bodies (form.begin_form b cs o e) is = absurd is
  no_bodies (form.return_form e) is = absurd is
  no_bodies (form.break_form e) is = no_bodies e is
  no_bodies (form.next_form e) is = no_bodies e is
  no_bodies form.retry is = absurd is
  no_bodies (form.define x f) is = absurd is
  no_bodies (form.define_on e x f) is = absurd is
  no_bodies (form.class_form k x p f) is = absurd is
  no_bodies (form.module_form k x f) is = absurd is
  no_bodies (form.singleton_class e f) is = absurd is
  no_bodies (form.alias_form x y) is = absurd is
  no_bodies (form.undef_form x) is = absurd is
  no_bodies (form.defined q x e) is = absurd is
  no_bodies (form.item e q) is = absurd is
  no_bodies (form.rest_of e from post) is = absurd is
  no_bodies (form.tail_of e from count) is = absurd is

  none_in_forms : (es : Forms) → AreSimple es → over_forms how_many es ≡ 0
  none_in_forms form.none is = refl
  none_in_forms (form.more e es) is = omega (arith, no_bodies e is.0, none_in_forms es is.1)

  none_in_items : (is' : Items) → AreSimpleItems is' → over_items how_many is' ≡ 0
  none_in_items form.no_items is = refl
  none_in_items (form.plain e is') is = omega (arith, no_bodies e is.0, none_in_items is' is.1)
  none_in_items (form.splat e is') is = absurd is

  none_in_branches : (bs : Branches) → AreSimpleBranches bs → over_branches how_many bs ≡ 0
  none_in_branches form.no_branches is = refl
  none_in_branches (form.branch t b bs) is =
      omega (arith, no_bodies t is.0, no_bodies b is.1, none_in_branches bs is.2)

mutual
  pub simple_plain : (e : CoreForm) → IsSimple e → IsPlain e
  simple_plain form.nil is = tt
  simple_plain form.truth is = tt
  simple_plain form.falsehood is = tt
  simple_plain form.self_ref is = absurd is
  simple_plain (form.int z) is = tt
  simple_plain (form.str t) is = absurd is
  simple_plain (form.sym x) is = absurd is
  simple_plain (form.local x) is = tt
  simple_plain (form.own x) is = absurd is
  simple_plain form.exception is = absurd is
  simple_plain (form.set_local x e) is = simple_plain e is.0
  simple_plain (form.ivar x) is = absurd is
  simple_plain (form.set_ivar x e) is = absurd is
  simple_plain (form.gvar x) is = absurd is
  simple_plain (form.set_gvar x e) is = absurd is
  simple_plain (form.constant x) is = absurd is
  simple_plain (form.top_constant x) is = absurd is
  simple_plain (form.in_constant e x) is = absurd is
  simple_plain (form.set_constant x e) is = absurd is
  simple_plain (form.set_in_constant e x v) is = absurd is
  simple_plain (form.array is') is = absurd is
  simple_plain (form.hash ps) is = absurd is
  simple_plain (form.range a b x) is = absurd is
  simple_plain (form.text es) is = absurd is
  simple_plain (form.intern e) is = absurd is
  simple_plain (form.seq es) is = forms_plain es is
  simple_plain (form.cond bs o) is = (branches_plain bs is.0, simple_plain o is.1)
  simple_plain (form.and_form a b) is = (simple_plain a is.0, simple_plain b is.1)
  simple_plain (form.or_form a b) is = (simple_plain a is.0, simple_plain b is.1)
  simple_plain (form.while_form false t b) is = (simple_plain t is.0, simple_plain b is.1)
  simple_plain (form.while_form true t b) is = (simple_plain t is.0, simple_plain b is.1, no_bodies t is.0)
  simple_plain (form.call (form.to e) x is' form.absent) is = (simple_plain e is.0, items_plain is' is.1, none_handed (in_array is'), tt)
  simple_plain (form.call (form.to e) x is' (form.there b)) is = absurd is
  simple_plain (form.call form.on_self x is' form.absent) is = (items_plain is' is.0, none_handed (in_array is'), tt)
  simple_plain (form.call form.on_self x is' (form.there b)) is = absurd is
  simple_plain (form.call form.bare x is' b) is = absurd is
  simple_plain (form.yield_form is') is = absurd is
  simple_plain (form.super_form is' b) is = absurd is
  simple_plain (form.function f) is = absurd is
  simple_plain (form.lambda f) is = absurd is
  simple_plain (form.begin_form b cs o e) is = absurd is
  simple_plain (form.return_form e) is = absurd is
  simple_plain (form.break_form e) is = simple_plain e is
  simple_plain (form.next_form e) is = simple_plain e is
  simple_plain form.retry is = absurd is
  simple_plain (form.define x f) is = absurd is
  simple_plain (form.define_on e x f) is = absurd is
  simple_plain (form.class_form k x p f) is = absurd is
  simple_plain (form.module_form k x f) is = absurd is
  simple_plain (form.singleton_class e f) is = absurd is
  simple_plain (form.alias_form x y) is = absurd is
  simple_plain (form.undef_form x) is = absurd is
  simple_plain (form.defined q x e) is = absurd is
  simple_plain (form.item e q) is = absurd is
  simple_plain (form.rest_of e from post) is = absurd is
  simple_plain (form.tail_of e from count) is = absurd is

  forms_plain : (es : Forms) → AreSimple es → ArePlain es
  forms_plain form.none is = tt
  forms_plain (form.more e es) is = (simple_plain e is.0, forms_plain es is.1)

  items_plain : (is' : Items) → AreSimpleItems is' → ArePlainItems is'
  items_plain form.no_items is = tt
  items_plain (form.plain e is') is = (simple_plain e is.0, items_plain is' is.1)
  items_plain (form.splat e is') is = absurd is

  branches_plain : (bs : Branches) → AreSimpleBranches bs → ArePlainBranches bs
  branches_plain form.no_branches is = tt
  branches_plain (form.branch t b bs) is = (simple_plain t is.0, simple_plain b is.1, branches_plain bs is.2)
