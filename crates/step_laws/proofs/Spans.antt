-- How many bodies stand in a form, as the evaluation counts them and as the limits do, and their numbers behind others.
use Rattle.std.proofs.Common.{◌≡◌, ℕ, ◌+◌, arith, refl, ◌∙◌}
use Rattle.rb_syntax.specs.declared.core_form.DefinedKind.{DefinedKind}
use Rattle.rb_syntax.specs.declared.core_form.DefinedKind.TheVariants as asks
use Rattle.ir_core.specs.CoreForm as form
use Rattle.ir_core.specs.CoreForm.{Name, CoreForm, Body, Maybe, Forms, Items, Pairs, Branches, Clauses, Receiver}
use Rattle.code_laws.proofs.Shares.{many, many_maybe, many_all, many_items, many_pairs, many_branches, many_clauses, many_receiver, many_body}
use Rattle.def_eval.specs.Source.{over_body, over_maybe, over_forms, over_items, over_pairs, over_branches, over_clauses, over_receiver, over_asked, how_many, span}
use Rattle.eval_laws.specs.Standing.{past_items, past_branches}

pub none_asked : (q : DefinedKind) (x : Name) → over_asked how_many q x ≡ 0
none_asked asks.Expression x = refl
none_asked asks.LocalVariable x = refl
none_asked asks.SelfReference x = refl
none_asked asks.Assignment x = refl
none_asked asks.InstanceVariable x = refl
none_asked asks.GlobalVariable x = refl
none_asked asks.Constant x = refl
none_asked asks.Method x = refl
none_asked asks.Yield x = refl
none_asked asks.Super x = refl

mutual
  pub counted : (e : CoreForm) → many e ≡ span e
  counted form.nil = refl
  counted form.truth = refl
  counted form.falsehood = refl
  counted form.self_ref = refl
  counted (form.int x) = refl
  counted (form.str x) = refl
  counted (form.sym x) = refl
  counted (form.local x) = refl
  counted (form.own x) = refl
  counted form.exception = refl
  counted (form.set_local x e) = omega (arith, counted e)
  counted (form.ivar x) = refl
  counted (form.set_ivar x e) = omega (arith, counted e)
  counted (form.gvar x) = refl
  counted (form.set_gvar x e) = omega (arith, counted e)
  counted (form.constant x) = refl
  counted (form.top_constant x) = refl
  counted (form.in_constant e x) = omega (arith, counted e)
  counted (form.set_constant x e) = omega (arith, counted e)
  counted (form.set_in_constant e x f) = omega (arith, counted e, counted f)
  counted (form.array is) = omega (arith, items_counted is)
  counted (form.hash ps) = omega (arith, pairs_counted ps)
  counted (form.range e f x) = omega (arith, counted e, counted f)
  counted (form.text es) = omega (arith, forms_counted es)
  counted (form.intern e) = omega (arith, counted e)
  counted (form.seq es) = omega (arith, forms_counted es)
  counted (form.cond bs e) = omega (arith, branches_counted bs, counted e)
  counted (form.and_form e f) = omega (arith, counted e, counted f)
  counted (form.or_form e f) = omega (arith, counted e, counted f)
  counted (form.while_form x e f) = omega (arith, counted e, counted f)
  counted (form.call r x is o) = omega (arith, receiver_counted r, items_counted is, maybe_counted o)
  counted (form.yield_form is) = omega (arith, items_counted is)
  counted (form.super_form is o) = omega (arith, items_counted is, maybe_counted o)
  counted (form.function b) = omega (arith, body_counted b)
  counted (form.lambda b) = omega (arith, body_counted b)
  counted (form.begin_form e cs o p) = omega (arith, counted e, clauses_counted cs, maybe_counted o, maybe_counted p)
  counted (form.return_form e) = omega (arith, counted e)
  counted (form.break_form e) = omega (arith, counted e)
  counted (form.next_form e) = omega (arith, counted e)
  counted form.retry = refl
  counted (form.define x b) = omega (arith, body_counted b)
  counted (form.define_on e x b) = omega (arith, counted e, body_counted b)
  counted (form.class_form o x p b) = omega (arith, maybe_counted o, maybe_counted p, body_counted b)
  counted (form.module_form o x b) = omega (arith, maybe_counted o, body_counted b)
  counted (form.singleton_class e b) = omega (arith, counted e, body_counted b)
  counted (form.alias_form x y) = refl
  counted (form.undef_form x) = refl
  counted (form.defined x y o) = omega (arith, none_asked x y, maybe_counted o)
  counted (form.item e x) = omega (arith, counted e)
  counted (form.rest_of e x y) = omega (arith, counted e)
  counted (form.tail_of e x y) = omega (arith, counted e)

  maybe_counted : (q : Maybe) → many_maybe q ≡ over_maybe how_many q
  maybe_counted form.absent = refl
  maybe_counted (form.there e) = omega (arith, counted e)

  forms_counted : (q : Forms) → many_all q ≡ over_forms how_many q
  forms_counted form.none = refl
  forms_counted (form.more e es) = omega (arith, counted e, forms_counted es)

  items_counted : (q : Items) → many_items q ≡ over_items how_many q
  items_counted form.no_items = refl
  items_counted (form.plain e is) = omega (arith, counted e, items_counted is)
  items_counted (form.splat e is) = omega (arith, counted e, items_counted is)

  pairs_counted : (q : Pairs) → many_pairs q ≡ over_pairs how_many q
  pairs_counted form.no_pairs = refl
  pairs_counted (form.pair e f ps) = omega (arith, counted e, counted f, pairs_counted ps)

  branches_counted : (q : Branches) → many_branches q ≡ over_branches how_many q
  branches_counted form.no_branches = refl
  branches_counted (form.branch e f bs) = omega (arith, counted e, counted f, branches_counted bs)

  clauses_counted : (q : Clauses) → many_clauses q ≡ over_clauses how_many q
  clauses_counted form.no_clauses = refl
  clauses_counted (form.clause es o e cs) = omega (arith, forms_counted es, maybe_counted o, counted e, clauses_counted cs)

  receiver_counted : (q : Receiver) → many_receiver q ≡ over_receiver how_many q
  receiver_counted (form.to e) = omega (arith, counted e)
  receiver_counted form.on_self = refl
  receiver_counted form.bare = refl

  body_counted : (q : Body) → many_body q ≡ over_body how_many q
  body_counted (form.body p ls f) = omega (arith, counted f)

-- behind items, and behind branches
pub behind_items : (n : ℕ) (is : Items) → past_items n is ≡ n + over_items how_many is
behind_items n form.no_items = omega arith
behind_items n (form.plain e is) = behind_items (n + span e) is ∙ omega arith
behind_items n (form.splat e is) = behind_items (n + span e) is ∙ omega arith

pub behind_branches : (n : ℕ) (bs : Branches) → past_branches n bs ≡ n + over_branches how_many bs
behind_branches n form.no_branches = omega arith
behind_branches n (form.branch t b bs) = behind_branches (n + span t + span b) bs ∙ omega arith
