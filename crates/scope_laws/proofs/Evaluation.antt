-- A transition opens at most one scope, which has the next number, and leaves the others where they are.
use Rattle.std.proofs.Common.{◌≡◌, ℕ, zero, suc, ◌+◌, List, [], ◌∷◌, ◌++◌, length, set, Bool, true, false, nat_eq, refl, sym, ap, ◌∙◌, inl, inr}
use Rattle.std.specs.Prelude.{Option, Some, None, nat_lt, if◌then◌else◌}
use Rattle.std.proofs.lemmas.List.{map-append, length-map}
use Rattle.rb_value.specs.declared.value.Value.{Value}
use Rattle.rb_value.specs.declared.value.Value.TheVariants.{Obj}
use Rattle.def_core.specs.declared.cause.Cause.TheVariants as cause
use Rattle.def_core.specs.Bind.{bind}
use Rattle.def_core.specs.Store.{next_number}
use Rattle.rb_value.specs.declared.value.ObjId.{ObjId}
use Rattle.rb_value.specs.Value.{is_true}
use Rattle.rb_syntax.specs.declared.core_form.DefinedKind.{DefinedKind}
use Rattle.def_core.specs.declared.bound.Bound.{Bound}
use Rattle.def_core.specs.declared.bound.Bound.TheVariants as bound
use Rattle.ir_core.specs.CoreForm as form
use Rattle.ir_core.specs.CoreForm.{Local, Name, CoreForm, Body, Maybe, absent, there, Forms, none, more, Items, no_items, plain, splat, Pairs, no_pairs, pair, Branches, no_branches, branch, Clauses, no_clauses, clause, Receiver, to, on_self, bare}
use Rattle.def_calls.specs.World.{World, Answer, Result, gives, raises}
use Rattle.def_calls.specs.World as world
use Rattle.def_calls.specs.Calls.{Sending, by_name, by_bare_name, to_proc, to_super, Entry, answers, enters, begins, Opening, is_full, BlockArgument, no_block, block_of, not_a_block, Unrescued, block_argument}
use Rattle.def_calls.specs.Calls as calls
use Rattle.def_calls.specs.Plans.{Iteration, Plan, Planned}
use Rattle.def_calls.specs.Plans as plan
use Rattle.def_calls.specs.Values as values
use Rattle.def_calls.specs.Definitions as definitions
use Rattle.def_calls.specs.Fibers.{Onward, Resumed, refused, begins as begins_fiber, continues}
use Rattle.def_calls.specs.Fibers as fibers
use Rattle.def_eval.specs.Source.{Source, body_at, parameters_of, span, span_maybe, span_forms}
use Rattle.def_eval.specs.Configuration as eval
use Rattle.def_eval.specs.Configuration.{Place, Scope, Exit, Action, Gathering, Rescue, Part, Stop, Outgoing, Item, Kept, Focus, Memory, with_world, Config, Run, Halt, stop_of}
use Rattle.def_eval.specs.Scopes.{scope_at, put_in, with_variable, shape_of, running}
use Rattle.def_eval.specs.Entering as entering
use Rattle.def_eval.specs.Entering.{symbol, after, after_result, do_all, do_from, forms_in, begin_body, in_new_scope, begin_bound, open_body, enter, begin_class, run_class, run_opened}
use Rattle.def_eval.specs.Forms as forms
use Rattle.def_eval.specs.Giving as giving
use Rattle.def_eval.specs.Exits as exits
use Rattle.def_eval.specs.Transition.{go}
use Rattle.scope_laws.specs.Numbers.{parents, Grows, InScope, ScopesGrow}

-- a scope with the same parent in the place of one
parents_set : (cs : List Scope) (n : ℕ) (c : Scope) → c.parent ≡ (scope_at cs n).parent → parents (set cs n c) ≡ parents cs
parents_set [] n c e = refl
parents_set (d ∷ cs) zero c e = ap (λ o. o ∷ parents cs) e
parents_set (d ∷ cs) (suc n) c e = ap (λ os. d.parent ∷ os) (parents_set cs n c e)

parents_put : (cs : List Scope) (n : ℕ) (x : Local) (v : Value) → parents (put_in cs n x v) ≡ parents cs
parents_put cs n x v = parents_set cs n _ refl

pub either : {A : Type 0} (Q : A → Type 0) (t : Bool) (x y : A) → Q x → Q y → Q (if t then x else y)
either Q true x y h k = h
either Q false x y h k = k

module _ (s : Source) (P : List (Option ℕ)) where
  -- no scope is new yet; or one is
  abbrev Still : Memory → Type 0
  Still m = parents m.scopes ≡ P

  abbrev Shows : Memory → Type 0
  Shows m = Grows P (parents m.scopes) (InScope m)

  abbrev To : Config → Type 0
  To c = ScopesGrow P c

  after_to : (a : Answer) (ks : List Item) (m : Memory) → Shows m → To (after a ks m)
  after_to a ks m h = by a.result
    where
      by : (r : Result) → To (after_result r a.world ks m)
      by (gives v) = h
      by (raises e) = h

  -- Bodies.

  all_to : (n : ℕ) (es : Forms) (ks : List Item) (m : Memory) → Shows m → To (do_all n es ks m)
  all_to n none ks m h = h
  all_to n (more e es) ks m h = h

  from_to : (k n : ℕ) (es : Forms) (ks : List Item) (m : Memory) → Shows m → To (do_from k n es ks m)
  from_to zero n es ks m h = all_to n es ks m h
  from_to (suc k) n none ks m h = h
  from_to (suc k) n (more e es) ks m h = from_to k (n + span e) es ks m h

  body_to : (k n : ℕ) (e : CoreForm) (ks : List Item) (m : Memory) → Shows m → To (begin_body k n e ks m)
  body_to zero n e ks m h = h
  body_to (suc k) n e ks m h = from_to (suc k) n (forms_in e) ks m h

  -- a new scope has the next number
  opened : (m : Memory) (c : Scope) → Still m → Grows P (parents (m.scopes ++ c ∷ [])) (λ n. length m.scopes ≡ n)
  opened m c h = inr (
    c.parent,
    map-append (λ (d : Scope). d.parent) m.scopes (c ∷ []) ∙ ap (λ os. os ++ c.parent ∷ []) h,
    sym (length-map m.scopes (λ (d : Scope). d.parent)) ∙ ap length h,
  )

  bound_to : (o : Opening) (b : Body) (x : Bound) (ks : List Item) (m : Memory) (w : World) → Still m
      → To (begin_bound o b x ks m w)
  bound_to o b (bound.Values vs filled) ks m w h =
      body_to filled (o.body + 1) _ _ (in_new_scope m w _ o.activation) (opened m _ h)
  bound_to o b (bound.Wrong given) ks m w h = after_to _ _ _ (opened m _ h)

  open_to : (o : Opening) (ks : List Item) (m : Memory) (w : World) → Still m → To (open_body s o ks m w)
  open_to o ks m w h =
      let b = body_at s o.body in
      let x = bind w.store (shape_of (parameters_of b)) o.arguments o.binds in
      bound_to o b x.bound ks m (world.with_store w x.store) h

  entry_to : (e : Entry) (block : Option ObjId) (ks : List Item) (m : Memory) → Still m → To (enter s e block ks m)
  unfolding enter
  entry_to (answers a) block ks m h = after_to _ ks m (inl h)
  entry_to (enters o w) block ks m h =
      either To (is_full (entering.depth ks)) _ _ (after_to _ ks m (inl h)) (open_to o ks m _ h)
  entry_to (begins it a w) block ks m h =
      either To (is_full (entering.depth ks)) _ _ (after_to _ ks m (inl h)) (inl h)

  class_to : (n : ℕ) (o : Option ObjId) (ks : List Item) (m : Memory) → Still m → To (run_class s n o ks m)
  class_to n None ks m h = after_to _ ks m (inl h)
  class_to n (Some c) ks m h =
      either To (is_full (entering.depth ks)) _ _ (after_to _ ks m (inl h)) (opened m _ h)

  opened_to : (n : ℕ) (r : Result) (w : World) (ks : List Item) (m : Memory) → Still m → To (run_opened s n r w ks m)
  opened_to n (gives v) w ks m h = class_to n _ ks (with_world m w) h
  opened_to n (raises e) w ks m h = inl h

  -- Exits that leave a form.

  leave_to : (exit : ℕ → Value → Exit) (failure : Answer) (v : Value) (ks : List Item) (m : Memory) (o : Option ℕ)
      → Still m → To (forms.leave_to exit failure v ks m o)
  leave_to exit failure v ks m None h = after_to failure ks m (inl h)
  leave_to exit failure v ks m (Some a) h =
      either To (forms.is_under_way ks a) _ _ (inl h) (after_to failure ks m (inl h))

  leave_from : (t : Bool) (v : Value) (ks : List Item) (m : Memory) → Still m → To (forms.leave_from t v ks m)
  leave_from true v ks m h = inl h
  leave_from false v ks m h =
      leave_to eval.break (world.fail m.world cause.BreakFromProc) v ks m
      (calls.break_target m.world m.place.activation (running m).runs) h

  -- Calls.

  called : (k : Sending) (recv : Value) (args : List Value) (b : Option ObjId) (ks : List Item) (m : Memory) → Still m
      → To (forms.perform_call s k recv args b ks m)
  called k recv args b ks m h = entry_to _ b ks m h

  asked_still : (k : Sending) (m : Memory) → Still m → Still (forms.asked k m)
  asked_still (by_name x) m h = h
  asked_still (by_bare_name x) m h = h
  asked_still to_proc m h = h
  asked_still to_super m h = h

  arguments_to : (n : ℕ) (k : Sending) (recv : Value) (args : List Value) (b : Maybe) (ks : List Item) (m : Memory)
      → Still m → To (forms.with_arguments s n k recv args b ks m)
  arguments_to n k recv args absent ks m h =
      called k recv args (forms.own_block k m) ks (forms.asked k m) (asked_still k m h)
  arguments_to n k recv args (there e) ks m h = inl h

  packed_still : (m : Memory) (args : List Value) → Still m → Still (forms.packed m args)
  packed_still m args h = either Still (nat_lt 253 (length args)) _ _ h h

  items_to : (n : ℕ) (k : Sending) (recv : Value) (vs : List Value) (is : Items) (b : Maybe) (ks : List Item)
      (m : Memory) → Still m → To (forms.next_item s n k recv vs is b ks m)
  items_to n k recv vs no_items b ks m h = arguments_to n k recv vs b ks (forms.packed m vs) (packed_still m vs h)
  items_to n k recv vs (plain e is) b ks m h = inl h
  items_to n k recv vs (splat e is) b ks m h = inl h

  gathered_to : (n : ℕ) (g : Gathering) (id : ObjId) (ks : List Item) (m : Memory) → Still m
      → To (forms.gathered s n g id ks m)
  gathered_to n eval.an_array id ks m h = inl h
  gathered_to n (eval.arguments_of k recv b) id ks m h =
      arguments_to n k recv (values.elements_or_itself m.world (Obj id)) b ks m h

  elements_to : (n : ℕ) (g : Gathering) (id : ObjId) (is : Items) (ks : List Item) (m : Memory) → Still m
      → To (forms.next_element s n g id is ks m)
  elements_to n g id no_items ks m h = gathered_to n g id ks m h
  elements_to n g id (plain e is) ks m h = inl h
  elements_to n g id (splat e is) ks m h = inl h

  gather_to : (n : ℕ) (g : Gathering) (is : Items) (ks : List Item) (m : Memory) → Still m
      → To (forms.gather s n g is ks m)
  gather_to n g is ks m h = elements_to n g (next_number m.world.store) is ks (forms.with_new_array m) h

  call_to : (n : ℕ) (k : Sending) (recv : Value) (is : Items) (b : Maybe) (ks : List Item) (m : Memory) → Still m
      → To (forms.do_call s n k recv is b ks m)
  call_to n k recv is b ks m h =
      either To (forms.has_splat is) _ _ (gather_to n (eval.arguments_of k recv b) is ks m h)
      (items_to n k recv [] is b ks m h)

  receiver_to : (n : ℕ) (r : Receiver) (x : Name) (is : Items) (b : Maybe) (ks : List Item) (m : Memory) → Still m
      → To (forms.do_receiver s n r x is b ks m)
  receiver_to n (to e) x is b ks m h = inl h
  receiver_to n on_self x is b ks m h = call_to n (by_name (symbol m x)) (forms.self_of m) is b ks m h
  receiver_to n bare x is b ks m h = call_to n (by_bare_name (symbol m x)) (forms.self_of m) is b ks m h

  yield_to : (n : ℕ) (o : Option ObjId) (is : Items) (ks : List Item) (m : Memory) → Still m
      → To (forms.do_yield s n o is ks m)
  yield_to n None is ks m h = after_to _ ks m (inl h)
  yield_to n (Some p) is ks m h = call_to n to_proc (Obj p) is absent ks m h

  -- Parts.

  pairs_to : (n : ℕ) (id : ObjId) (ps : Pairs) (ks : List Item) (m : Memory) → Still m → To (forms.next_pair n id ps ks m)
  pairs_to n id no_pairs ks m h = inl h
  pairs_to n id (pair a b ps) ks m h = inl h

  pieces_to : (n : ℕ) (id : ObjId) (es : Forms) (ks : List Item) (m : Memory) → Still m
      → To (forms.next_piece n id es ks m)
  pieces_to n id none ks m h = inl h
  pieces_to n id (more e es) ks m h = inl h

  branches_to : (n : ℕ) (bs : Branches) (o : CoreForm) (ks : List Item) (m : Memory) → Still m
      → To (forms.next_branch n bs o ks m)
  branches_to n no_branches o ks m h = inl h
  branches_to n (branch t b bs) o ks m h = inl h

  loop_to : (n : ℕ) (first : Bool) (t b : CoreForm) (ks : List Item) (m : Memory) → Still m
      → To (forms.do_loop n first t b ks m)
  loop_to n false t b ks m h = inl h
  loop_to n true t b ks m h = inl h

  defined_after : (a : Answer) (x : Name) (n : ℕ) (ks : List Item) (m : Memory) (r : Result) → Still m
      → To (forms.define_after a x n ks m r)
  defined_after a x n ks m (gives v) h = after_to _ ks m (inl h)
  defined_after a x n ks m (raises e) h = after_to a ks m (inl h)

  finish_to : (action : Action) (v u : Value) (ks : List Item) (m : Memory) → Still m
      → To (forms.finish s action v u ks m)
  unfolding forms.finish with_variable
  finish_to (eval.assign x) v u ks m h = inl (parents_put m.scopes _ x v ∙ h)
  finish_to (eval.assign_ivar x) v u ks m h = after_to _ ks m (inl h)
  finish_to (eval.assign_gvar x) v u ks m h = inl h
  finish_to (eval.constant_in x) v u ks m h = after_to _ ks m (inl h)
  finish_to (eval.assign_constant x) v u ks m h = after_to _ ks m (inl h)
  finish_to (eval.assign_constant_in x) v u ks m h = after_to _ ks m (inl h)
  finish_to (eval.make_range x) v u ks m h = after_to _ ks m (inl h)
  finish_to eval.make_symbol v u ks m h = after_to _ ks m (inl h)
  finish_to (eval.element k) v u ks m h = after_to _ ks m (inl h)
  finish_to (eval.elements_between from post) v u ks m h = after_to _ ks m (inl h)
  finish_to (eval.last_elements from count) v u ks m h = after_to _ ks m (inl h)
  finish_to eval.leave_method v u ks m h =
      leave_to eval.return (world.fail m.world cause.UnexpectedReturn) v ks m (Some (running m).home) h
  finish_to eval.leave_call v u ks m h = leave_from (forms.in_loop ks) v ks m h
  finish_to eval.leave_round v u ks m h = inl h
  finish_to (eval.define_on x n) v u ks m h = defined_after (definitions.singleton_class m.world v) x n ks m (definitions.singleton_class m.world v).result h
  finish_to (eval.open_class x n) v u ks m h =
      let a = definitions.open_class m.world v (symbol m x) u in opened_to n a.result a.world ks m h
  finish_to (eval.open_module x n) v u ks m h =
      let a = definitions.open_module m.world v (symbol m x) in opened_to n a.result a.world ks m h
  finish_to (eval.open_singleton n) v u ks m h =
      let a = definitions.singleton_class m.world v in opened_to n a.result a.world ks m h
  finish_to (eval.tell k x) v u ks m h = after_to _ ks m (inl h)

  operands_to : (n : ℕ) (action : Action) (vs : List Value) (es : Forms) (ks : List Item) (m : Memory) → Still m
      → To (forms.next_operand s n action vs es ks m)
  operands_to n action vs none ks m h = finish_to action _ _ ks m h
  operands_to n action vs (more e es) ks m h = inl h

  scope_to : (n : ℕ) (action : Action) (c : Maybe) (es : Forms) (ks : List Item) (m : Memory) → Still m
      → To (forms.in_scope s n action c es ks m)
  scope_to n action absent es ks m h =
      operands_to n action (Obj (world.class_around m.world (running m).classes) ∷ []) es ks m h
  scope_to n action (there e) es ks m h = inl h

  defined_to : (n : ℕ) (k : DefinedKind) (x : Name) (e : Maybe) (ks : List Item) (m : Memory) → Still m
      → To (forms.do_defined s n k x e ks m)
  defined_to n k x absent ks m h = after_to _ ks m (inl h)
  defined_to n k x (there e) ks m h = inl h

  form_to : (n : ℕ) (e : CoreForm) (ks : List Item) (m : Memory) → Still m → To (forms.do_form s n e ks m)
  unfolding forms.do_form
  form_to n form.nil ks m h = inl h
  form_to n form.truth ks m h = inl h
  form_to n form.falsehood ks m h = inl h
  form_to n form.self_ref ks m h = inl h
  form_to n (form.int z) ks m h = inl h
  form_to n (form.str b) ks m h = inl h
  form_to n (form.sym x) ks m h = inl h
  form_to n (form.local x) ks m h = inl h
  form_to n (form.own x) ks m h = inl h
  form_to n form.exception ks m h = inl h
  form_to n (form.set_local x e) ks m h = inl h
  form_to n (form.ivar x) ks m h = inl h
  form_to n (form.set_ivar x e) ks m h = inl h
  form_to n (form.gvar x) ks m h = inl h
  form_to n (form.set_gvar x e) ks m h = inl h
  form_to n (form.constant x) ks m h = after_to _ ks m (inl h)
  form_to n (form.top_constant x) ks m h = after_to _ ks m (inl h)
  form_to n (form.in_constant e x) ks m h = inl h
  form_to n (form.set_constant x e) ks m h = inl h
  form_to n (form.set_in_constant c x e) ks m h = inl h
  form_to n (form.array is) ks m h = gather_to n eval.an_array is ks m h
  form_to n (form.hash ps) ks m h = pairs_to n (next_number m.world.store) ps ks (with_world m _) h
  form_to n (form.range a b x) ks m h = inl h
  form_to n (form.text es) ks m h = pieces_to n (next_number m.world.store) es ks (with_world m _) h
  form_to n (form.intern e) ks m h = inl h
  form_to n (form.seq es) ks m h = all_to n es ks m (inl h)
  form_to n (form.cond bs o) ks m h = branches_to n bs o ks m h
  form_to n (form.and_form a b) ks m h = inl h
  form_to n (form.or_form a b) ks m h = inl h
  form_to n (form.while_form first t b) ks m h = loop_to n first t b ks m h
  form_to n (form.call r x is b) ks m h = receiver_to n r x is b ks m h
  form_to n (form.yield_form is) ks m h = yield_to n _ is ks m h
  form_to n (form.super_form is b) ks m h = call_to n to_super (forms.self_of m) is b ks m h
  form_to n (form.function f) ks m h = after_to _ ks m (inl h)
  form_to n (form.lambda f) ks m h = after_to _ ks m (inl h)
  form_to n (form.begin_form b cs o e) ks m h = inl h
  form_to n (form.return_form e) ks m h = inl h
  form_to n (form.break_form e) ks m h = inl h
  form_to n (form.next_form e) ks m h = inl h
  form_to n form.retry ks m h = inl h
  form_to n (form.define x f) ks m h = after_to _ ks m (inl h)
  form_to n (form.define_on e x f) ks m h = inl h
  form_to n (form.class_form c x p f) ks m h =
      scope_to n (eval.open_class x (n + span_maybe c + span_maybe p)) c (forms.any p) ks m h
  form_to n (form.module_form c x f) ks m h =
      scope_to n (eval.open_module x (n + span_maybe c)) c none ks m h
  form_to n (form.singleton_class e f) ks m h = inl h
  form_to n (form.alias_form x y) ks m h = after_to _ ks m (inl h)
  form_to n (form.undef_form x) ks m h = after_to _ ks m (inl h)
  form_to n (form.defined k x e) ks m h = defined_to n k x e ks m h
  form_to n (form.item e k) ks m h = inl h
  form_to n (form.rest_of e from post) ks m h = inl h
  form_to n (form.tail_of e from count) ks m h = inl h

  -- What goes on with a value.

  block_to : (k : Sending) (recv : Value) (args : List Value) (x : BlockArgument) (ks : List Item) (m : Memory) → Still m
      → To (giving.with_block s k recv args x ks m)
  block_to k recv args no_block ks m h = called k recv args None ks m h
  block_to k recv args (block_of p w) ks m h = called k recv args (Some p) ks (with_world m w) h
  block_to k recv args not_a_block ks m h = after_to _ ks m (inl h)

  element_still : (m : Memory) (id : ObjId) (t : Bool) (v : Value) → Still m → Still (giving.with_element m id t v)
  element_still m id false v h = h
  element_still m id true v h = h

  pair_to : (n : ℕ) (id : ObjId) (ps : Pairs) (ks : List Item) (m : Memory) (a : Answer) (r : Result) → Still m
      → To (giving.after_pair n id ps ks m a r)
  pair_to n id ps ks m a (gives v) h = pairs_to n id ps ks (with_world m a.world) h
  pair_to n id ps ks m a (raises e) h = after_to a ks m (inl h)

  choose_to : (t : Bool) (n : ℕ) (b : CoreForm) (bs : Branches) (o : CoreForm) (ks : List Item) (m : Memory) → Still m
      → To (giving.choose t n b bs o ks m)
  choose_to true n b bs o ks m h = inl h
  choose_to false n b bs o ks m h = branches_to (n + span b) bs o ks m h

  right_to : (t : Bool) (n : ℕ) (e : CoreForm) (v : Value) (ks : List Item) (m : Memory) → Still m
      → To (giving.go_right t n e v ks m)
  right_to true n e v ks m h = inl h
  right_to false n e v ks m h = inl h

  left_to : (t : Bool) (n : ℕ) (e : CoreForm) (v : Value) (ks : List Item) (m : Memory) → Still m
      → To (giving.go_left t n e v ks m)
  left_to true n e v ks m h = inl h
  left_to false n e v ks m h = inl h

  turn_to : (t : Bool) (n : ℕ) (e b : CoreForm) (ks : List Item) (m : Memory) → Still m
      → To (giving.turn_loop t n e b ks m)
  turn_to true n e b ks m h = inl h
  turn_to false n e b ks m h = inl h

  otherwise_to : (n : ℕ) (o : Maybe) (v : Value) (ks : List Item) (m : Memory) → Still m
      → To (giving.do_otherwise n o v ks m)
  otherwise_to n absent v ks m h = inl h
  otherwise_to n (there e) v ks m h = inl h

  taken_to : (n : ℕ) (e : ObjId) (t : Maybe) (b : CoreForm) (r : Rescue) (ks : List Item) (m : Memory) → Still m
      → To (giving.take_exception n e t b r ks m)
  taken_to n e absent b r ks m h = inl h
  taken_to n e (there t) b r ks m h = inl h

  taken_if : (a : Answer) (z : Result) (n : ℕ) (e : ObjId) (es : Forms) (t : Maybe) (b : CoreForm) (r : Rescue)
      (ks : List Item) (m : Memory) (further : Config) → Still m → To further
      → To (giving.take_if a z n e es t b r ks m further)
  taken_if a (gives v) n e es t b r ks m further h k = either To (is_true v) (giving.take_exception (n + span_forms es) e t b r ks m) further
      (taken_to (n + span_forms es) e t b r ks m h) k
  taken_if a (raises x) n e es t b r ks m further h k = after_to a ks m (inl h)

  clauses_to : (n : ℕ) (e : ObjId) (cs : Clauses) (r : Rescue) (ks : List Item) (m : Memory) → Still m
      → To (giving.next_clause n e cs r ks m)
  unfolding giving.next_clause
  clauses_to n e no_clauses r ks m h = inl h
  clauses_to n e (clause none t b cs) r ks m h = inl h
  clauses_to n e (clause (more c es) t b cs) r ks m h = inl h

  class_next : (n : ℕ) (e : ObjId) (es : Forms) (t : Maybe) (b : CoreForm) (cs : Clauses) (r : Rescue)
      (ks : List Item) (m : Memory) (further : Config) → Still m → To further
      → To (giving.next_class n e es t b cs r ks m further)
  class_next n e none t b cs r ks m further h k = k
  class_next n e (more c es) t b cs r ks m further h k = inl h

  matched_to : (n : ℕ) (v : Value) (e : ObjId) (es : Forms) (t : Maybe) (b : CoreForm) (cs : Clauses) (r : Rescue)
      (ks : List Item) (m : Memory) → Still m → To (giving.match_class n v e es t b cs r ks m)
  matched_to n v e es t b cs r ks m h =
      let i = n + span_forms es + span_maybe t + span b in
      let others = giving.next_clause i e cs r ks m in
      let c = calls.is_of m.world (Obj e) v in
      taken_if c c.result n e es t b r ks m (giving.next_class n e es t b cs r ks m others) h
      (class_next n e es t b cs r ks m others h (clauses_to i e cs r ks m h))

  rest_to : (v : Value) (n : ℕ) (es : Forms) (ks : List Item) (m : Memory) → Still m
      → To (giving.give_part s v (eval.rest n es) ks m)
  unfolding giving.give_part
  rest_to v n none ks m h = inl h
  rest_to v n (more e es) ks m h = inl h

  part_to : (v : Value) (p : Part) (ks : List Item) (m : Memory) → Still m → To (giving.give_part s v p ks m)
  unfolding giving.give_part
  part_to v (eval.operands n a vs es) ks m h = operands_to n a (vs ++ v ∷ []) es ks m h
  part_to v (eval.receiver n x is b) ks m h = call_to n (by_name (symbol m x)) v is b ks m h
  part_to v (eval.items n k recv vs is b) ks m h = items_to n k recv (vs ++ v ∷ []) is b ks m h
  part_to v (eval.block k recv args) ks m h = block_to k recv args (block_argument m.world v) ks m h
  part_to v (eval.elements n g id t is) ks m h =
      elements_to n g id is ks (giving.with_element m id t v) (element_still m id t v h)
  part_to v (eval.hash_key n id e ps) ks m h = inl h
  part_to v (eval.hash_value n id k ps) ks m h = let c = values.with_pair m.world id k v in pair_to n id ps ks m c c.result h
  part_to v (eval.pieces n id es) ks m h = pieces_to n id es ks (giving.with_piece m id v) h
  part_to v (eval.rest n es) ks m h = rest_to v n es ks m h
  part_to v (eval.test n b bs o) ks m h = choose_to (is_true v) n b bs o ks m h
  part_to v eval.chosen ks m h = inl h
  part_to v (eval.and_then n e) ks m h = right_to (is_true v) n e v ks m h
  part_to v (eval.or_else n e) ks m h = left_to (is_true v) n e v ks m h
  part_to v (eval.loop_test n t b) ks m h = turn_to (is_true v) n t b ks m h
  part_to v (eval.loop_body n t b) ks m h = inl h
  part_to v (eval.rescued n b cs o) ks m h = otherwise_to (n + span b) o v ks m h
  part_to v (eval.clause_class n e es t b cs r) ks m h = matched_to n v e es t b cs r ks m h
  part_to v (eval.clause_target n e b r) ks m h = inl h
  part_to v (eval.clause_body r) ks m h = inl h
  part_to v (eval.ensured n e) ks m h = inl h

  -- Iterations and fibers.

  resume_to : (x : Resumed Kept) (args : List Value) (ks : List Item) (m : Memory) → Still m
      → To (giving.resume_by s x args ks m)
  resume_to (refused c) args ks m h = after_to _ ks m (inl h)
  resume_to (begins_fiber p fs) args ks m h = entry_to _ None [] (record m { fibers = fs }) h
  resume_to (continues o) args ks m h = after_to _ _ (giving.in_fiber m o) (inl h)

  yield_by : (x : Option (Onward Kept)) (args : List Value) (ks : List Item) (m : Memory) → Still m
      → To (giving.yield_by x args ks m)
  yield_by None args ks m h = after_to _ ks m (inl h)
  yield_by (Some o) args ks m h = after_to _ _ (giving.in_fiber m o) (inl h)

  plan_to : (p : Plan) (a : ℕ) (place : Place) (ks : List Item) (m : Memory) → Still m
      → To (giving.carry_out s p a place ks m)
  plan_to (plan.finishes v) a place ks m h = inl h
  plan_to (plan.fails c) a place ks m h = after_to _ ks (giving.returned m a place) (inl h)
  plan_to (plan.raises e) a place ks m h = inl h
  plan_to (plan.sends it v x args b public) a place ks m h = entry_to _ None _ m h
  plan_to (plan.calls it p args b) a place ks m h = entry_to _ None _ m h
  plan_to (plan.writes it bytes) a place ks m h = inl h
  plan_to (plan.reads it) a place ks m h = after_to _ _ m (inl h)
  plan_to (plan.resumes it f args) a place ks m h =
      resume_to (fibers.resume m.fibers (giving.kept_as (eval.iteration a it place ∷ ks) m) m.world.store f) args _ m h
  plan_to (plan.yields it args) a place ks m h =
      yield_by (fibers.yield m.fibers (giving.kept_as (eval.iteration a it place ∷ ks) m)) args _ m h

  fiber_to : (f : Focus) (x : Option (Onward Kept)) (m : Memory) → Still m → To (giving.end_fiber f x m)
  fiber_to f None m h = tt
  fiber_to f (Some o) m h = inl h

  outgoing_to : (o : Outgoing) (ks : List Item) (m : Memory) → Still m → To (giving.give_outgoing o ks m)
  outgoing_to (eval.value v) ks m h = inl h
  outgoing_to (eval.exit x) ks m h = inl h

  give_to : (v : Value) (ks : List Item) (m : Memory) → Still m → To (giving.do_give s v ks m)
  unfolding giving.do_give
  give_to v [] m h = fiber_to _ (fibers.finish m.fibers) m h
  give_to v (eval.part p ∷ ks) m h = part_to v p ks m h
  give_to v (eval.activation a place ∷ ks) m h = inl h
  give_to v (eval.iteration a it place ∷ ks) m h =
      plan_to (plan.next it v m.world.store).plan a place ks (with_world m _) h
  give_to v (eval.ensuring o ∷ ks) m h = outgoing_to o ks m h

  -- Where an exit goes.

  loop_left : (x : Exit) (n : ℕ) (t b : CoreForm) (ks : List Item) (m : Memory) → Still m
      → To (exits.travel_loop x n t b ks m)
  loop_left (eval.leave_loop v) n t b ks m h = inl h
  loop_left (eval.next v) n t b ks m h = inl h
  loop_left (eval.raise e) n t b ks m h = inl h
  loop_left (eval.return a v) n t b ks m h = inl h
  loop_left (eval.break a v) n t b ks m h = inl h
  loop_left eval.begin_anew n t b ks m h = inl h

  rescue_left : (x : Exit) (n : ℕ) (r : Rescue) (ks : List Item) (m : Memory) → Still m
      → To (exits.travel_rescue x n r ks m)
  rescue_left (eval.raise e) n r ks m h = clauses_to n e r.clauses r ks m h
  rescue_left (eval.leave_loop v) n r ks m h = inl h
  rescue_left (eval.next v) n r ks m h = inl h
  rescue_left (eval.return a v) n r ks m h = inl h
  rescue_left (eval.break a v) n r ks m h = inl h
  rescue_left eval.begin_anew n r ks m h = inl h

  clause_left : (x : Exit) (r : Rescue) (ks : List Item) (m : Memory) → Still m → To (exits.travel_clause x r ks m)
  clause_left (eval.raise e) r ks m h = inl h
  clause_left (eval.leave_loop v) r ks m h = inl h
  clause_left (eval.next v) r ks m h = inl h
  clause_left (eval.return a v) r ks m h = inl h
  clause_left (eval.break a v) r ks m h = inl h
  clause_left eval.begin_anew r ks m h = inl h

  stop_left : (x : Exit) (stop : Stop) (ks : List Item) (m : Memory) → Still m → To (exits.travel_part x stop ks m)
  stop_left x eval.passes ks m h = inl h
  stop_left x (eval.loops n t b) ks m h = loop_left x n t b ks m h
  stop_left x (eval.rescues n r) ks m h = rescue_left x n r ks m h
  stop_left x (eval.assigns e r) ks m h = clause_left x r ks m h
  stop_left x (eval.retries r) ks m h = clause_left x r ks m h
  stop_left x (eval.ensures n e) ks m h = inl h

  reach_to : (t : Bool) (x : Exit) (v : Value) (ks : List Item) (m : Memory) → Still m → To (exits.reach t x v ks m)
  reach_to true x v ks m h = inl h
  reach_to false x v ks m h = inl h

  activation_left : (x : Exit) (a : ℕ) (ks : List Item) (m : Memory) → Still m → To (exits.travel_activation x a ks m)
  activation_left (eval.raise e) a ks m h = inl h
  activation_left (eval.leave_loop v) a ks m h = inl h
  activation_left (eval.next v) a ks m h = inl h
  activation_left (eval.return b v) a ks m h = reach_to (nat_eq a b) _ v ks m h
  activation_left (eval.break b v) a ks m h = reach_to (nat_eq a b) _ v ks m h
  activation_left eval.begin_anew a ks m h = inl h

  caught_to : (e : ObjId) (o : Option Value) (ks : List Item) (m : Memory) → Still m → To (exits.travel_caught e o ks m)
  caught_to e None ks m h = inl h
  caught_to e (Some v) ks m h = inl h

  iteration_left : (x : Exit) (a : ℕ) (it : Iteration) (ks : List Item) (m : Memory) → Still m
      → To (exits.travel_iteration x a it ks m)
  iteration_left (eval.raise e) a it ks m h = caught_to e (plan.caught it e m.world.store) ks m h
  iteration_left (eval.leave_loop v) a it ks m h = inl h
  iteration_left (eval.next v) a it ks m h = inl h
  iteration_left (eval.return b v) a it ks m h = reach_to (nat_eq a b) _ v ks m h
  iteration_left (eval.break b v) a it ks m h = reach_to (nat_eq a b) _ v ks m h
  iteration_left eval.begin_anew a it ks m h = inl h

  leave_last : (e : ObjId) (o : Option (Onward Kept)) (m : Memory) → Still m → To (exits.leave_fiber e o m)
  leave_last e None m h = asked (calls.is_asked m.world e)
    where
      ended : (u : Unrescued) (out : List ℕ) → To (exits.end_by u out)
      ended u out = either To u.exits _ _ tt tt

      asked : (c : Bool) → To (exits.end_or_ask c e m)
      asked true = inl h
      asked false = ended (calls.unrescued m.world.store e) m.world.out
  leave_last e (Some o) m h = inl h

  out_to : (x : Exit) (m : Memory) → Still m → To (exits.travel_out x m)
  out_to (eval.raise e) m h = leave_last e (fibers.finish m.fibers) m h
  out_to (eval.leave_loop v) m h = fiber_to _ (fibers.finish m.fibers) m h
  out_to (eval.next v) m h = fiber_to _ (fibers.finish m.fibers) m h
  out_to (eval.return a v) m h = fiber_to _ (fibers.finish m.fibers) m h
  out_to (eval.break a v) m h = fiber_to _ (fibers.finish m.fibers) m h
  out_to eval.begin_anew m h = fiber_to _ (fibers.finish m.fibers) m h

  travel_to : (x : Exit) (ks : List Item) (m : Memory) → Still m → To (exits.do_travel x ks m)
  unfolding exits.do_travel
  travel_to x [] m h = out_to x m h
  travel_to x (eval.part p ∷ ks) m h = stop_left x (stop_of p) ks m h
  travel_to x (eval.activation a place ∷ ks) m h = activation_left x a ks (giving.returned m a place) h
  travel_to x (eval.iteration a it place ∷ ks) m h = iteration_left x a it ks (giving.returned m a place) h
  travel_to x (eval.ensuring o ∷ ks) m h = inl h

pub scopes_grow : (s : Source) (f : Focus) (ks : List Item) (m : Memory)
    → ScopesGrow (parents m.scopes) (go s (Run f ks m))
scopes_grow s (eval.perform n e) ks m = form_to s (parents m.scopes) n e ks m refl
scopes_grow s (eval.give v) ks m = give_to s (parents m.scopes) v ks m refl
scopes_grow s (eval.travel x) ks m = travel_to s (parents m.scopes) x ks m refl
