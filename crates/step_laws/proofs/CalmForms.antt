-- The evaluation of simple forms stays calm, form by form.
use Rattle.std.proofs.Common.{◌≡◌, ℕ, ◌+◌, List, [], ◌∷◌, ◌++◌, refl, sym, ap, ◌∙◌, subst, length, length-set, Bool, true, false}
use Rattle.std.specs.Prelude.{if◌then◌else◌, codes, nat_lt, Option, None}
use Rattle.rb_value.specs.Object.{Object}
use Rattle.rb_value.specs.declared.value.Value.{Value}
use Rattle.rb_value.specs.declared.value.Value.TheVariants.{Nil, True, False, Int, Obj}
use Rattle.rb_value.specs.Value.{is_true}
use Rattle.def_core.specs.declared.cause.Cause.TheVariants as cause
use Rattle.def_core.specs.Store.{with_object}
use Rattle.def_core.specs.Changes.{Interned}
use Rattle.rb_store.specs.Opening.{main_object}
use Rattle.def_rows.specs.Answers.{items_object}
use Rattle.ir_core.specs.CoreForm as form
use Rattle.ir_core.specs.CoreForm.{Name, Local, CoreForm, Maybe, Forms, Items, Branches}
use Rattle.def_calls.specs.World.{Activation, main_program, activation_at, fail, with_store}
use Rattle.def_calls.specs.Calls.{Sending, by_name, break_target}
use Rattle.def_calls.specs.Calls as calls
use Rattle.def_eval.specs.Source.{Source, span}
use Rattle.def_eval.specs.Configuration.{arguments_of, break, Action, assign, leave_call, leave_round, Part, operands, receiver, items, block, elements, hash_key, hash_value, pieces, rest, test, chosen, and_then, or_else, loop_test, loop_body, rescued, clause_class, clause_target, clause_body, ensured, Item, part, perform, give, Memory, with_world, Run}
use Rattle.def_eval.specs.Scopes.{scope_at, scope_of, variable, with_variable, running}
use Rattle.def_eval.specs.Entering.{symbol, do_all}
use Rattle.def_eval.specs.Forms.{has_splat, in_loop, leave_to, leave_from, gather, self_of, perform_call, own_block, asked, with_arguments, next_item, do_call, next_branch, do_loop, next_operand, finish as finish_action, do_form}
use Rattle.def_eval.specs.Giving.{choose, go_right, go_left, turn_loop, give_part}
use Rattle.step_laws.specs.Site.{number}
use Rattle.step_laws.specs.Simple.{IsSimple, AreSimple, AreSimpleItems, AreSimpleBranches}
use Rattle.step_laws.proofs.Symbols.{IsCoreName, number_is, interned_core}
use Rattle.step_laws.proofs.Found.{operator_known, writing}
use Rattle.step_laws.proofs.Outcomes.{IsImmediate, AreImmediate, Kept, kept_more, operator_entry, puts_called, failed}
use Rattle.step_laws.proofs.Tame.{ScopesAre, Sent, PartIs, ItemsAre, Fine, quiet_given, given_to, scope_is, variable_is, put_is, set_is, same_grows, items_grow, main_is, entry_fine, operator, puts, Awaits, to_local, to_end, to_round, left, anew, answer_fine}

module _ (s : Source) (ks : List Item) (m : Memory) (kept : Kept s m.world) (all : ScopesAre m.scopes)
    (alone : m.fibers.resumer ≡ None) where
  -- a value is given
  pub value_fine : (v : Value) → IsImmediate v → ItemsAre s m.world ks m.place → Fine s m (Run (give v) ks m)
  value_fine v i under = (
    record { kept = kept; scopes = all; alone = alone; focus = given_to v ks i; items = under },
    (refl, quiet_given v ks m m refl, same_grows m.world m.world refl),
  )

  -- a form is done under an item
  pub form_fine : (j : ℕ) (e : CoreForm) (p : Part) → IsSimple e → PartIs s p → m.place.activation ≡ 1
      → ItemsAre s m.world ks m.place → Fine s m (Run (perform j e) (part p ∷ ks) m)
  form_fine j e p is at here under = (
    record { kept = kept; scopes = all; alone = alone; focus = (is, here); items = (at, here, under) },
    (refl, tt, same_grows m.world m.world refl),
  )

  last_fine : (j : ℕ) (e : CoreForm) → IsSimple e → m.place.activation ≡ 1 → ItemsAre s m.world ks m.place
      → Fine s m (Run (perform j e) ks m)
  last_fine j e is here under = (
    record { kept = kept; scopes = all; alone = alone; focus = (is, here); items = under },
    (refl, tt, same_grows m.world m.world refl),
  )

  -- a call whose items have their values
  call_fine : (j : ℕ) (k : Sending) (recv : Value) (vs : List Value) → Sent s k recv → AreImmediate vs
      → ItemsAre s m.world ks m.place → Fine s m (next_item s j k recv vs form.no_items form.absent ks m)
  call_fine j k recv vs sent each under = by (nat_lt 253 (length vs))
    where
      array : Object
      array = items_object vs

      sent_fine : (l : Memory) → Kept s l.world → l.world.out ≡ m.world.out
          → l.world.activations ≡ m.world.activations → length l.scopes ≡ length m.scopes
          → ScopesAre l.scopes → l.fibers.resumer ≡ None → ItemsAre s l.world ks l.place → (q : Sending)
          → Sent s q recv → Fine s m (perform_call s q recv vs (own_block q l) ks (asked q l))
      sent_fine l kept out same scopes all alone under q (operator x e is i) =
          subst (λ (p : Sending). Fine s m (perform_call s p recv vs (own_block p l) ks (asked p l))) (sym e)
          (entry_fine s IsImmediate m l ks
          (calls.call l.world (activation_at l.world l.place.activation) (by_name (number s x)) recv vs None)
          (operator_entry s l.world (activation_at l.world l.place.activation) x recv vs kept is i) kept out same
          scopes all alone under (λ v j. given_to v ks j))
      sent_fine l kept out same scopes all alone under q (puts e is) =
          subst (λ (p : Sending). Fine s m (perform_call s p recv vs (own_block p l) ks (asked p l))) (sym e)
          (subst (λ (u : Value). Fine s m (perform_call s (by_name (number s (codes "puts"))) u vs None ks l)) (sym is)
          (entry_fine s IsImmediate m l ks
          (calls.call l.world (activation_at l.world l.place.activation) (by_name (number s (codes "puts")))
          (Obj main_object) vs None)
          (puts_called s l.world (activation_at l.world l.place.activation) vs kept each) kept out same scopes all alone under
          (λ v j. given_to v ks j)))

      by : (b : Bool) → Fine s m (with_arguments s j k recv vs form.absent ks (if b
          then with_world m (with_store m.world (with_object m.world.store (items_object vs))) else m))
      by false = sent_fine m kept refl refl refl all alone under k sent
      by true =
          sent_fine (with_world m (with_store m.world (with_object m.world.store (items_object vs))))
          (kept_more s m.world (with_object m.world.store (items_object vs)) (items_object vs ∷ []) kept refl refl refl) refl
          refl refl all alone (items_grow s m.world (with_store m.world (with_object m.world.store (items_object vs))) ks m.place
          (same_grows m.world (with_store m.world (with_object m.world.store (items_object vs))) refl) under) k sent

  -- the next item, or the call
  items_fine : (j : ℕ) (k : Sending) (recv : Value) (vs : List Value) (is : Items) → Sent s k recv → AreImmediate vs
      → AreSimpleItems is → m.place.activation ≡ 1 → ItemsAre s m.world ks m.place
      → Fine s m (next_item s j k recv vs is form.absent ks m)
  items_fine j k recv vs form.no_items sent each are here under = call_fine j k recv vs sent each under
  items_fine j k recv vs (form.plain e is) sent each are here under =
      form_fine j e (items (j + span e) k recv vs is form.absent) are.0 (sent, each, are.1, refl) here under
  items_fine j k recv vs (form.splat e is) sent each are here under = absurd are

  none_spread : (is : Items) → AreSimpleItems is → has_splat is ≡ false
  none_spread form.no_items are = refl
  none_spread (form.plain e is) are = none_spread is are.1
  none_spread (form.splat e is) are = absurd are

  -- a call with its receiver
  called_fine : (j : ℕ) (k : Sending) (recv : Value) (is : Items) (b : Maybe) → Sent s k recv → AreSimpleItems is
      → b ≡ form.absent → m.place.activation ≡ 1 → ItemsAre s m.world ks m.place
      → Fine s m (do_call s j k recv is b ks m)
  called_fine j k recv is b sent are e here under =
      subst (λ (o : Maybe). Fine s m (do_call s j k recv is o ks m)) (sym e)
      (subst (λ (t : Bool). Fine s m (if t
      then gather s j (arguments_of k recv form.absent) is ks m
      else next_item s j k recv [] is form.absent ks m)) (sym (none_spread is are))
      (items_fine j k recv [] is sent tt are here under))

  -- the number of a name of the core methods
  symbol_is : (x : Name) → IsCoreName x → symbol m x ≡ number s x
  symbol_is x c =
      ap (λ (n : Interned). n.symbol) (interned_core s m.world.store x kept.symbols c) ∙ sym (number_is s x c)

  self_is : m.place.activation ≡ 1 → self_of m ≡ Obj main_object
  self_is here =
      ap (λ (a : ℕ). (activation_at m.world a).self) here
      ∙ ap (λ (a : Activation). a.self) (main_is s m.world kept)

  all_fine : (j : ℕ) (es : Forms) → AreSimple es → m.place.activation ≡ 1 → ItemsAre s m.world ks m.place
      → Fine s m (do_all j es ks m)
  all_fine j form.none are here under = value_fine Nil tt under
  all_fine j (form.more e es) are here under = form_fine j e (rest (j + span e) es) are.0 are.1 here under

  branch_fine : (j : ℕ) (bs : Branches) (o : CoreForm) → AreSimpleBranches bs → IsSimple o → m.place.activation ≡ 1
      → ItemsAre s m.world ks m.place → Fine s m (next_branch j bs o ks m)
  branch_fine j form.no_branches o are is here under = last_fine j o is here under
  branch_fine j (form.branch t b bs) o are is here under =
      form_fine j t (test (j + span t) b bs o) are.0 (are.1, are.2, is) here under

  loop_fine : (j : ℕ) (first : Bool) (t b : CoreForm) → IsSimple t → IsSimple b → m.place.activation ≡ 1
      → ItemsAre s m.world ks m.place → Fine s m (do_loop j first t b ks m)
  loop_fine j false t b is are here under = form_fine j t (loop_test j t b) is (is, are) here under
  loop_fine j true t b is are here under = form_fine (j + span t) b (loop_body j t b) are (is, are) here under

  pub perform_fine : (j : ℕ) (e : CoreForm) → IsSimple e → m.place.activation ≡ 1 → ItemsAre s m.world ks m.place
      → Fine s m (do_form s j e ks m)
  unfolding do_form
  perform_fine j form.nil is here under = value_fine Nil tt under
  perform_fine j form.truth is here under = value_fine True tt under
  perform_fine j form.falsehood is here under = value_fine False tt under
  perform_fine j form.self_ref is here under = absurd is
  perform_fine j (form.int z) is here under = value_fine (Int z) tt under
  perform_fine j (form.str t) is here under = absurd is
  perform_fine j (form.sym x) is here under = absurd is
  perform_fine j (form.local x) is here under = value_fine (variable m x) (variable_is m x all) under
  perform_fine j (form.own x) is here under = absurd is
  perform_fine j form.exception is here under = absurd is
  perform_fine j (form.set_local x e) is here under = form_fine j e (operands (j + span e) (assign x) [] form.none) is.0
      (to_local x refl, refl, refl) here under
  perform_fine j (form.ivar x) is here under = absurd is
  perform_fine j (form.set_ivar x e) is here under = absurd is
  perform_fine j (form.gvar x) is here under = absurd is
  perform_fine j (form.set_gvar x e) is here under = absurd is
  perform_fine j (form.constant x) is here under = absurd is
  perform_fine j (form.top_constant x) is here under = absurd is
  perform_fine j (form.in_constant e x) is here under = absurd is
  perform_fine j (form.set_constant x e) is here under = absurd is
  perform_fine j (form.set_in_constant e x v) is here under = absurd is
  perform_fine j (form.array is') is here under = absurd is
  perform_fine j (form.hash ps) is here under = absurd is
  perform_fine j (form.range a b x) is here under = absurd is
  perform_fine j (form.text es) is here under = absurd is
  perform_fine j (form.intern e) is here under = absurd is
  perform_fine j (form.seq es) is here under = all_fine j es is here under
  perform_fine j (form.cond bs o) is here under = branch_fine j bs o is.0 is.1 here under
  perform_fine j (form.and_form a b) is here under = form_fine j a (and_then (j + span a) b) is.0 is.1 here under
  perform_fine j (form.or_form a b) is here under = form_fine j a (or_else (j + span a) b) is.0 is.1 here under
  perform_fine j (form.while_form first t b) is here under = loop_fine j first t b is.0 is.1 here under
  perform_fine j (form.call (form.to e) x is' form.absent) is here under =
      form_fine j e (receiver (j + span e) x is' form.absent) is.0 (is.2, is.1, refl) here under
  perform_fine j (form.call (form.to e) x is' (form.there b)) is here under = absurd is
  perform_fine j (form.call form.on_self x is' form.absent) is here under =
      let c = (writing kept.more).known in
      let name : symbol m x ≡ number s (codes "puts") = ap (symbol m) is.1 ∙ symbol_is (codes "puts") c in
      called_fine j (by_name (symbol m x)) (self_of m) is' form.absent (puts (ap by_name name) (self_is here)) is.0 refl
      here under
  perform_fine j (form.call form.on_self x is' (form.there b)) is here under = absurd is
  perform_fine j (form.call form.bare x is' b) is here under = absurd is
  perform_fine j (form.yield_form is') is here under = absurd is
  perform_fine j (form.super_form is' b) is here under = absurd is
  perform_fine j (form.function f) is here under = absurd is
  perform_fine j (form.lambda f) is here under = absurd is
  perform_fine j (form.begin_form b cs o e) is here under = absurd is
  perform_fine j (form.return_form e) is here under = absurd is
  perform_fine j (form.break_form e) is here under =
      form_fine j e (operands (j + span e) leave_call [] form.none) is (to_end refl, refl, refl) here under
  perform_fine j (form.next_form e) is here under =
      form_fine j e (operands (j + span e) leave_round [] form.none) is (to_round refl, refl, refl) here under
  perform_fine j form.retry is here under = absurd is
  perform_fine j (form.define x f) is here under = absurd is
  perform_fine j (form.define_on e x f) is here under = absurd is
  perform_fine j (form.class_form c x p f) is here under = absurd is
  perform_fine j (form.module_form c x f) is here under = absurd is
  perform_fine j (form.singleton_class e f) is here under = absurd is
  perform_fine j (form.alias_form x y) is here under = absurd is
  perform_fine j (form.undef_form x) is here under = absurd is
  perform_fine j (form.defined k x e) is here under = absurd is
  perform_fine j (form.item e k) is here under = absurd is
  perform_fine j (form.rest_of e from post) is here under = absurd is
  perform_fine j (form.tail_of e from count) is here under = absurd is

  -- Values given to parts.

  right_fine : (b : Bool) (j : ℕ) (e : CoreForm) (v : Value) → IsSimple e → IsImmediate v → m.place.activation ≡ 1
      → ItemsAre s m.world ks m.place → Fine s m (go_right b j e v ks m)
  right_fine true j e v is i here under = last_fine j e is here under
  right_fine false j e v is i here under = value_fine v i under

  left_fine : (b : Bool) (j : ℕ) (e : CoreForm) (v : Value) → IsSimple e → IsImmediate v → m.place.activation ≡ 1
      → ItemsAre s m.world ks m.place → Fine s m (go_left b j e v ks m)
  left_fine false j e v is i here under = last_fine j e is here under
  left_fine true j e v is i here under = value_fine v i under

  choose_fine : (t : Bool) (j : ℕ) (b : CoreForm) (bs : Branches) (o : CoreForm) → IsSimple b → AreSimpleBranches bs
      → IsSimple o → m.place.activation ≡ 1 → ItemsAre s m.world ks m.place → Fine s m (choose t j b bs o ks m)
  choose_fine true j b bs o is are other here under = form_fine j b chosen is tt here under
  choose_fine false j b bs o is are other here under = branch_fine (j + span b) bs o are other here under

  turn_fine : (u : Bool) (j : ℕ) (t b : CoreForm) → IsSimple t → IsSimple b → m.place.activation ≡ 1
      → ItemsAre s m.world ks m.place → Fine s m (turn_loop u j t b ks m)
  turn_fine true j t b is are here under = form_fine (j + span t) b (loop_body j t b) are (is, are) here under
  turn_fine false j t b is are here under = value_fine Nil tt under

  rest_fine : (v : Value) (j : ℕ) (es : Forms) → IsImmediate v → AreSimple es → m.place.activation ≡ 1
      → ItemsAre s m.world ks m.place → Fine s m (give_part s v (rest j es) ks m)
  unfolding give_part
  rest_fine v j form.none i are here under = value_fine v i under
  rest_fine v j (form.more e es) i are here under = form_fine j e (rest (j + span e) es) are.0 are.1 here under

  more_immediate : (vs : List Value) (v : Value) → AreImmediate vs → IsImmediate v → AreImmediate (vs ++ v ∷ [])
  more_immediate [] v each i = (i, tt)
  more_immediate (u ∷ vs) v each i = (each.0, more_immediate vs v each.1 i)

  assign_fine : (v : Value) (x : Local) → IsImmediate v → ItemsAre s m.world ks m.place
      → Fine s m (Run (give v) ks (with_variable m x v))
  unfolding with_variable
  assign_fine v x i under = (
    record {
      kept = kept;
      scopes = set_is m.scopes (scope_of m x) _
          (put_is (scope_at m.scopes (scope_of m x)).variables x v i (scope_is m.scopes (scope_of m x) all)) all;
      alone = alone;
      focus = given_to v ks i;
      items = under;
    },
    (
      length-set m.scopes (scope_of m x) _,
      quiet_given v ks m (with_variable m x v) refl,
      same_grows m.world m.world refl,
    ),
  )

  -- out of a loop, which is one of the main program
  leave_fine : (b : Bool) (v : Value) → IsImmediate v → m.place.activation ≡ 1 → ItemsAre s m.world ks m.place
      → Fine s m (leave_from b v ks m)
  leave_fine true v i here under = (
    record { kept = kept; scopes = all; alone = alone; focus = left v refl i; items = under },
    (refl, refl, same_grows m.world m.world refl),
  )
  leave_fine false v i here under =
      let failure = fail m.world cause.BreakFromProc in
      subst (λ (o : Option ℕ). Fine s m (leave_to break failure v ks m o)) (sym no_target)
      (answer_fine s IsImmediate m m m.world ks failure (failed s IsImmediate m.world cause.BreakFromProc kept) refl refl
      refl all alone under (λ u j. given_to u ks j))
    where
      runs_main : (running m).runs ≡ main_program
      runs_main =
          ap (λ (a : ℕ). (activation_at m.world a).runs) here
          ∙ ap (λ (a : Activation). a.runs) (main_is s m.world kept)

      no_target : break_target m.world m.place.activation (running m).runs ≡ None
      no_target = ap (break_target m.world m.place.activation) runs_main

  action_fine : (v : Value) (a : Action) → IsImmediate v → Awaits a → m.place.activation ≡ 1
      → ItemsAre s m.world ks m.place → Fine s m (finish_action s a v Nil ks m)
  unfolding finish_action
  action_fine v a i (to_local x e) here under =
      subst (λ (b : Action). Fine s m (finish_action s b v Nil ks m)) (sym e) (assign_fine v x i under)
  action_fine v a i (to_end e) here under =
      subst (λ (b : Action). Fine s m (finish_action s b v Nil ks m)) (sym e) (leave_fine (in_loop ks) v i here under)
  action_fine v a i (to_round e) here under =
      subst (λ (b : Action). Fine s m (finish_action s b v Nil ks m)) (sym e) (
        record { kept = kept; scopes = all; alone = alone; focus = anew v refl i; items = under },
        (refl, refl, same_grows m.world m.world refl),
      )

  pub part_fine : (v : Value) (p : Part) → IsImmediate v → PartIs s p → m.place.activation ≡ 1
      → ItemsAre s m.world ks m.place → Fine s m (give_part s v p ks m)
  unfolding give_part finish_action
  part_fine v (operands j a vs es) i at here under =
      subst (λ (us : List Value). Fine s m (next_operand s j a (us ++ v ∷ []) es ks m)) (sym at.1)
      (subst (λ (fs : Forms). Fine s m (next_operand s j a (v ∷ []) fs ks m)) (sym at.2)
      (action_fine v a i at.0 here under))
  part_fine v (receiver j x is b) i at here under =
      called_fine j (by_name (symbol m x)) v is b
      (operator x (ap by_name (symbol_is x (operator_known x at.0))) at.0 i) at.1 at.2 here under
  part_fine v (items j k recv vs is b) i at here under =
      subst (λ (o : Maybe). Fine s m (next_item s j k recv (vs ++ v ∷ []) is o ks m)) (sym at.3)
      (items_fine j k recv (vs ++ v ∷ []) is at.0 (more_immediate vs v at.1 i) at.2 here under)
  part_fine v (block k recv vs) i at here under = absurd at
  part_fine v (elements j g o q is) i at here under = absurd at
  part_fine v (hash_key j o e ps) i at here under = absurd at
  part_fine v (hash_value j o u ps) i at here under = absurd at
  part_fine v (pieces j o es) i at here under = absurd at
  part_fine v (rest j es) i at here under = rest_fine v j es i at here under
  part_fine v (test j b bs o) i at here under = choose_fine (is_true v) j b bs o at.0 at.1 at.2 here under
  part_fine v chosen i at here under = value_fine v i under
  part_fine v (and_then j e) i at here under = right_fine (is_true v) j e v at i here under
  part_fine v (or_else j e) i at here under = left_fine (is_true v) j e v at i here under
  part_fine v (loop_test j t b) i at here under = turn_fine (is_true v) j t b at.0 at.1 here under
  part_fine v (loop_body j t b) i at here under = form_fine j t (loop_test j t b) at.0 (at.0, at.1) here under
  part_fine v (rescued j b cs o) i at here under = absurd at
  part_fine v (clause_class j e es t b cs r) i at here under = absurd at
  part_fine v (clause_target j e b r) i at here under = absurd at
  part_fine v (clause_body r) i at here under = absurd at
  part_fine v (ensured j e) i at here under = absurd at
