-- Forms of one operand and of two, with one instruction behind them, and what goes on with the value of an operand.
use Rattle.std.proofs.Common.{ℕ, ℤ, List, ◌∷◌, refl, arith, Bool}
use Rattle.std.specs.Prelude.{pos, neg_ℤ}
use Rattle.rb_value.specs.declared.value.Value.{Value}
use Rattle.rite_code.specs.declared.operation.Operation.TheVariants as op
use Rattle.ir_core.specs.CoreForm as form
use Rattle.ir_core.specs.CoreForm.{Name, CoreForm, Forms}
use Rattle.gen_forms.specs.Gen.{range_by, symbol as entry_of}
use Rattle.def_eval.specs.Configuration as source
use Rattle.def_eval.specs.Configuration.{Action, assign_ivar, constant_in, assign_constant, assign_constant_in, make_range, make_symbol, element, elements_between, last_elements, operands, Item, part, perform, give, Run}
use Rattle.def_eval.specs.Forms.{do_form}
use Rattle.def_eval.specs.Transition.{go}
use Rattle.def_machine.specs.State as machine
use Rattle.def_machine.specs.State.{Level}
use Rattle.step_laws.specs.Site.{Site}
use Rattle.step_laws.specs.Calm.{IsSteady, Quiet, Peace}
use Rattle.step_laws.specs.Spaces.{Opening}
use Rattle.step_laws.specs.Behind.{Static, OperandBehind, to_local, to_outer, to_global, strict, breaks, begins_round, leaves_body, ends_body, goes_far, defines_method, opens_space, opens_without, opens_under}
use Rattle.step_laws.specs.Relation.{Ground, Common, Doing, GivesIn, Step}
use Rattle.step_laws.proofs.Matching.{state_at}
use Rattle.step_laws.proofs.Literals.{aligned}
use Rattle.step_laws.proofs.Locals.{give_local, give_outer}
use Rattle.step_laws.proofs.Globals.{give_global}
use Rattle.step_laws.proofs.Returns.{give_return, give_round}
use Rattle.step_laws.proofs.Far.{give_far}
use Rattle.step_laws.proofs.Jumps.{give_break, give_next}
use Rattle.step_laws.proofs.Receivers.{give_define_on}
use Rattle.step_laws.proofs.Classes.{give_last, give_scope, give_under}
use Rattle.step_laws.proofs.Strict.{one_operand, two_operands, give_strict}

module _ (g : Ground) (h : Site) (static : Static h) (j : ℕ) (ks : List Item) (m : source.Memory) (ls : List Level)
    (k : machine.Memory) (both : Common g h m (aligned k m)) (steady : IsSteady h.source m.world) where
  pub do_set_ivar : (x : Name) (e : CoreForm) (d : Doing g h j (form.set_ivar x e) ks m.place ls k.lists)
      → Step h (Run (perform j (form.set_ivar x e)) ks m) (state_at g h d.x d.n (aligned k m))
  unfolding do_form
  do_set_ivar x e d =
      one_operand g h static ks m ls k both steady d.there
      (Run (perform j (form.set_ivar x e)) ks m) d.x d.n d.r j d.loop d.s e (assign_ivar x) (op.SetIv d.r (entry_of h.context x))
      refl (omega arith) d.here d.covered.1 d.covered.0 refl d.covered.2 refl d.code d.next

  pub do_in_constant : (e : CoreForm) (x : Name) (d : Doing g h j (form.in_constant e x) ks m.place ls k.lists)
      → Step h (Run (perform j (form.in_constant e x)) ks m) (state_at g h d.x d.n (aligned k m))
  unfolding do_form
  do_in_constant e x d =
      one_operand g h static ks m ls k both steady d.there
      (Run (perform j (form.in_constant e x)) ks m) d.x d.n d.r j d.loop d.s e (constant_in x) (op.GetMCnst d.r (entry_of h.context x))
      refl (omega arith) d.here d.covered.1 d.covered.0 refl d.covered.2 refl d.code d.next

  pub do_set_constant : (x : Name) (e : CoreForm) (d : Doing g h j (form.set_constant x e) ks m.place ls k.lists)
      → Step h (Run (perform j (form.set_constant x e)) ks m) (state_at g h d.x d.n (aligned k m))
  unfolding do_form
  do_set_constant x e d =
      one_operand g h static ks m ls k both steady d.there
      (Run (perform j (form.set_constant x e)) ks m) d.x d.n d.r j d.loop d.s e (assign_constant x) (op.SetConst d.r (entry_of h.context x))
      refl (omega arith) d.here d.covered.1 d.covered.0 refl d.covered.2 refl d.code d.next

  pub do_intern : (e : CoreForm) (d : Doing g h j (form.intern e) ks m.place ls k.lists)
      → Step h (Run (perform j (form.intern e)) ks m) (state_at g h d.x d.n (aligned k m))
  unfolding do_form
  do_intern e d =
      one_operand g h static ks m ls k both steady d.there
      (Run (perform j (form.intern e)) ks m) d.x d.n d.r j d.loop d.s e (make_symbol) (op.Intern d.r)
      refl (omega arith) d.here d.covered.1 d.covered.0 refl tt refl d.code d.next

  pub do_item : (e : CoreForm) (z : ℤ) (d : Doing g h j (form.item e z) ks m.place ls k.lists)
      → Step h (Run (perform j (form.item e z)) ks m) (state_at g h d.x d.n (aligned k m))
  unfolding do_form
  do_item e z d =
      one_operand g h static ks m ls k both steady d.there
      (Run (perform j (form.item e z)) ks m) d.x d.n d.r j d.loop d.s e (element z) (op.ARef d.r d.r z)
      refl (omega arith) d.here d.covered.1 d.covered.0 refl tt refl d.code d.next

  pub do_rest_of : (e : CoreForm) (from post : ℕ) (d : Doing g h j (form.rest_of e from post) ks m.place ls k.lists)
      → Step h (Run (perform j (form.rest_of e from post)) ks m) (state_at g h d.x d.n (aligned k m))
  unfolding do_form
  do_rest_of e from post d =
      one_operand g h static ks m ls k both steady d.there
      (Run (perform j (form.rest_of e from post)) ks m) d.x d.n d.r j d.loop d.s e (elements_between from post) (op.APost d.r from (pos post))
      refl (omega arith) d.here d.covered.1 d.covered.0 refl tt refl d.code d.next

  pub do_tail_of : (e : CoreForm) (from count : ℕ) (d : Doing g h j (form.tail_of e from count) ks m.place ls k.lists)
      → Step h (Run (perform j (form.tail_of e from count)) ks m) (state_at g h d.x d.n (aligned k m))
  unfolding do_form
  do_tail_of e from count d =
      one_operand g h static ks m ls k both steady d.there
      (Run (perform j (form.tail_of e from count)) ks m) d.x d.n d.r j d.loop d.s e (last_elements from count) (op.APost d.r from (neg_ℤ (pos count)))
      refl (omega arith) d.here d.covered.1 d.covered.0 refl d.covered.2 refl d.code d.next

  pub do_set_in_constant : (e : CoreForm) (x : Name) (f : CoreForm)
      (d : Doing g h j (form.set_in_constant e x f) ks m.place ls k.lists)
      → Step h (Run (perform j (form.set_in_constant e x f)) ks m) (state_at g h d.x d.n (aligned k m))
  unfolding do_form
  do_set_in_constant e x f d =
      two_operands g h static ks m ls k both steady d.there
      (Run (perform j (form.set_in_constant e x f)) ks m) d.x d.n d.r j
      d.loop d.s e f (assign_constant_in x) (op.SetMCnst d.r (entry_of h.context x)) refl (omega arith) d.here d.covered.1
      d.covered.2 d.covered.0 refl d.covered.3 refl d.code d.next

  pub do_range : (e f : CoreForm) (b : Bool) (d : Doing g h j (form.range e f b) ks m.place ls k.lists)
      → Step h (Run (perform j (form.range e f b)) ks m) (state_at g h d.x d.n (aligned k m))
  unfolding do_form
  do_range e f b d =
      two_operands g h static ks m ls k both steady d.there
      (Run (perform j (form.range e f b)) ks m) d.x d.n d.r j d.loop
      d.s e f (make_range b) (range_by b d.r) refl (omega arith) d.here d.covered.1 d.covered.2 d.covered.0 refl tt refl
      d.code d.next

  pub give_operand : (v : Value) (i : ℕ) (a : Action) (vs : List Value) (es : Forms)
      (d : GivesIn g h v (part (operands i a vs es) ∷ ks) m.place ls k.lists)
      → Peace h.source h.program (give v) (part (operands i a vs es) ∷ ks) m
      → Opening (give v) (part (operands i a vs es) ∷ ks) m
      → Step h (Run (give v) (part (operands i a vs es) ∷ ks) m) (state_at g h d.x d.n (aligned k m))
  give_operand v i a vs es d peace opening = by d.next.behind
    where
      quiet : Quiet m (go h.source (Run (give v) (part (operands i a vs es) ∷ ks) m))
      quiet = peace.quiet

      by : OperandBehind h k.lists i a vs es d.next.low d.n d.r d.next.end d.loop
          → Step h (Run (give v) (part (operands i a vs es) ∷ ks) m) (state_at g h d.x d.n (aligned k m))
      by (to_local b) = give_local g h static ks m ls k both v i a vs es d b
      by (to_outer b) = give_outer g h static ks m ls k both v i a vs es d b
      by (to_global b) = give_global g h static ks m ls k both v i a vs es d b
      by (breaks b) = give_break g h static ks m ls k both v i a vs es d b
      by (begins_round b) = give_next g h static ks m ls k both v i a vs es d b
      by (leaves_body b) = give_return g h static ks m ls k both v i a vs es d b
      by (ends_body b) = give_round g h static ks m ls k both v i a vs es d b
      by (defines_method b) = give_define_on g h static ks m ls k both v i a vs es d b quiet
      by (opens_space b) = give_last g h static ks m ls k both v i a vs es d peace opening b
      by (opens_without b) = give_scope g h static ks m ls k both v i a vs es d peace opening b
      by (opens_under b) = give_under g h static ks m ls k both v i a vs es d peace opening b
      by (goes_far b) = give_far g h static ks m ls k both v i a vs es d b quiet
      by (strict b) = give_strict g h static ks m ls k both steady d.there v i a vs es d b quiet
