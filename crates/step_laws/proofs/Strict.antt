-- Strict forms: the operands from left to right, and then an outcome of their values.
use Rattle.std.proofs.Common.{◌≡◌, ℕ, zero, suc, ◌+◌, ◌<◌, List, [], ◌∷◌, ◌++◌, refl, sym, ap, ◌∙◌, subst, arith, length, length-append, get_or, true, false}
use Rattle.std.specs.Prelude.{codes, unwrap_or, Option, Some}
use Rattle.rb_value.specs.declared.value.Value.{Value}
use Rattle.rb_value.specs.declared.value.Value.TheVariants.{Nil}
use Rattle.rb_value.specs.declared.value.SymId.{SymId}
use Rattle.rb_value.specs.Slot.{read}
use Rattle.rb_syntax.specs.declared.core_form.DefinedKind.TheVariants as asks
use Rattle.rite_code.specs.declared.operation.Operation.{Operation}
use Rattle.ir_core.specs.CoreForm.{Name, CoreForm, Forms, none, more}
use Rattle.gen_parts.specs.declared.line.Line.TheVariants as line
use Rattle.gen_parts.specs.declared.emitter.Spot.{Spot}
use Rattle.gen_parts.specs.Pieces.{past, does, ◌⊕◌}
use Rattle.gen_forms.specs.declared.context.Loop.{Loop}
use Rattle.gen_forms.specs.Gen.{gen, symbol as entry_of}
use Rattle.def_calls.specs.World as world
use Rattle.def_calls.specs.World.{Activation, activation_at, Answer}
use Rattle.def_calls.specs.Constants.{get_constant_in, set_constant, set_constant_in}
use Rattle.def_calls.specs.Definitions.{constant_in_told, method_told}
use Rattle.def_calls.specs.Values as values
use Rattle.def_eval.specs.Source.{span}
use Rattle.def_eval.specs.Configuration as source
use Rattle.def_eval.specs.Configuration.{Place, Action, assign, assign_ivar, assign_gvar, constant_in, assign_constant, assign_constant_in, make_range, make_symbol, element, elements_between, last_elements, leave_method, leave_call, leave_round, define_on, open_class, open_module, open_singleton, tell, operands, Item, part, perform, give, Config, Run}
use Rattle.def_eval.specs.Scopes.{running}
use Rattle.def_eval.specs.Entering.{symbol, after}
use Rattle.def_eval.specs.Forms.{self_of, within as within_value, tell_of, finish}
use Rattle.def_eval.specs.Giving.{give_part, do_give}
use Rattle.def_eval.specs.Transition.{go}
use Rattle.def_machine.specs.State as machine
use Rattle.def_machine.specs.State.{Level, Registers, frame, State, value_at}
use Rattle.def_machine.specs.Unwind.{after as after_machine}
use Rattle.def_machine.specs.Turn.{act, symbol as symbol_machine}
use Rattle.step_laws.specs.Site.{Site, within, place_in, at_line, LineAt, Room}
use Rattle.step_laws.specs.Strict.{strict_op, IsReady, arity}
use Rattle.step_laws.specs.Covers.{Covers}
use Rattle.step_laws.specs.Calm.{IsSteady, Quiet}
use Rattle.step_laws.specs.Measure.{size, burden, measure}
use Rattle.step_laws.proofs.Placed.{high, high-both, high-puts, high-nothing, line-past, Stands, nothing_stands, within_puts, left, left_at, right_at, the_line, Rest, frame_at}
use Rattle.step_laws.proofs.Within.{keeps_both, keeps}
use Rattle.step_laws.specs.Behind.{Static, Holds, StrictBehind, strict}
use Rattle.step_laws.specs.Relation.{Ground, InFrame, Common, GivesIn, Related, Step}
use Rattle.step_laws.proofs.Matching.{by_none, going, state_at}
use Rattle.step_laws.proofs.Calling.{From}
use Rattle.step_laws.proofs.Literals.{aligned, self_is}
use Rattle.step_laws.proofs.Answers.{answer_at, symbols_same}
use Rattle.step_laws.proofs.Calls.{holds_more}

-- what an action makes of the values of its operands
abbrev answer_of : Action → Value → Value → source.Memory → Answer
answer_of (assign x) v u m = world.give m.world Nil
answer_of (assign_ivar x) v u m = values.set_instance_variable m.world (self_of m) (symbol m x) v
answer_of (assign_gvar x) v u m = world.give m.world Nil
answer_of (constant_in x) v u m = within_value m (codes "GETMCNST") v (λ d. get_constant_in m.world d (symbol m x))
answer_of (assign_constant x) v u m = set_constant m.world (running m).classes (symbol m x) v
answer_of (assign_constant_in x) v u m = within_value m (codes "SETMCNST") v (λ d. set_constant_in m.world d (symbol m x) u)
answer_of (make_range b) v u m = values.make_range m.world v u b
answer_of make_symbol v u m = values.make_symbol m.world v
answer_of (element z) v u m = values.element m.world v z
answer_of (elements_between from post) v u m = values.elements_between m.world v from post
answer_of (last_elements from count) v u m = values.last_elements m.world v from count
answer_of leave_method v u m = world.give m.world Nil
answer_of leave_call v u m = world.give m.world Nil
answer_of leave_round v u m = world.give m.world Nil
answer_of (define_on x i) v u m = world.give m.world Nil
answer_of (open_class x i) v u m = world.give m.world Nil
answer_of (open_module x i) v u m = world.give m.world Nil
answer_of (open_singleton i) v u m = world.give m.world Nil
answer_of (tell q x) v u m = tell_of q x v m

finishes : (h : Site) (r : ℕ) (a : Action) (o : Operation) (v u : Value) (ks : List Item) (m : source.Memory)
    → strict_op h r a ≡ Some o → finish h.source a v u ks m ≡ after (answer_of a v u m) ks m
unfolding finish
finishes h r (assign x) o v u ks m e = absurd (cc e)
finishes h r (assign_ivar x) o v u ks m e = refl
finishes h r (assign_gvar x) o v u ks m e = absurd (cc e)
finishes h r (constant_in x) o v u ks m e = refl
finishes h r (assign_constant x) o v u ks m e = refl
finishes h r (assign_constant_in x) o v u ks m e = refl
finishes h r (make_range b) o v u ks m e = refl
finishes h r make_symbol o v u ks m e = refl
finishes h r (element z) o v u ks m e = refl
finishes h r (elements_between from post) o v u ks m e = refl
finishes h r (last_elements from count) o v u ks m e = refl
finishes h r leave_method o v u ks m e = absurd (cc e)
finishes h r leave_call o v u ks m e = absurd (cc e)
finishes h r leave_round o v u ks m e = absurd (cc e)
finishes h r (define_on x i) o v u ks m e = absurd (cc e)
finishes h r (open_class x i) o v u ks m e = absurd (cc e)
finishes h r (open_module x i) o v u ks m e = absurd (cc e)
finishes h r (open_singleton i) o v u ks m e = absurd (cc e)
finishes h r (tell q x) o v u ks m e = refl

pub holds_first : (l : List Registers) (n r : ℕ) (vs : List Value) → Holds l n r vs → 0 < length vs
    → value_at l n r ≡ get_or vs 0 Nil
holds_first l n r [] s h = absurd (omega (arith, h))
holds_first l n r (v ∷ vs) s h = ap read s.0

pub holds_second : (l : List Registers) (n r : ℕ) (vs : List Value) → Holds l n r vs → 1 < length vs
    → value_at l n (r + 1) ≡ get_or vs 1 Nil
holds_second l n r [] s h = absurd (omega (arith, h))
holds_second l n r (v ∷ []) s h = absurd (omega (arith, h))
holds_second l n r (v ∷ u ∷ vs) s h = ap read s.1.0

module _ (g : Ground) (h : Site) (static : Static h) (ks : List Item) (m : source.Memory) (ls : List Level)
    (k : machine.Memory) (both : Common g h m (aligned k m)) (steady : IsSteady h.source m.world)
    (at_home : m.place ≡ place_in h) where
  here : activation_at m.world h.activation ≡ running m
  here = ap (λ (p : Place). activation_at m.world p.activation) (sym at_home)

  own : value_at k.lists h.list 0 ≡ self_of m
  own = sym (self_is g h m (aligned k m) both at_home)

  -- the instruction does with the registers what the action does with their values
  module _ (x : Rest) (n r : ℕ) where
    abbrev told : Answer → State
    told b = after_machine h.program b r (at_line h (n + 1)) (frame_at h x n) g.below (aligned k m)

    abbrev name_of : Name → SymId
    name_of y = symbol_machine h.program (frame_at h x n) (aligned k m) (entry_of h.context y)

    first : Value
    first = value_at k.lists h.list r

    -- the operation that an action names
    by_operation : (i : Option Operation) (o : Operation) → i ≡ Some o
        → act h.program o (at_line h (n + 1)) (frame_at h x n) g.below (aligned k m)
        ≡ act h.program (unwrap_or i o) (at_line h (n + 1)) (frame_at h x n) g.below (aligned k m)
    by_operation i o e =
        ap (λ (j : Option Operation). act h.program (unwrap_or j o) (at_line h (n + 1)) (frame_at h x n) g.below (aligned k m))
        (sym e)

    acts : (a : Action) (o : Operation) (v u : Value) → strict_op h r a ≡ Some o → IsReady h a
        → value_at k.lists h.list r ≡ v → (arity a ≡ 2 → value_at k.lists h.list (r + 1) ≡ u)
        → act h.program o (at_line h (n + 1)) (frame_at h x n) g.below (aligned k m) ≡ told (answer_of a v u m)
    acts (assign y) o v u e ready one two = absurd ready
    acts (assign_ivar y) o v u e ready one two =
        by_operation _ o e
        ∙ ap (λ (s : SymId). told (values.set_instance_variable m.world (value_at k.lists h.list 0) s
        (value_at k.lists h.list r))) (symbols_same h x n k m y ready)
        ∙ ap (λ (w : Value). told (values.set_instance_variable m.world w (symbol m y) (value_at k.lists h.list r))) own
        ∙ ap (λ (w : Value). told (values.set_instance_variable m.world (self_of m) (symbol m y) w)) one
    acts (assign_gvar y) o v u e ready one two = absurd ready
    acts (constant_in y) o v u e ready one two =
        by_operation _ o e
        ∙ ap (λ (s : SymId). told (within_value m (codes "GETMCNST") (value_at k.lists h.list r)
        (λ d. get_constant_in m.world d s))) (symbols_same h x n k m y ready)
        ∙ ap (λ (w : Value). told (within_value m (codes "GETMCNST") w (λ d. get_constant_in m.world d (symbol m y)))) one
    acts (assign_constant y) o v u e ready one two =
        by_operation _ o e
        ∙ ap (λ (s : SymId). told (set_constant m.world (activation_at m.world h.activation).classes s
        (value_at k.lists h.list r))) (symbols_same h x n k m y ready)
        ∙ ap (λ (b : Activation). told (set_constant m.world b.classes (symbol m y) (value_at k.lists h.list r))) here
        ∙ ap (λ (w : Value). told (set_constant m.world (running m).classes (symbol m y) w)) one
    acts (assign_constant_in y) o v u e ready one two =
        by_operation _ o e
        ∙ ap (λ (s : SymId). told (within_value m (codes "SETMCNST") (value_at k.lists h.list r)
        (λ d. set_constant_in m.world d s (value_at k.lists h.list (r + 1))))) (symbols_same h x n k m y ready)
        ∙ ap (λ (w : Value). told (within_value m (codes "SETMCNST") w
        (λ d. set_constant_in m.world d (symbol m y) (value_at k.lists h.list (r + 1))))) one
        ∙ ap (λ (w : Value). told (within_value m (codes "SETMCNST") v (λ d. set_constant_in m.world d (symbol m y) w)))
        (two refl)
    acts (make_range false) o v u e ready one two =
        by_operation _ o e
        ∙ ap (λ (w : Value). told (values.make_range m.world w (value_at k.lists h.list (r + 1)) false)) one
        ∙ ap (λ (w : Value). told (values.make_range m.world v w false)) (two refl)
    acts (make_range true) o v u e ready one two =
        by_operation _ o e
        ∙ ap (λ (w : Value). told (values.make_range m.world w (value_at k.lists h.list (r + 1)) true)) one
        ∙ ap (λ (w : Value). told (values.make_range m.world v w true)) (two refl)
    acts make_symbol o v u e ready one two =
        by_operation _ o e ∙ ap (λ (w : Value). told (values.make_symbol m.world w)) one
    acts (element z) o v u e ready one two =
        by_operation _ o e ∙ ap (λ (w : Value). told (values.element m.world w z)) one
    acts (elements_between from post) o v u e ready one two =
        by_operation _ o e ∙ ap (λ (w : Value). told (values.elements_between m.world w from post)) one
    acts (last_elements from zero) o v u e ready one two = absurd ready
    acts (last_elements from (suc count)) o v u e ready one two =
        by_operation _ o e
        ∙ ap (λ (w : Value). told (values.last_elements m.world w from (count + 1))) one
        ∙ ap (λ (i : ℕ). told (values.last_elements m.world v from i)) (omega arith)
    acts leave_method o v u e ready one two = absurd ready
    acts leave_call o v u e ready one two = absurd ready
    acts leave_round o v u e ready one two = absurd ready
    acts (define_on y i) o v u e ready one two = absurd ready
    acts (open_class y i) o v u e ready one two = absurd ready
    acts (open_module y i) o v u e ready one two = absurd ready
    acts (open_singleton i) o v u e ready one two = absurd ready
    acts (tell asks.Expression y) o v u e ready one two = absurd ready
    acts (tell asks.LocalVariable y) o v u e ready one two = absurd ready
    acts (tell asks.SelfReference y) o v u e ready one two = absurd ready
    acts (tell asks.Assignment y) o v u e ready one two = absurd ready
    acts (tell asks.InstanceVariable y) o v u e ready one two = absurd ready
    acts (tell asks.GlobalVariable y) o v u e ready one two = absurd ready
    acts (tell asks.Constant y) o v u e ready one two =
        by_operation _ o e
        ∙ ap (λ (s : SymId). told (constant_in_told m.world (value_at k.lists h.list r) s)) (symbols_same h x n k m y ready)
        ∙ ap (λ (w : Value). told (constant_in_told m.world w (symbol m y))) one
    acts (tell asks.Method y) o v u e ready one two =
        by_operation _ o e
        ∙ ap (λ (s : SymId). told (method_told m.world (value_at k.lists h.list 0) (value_at k.lists h.list r) s))
        (symbols_same h x n k m y ready)
        ∙ ap (λ (w : Value). told (method_told m.world w (value_at k.lists h.list r) (symbol m y))) own
        ∙ ap (λ (w : Value). told (method_told m.world (self_of m) w (symbol m y))) one
    acts (tell asks.Yield y) o v u e ready one two = absurd ready
    acts (tell asks.Super y) o v u e ready one two = absurd ready

  -- all operands have their values
  now : (c : Config) (x : Rest) (n r : ℕ) (around : Option Loop) (a : Action) (o : Operation) (vs : List Value)
      → From h c (frame (frame_at h x n) ∷ g.below) (aligned k m) m
      → go h.source c ≡ finish h.source a (get_or vs 0 Nil) (get_or vs 1 Nil) ks m → strict_op h r a ≡ Some o
      → IsReady h a → Holds k.lists h.list r vs → length vs ≡ arity a → LineAt h n (line.Does o)
      → burden ks m < measure c → Room h r → InFrame g h k.lists ks (n + 1) r around
      → Step h c (state_at g h x n (aligned k m))
  now c x n r around a o vs from goes is ready held count l less room next =
      let v = get_or vs 0 Nil in
      let u = get_or vs 1 Nil in
      let b = answer_of a v u m in
      answer_at g h static c b.result b.world ks m x k n r o around from (goes ∙ finishes h r a o v u ks m is) l
      (acts x n r a o v u is ready (holds_first k.lists h.list r vs held (omega (arith, count, some_arity a)))
      (λ e. holds_second k.lists h.list r vs held (omega (arith, count, e)))) less both at_home room next
    where
      some_arity : (a : Action) → 0 < arity a
      some_arity (assign x) = omega arith
      some_arity (assign_ivar x) = omega arith
      some_arity (assign_gvar x) = omega arith
      some_arity (constant_in x) = omega arith
      some_arity (assign_constant x) = omega arith
      some_arity (assign_constant_in x) = omega arith
      some_arity (make_range b) = omega arith
      some_arity make_symbol = omega arith
      some_arity (element z) = omega arith
      some_arity (elements_between from post) = omega arith
      some_arity (last_elements from count) = omega arith
      some_arity leave_method = omega arith
      some_arity leave_call = omega arith
      some_arity leave_round = omega arith
      some_arity (define_on x i) = omega arith
      some_arity (open_class x i) = omega arith
      some_arity (open_module x i) = omega arith
      some_arity (open_singleton i) = omega arith
      some_arity (tell q x) = omega arith

  -- a value of an operand, with those before it
  pub give_strict : (v : Value) (j : ℕ) (a : Action) (vs : List Value) (es : Forms)
      (d : GivesIn g h v (part (operands j a vs es) ∷ ks) m.place ls k.lists)
      → StrictBehind h k.lists j a vs es d.next.low d.n d.r d.next.end d.loop
      → Quiet m (go h.source (Run (give v) (part (operands j a vs es) ∷ ks) m))
      → Step h (Run (give v) (part (operands j a vs es) ∷ ks) m) (state_at g h d.x d.n (aligned k m))
  unfolding do_give give_part
  give_strict v j a vs none d b quiet =
      let low = d.next.low in
      let all = length-append vs (v ∷ []) in
      let at : LineAt h d.n (line.Does b.o) =
      subst (λ (i : ℕ). LineAt h i (line.Does b.o)) (omega (arith, high-nothing)) b.calls in
      let ends : d.next.end ≡ d.n + 1 = omega (arith, high-nothing, b.ends) in
      now (Run (give v) (part (operands j a vs none) ∷ ks) m) d.x d.n low d.next.outer a b.o (vs ++ v ∷ []) (record {
        alike = going (give v) (part (operands j a vs none) ∷ ks) m (frame (frame_at h d.x d.n) ∷ g.below) (aligned k m) refl;
        out = refl;
        quiet = quiet;
      }) refl b.by b.ready (holds_more k.lists h.list low d.r vs v b.held b.row d.stands) (omega (arith, all, b.count)) at
      (omega arith) b.room (subst (λ (i : ℕ). InFrame g h k.lists ks i low d.next.outer) ends d.next.next)
  give_strict v j a vs (more e none) d b quiet =
      let low = d.next.low in
      let p = gen (within h d.loop) b.s (d.r + 1) e in
      by_none h (Run (give v) (part (operands j a vs (more e none)) ∷ ks) m) (state_at g h d.x d.n (aligned k m))
      (omega arith) (
        g,
        h,
        both,
        record {
          x = d.x;
          n = d.n;
          r = d.r + 1;
          is = refl;
          there = at_home;
          loop = d.loop;
          s = b.s;
          here = b.here;
          covered = b.covered;
          above = omega (arith, b.room.above, b.row);
          code = b.code;
          next = record {
            low = low;
            end = d.next.end;
            above = b.room.above;
            below = omega (arith, b.row);
            behind = strict (record {
              row = omega (arith, b.row, length-append vs (v ∷ []));
              held = holds_more k.lists h.list low d.r vs v b.held b.row d.stands;
              s = past b.s p;
              here = line-past b.s p ∙ ap (λ (i : ℕ). i + high p) b.here;
              room = b.room;
              covered = tt;
              o = b.o;
              by = b.by;
              ready = b.ready;
              count = omega (arith, b.count, length-append vs (v ∷ []));
              code = nothing_stands h (d.n + high p);
              calls = subst (λ (i : ℕ). LineAt h i (line.Does b.o)) (omega (arith, high-nothing)) b.calls;
              ends = omega (arith, high-nothing, b.ends);
            });
            outer = d.next.outer;
            inner = d.next.inner;
            next = d.next.next;
          };
        },
      )
  give_strict v j a vs (more e (more f es)) d b quiet = absurd b.covered

  -- a form of one operand and of two begins with its first
  pub one_operand : (c : Config) (x : Rest) (n r j : ℕ) (loop : Option Loop) (s : Spot) (e : CoreForm) (a : Action)
      (o : Operation) → go h.source c ≡ Run (perform j e) (part (operands (j + span e) a [] none) ∷ ks) m
      → 2 + size e + burden ks m < measure c → s.line ≡ n → Covers h loop r s j e → Room h r → strict_op h r a ≡ Some o
      → IsReady h a → arity a ≡ 1 → Stands h n (gen (within h loop) s r e ⊕ does o)
      → InFrame g h k.lists ks (n + high (gen (within h loop) s r e ⊕ does o)) r loop
      → Step h c (state_at g h x n (aligned k m))
  one_operand c x n r j loop s e a o goes less line_is covered room is ready count code next =
      let p = gen (within h loop) s r e in
      by_none h c (state_at g h x n (aligned k m))
      (subst (λ (d : Config). measure d < measure c) (sym goes) (omega (arith, less)))
      (subst (λ (d : Config). Related h d (state_at g h x n (aligned k m))) (sym goes) (
        g,
        h,
        both,
        record {
          x = x;
          n = n;
          r = r;
          is = refl;
          there = at_home;
          loop = loop;
          s = s;
          here = line_is;
          covered = covered;
          above = room.above;
          code = left h n p (does o) (within_puts _ _) code;
          next = record {
            low = r;
            end = n + high (p ⊕ does o);
            above = room.above;
            below = omega arith;
            behind = strict (record {
              row = omega arith;
              held = tt;
              s = past s p;
              here = line-past s p ∙ ap (λ (i : ℕ). i + high p) line_is;
              room = room;
              covered = tt;
              o = o;
              by = is;
              ready = ready;
              count = omega (arith, count);
              code = nothing_stands h (n + high p);
              calls = subst (λ (i : ℕ). LineAt h i (line.Does o)) (omega (arith, high-nothing))
                  (the_line h (n + high p) (line.Does o)
                  (right_at h n s p (does o) line_is (keeps e (within h loop) s r) code));
              ends = omega (arith, high-nothing, high-both p (does o), high-puts (line.Does o));
            });
            outer = loop;
            inner = refl;
            next = next;
          };
        },
      ))

  pub two_operands : (c : Config) (x : Rest) (n r j : ℕ) (loop : Option Loop) (s : Spot) (e f : CoreForm) (a : Action)
      (o : Operation) → go h.source c ≡ Run (perform j e) (part (operands (j + span e) a [] (more f none)) ∷ ks) m
      → 5 + size e + size f + burden ks m < measure c → s.line ≡ n → Covers h loop r s j e
      → Covers h loop (r + 1) (past s (gen (within h loop) s r e)) (j + span e) f → Room h r
      → strict_op h r a ≡ Some o → IsReady h a → arity a ≡ 2
      → Stands h n ((gen (within h loop) s r e ⊕ gen (within h loop) (past s (gen (within h loop) s r e)) (r + 1) f) ⊕ does o)
      → InFrame g h k.lists ks (n + high ((gen (within h loop) s r e
      ⊕ gen (within h loop) (past s (gen (within h loop) s r e)) (r + 1) f) ⊕ does o)) r loop
      → Step h c (state_at g h x n (aligned k m))
  two_operands c x n r j loop s e f a o goes less line_is covered covered_too room is ready count code next =
      let p = gen (within h loop) s r e in
      let q = gen (within h loop) (past s p) (r + 1) f in
      let kept = keeps e (within h loop) s r in
      let kept_too = keeps f (within h loop) (past s p) (r + 1) in
      let both_code = left h n (p ⊕ q) (does o) (within_puts _ _) code in
      by_none h c (state_at g h x n (aligned k m))
      (subst (λ (d : Config). measure d < measure c) (sym goes) (omega (arith, less)))
      (subst (λ (d : Config). Related h d (state_at g h x n (aligned k m))) (sym goes) (
        g,
        h,
        both,
        record {
          x = x;
          n = n;
          r = r;
          is = refl;
          there = at_home;
          loop = loop;
          s = s;
          here = line_is;
          covered = covered;
          above = room.above;
          code = left_at h n s p q line_is kept_too both_code;
          next = record {
            low = r;
            end = n + high ((p ⊕ q) ⊕ does o);
            above = room.above;
            below = omega arith;
            behind = strict (record {
              row = omega arith;
              held = tt;
              s = past s p;
              here = line-past s p ∙ ap (λ (i : ℕ). i + high p) line_is;
              room = room;
              covered = covered_too;
              o = o;
              by = is;
              ready = ready;
              count = omega (arith, count);
              code = right_at h n s p q line_is kept both_code;
              calls = subst (λ (i : ℕ). LineAt h i (line.Does o)) (omega (arith, high-both p q))
                  (the_line h (n + high (p ⊕ q)) (line.Does o)
                  (right_at h n s (p ⊕ q) (does o) line_is (keeps_both s p q kept kept_too) code));
              ends = omega (arith, high-both (p ⊕ q) (does o), high-both p q, high-puts (line.Does o));
            });
            outer = loop;
            inner = refl;
            next = next;
          };
        },
      ))
