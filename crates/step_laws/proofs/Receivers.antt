-- What defines a method on a receiver: the singleton class of its value, and then the method with the body that is its
-- child.
use Rattle.std.proofs.Common.{◌≡◌, ℕ, ◌+◌, ◌<◌, List, [], ◌∷◌, ◌++◌, refl, sym, ap, ◌∙◌, subst, arith, get_or}
use Rattle.std.specs.Prelude.{codes}
use Rattle.rb_value.specs.declared.value.Value.{Value}
use Rattle.rb_value.specs.declared.value.SymId.{SymId}
use Rattle.rb_value.specs.declared.exit.Slot.TheVariants.{V}
use Rattle.rb_value.specs.Slot.{read}
use Rattle.rite_code.specs.declared.operation.Operation.TheVariants as op
use Rattle.def_core.specs.Changes.{intern, singleton}
use Rattle.ir_core.specs.CoreForm.{Name, CoreForm, define_on as form_on, Forms, none, Body}
use Rattle.scope_resolver.specs.declared.body_kind.BodyKind.TheVariants as kind
use Rattle.gen_parts.specs.declared.line.Line.TheVariants as line
use Rattle.gen_parts.specs.Pieces.{does, makes, ◌⊕◌}
use Rattle.gen_forms.specs.Gen.{gen, body_code, symbol as entry_of}
use Rattle.def_calls.specs.World.{World, Answer, Result as Given, gives, raises, activation_at}
use Rattle.def_calls.specs.Definitions.{space_in, with_space, define_method, singleton_class}
use Rattle.def_eval.specs.Source.{span}
use Rattle.def_eval.specs.Configuration as source
use Rattle.def_eval.specs.Configuration.{Place, Action, define_on, operands, Item, part, perform, give, Config, Run, seen}
use Rattle.def_eval.specs.Entering.{after_result}
use Rattle.def_eval.specs.Forms.{define_in, define_after, next_operand, finish, do_form}
use Rattle.def_eval.specs.Giving.{give_part, do_give}
use Rattle.def_eval.specs.Transition.{go}
use Rattle.def_machine.specs.State as machine
use Rattle.def_machine.specs.State.{Level, frame, State, body_at, value_at, shown}
use Rattle.def_machine.specs.Unwind.{after as after_machine, after_result as after_result_machine}
use Rattle.def_machine.specs.Turn.{act}
use Rattle.step_laws.specs.Site.{Site, within, at_line}
use Rattle.step_laws.specs.Covers.{past_singleton}
use Rattle.step_laws.specs.Calm.{Quiet}
use Rattle.step_laws.specs.Measure.{burden, measure}
use Rattle.step_laws.proofs.Placed.{high, high-both, high-puts, left, right_at, moved, the_line, frame_at, turned}
use Rattle.step_laws.specs.Behind.{Static, DefineBehind, defines_method}
use Rattle.step_laws.specs.Relation.{Ground, InFrame, Common, Doing, GivesIn, Step}
use Rattle.step_laws.proofs.Registers.{keeps_above, slot_same}
use Rattle.step_laws.proofs.Untouched.{put_only, frame_kept, same_here, written_here}
use Rattle.step_laws.proofs.Matching.{going, going_out, state_at, written}
use Rattle.step_laws.proofs.Literals.{aligned}
use Rattle.step_laws.proofs.Guards.{within_puts, within_makes}
use Rattle.step_laws.proofs.Within.{keeps_ends, keeps}
use Rattle.step_laws.proofs.Definitions.{made_line, high_made}
use Rattle.step_laws.proofs.Midway.{few_of, few_before, raises_behind, answer_behind, answer_out, begins_first}

-- to make a singleton class writes nothing
pub singleton_out : (w : World) (v : Value) → (singleton_class w v).world.out ≡ w.out
unfolding singleton_class
singleton_out w v = answer_out w (singleton w.store v)

module _ (g : Ground) (h : Site) (static : Static h) (ks : List Item) (m : source.Memory) (ls : List Level)
    (k : machine.Memory) (both : Common g h m (aligned k m)) where
  pub do_define_on : (j : ℕ) (e : CoreForm) (x : Name) (f : Body)
      (d : Doing g h j (form_on e x f) ks m.place ls k.lists)
      → Step h (Run (perform j (form_on e x f)) ks m) (state_at g h d.x d.n (aligned k m))
  unfolding do_form
  do_define_on j e x f d =
      let p = gen (within h d.loop) d.s d.r e in
      let q = does (op.SClass d.r) in
      let t = past_singleton h d.loop d.r d.s e in
      let o = op.Def d.r (entry_of h.context x) t.child in
      let bodies = body_code kind.Method h.context.scopes t.body f in
      let made = makes o t.body bodies in
      let kept = keeps e (within h d.loop) d.s d.r in
      let first = left h d.n (p ⊕ q) made (within_makes _ _ _ _) d.code in
      let n = d.n + high p in
      let one : high (p ⊕ q) ≡ high p + 1 = omega (arith, high-both p q, high-puts (line.Does (op.SClass d.r))) in
      begins_first g h ks m ls k both j (j + span e) (form_on e x f) e (define_on x (j + span e)) none d refl
      (omega arith)
      d.covered.1 (left h d.n p q (within_puts _ _) first) (defines_method (record {
        at = refl;
        name = x;
        body = j + span e;
        action = refl;
        first = refl;
        last = refl;
        named = d.covered.2.named;
        room = d.covered.0;
        child = t.child;
        makes = d.covered.2.child;
        opens = the_line h n (line.Does (op.SClass d.r)) (right_at h d.n d.s p q d.here kept first);
        defines = made_line h (n + 1) t.body o bodies
            (moved h (d.n + high (p ⊕ q)) (n + 1) made (omega (arith, one))
            (right_at h d.n d.s (p ⊕ q) made d.here (keeps_ends d.s p (line.Does (op.SClass d.r)) kept) d.code));
        ends = omega (arith, one, high-both (p ⊕ q) made, high_made o t.body bodies);
      }))

  -- The value of the receiver.
  module _ (v : Value) (j : ℕ) (a : Action) (vs : List Value) (es : Forms)
      (d : GivesIn g h v (part (operands j a vs es) ∷ ks) m.place ls k.lists)
      (b : DefineBehind h a vs es d.next.low d.n d.r d.next.end)
      (quiet : Quiet m (go h.source (Run (give v) (part (operands j a vs es) ∷ ks) m))) where
    abbrev conf : Config
    conf = Run (give v) (part (operands j a vs es) ∷ ks) m

    abbrev low : ℕ
    low = d.next.low

    -- its singleton class
    abbrev opened : Answer
    opened = singleton_class m.world v

    abbrev state : State
    state = state_at g h d.x d.n (aligned k m)

    goes : go h.source conf ≡ define_after opened b.name b.body ks m opened.result
    unfolding do_give give_part finish
    goes =
        ap (λ (q : Action). next_operand h.source j q (vs ++ v ∷ []) es ks m) b.action
        ∙ ap (λ (us : List Value). next_operand h.source j (define_on b.name b.body) (us ++ v ∷ []) es ks m) b.first
        ∙ ap (λ (fs : Forms). next_operand h.source j (define_on b.name b.body) (v ∷ []) fs ks m) b.last

    holds : value_at k.lists h.list low ≡ v
    holds = ap (λ (i : ℕ). value_at k.lists h.list i) b.at ∙ ap read d.stands

    alike : shown state ≡ seen conf
    alike = going (give v) (part (operands j a vs es) ∷ ks) m (frame (frame_at h d.x d.n) ∷ g.below) (aligned k m) refl

    less : burden ks m < measure conf
    less = omega arith

    acts : act h.program (op.SClass low) (at_line h (d.n + 1)) (frame_at h d.x d.n) g.below (aligned k m)
        ≡ after_machine h.program opened low (at_line h (d.n + 1)) (frame_at h d.x d.n) g.below (aligned k m)
    acts = ap (λ (u : Value). after_machine h.program (singleton_class m.world u) low (at_line h (d.n + 1))
        (frame_at h d.x d.n) g.below (aligned k m)) holds

    next : InFrame g h k.lists ks (d.n + 1 + 1) low d.next.outer
    next = subst (λ (i : ℕ). InFrame g h k.lists ks i low d.next.outer) (sym b.ends) d.next.next

    -- the method is defined in it
    abbrev defined : Value → Answer
    defined u = define_in (source.with_world m opened.world) b.name b.body u

    defines : (u : Value) → opened.result ≡ gives u → Step h conf state
    unfolding define_method
    defines u is =
        let w = opened.world in
        let l = written h (aligned k m) low u in
        let s = same_here g h m (aligned k m) both in
        let o = op.Def low (entry_of h.context b.name) b.child in
        let held : value_at l.lists h.list low ≡ u =
        ap read (slot_same k.lists h.list low (V u) s.present (omega (arith, s.long, b.room.within))) in
        let told : Value → ℕ → SymId → ℕ → State = λ z i y act'.
        after_machine h.program (with_space w (codes "DEF") z (space_in w.store.objects z)
        (λ c. define_method w c y i (activation_at w act').classes)) low (at_line h (d.n + 1 + 1))
        (frame_at h d.x (d.n + 1)) g.below (machine.with_world l w) in
        let name : SymId = (intern w.store b.name).symbol in
        let kept = frame_kept g h k.lists l.lists ks (d.n + 1 + 1) low d.next.outer
        (keeps_above h k.lists low low (V u) s.present (omega arith)) (put_only k.lists h.list low u)
        (omega (arith, both.free)) next in
        let still = answer_behind g h static conf (defined u).result w (defined u).world ks m d.x l (d.n + 1) low o
        d.next.outer
        (going_out (give v) (part (operands j a vs es) ∷ ks) m (frame (frame_at h d.x (d.n + 1)) ∷ g.below)
        (machine.with_world l w) (singleton_out m.world v)) (singleton_out m.world v) quiet
        (goes ∙ ap (λ (z : Given). define_after opened b.name b.body ks m z) is) b.defines
        (ap (λ (z : Value). told z (get_or (body_at h.program h.body).children b.child 0)
        (intern w.store (get_or (body_at h.program h.body).symbols (entry_of h.context b.name) [])).symbol
        h.activation) held
        ∙ ap (λ (i : ℕ). told u i
        (intern w.store (get_or (body_at h.program h.body).symbols (entry_of h.context b.name) [])).symbol
        h.activation) b.makes
        ∙ ap (λ (y : Name). told u b.body (intern w.store y).symbol h.activation) b.named.listed
        ∙ ap (λ (z : Place). told u b.body name z.activation) (sym d.there)) less
        (written_here g h m (aligned k m) both low u b.room.above) d.there b.room kept in
        (few_before 3 h.source h.program conf state (state_at g h d.x (d.n + 1) (machine.with_world l w))
        (omega arith) alike
        (turned h d.x d.n (op.SClass low) g.below (aligned k m) b.opens ∙ acts
        ∙ ap (λ (z : Given). after_result_machine h.program z low (at_line h (d.n + 1)) (frame_at h d.x d.n) g.below
        (machine.with_world k w)) is) (few_of h.source h.program conf
        (state_at g h d.x (d.n + 1) (machine.with_world l w)) still)).advances

    pub give_define_on : Step h conf state
    give_define_on = by opened.result refl
      where
        by : (z : Given) → opened.result ≡ z → Step h conf state
        by (gives u) is = defines u is
        by (raises e) is =
            (raises_behind g h conf e m.world opened.world ks m d.x (aligned k m) d.n low (d.n + 1 + 1) (op.SClass low)
            d.next.outer refl quiet
            (goes ∙ ap (λ (z : Given). define_after opened b.name b.body ks m z) is
            ∙ ap (λ (z : Given). after_result z opened.world ks m) is) b.opens
            (acts ∙ ap (λ (z : Given). after_result_machine h.program z low (at_line h (d.n + 1)) (frame_at h d.x d.n)
            g.below
            (machine.with_world k opened.world)) is) less both next).advances
