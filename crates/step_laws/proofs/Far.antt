-- Exits to an activation further out: where they begin.
use Rattle.std.proofs.Common.{◌≡◌, ℕ, ◌+◌, ◌<◌, List, [], ◌∷◌, ◌++◌, refl, sym, ap, ◌∙◌, subst, arith, Bool, true, false}
use Rattle.std.specs.Prelude.{if◌then◌else◌, ◌||◌, nat_eq, Option, Some, None}
use Rattle.rb_value.specs.declared.value.Value.{Value}
use Rattle.rb_value.specs.declared.exit.Slot.TheVariants.{V}
use Rattle.rb_value.specs.Slot.{read}
use Rattle.ir_core.specs.CoreForm.{Forms}
use Rattle.gen_parts.specs.declared.line.Line.TheVariants as line
use Rattle.gen_forms.specs.declared.context.Loop.{Loop}
use Rattle.def_core.specs.declared.cause.Cause.TheVariants as cause
use Rattle.def_calls.specs.World.{Answer, Activation, activation_at, fail}
use Rattle.def_calls.specs.Calls.{break_target}
use Rattle.def_calls.specs.Fibers as fibers
use Rattle.def_eval.specs.Configuration as source
use Rattle.def_eval.specs.Configuration.{Action, leave_method, leave_call, Place, operands, stop_of, Item, part, activation, iteration, ensuring, give, travel, Config, Run}
use Rattle.def_eval.specs.Entering.{after}
use Rattle.def_eval.specs.Forms.{is_under_way, leave_to, leave_from, next_operand, finish}
use Rattle.def_eval.specs.Giving.{give_part, do_give}
use Rattle.def_eval.specs.Transition.{go}
use Rattle.def_machine.specs.State as machine
use Rattle.def_machine.specs.State.{Registers, Frame, Level, frame, slot_at}
use Rattle.def_machine.specs.Unwind.{throw, after as after_machine}
use Rattle.def_machine.specs.Turn.{turn, is_under_way as machine_way, leave_to as leave_machine}
use Rattle.step_laws.specs.Site.{Site, guarded_by, bare, at_line, LineAt}
use Rattle.step_laws.specs.Calm.{Quiet}
use Rattle.step_laws.specs.Measure.{measure}
use Rattle.step_laws.specs.Far.{Far, returns_far, breaks_far, exit_to, thrown_to, action_of, leaving_op, goal_of, cause_of}
use Rattle.step_laws.specs.Behind.{Static, IsOut, FarBehind}
use Rattle.step_laws.specs.Relation.{EndsBy, stops, returns, Ends, Inside, Waits, Ground, over_levels, InFrame, Common, GivesIn, going_far, Related, Step}
use Rattle.step_laws.proofs.Placed.{frame_at, turned}
use Rattle.step_laws.proofs.Untouched.{below_running}
use Rattle.step_laws.proofs.Matching.{by_none, going, state_at}
use Rattle.step_laws.proofs.Outside.{outside_any}
use Rattle.step_laws.proofs.Calling.{leaves_frame}
use Rattle.step_laws.proofs.Failing.{fails_here}
use Rattle.step_laws.proofs.Leaving.{home_of, no_loop}
use Rattle.step_laws.proofs.Literals.{aligned}

-- What is under way on both sides.

abbrev frame_way : ℕ → ℕ → List Level → Bool
frame_way i a ls = nat_eq i a || machine_way ls i

end_way : (h : Site) (fiber : fibers.Name) (ls : List Level) (F : Place → List Item → Type 0) (i : ℕ)
    → ((p : Place) (is : List Item) → F p is → is_under_way is i ≡ machine_way ls i) → (a : ℕ) (p : Place)
    (is : List Item) (n r : ℕ) → Ends h fiber ls F a p is n r
    → is_under_way (activation a p ∷ is) i ≡ frame_way i h.activation ls
end_way h fiber ls F i to a p is n r e = ap (λ (b : ℕ). nat_eq i b || is_under_way is i) e.is
    ∙ ap (λ (b : Bool). nat_eq i h.activation || b) (by e.by)
  where
    by : EndsBy h fiber ls F p is n r → is_under_way is i ≡ machine_way ls i
    by (stops l main last bare root) =
        ap (λ (js : List Item). is_under_way js i) last ∙ sym (ap (λ (gs : List Level). machine_way gs i) bare)
    by (returns l next) = to p is next

inside_way : (h : Site) (l : List Registers) (AtEnd : ℕ → Place → List Item → ℕ → ℕ → Type 0) (i : ℕ) (b : Bool)
    → ((a : ℕ) (p : Place) (is : List Item) (n r : ℕ) → AtEnd a p is n r → is_under_way (activation a p ∷ is) i ≡ b)
    → (ks : List Item) (n r : ℕ) (around : Option Loop) → Inside h l AtEnd ks n r around → is_under_way ks i ≡ b
inside_way h l E i b to [] n r around a = absurd a
inside_way h l E i b to (part p ∷ ks) n r around a =
    outside_any (stop_of p) h.guards (λ gs. Inside (guarded_by h gs) l E ks a.end a.low a.outer) (is_under_way ks i ≡ b)
    (λ gs x. inside_way (guarded_by h gs) l E i b to ks a.end a.low a.outer x) a.next
inside_way h l E i b to (activation c p ∷ ks) n r around a = to c p ks n r a.0
inside_way h l E i b to (iteration c it p ∷ ks) n r around a = absurd a
inside_way h l E i b to (ensuring o ∷ ks) n r around a = absurd a

waits_way : (hs : List Site) (fiber : fibers.Name) (l : List Registers) (i : ℕ) (ks : List Item) (place : Place)
    (ls : List Level) → Waits hs fiber l ks place ls → is_under_way ks i ≡ machine_way ls i
waits_way hs fiber l i ks place [] a = ap (λ (is : List Item). is_under_way is i) a
waits_way hs fiber l i ks place (frame f ∷ ls) a =
    inside_way a.h l (λ b p is n r. Ends (bare a.h) fiber ls (λ q js. Waits hs fiber l js q ls) b p is n r) i
    (frame_way i a.h.activation ls)
    (λ b p is n r e. end_way (bare a.h) fiber ls (λ q js. Waits hs fiber l js q ls) i
    (λ q js w. waits_way hs fiber l i js q ls w) b p is n r e) ks a.n a.x.waits a.around a.next
    ∙ ap (λ (q : Frame). frame_way i q.activation ls) (sym a.is)
waits_way hs fiber l i ks place (machine.iteration a it v ∷ ls) w =
    ap (λ (is : List Item). is_under_way is i) w.is
    ∙ ap (λ (b : Bool). nat_eq i a || b) (waits_way hs fiber l i w.others w.back ls w.next)

same_way : (g : Ground) (h : Site) (l : List Registers) (ks : List Item) (i n r : ℕ) (around : Option Loop)
    → InFrame g h l ks n r around → is_under_way ks i ≡ frame_way i h.activation g.below
same_way g h l ks i n r around a =
    inside_way h l (λ b p is t z. Ends (bare h) g.fiber g.below (λ q js. Waits g.sites g.fiber l js q g.below) b p is t z) i
    (frame_way i h.activation g.below)
    (λ b p is t z e. end_way (bare h) g.fiber g.below (λ q js. Waits g.sites g.fiber l js q g.below) i
    (λ q js w. waits_way g.sites g.fiber l i js q g.below w) b p is t z e) ks n r around a

-- An exit begins: it is thrown where its goal is under way, and else both sides raise.
module _ (g : Ground) (h : Site) (static : Static h) (ks : List Item) (m : source.Memory) (ls : List Level)
    (k : machine.Memory) (both : Common g h m (aligned k m)) where
  -- the activation that runs
  abbrev here : Activation
  here = activation_at m.world h.activation

  module _ (v : Value) (j : ℕ) (a : Action) (vs : List Value) (es : Forms)
      (d : GivesIn g h v (part (operands j a vs es) ∷ ks) m.place ls k.lists)
      (b : FarBehind h a vs es d.next.low d.n d.r d.loop) where
    abbrev conf : Config
    conf = Run (give v) (part (operands j a vs es) ∷ ks) m

    abbrev goal : Option ℕ
    goal = goal_of b.by m.world h.activation here

    goes_to : (q : Far) → a ≡ action_of q → IsOut q d.loop → go h.source conf
        ≡ leave_to (exit_to q) (fail m.world (cause_of q)) v ks m (goal_of q m.world h.activation here)
    unfolding do_give give_part finish
    goes_to returns_far e out =
        ap (λ (x : Action). next_operand h.source j x (vs ++ v ∷ []) es ks m) e
        ∙ ap (λ (us : List Value). next_operand h.source j leave_method (us ++ v ∷ []) es ks m) b.first
        ∙ ap (λ (fs : Forms). next_operand h.source j leave_method (v ∷ []) fs ks m) b.last
        ∙ ap (λ (p : Place). leave_to (exit_to returns_far) (fail m.world cause.UnexpectedReturn) v ks m
        (Some (activation_at m.world p.activation).home)) d.there
    goes_to breaks_far e out =
        let home = home_of g h k.lists true ks d.next.end d.next.low d.next.outer (λ t. outer_is out) d.next.next in
        ap (λ (x : Action). next_operand h.source j x (vs ++ v ∷ []) es ks m) e
        ∙ ap (λ (us : List Value). next_operand h.source j leave_call (us ++ v ∷ []) es ks m) b.first
        ∙ ap (λ (fs : Forms). next_operand h.source j leave_call (v ∷ []) fs ks m) b.last
        ∙ ap (λ (t : Bool). leave_from t v ks m) (no_loop g h k.lists ks home)
        ∙ ap (λ (p : Place). leave_to (exit_to breaks_far) (fail m.world cause.BreakFromProc) v ks m
        (break_target m.world p.activation (activation_at m.world p.activation).runs)) d.there
      where
        outer_is : d.loop ≡ None → d.next.outer ≡ None
        outer_is is = d.next.inner ∙ is

    stands : slot_at k.lists h.list d.next.low ≡ V v
    stands = subst (λ (i : ℕ). slot_at k.lists h.list i ≡ V v) (sym b.at) d.stands

    turns_to : (q : Far) → LineAt h d.n (line.Does (leaving_op q d.next.low)) → turn h.program (state_at g h d.x d.n (aligned k m))
        ≡ leave_machine h.program (λ i. thrown_to q i v) (fail m.world (cause_of q)) (goal_of q m.world h.activation here)
        (at_line h (d.n + 1)) (frame_at h d.x d.n) g.below (aligned k m)
    turns_to returns_far l =
        turned h d.x d.n (leaving_op returns_far d.next.low) g.below (aligned k m) l
        ∙ ap (λ (u : Value). leave_machine h.program (λ i. thrown_to returns_far i u) (fail m.world cause.UnexpectedReturn)
        (Some here.home) (at_line h (d.n + 1)) (frame_at h d.x d.n) g.below (aligned k m)) (ap read stands)
    turns_to breaks_far l =
        turned h d.x d.n (leaving_op breaks_far d.next.low) g.below (aligned k m) l
        ∙ ap (λ (u : Value). leave_machine h.program (λ i. thrown_to breaks_far i u) (fail m.world cause.BreakFromProc)
        (break_target m.world h.activation here.runs) (at_line h (d.n + 1)) (frame_at h d.x d.n) g.below (aligned k m))
        (ap read stands)

    raises_now : Quiet m (go h.source conf) → go h.source conf ≡ after (fail m.world (cause_of b.by)) ks m
        → turn h.program (state_at g h d.x d.n (aligned k m))
        ≡ after_machine h.program (fail m.world (cause_of b.by)) 0 (at_line h (d.n + 1)) (frame_at h d.x d.n) g.below
        (aligned k m)
        → Step h conf (state_at g h d.x d.n (aligned k m))
    raises_now quiet goes turns =
        fails_here g h ks m k both conf d.x d.n 0 b.leaves.guarded (record {
          alike = going (give v) (part (operands j a vs es) ∷ ks) m (frame (frame_at h d.x d.n) ∷ g.below) (aligned k m) refl;
          out = refl;
          quiet = quiet;
        }) (omega arith) (cause_of b.by) goes turns d.next.end d.next.low d.next.outer d.next.next

    throws_now : (i : ℕ) → is_under_way ks i ≡ true → go h.source conf ≡ Run (travel (exit_to b.by i v)) ks m
        → turn h.program (state_at g h d.x d.n (aligned k m))
        ≡ throw h.program (thrown_to b.by i v) (frame (frame_at h d.x d.n) ∷ g.below) (aligned k m)
        → Step h conf (state_at g h d.x d.n (aligned k m))
    throws_now i way goes turns =
        let f = frame_at h d.x d.n in
        by_none h conf (state_at g h d.x d.n (aligned k m))
        (subst (λ (c : Config). measure c < measure conf) (sym goes) (omega arith))
        (subst (λ (c : Config). Related h c (state_at g h d.x d.n (aligned k m))) (sym goes) (going_far (record {
          g = over_levels g (frame f ∷ g.below);
          by = b.by;
          to = i;
          value = v;
          exit = refl;
          memory = aligned k m;
          throws = turns;
          out = refl;
          both = below_running g h m (aligned k m) both f refl;
          leaving = leaves_frame g h k.lists ks d.next.end d.next.low d.next.outer d.x d.n both.site b.leaves.guarded
              d.next.next;
          under_way = way;
        })))

    far_now : Quiet m (go h.source conf) → Step h conf (state_at g h d.x d.n (aligned k m))
    far_now quiet = by goal refl
      where
        failure : Answer
        failure = fail m.world (cause_of b.by)

        goes : (o : Option ℕ) → goal ≡ o → go h.source conf ≡ leave_to (exit_to b.by) failure v ks m o
        goes o e = goes_to b.by b.action b.outside ∙ ap (λ (q : Option ℕ). leave_to (exit_to b.by) failure v ks m q) e

        turns : (o : Option ℕ) → goal ≡ o → turn h.program (state_at g h d.x d.n (aligned k m))
            ≡ leave_machine h.program (λ i. thrown_to b.by i v) failure o (at_line h (d.n + 1)) (frame_at h d.x d.n) g.below
            (aligned k m)
        turns o e = turns_to b.by b.leaves
            ∙ ap (λ (q : Option ℕ). leave_machine h.program (λ i. thrown_to b.by i v) failure q (at_line h (d.n + 1))
            (frame_at h d.x d.n) g.below (aligned k m)) e

        at : (i : ℕ) → goal ≡ Some i → (t : Bool) → is_under_way ks i ≡ t → Step h conf (state_at g h d.x d.n (aligned k m))
        at i e t way = on t way
            (goes (Some i) e ∙ ap (λ (z : Bool). if z then Run (travel (exit_to b.by i v)) ks m else after failure ks m) way)
            (turns (Some i) e ∙ ap (λ (z : Bool). if z
            then throw h.program (thrown_to b.by i v) (frame (frame_at h d.x d.n) ∷ g.below) (aligned k m)
            else after_machine h.program failure 0 (at_line h (d.n + 1)) (frame_at h d.x d.n) g.below (aligned k m))
            (sym (same_way g h k.lists ks i d.next.end d.next.low d.next.outer d.next.next) ∙ way))
          where
            on : (z : Bool) → is_under_way ks i ≡ z
                → go h.source conf ≡ (if z then Run (travel (exit_to b.by i v)) ks m else after failure ks m)
                → turn h.program (state_at g h d.x d.n (aligned k m)) ≡ (if z
                then throw h.program (thrown_to b.by i v) (frame (frame_at h d.x d.n) ∷ g.below) (aligned k m)
                else after_machine h.program failure 0 (at_line h (d.n + 1)) (frame_at h d.x d.n) g.below (aligned k m))
                → Step h conf (state_at g h d.x d.n (aligned k m))
            on true w gs ts = throws_now i w gs ts
            on false w gs ts = raises_now quiet gs ts

        by : (o : Option ℕ) → goal ≡ o → Step h conf (state_at g h d.x d.n (aligned k m))
        by None e = raises_now quiet (goes None e) (turns None e)
        by (Some i) e = at i e (is_under_way ks i) refl

  pub give_far : (v : Value) (j : ℕ) (a : Action) (vs : List Value) (es : Forms)
      (d : GivesIn g h v (part (operands j a vs es) ∷ ks) m.place ls k.lists)
      → FarBehind h a vs es d.next.low d.n d.r d.loop
      → Quiet m (go h.source (Run (give v) (part (operands j a vs es) ∷ ks) m))
      → Step h (Run (give v) (part (operands j a vs es) ∷ ks) m) (state_at g h d.x d.n (aligned k m))
  give_far v j a vs es d b quiet = far_now v j a vs es d b quiet
