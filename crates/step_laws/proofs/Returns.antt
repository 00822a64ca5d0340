-- Returns: to the end of the activation part by part, and there to what waits below.
use Rattle.std.proofs.Common.{◌≡◌, ℕ, ◌+◌, ◌<◌, List, [], ◌∷◌, ◌++◌, refl, sym, ap, ◌∙◌, subst, arith, Bool, true, false, map}
use Rattle.std.proofs.lemmas.Bool.{eq-eqb}
use Rattle.std.specs.Prelude.{if◌then◌else◌, Some}
use Rattle.rb_value.specs.declared.value.Value.{Value}
use Rattle.rb_value.specs.declared.exit.Exit.TheVariants.{Return}
use Rattle.rb_value.specs.declared.exit.Slot.TheVariants.{V}
use Rattle.rb_value.specs.Slot.{read}
use Rattle.def_core.specs.declared.cause.Cause.TheVariants as cause
use Rattle.rite_code.specs.declared.operation.Operation.{Operation}
use Rattle.rite_code.specs.declared.operation.Operation.TheVariants as op
use Rattle.ir_core.specs.CoreForm.{CoreForm, return_form, Forms, none}
use Rattle.scope_resolver.specs.declared.body_kind.BodyKind.{BodyKind}
use Rattle.scope_resolver.specs.declared.body_kind.BodyKind.TheVariants as kind
use Rattle.gen_parts.specs.declared.line.Line.TheVariants as line
use Rattle.gen_parts.specs.Pieces.{does, ◌⊕◌}
use Rattle.gen_forms.specs.Gen.{gen, return_by}
use Rattle.def_calls.specs.World.{Answer, activation_at, fail}
use Rattle.def_calls.specs.Calls.{close}
use Rattle.def_eval.specs.Source.{span}
use Rattle.def_eval.specs.Configuration as source
use Rattle.def_eval.specs.Configuration.{Place, Exit, return, next, Action, leave_method, leave_round, Part, operands, Stop, passes, loops, rescues, assigns, retries, ensures, stop_of, Item, part, activation, perform, give, travel, Config, Run}
use Rattle.def_eval.specs.Entering.{after}
use Rattle.def_eval.specs.Forms.{leave_to, next_operand, finish, do_form}
use Rattle.def_eval.specs.Giving.{returned, give_part, do_give}
use Rattle.def_eval.specs.Exits.{travel_part, travel_activation, reach, do_travel}
use Rattle.def_eval.specs.Transition.{go}
use Rattle.def_machine.specs.State as machine
use Rattle.def_machine.specs.State.{Level, frame, slot_at}
use Rattle.def_machine.specs.Unwind.{receive, throw}
use Rattle.def_machine.specs.Turn.{turn}
use Rattle.gen_parts.specs.Assembly.{entry_by}
use Rattle.step_laws.specs.Site.{Site, IsGuarded, within, LineAt}
use Rattle.step_laws.specs.Calm.{Quiet}
use Rattle.step_laws.specs.Measure.{measure}
use Rattle.step_laws.specs.Far.{ends_itself, MayReturn, returns_far, home_exit}
use Rattle.step_laws.proofs.Placed.{high, Stands, Rest, frame_at, turned}
use Rattle.step_laws.specs.Behind.{Static, OperandBehind, ReturnBehind, RoundBehind, leaves_body, goes_far}
use Rattle.step_laws.specs.Relation.{Ground, IsPassed, IsFree, IsLeft, Common, Doing, GivesIn, Home, returning, Related, Step}
use Rattle.step_laws.proofs.Untouched.{grown}
use Rattle.step_laws.proofs.Matching.{by_none, going, state_at}
use Rattle.step_laws.proofs.Calling.{From, falls, given_back}
use Rattle.step_laws.proofs.Literals.{aligned}
use Rattle.step_laws.proofs.Exits.{weight_pos, returned_by}
use Rattle.step_laws.proofs.Leaving.{home_of, under_way, begins_last}

-- A return passes a part, and a next one that is no loop.
return_passes : (a : ℕ) (v : Value) (p : Stop) (ks : List Item) (m : source.Memory) → IsPassed p
    → travel_part (return a v) p ks m ≡ Run (travel (return a v)) ks m
return_passes a v passes ks m g = refl
return_passes a v (loops n t b) ks m g = refl
return_passes a v (rescues n r) ks m g = refl
return_passes a v (assigns e r) ks m g = refl
return_passes a v (retries r) ks m g = refl
return_passes a v (ensures n e) ks m g = absurd g

next_passes : (v : Value) (p : Stop) (ks : List Item) (m : source.Memory) → IsFree p
    → travel_part (next v) p ks m ≡ Run (travel (next v)) ks m
next_passes v passes ks m g = refl
next_passes v (loops n t b) ks m g = absurd g
next_passes v (rescues n r) ks m g = refl
next_passes v (assigns e r) ks m g = absurd g
next_passes v (retries r) ks m g = absurd g
next_passes v (ensures n e) ks m g = absurd g

home_passes : (round : Bool) (a : ℕ) (v : Value) (p : Stop) (ks : List Item) (m : source.Memory) → IsLeft round p
    → travel_part (home_exit round a v) p ks m ≡ Run (travel (home_exit round a v)) ks m
home_passes false a v p ks m g = return_passes a v p ks m g
home_passes true a v p ks m g = next_passes v p ks m g

module _ (g : Ground) (h : Site) (static : Static h) (ks : List Item) (m : source.Memory) (ls : List Level)
    (k : machine.Memory) (both : Common g h m (aligned k m)) where
  pub do_return : (j : ℕ) (e : CoreForm) (d : Doing g h j (return_form e) ks m.place ls k.lists)
      → Step h (Run (perform j (return_form e)) ks m) (state_at g h d.x d.n (aligned k m))
  unfolding do_form
  do_return j e d = by h.context.kind_of refl
    where
      done : (o : Operation) → return_by h.context.kind_of d.r ≡ o
          → ((n : ℕ) → LineAt h n (line.Does o)
          → OperandBehind h k.lists (j + span e) leave_method [] none d.r n d.r
          (d.n + high (gen (within h d.loop) d.s d.r (return_form e))) d.loop)
          → Step h (Run (perform j (return_form e)) ks m) (state_at g h d.x d.n (aligned k m))
      done o is behind =
          begins_last g h ks m ls k both j (return_form e) e leave_method d refl (omega arith) d.covered.0 o
          (subst (λ (q : Operation). Stands h d.n (gen (within h d.loop) d.s d.r e ⊕ does q)) is d.code) behind

      ends : return_by h.context.kind_of d.r ≡ op.Return d.r → ends_itself h.context.kind_of ≡ true
          → Step h (Run (perform j (return_form e)) ks m) (state_at g h d.x d.n (aligned k m))
      ends is own = done (op.Return d.r) is (λ n l. leaves_body (record {
        at = refl;
        action = refl;
        first = refl;
        last = refl;
        own = own;
        returns = l;
      }))

      by : (q : BodyKind) → h.context.kind_of ≡ q
          → Step h (Run (perform j (return_form e)) ks m) (state_at g h d.x d.n (aligned k m))
      by kind.Main is = ends (ap (λ (q : BodyKind). return_by q d.r) is) (ap ends_itself is)
      by kind.Method is = ends (ap (λ (q : BodyKind). return_by q d.r) is) (ap ends_itself is)
      by kind.Class is = absurd (subst MayReturn is d.covered.1)
      by kind.Block is = done (op.ReturnBlk d.r) (ap (λ (q : BodyKind). return_by q d.r) is) (λ n l. goes_far (record {
        at = refl;
        by = returns_far;
        action = refl;
        first = refl;
        last = refl;
        outside = tt;
        leaves = l;
      }))

  -- the turn of RETURN
  return_thrown : (x : Rest) (n r : ℕ) (v : Value) → LineAt h n (line.Does (op.Return r)) → slot_at k.lists h.list r ≡ V v
      → turn h.program (state_at g h x n (aligned k m))
      ≡ throw h.program (Return h.activation v) (frame (frame_at h x n) ∷ g.below) (aligned k m)
  return_thrown x n r v l stands =
      turned h x n (op.Return r) g.below (aligned k m) l
      ∙ ap (λ (u : Value). throw h.program (Return h.activation u) (frame (frame_at h x n) ∷ g.below) (aligned k m))
      (ap read stands)

  pub give_return : (v : Value) (j : ℕ) (a : Action) (vs : List Value) (es : Forms)
      (d : GivesIn g h v (part (operands j a vs es) ∷ ks) m.place ls k.lists)
      → ReturnBehind h a vs es d.next.low d.n d.r
      → Step h (Run (give v) (part (operands j a vs es) ∷ ks) m) (state_at g h d.x d.n (aligned k m))
  unfolding do_give give_part finish
  give_return v j a vs es d b =
      let c = Run (give v) (part (operands j a vs es) ∷ ks) m in
      let home = home_of g h k.lists false ks d.next.end d.next.low d.next.outer (λ t. absurd (cc t)) d.next.next in
      let failure : Answer = fail m.world cause.UnexpectedReturn in
      let goes : go h.source c ≡ Run (travel (return h.activation v)) ks m =
      ap (λ (x : Action). next_operand h.source j x (vs ++ v ∷ []) es ks m) b.action
      ∙ ap (λ (us : List Value). next_operand h.source j leave_method (us ++ v ∷ []) es ks m) b.first
      ∙ ap (λ (fs : Forms). next_operand h.source j leave_method (v ∷ []) fs ks m) b.last
      ∙ ap (λ (p : Place). leave_to return failure v ks m (Some (activation_at m.world p.activation).home)) d.there
      ∙ ap (λ (i : ℕ). leave_to return failure v ks m (Some i)) ((both.all.sites.each h both.site).home b.own)
      ∙ ap (λ (t : Bool). if t then Run (travel (return h.activation v)) ks m else after failure ks m)
      (under_way g h k.lists false ks home) in
      by_none h c (state_at g h d.x d.n (aligned k m))
      (subst (λ (q : Config). measure q < measure c) (sym goes) (omega arith))
      (subst (λ (q : Config). Related h q (state_at g h d.x d.n (aligned k m))) (sym goes) (returning (record {
        g = g;
        h = h;
        both = both;
        x = d.x;
        n = d.n;
        is = refl;
        value = v;
        round = false;
        exit = refl;
        throws = return_thrown d.x d.n d.next.low v b.returns
            (subst (λ (i : ℕ). slot_at k.lists h.list i ≡ V v) (sym b.at) d.stands);
        guarded = b.returns.guarded;
        home = home;
      })))

  -- a next that is out of its loops
  pub give_round : (v : Value) (j : ℕ) (a : Action) (vs : List Value) (es : Forms)
      (d : GivesIn g h v (part (operands j a vs es) ∷ ks) m.place ls k.lists)
      → RoundBehind h a vs es d.next.low d.n d.r d.loop
      → Step h (Run (give v) (part (operands j a vs es) ∷ ks) m) (state_at g h d.x d.n (aligned k m))
  unfolding do_give give_part finish
  give_round v j a vs es d b =
      let c = Run (give v) (part (operands j a vs es) ∷ ks) m in
      let goes : go h.source c ≡ Run (travel (next v)) ks m =
      ap (λ (x : Action). next_operand h.source j x (vs ++ v ∷ []) es ks m) b.action
      ∙ ap (λ (us : List Value). next_operand h.source j leave_round (us ++ v ∷ []) es ks m) b.first
      ∙ ap (λ (fs : Forms). next_operand h.source j leave_round (v ∷ []) fs ks m) b.last in
      by_none h c (state_at g h d.x d.n (aligned k m))
      (subst (λ (q : Config). measure q < measure c) (sym goes) (omega arith))
      (subst (λ (q : Config). Related h q (state_at g h d.x d.n (aligned k m))) (sym goes) (returning (record {
        g = g;
        h = h;
        both = both;
        x = d.x;
        n = d.n;
        is = refl;
        value = v;
        round = true;
        exit = refl;
        throws = return_thrown d.x d.n d.next.low v b.returns
            (subst (λ (i : ℕ). slot_at k.lists h.list i ≡ V v) (sym b.at) d.stands);
        guarded = b.returns.guarded;
        home = home_of g h k.lists true ks d.next.end d.next.low d.next.outer (λ t. d.next.inner ∙ b.outside) d.next.next;
      })))

  -- the frame that runs stands at the return
  pub record Homing (e : Exit) (is : List Item) : Type 0 where
    pub x : Rest
    pub n : ℕ
    pub value : Value
    pub round : Bool
    pub exit : e ≡ home_exit round h.activation value
    pub throws : turn h.program (state_at g h x n (aligned k m))
        ≡ throw h.program (Return h.activation value) (frame (frame_at h x n) ∷ g.below) (aligned k m)
    pub guarded : IsGuarded h n
    pub home : Home g h k.lists round is

  -- a part is passed
  pub passes_on : (e : Exit) (p : Part) (q : Homing e (part p ∷ ks))
      → Step h (Run (travel e) (part p ∷ ks) m) (state_at g h q.x q.n (aligned k m))
  unfolding do_travel
  passes_on e p q =
      let conf = Run (travel e) (part p ∷ ks) m in
      let goes : go h.source conf ≡ Run (travel (home_exit q.round h.activation q.value)) ks m =
      ap (λ (y : Exit). go h.source (Run (travel y) (part p ∷ ks) m)) q.exit
      ∙ home_passes q.round h.activation q.value (stop_of p) ks m q.home.0 in
      by_none h conf (state_at g h q.x q.n (aligned k m))
      (subst (λ (z : Config). measure z < measure conf) (sym goes) (omega (arith, weight_pos p)))
      (subst (λ (z : Config). Related h z (state_at g h q.x q.n (aligned k m))) (sym goes) (returning (record {
        g = g;
        h = h;
        both = both;
        x = q.x;
        n = q.n;
        is = refl;
        value = q.value;
        round = q.round;
        exit = refl;
        throws = q.throws;
        guarded = q.guarded;
        home = q.home.1;
      })))

  -- the activation ends with the value
  pub comes_home : (e : Exit) (a : ℕ) (place : Place) (q : Homing e (activation a place ∷ ks))
      → Quiet m (go h.source (Run (travel e) (activation a place ∷ ks) m))
      → Step h (Run (travel e) (activation a place ∷ ks) m) (state_at g h q.x q.n (aligned k m))
  unfolding do_travel
  comes_home e a place q quiet =
      let conf = Run (travel e) (activation a place ∷ ks) m in
      let v = q.value in
      let w = close m.world a in
      let m' : source.Memory = record m { place = place; world = w } in
      let goes : go h.source conf ≡ Run (give v) ks m' =
      ap (λ (y : Exit). go h.source (Run (travel y) (activation a place ∷ ks) m)) q.exit ∙ ends q.round in
      let still = subst (Quiet m) goes quiet in
      let b = grown g m (aligned k m) both.all place w still.1 in
      let from : From h conf (frame (frame_at h q.x q.n) ∷ g.below) (aligned k m) m = record {
        alike = going (travel e) (activation a place ∷ ks) m (frame (frame_at h q.x q.n) ∷ g.below) (aligned k m) refl;
        out = refl;
        quiet = quiet;
      } in
      (given_back h.source h.program conf (frame (frame_at h q.x q.n) ∷ g.below) (aligned k m) m from v ks m' g g.below
      (machine.with_world k w) goes
      (q.throws
      ∙ returned_by h q.n (q.guarded ∙ ap (map (entry_by h.at)) q.home.2) v q.x g.below (aligned k m)
      ∙ ap (λ (c : ℕ). receive v g.below (machine.with_world k (close m.world c))) (sym q.home.0))
      (falls g.below ks m' conf (omega arith))
      (record { world = b.world; sites = b.sites; fibers = b.fibers; apart = b.apart }) q.home.1).advances
    where
      ends : (round : Bool) → travel_activation (home_exit round h.activation q.value) a ks (returned m a place)
          ≡ Run (give q.value) ks (returned m a place)
      ends false =
          ap (λ (t : Bool). reach t (return h.activation q.value) q.value ks (returned m a place))
          (eq-eqb a h.activation q.home.0)
      ends true = refl
