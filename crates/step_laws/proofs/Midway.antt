-- How a transition is matched by several turns, the first of which leave values in registers above the locals, and how
-- a form begins with its first operand.
use Rattle.std.proofs.Common.{◌≡◌, ◌⊎◌, ℕ, zero, suc, ◌+◌, ◌<◌, ◌≤◌, List, [], ◌∷◌, refl, sym, ◌∙◌, subst, inl, arith}
use Rattle.std.specs.Prelude.{Option}
use Rattle.rb_value.specs.declared.value.ObjId.{ObjId}
use Rattle.rite_code.specs.Code.{Program}
use Rattle.rite_code.specs.declared.operation.Operation.{Operation}
use Rattle.ir_core.specs.CoreForm.{CoreForm, Forms}
use Rattle.gen_parts.specs.declared.line.Line.TheVariants as line
use Rattle.gen_forms.specs.declared.context.Loop.{Loop}
use Rattle.gen_forms.specs.Gen.{gen}
use Rattle.path_eval.specs.Steps.{times}
use Rattle.rb_value.specs.declared.outcome.Outcome.{Outcome}
use Rattle.rb_value.specs.declared.outcome.Outcome.TheVariants as outcome
use Rattle.def_core.specs.Store.{Done}
use Rattle.def_calls.specs.World.{World, Result as Given, gives, raises, answer_in, answer}
use Rattle.def_eval.specs.Source.{Source}
use Rattle.def_eval.specs.Configuration as source
use Rattle.def_eval.specs.Configuration.{Action, operands, Item, part, perform, Config, Run, seen}
use Rattle.def_eval.specs.Entering.{after_result}
use Rattle.def_eval.specs.Transition.{go}
use Rattle.def_machine.specs.State as machine
use Rattle.def_machine.specs.State.{Level, State, frame, shown}
use Rattle.def_machine.specs.Unwind.{after_result as after_machine}
use Rattle.def_machine.specs.Turn.{turn, act}
use Rattle.step_laws.specs.Site.{Site, within, place_in, at_line, LineAt, Room}
use Rattle.step_laws.specs.Covers.{Covers}
use Rattle.step_laws.specs.Calm.{Quiet}
use Rattle.step_laws.specs.Measure.{size, sizes, burden, measure}
use Rattle.step_laws.specs.Behind.{Static, OperandBehind}
use Rattle.step_laws.specs.Relation.{Ground, over_levels, InFrame, Common, Doing, raised, Alike, Advances, Related, Step}
use Rattle.step_laws.proofs.Placed.{high, Stands, Rest, frame_at, turned}
use Rattle.step_laws.proofs.Untouched.{grown, grown_here, below_running}
use Rattle.step_laws.proofs.Matching.{Soon, soon_none, soon_one, by_none, state_at, written, writes}
use Rattle.step_laws.proofs.Calling.{leaves_frame}
use Rattle.step_laws.proofs.Literals.{aligned}

-- A transition that is matched by no more than so many turns.
pub record Few (n : ℕ) (s : Source) (p : Program) (c : Config) (t : State) : Type 0 where
  pub advances : Advances s p c t
  pub most : advances.turns ≤ n

pub few_of : (s : Source) (p : Program) (c : Config) (t : State) → Soon s p c t → Few 3 s p c t
few_of s p c t a = record { advances = a.advances; most = a.soon }

pub few_more : (n i : ℕ) (s : Source) (p : Program) (c : Config) (t : State) → n ≤ i → Few n s p c t → Few i s p c t
few_more n i s p c t le a = record { advances = a.advances; most = omega (arith, le, a.most) }

-- and one more from a turn before
pub few_before : (n : ℕ) (s : Source) (p : Program) (c : Config) (t u : State) → n ≤ 31 → shown t ≡ seen c
    → turn p t ≡ u → Few n s p c u → Few (suc n) s p c t
few_before n s p c t u le e one a = record {
  advances = record {
    turns = suc a.advances.turns;
    few = omega (arith, le, a.most);
    related = subst (λ (q : State). Alike s p (go s c) (times a.advances.turns (turn p) q)) (sym one)
        a.advances.related;
    between = between;
    falls = λ z. absurd (cc z);
  };
  most = omega (arith, a.most);
}
  where
    between : (j : ℕ) → j < suc a.advances.turns → (shown (times j (turn p) t) ≡ seen c)
        ⊎ (shown (times j (turn p) t) ≡ seen (go s c))
    between zero l = inl e
    between (suc j) l =
        subst (λ (q : State). (shown (times j (turn p) q) ≡ seen c) ⊎ (shown (times j (turn p) q) ≡ seen (go s c)))
        (sym one)
        (a.advances.between j (omega (arith, l)))

-- An instruction behind others of its form raises, while a value is awaited at line i.
pub raises_behind : (g : Ground) (h : Site) (c : Config) (e : ObjId) (w u : World) (ks : List Item) (m : source.Memory)
    (x : Rest) (l : machine.Memory) (n r i : ℕ) (o : Operation) (around : Option Loop) → w.out ≡ m.world.out
    → Quiet m (go h.source c) → go h.source c ≡ after_result (raises e) u ks m → LineAt h n (line.Does o)
    → act h.program o (at_line h (n + 1)) (frame_at h x n) g.below (machine.with_world l w)
    ≡ after_machine h.program (raises e) r (at_line h (n + 1)) (frame_at h x n) g.below (machine.with_world l u)
    → burden ks m < measure c → Common g h m (aligned l m) → InFrame g h l.lists ks i r around
    → Soon h.source h.program c (state_at g h x n (machine.with_world l w))
raises_behind g h c e w u ks m x l n r i o around out still goes at acts less both next =
    let quiet = subst (Quiet m) goes still in
    let t = state_at g h x n (machine.with_world l w) in
    soon_none h.source h.program c t (subst (λ (d : Config). measure d < measure c) (sym goes) (omega (arith, less)))
    (subst (λ (d : Config). Related h d t) (sym goes) (raised (record {
      g = over_levels g (frame (frame_at h x n) ∷ g.below);
      e = e;
      exception = refl;
      memory = machine.with_world l u;
      throws = turned h x n o g.below (machine.with_world l w) at ∙ acts;
      out = out ∙ sym quiet.0;
      both = grown (over_levels g (frame (frame_at h x n) ∷ g.below)) m (aligned l m)
          (below_running g h m (aligned l m) both (frame_at h x n) refl) m.place u quiet.1;
      leaving = leaves_frame g h l.lists ks i r around x n both.site at.guarded next;
    })))

-- The answer of an instruction behind others of its form, whose output is as it was.
pub answer_behind : (g : Ground) (h : Site) → Static h → (c : Config) (a : Given) (w u : World) (ks : List Item)
    (m : source.Memory) (x : Rest) (l : machine.Memory) (n r : ℕ) (o : Operation) (around : Option Loop)
    → shown (state_at g h x n (machine.with_world l w)) ≡ seen c → w.out ≡ m.world.out → Quiet m (go h.source c)
    → go h.source c ≡ after_result a u ks m → LineAt h n (line.Does o)
    → act h.program o (at_line h (n + 1)) (frame_at h x n) g.below (machine.with_world l w)
    ≡ after_machine h.program a r (at_line h (n + 1)) (frame_at h x n) g.below (machine.with_world l u)
    → burden ks m < measure c → Common g h m (aligned l m) → m.place ≡ place_in h → Room h r
    → InFrame g h l.lists ks (n + 1) r around → Soon h.source h.program c (state_at g h x n (machine.with_world l w))
answer_behind g h static c (gives v) w u ks m x l n r o around alike out still goes at acts less both at_home room
    next =
    let l' = machine.with_world l u in
    let quiet = subst (Quiet m) goes still in
    soon_one h.source h.program c (state_at g h x n (machine.with_world l w))
    (state_at g h x (n + 1) (written h l' r v)) alike
    (turned h x n o g.below (machine.with_world l w) at ∙ acts)
    (subst (λ (d : Config). Related h d (state_at g h x (n + 1) (written h l' r v))) (sym goes)
    (writes g h static v ks (source.with_world m u) x l' (n + 1) r around
    (grown_here g h m (aligned l m) both u quiet.1)
    at_home room next))
answer_behind g h static c (raises e) w u ks m x l n r o around alike out still goes at acts less both at_home room
    next =
    raises_behind g h c e w u ks m x l n r (n + 1) o around out still goes at acts less both next

-- what an outcome of the store gives writes nothing
pub answer_out : (w : World) (d : Done) → (answer w d).world.out ≡ w.out
answer_out w d = by d.outcome
  where
    by : (o : Outcome) → (answer_in w d.store o).world.out ≡ w.out
    by (outcome.Value v) = refl
    by (outcome.Raise f) = refl

-- A form begins with its first operand.
pub begins_first : (g : Ground) (h : Site) (ks : List Item) (m : source.Memory) (ls : List Level) (k : machine.Memory)
    → Common g h m (aligned k m) → (j i : ℕ) (f e : CoreForm) (a : Action) (es : Forms)
    (d : Doing g h j f ks m.place ls k.lists)
    → go h.source (Run (perform j f) ks m) ≡ Run (perform j e) (part (operands i a [] es) ∷ ks) m
    → 2 + size e + sizes es ≤ size f → Covers h d.loop d.r d.s j e → Stands h d.n (gen (within h d.loop) d.s d.r e)
    → OperandBehind h k.lists i a [] es d.r (d.n + high (gen (within h d.loop) d.s d.r e)) d.r
    (d.n + high (gen (within h d.loop) d.s d.r f)) d.loop
    → Step h (Run (perform j f) ks m) (state_at g h d.x d.n (aligned k m))
begins_first g h ks m ls k both j i f e a es d goes less covered code behind =
    by_none h (Run (perform j f) ks m) (state_at g h d.x d.n (aligned k m))
    (subst (λ (c : Config). measure c < measure (Run (perform j f) ks m)) (sym goes) (omega (arith, less)))
    (subst (λ (c : Config). Related h c (state_at g h d.x d.n (aligned k m))) (sym goes) (
      g,
      h,
      both,
      record {
        x = d.x;
        n = d.n;
        r = d.r;
        is = refl;
        there = d.there;
        loop = d.loop;
        s = d.s;
        here = d.here;
        covered = covered;
        above = d.above;
        code = code;
        next = record {
          low = d.r;
          end = d.n + high (gen (within h d.loop) d.s d.r f);
          above = d.above;
          below = omega arith;
          behind = behind;
          outer = d.loop;
          inner = refl;
          next = d.next;
        };
      },
    ))
