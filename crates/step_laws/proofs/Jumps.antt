-- Breaks and nexts in a loop: to the loop part by part, and there to its end or to its next round.
use Rattle.std.proofs.Common.{◌≡◌, ◌⊎◌, inl, inr, ℕ, ◌+◌, ◌<◌, List, [], ◌∷◌, ◌++◌, refl, sym, ap, ◌∙◌, subst, arith, length, Bool, true, map}
use Rattle.std.proofs.lemmas.Bool.{eq-eqb}
use Rattle.std.specs.Prelude.{◌||◌, unwrap_or, if◌then◌else◌, Option, Some, None}
use Rattle.rb_value.specs.declared.value.Value.{Value}
use Rattle.rb_value.specs.declared.exit.Exit.TheVariants.{Jump}
use Rattle.rb_value.specs.declared.exit.Slot.{Slot}
use Rattle.rb_value.specs.declared.exit.Slot.TheVariants.{V}
use Rattle.rb_value.specs.Slot.{read}
use Rattle.rite_code.specs.Instruction.{Instruction}
use Rattle.rite_code.specs.declared.code.CatchEntry.{CatchEntry}
use Rattle.rite_code.specs.declared.operation.Operation.TheVariants as op
use Rattle.ir_core.specs.CoreForm.{CoreForm, break_form, next_form, Forms, Clauses, no_clauses, clause}
use Rattle.gen_parts.specs.declared.line.Line.TheVariants as line
use Rattle.gen_parts.specs.Pieces.{does, leave, ◌⊕◌}
use Rattle.gen_parts.specs.Assembly.{instruction_before, entry_by}
use Rattle.gen_forms.specs.declared.context.Loop.{Loop}
use Rattle.gen_forms.specs.Gen.{gen, break_by, next_by}
use Rattle.def_eval.specs.Configuration as source
use Rattle.def_eval.specs.Configuration.{Exit, leave_loop, next, Rescue, Action, leave_call, leave_round, Part, operands, receiver, items, block, elements, hash_key, hash_value, pieces, rest, test, chosen, and_then, or_else, loop_test, loop_body, rescued, clause_class, clause_target, clause_body, ensured, Stop, passes, loops, rescues, assigns, retries, ensures, stop_of, Item, part, activation, iteration, ensuring, perform, give, travel, Config, Run}
use Rattle.def_eval.specs.Forms.{is_loop, in_loop, leave_from, next_operand, finish, do_form}
use Rattle.def_eval.specs.Giving.{give_part, do_give}
use Rattle.def_eval.specs.Exits.{travel_loop, travel_part, do_travel}
use Rattle.def_eval.specs.Transition.{go}
use Rattle.def_machine.specs.State as machine
use Rattle.def_machine.specs.State.{Registers, Level, frame, State, On, slot_at, put}
use Rattle.def_machine.specs.Unwind.{handler, at_frame, unwind, closed, Landing, lands as lands_in, land, throw_within, throw}
use Rattle.def_machine.specs.Turn.{turn, act_at}
use Rattle.step_laws.specs.Site.{Site, IsGuarded, StaysIn, within, place_in, at_line, LineAt, Room}
use Rattle.step_laws.specs.Measure.{measure}
use Rattle.step_laws.specs.Far.{breaks_far}
use Rattle.step_laws.proofs.Placed.{high, high-puts, Stands, moved, left, right, right_at, the_line, Rest, frame_at, turned, leads, jumped}
use Rattle.step_laws.specs.Behind.{Static, LoopAt, BreakBehind, NextBehind, breaks, begins_round, ends_body, goes_far}
use Rattle.step_laws.specs.Relation.{Ground, uses, InFrame, Common, Doing, GivesIn, LoopWay, WayPast, WayBy, Way, LeavesTo, to_end, to_round, leaping, Related, Step}
use Rattle.step_laws.proofs.Outside.{stays_there, jump_stays}
use Rattle.step_laws.proofs.Guards.{within_both, within_puts}
use Rattle.step_laws.proofs.Within.{keeps}
use Rattle.step_laws.proofs.Registers.{slot_same, keeps_above}
use Rattle.step_laws.proofs.Untouched.{put_only, frame_kept, same_here, written_here}
use Rattle.step_laws.proofs.Matching.{by_none, by_one, by_two, going, state_at, written, stays}
use Rattle.step_laws.proofs.Literals.{aligned}
use Rattle.step_laws.proofs.Loops.{at_test}
use Rattle.step_laws.proofs.Exits.{weight_pos}
use Rattle.step_laws.proofs.Leaving.{begins_last}

-- A jump through ensure parts leaves the frame where it is: the entries that cover it cover where it leads, too.
lands_at : (g : Ground) (h : Site) (x : Rest) (n to : ℕ) (k : machine.Memory) → IsGuarded h n → StaysIn h to
    → throw h.program (Jump h.activation (at_line h to)) (frame (frame_at h x n) ∷ g.below) k ≡ state_at g h x to k
unfolding throw unwind
lands_at g h x n to k guarded stays =
    ap thrown guarded
    ∙ ap landed (jump_stays h.activation (at_line h to) (map (entry_by h.at) h.guards) stays)
    ∙ ap by (eq-eqb h.activation h.activation refl)
  where
    further : Landing
    further = unwind h.program (Jump h.activation (at_line h to)) g.below (closed k h.activation)

    landed : Option ℕ → State
    landed o = land (λ y ls l. throw_within (length k.fibers.others) h.program y ls l)
        (at_frame o (Jump h.activation (at_line h to)) (frame_at h x n) g.below k further)

    thrown : List CatchEntry → State
    thrown cs = landed (handler (Jump h.activation (at_line h to)) cs)

    by : Bool → State
    by b = land (λ y ls l. throw_within (length k.fibers.others) h.program y ls l)
        (if b then lands_in (On (frame (record (frame_at h x n) { place = at_line h to }) ∷ g.below) k) else further)

-- the turn that begins it
leave_thrown : (g : Ground) (h : Site) (x : Rest) (n to : ℕ) (k : machine.Memory) → LineAt h n (line.Leave to)
    → turn h.program (state_at g h x n k)
    ≡ throw h.program (Jump h.activation (at_line h to)) (frame (frame_at h x n) ∷ g.below) k
unfolding instruction_before
leave_thrown g h x n to k l =
    ap (λ (i : Option (Instruction × ℕ)). act_at h.program i (frame_at h x n) g.below k) l.here
    ∙ ap (λ (p : ℕ). throw h.program (Jump h.activation p) (frame (frame_at h x n) ∷ g.below) k)
    (leads (at_line h (n + 1)) (at_line h to))

-- The way out of the loop that is around.

same_target : (a b : Loop) → Some a ≡ Some b → a ≡ b
same_target a b e = ap (λ (o : Option Loop). unwrap_or o a) e

way_at : (g : Ground) (h : Site) (l : List Registers) (j : ℕ) (t b : CoreForm) (ks : List Item) (low end : ℕ)
    (target : Loop) (around outer : Option Loop) (loop : LoopAt h low j t b end) → around ≡ loop.loop → around ≡ Some target
    → InFrame g h l ks end low outer → LoopWay g h l j t b ks target
way_at g h l j t b ks low end target around outer loop inside e a = record {
  low = low;
  end = end;
  loop = loop;
  inside = same_target loop.target target (sym loop.is ∙ sym inside ∙ e);
  outer = outer;
  next = a;
}

way_of : (g : Ground) (h : Site) (l : List Registers) (ks : List Item) (n r : ℕ) (target : Loop) (around : Option Loop)
    → around ≡ Some target → InFrame g h l ks n r around → Way g h l ks target
way_of g h l [] n r target around e a = absurd a
way_of g h l (part (operands j x vs es) ∷ ks) n r target around e a =
    way_of g h l ks a.end a.low target a.outer (a.inner ∙ e) a.next
way_of g h l (part (receiver j x is o) ∷ ks) n r target around e a =
    way_of g h l ks a.end a.low target a.outer (a.inner ∙ e) a.next
way_of g h l (part (items j s recv vs is o) ∷ ks) n r target around e a =
    way_of g h l ks a.end a.low target a.outer (a.inner ∙ e) a.next
way_of g h l (part (block s recv vs) ∷ ks) n r target around e a =
    way_of g h l ks a.end a.low target a.outer (a.inner ∙ e) a.next
way_of g h l (part (elements j q o s is) ∷ ks) n r target around e a =
    way_of g h l ks a.end a.low target a.outer (a.inner ∙ e) a.next
way_of g h l (part (hash_key j o v ps) ∷ ks) n r target around e a =
    way_of g h l ks a.end a.low target a.outer (a.inner ∙ e) a.next
way_of g h l (part (hash_value j o v ps) ∷ ks) n r target around e a =
    way_of g h l ks a.end a.low target a.outer (a.inner ∙ e) a.next
way_of g h l (part (pieces j o es) ∷ ks) n r target around e a =
    way_of g h l ks a.end a.low target a.outer (a.inner ∙ e) a.next
way_of g h l (part (rest j es) ∷ ks) n r target around e a =
    way_of g h l ks a.end a.low target a.outer (a.inner ∙ e) a.next
way_of g h l (part (test j b bs o) ∷ ks) n r target around e a =
    way_of g h l ks a.end a.low target a.outer (a.inner ∙ e) a.next
way_of g h l (part chosen ∷ ks) n r target around e a =
    way_of g h l ks a.end a.low target a.outer (a.inner ∙ e) a.next
way_of g h l (part (and_then j f) ∷ ks) n r target around e a =
    way_of g h l ks a.end a.low target a.outer (a.inner ∙ e) a.next
way_of g h l (part (or_else j f) ∷ ks) n r target around e a =
    way_of g h l ks a.end a.low target a.outer (a.inner ∙ e) a.next
way_of g h l (part (loop_test j t b) ∷ ks) n r target around e a =
    way_at g h l j t b ks a.low a.end target around a.outer a.behind.loop a.behind.inside e a.next
way_of g h l (part (loop_body j t b) ∷ ks) n r target around e a =
    way_at g h l j t b ks a.low a.end target around a.outer a.behind.loop a.behind.inside e a.next
way_of g h l (part (rescued j t no_clauses o) ∷ ks) n r target around e a =
    way_of g h l ks a.end a.low target a.outer (a.inner ∙ e) a.next
way_of g h l (part (rescued j t (clause es u d cs) o) ∷ ks) n r target around e a = absurd a.behind
way_of g h l (part (clause_class j f es t d cs q) ∷ ks) n r target around e a = absurd a.behind
way_of g h l (part (clause_target j f t q) ∷ ks) n r target around e a = absurd a.behind
way_of g h l (part (clause_body q) ∷ ks) n r target around e a = absurd a.behind
way_of g h l (part (ensured j f) ∷ ks) n r target around e a = absurd a.behind
way_of g h l (activation c p ∷ ks) n r target around e a = absurd (cc (sym a.1 ∙ e))
way_of g h l (iteration c it p ∷ ks) n r target around e a = absurd a
way_of g h l (ensuring o ∷ ks) n r target around e a = absurd a

-- past a body that has no clauses
way_past : (cs : Clauses) (W : Type 0) → WayPast cs W → W
way_past no_clauses W w = w
way_past (clause es t b cs) W w = absurd w

way_on : (cs : Clauses) (W U : Type 0) → (W → U) → WayPast cs W → WayPast cs U
way_on no_clauses W U f w = f w
way_on (clause es t b cs) W U f w = w

-- such an exit passes clauses
past_rescue : (h : Site) (l : List Registers) (x : Exit) (i : ℕ) (t : Loop) (n : ℕ) (r : Rescue) (ks : List Item)
    (m : source.Memory) → LeavesTo h l x i t → travel_part x (rescues n r) ks m ≡ Run (travel x) ks m
past_rescue h l x i t n r ks m (to_end v is leads_to held) =
    subst (λ (y : Exit). travel_part y (rescues n r) ks m ≡ Run (travel y) ks m) (sym is) refl
past_rescue h l x i t n r ks m (to_round v is leads_to) =
    subst (λ (y : Exit). travel_part y (rescues n r) ks m ≡ Run (travel y) ks m) (sym is) refl

-- what is so of a way is so behind a part that it passes
along : (g : Ground) (h : Site) (l : List Registers) (ks : List Item) (target : Loop) (P : Stop → Type 0) (p : Stop)
    → (Way g h l ks target → P passes)
    → ((n : ℕ) (r : Rescue) → WayPast r.clauses (Way g h l ks target) → P (rescues n r))
    → ((n : ℕ) (t b : CoreForm) → LoopWay g h l n t b ks target → P (loops n t b))
    → WayBy p (Way g h l ks target) (λ j t b. LoopWay g h l j t b ks target) → P p
along g h l ks target P passes f z q w = f w
along g h l ks target P (loops n t b) f z q w = q n t b w
along g h l ks target P (rescues n r) f z q w = z n r w
along g h l ks target P (assigns e r) f z q w = absurd w
along g h l ks target P (retries r) f z q w = absurd w
along g h l ks target P (ensures n e) f z q w = absurd w

in_loop_is : (g : Ground) (h : Site) (l : List Registers) (ks : List Item) (target : Loop) → Way g h l ks target → in_loop ks ≡ true
in_loop_is g h l [] target w = absurd w
in_loop_is g h l (part k ∷ ks) target w =
    along g h l ks target (λ p. (is_loop p || in_loop ks) ≡ true) (stop_of k) (λ v. in_loop_is g h l ks target v)
    (λ n r v. in_loop_is g h l ks target (way_past r.clauses (Way g h l ks target) v))
    (λ n t b v. refl) w
in_loop_is g h l (activation c p ∷ ks) target w = absurd w
in_loop_is g h l (iteration c it p ∷ ks) target w = absurd w
in_loop_is g h l (ensuring o ∷ ks) target w = absurd w

-- the register of the loop's value
room_of : (g : Ground) (h : Site) (l : List Registers) (ks : List Item) (target : Loop) → Way g h l ks target → Room h target.value
room_of g h l [] target w = absurd w
room_of g h l (part k ∷ ks) target w =
    along g h l ks target (λ p. Room h target.value) (stop_of k) (λ v. room_of g h l ks target v)
    (λ n r v. room_of g h l ks target (way_past r.clauses (Way g h l ks target) v))
    (λ n t b v. subst (Room h) (sym v.loop.value ∙ ap (λ (q : Loop). q.value) v.inside) v.loop.room) w
room_of g h l (activation c p ∷ ks) target w = absurd w
room_of g h l (iteration c it p ∷ ks) target w = absurd w
room_of g h l (ensuring o ∷ ks) target w = absurd w

-- its value leaves the way
way_kept : (g : Ground) (h : Site) (l : List Registers) (ks : List Item) (target : Loop) (u : Value) → h.list < length l
    → uses h.list g.below ≡ 0
    → Way g h l ks target → Way g h (put l h.list target.value (V u)) ks target
way_kept g h l [] target u lt free w = absurd w
way_kept g h l (part k ∷ ks) target u lt free w =
    along g h l ks target (λ p. WayBy p (Way g h (put l h.list target.value (V u)) ks target)
    (λ j t b. LoopWay g h (put l h.list target.value (V u)) j t b ks target)) (stop_of k)
    (λ v. way_kept g h l ks target u lt free v)
    (λ n r v. way_on r.clauses (Way g h l ks target) (Way g h (put l h.list target.value (V u)) ks target)
    (λ x. way_kept g h l ks target u lt free x) v) (λ n t b v. record {
      low = v.low;
      end = v.end;
      loop = v.loop;
      inside = v.inside;
      outer = v.outer;
      next = frame_kept g h l (put l h.list target.value (V u)) ks v.end v.low v.outer
          (keeps_above h l v.low target.value (V u) lt (omega (arith, at_least v.loop.target target v.inside, v.loop.value)))
          (put_only l h.list target.value u) free v.next;
    }) w
  where
    at_least : (a b : Loop) → a ≡ b → a.value ≡ b.value
    at_least a b e = ap (λ (q : Loop). q.value) e
way_kept g h l (activation c p ∷ ks) target u lt free w = absurd w
way_kept g h l (iteration c it p ∷ ks) target u lt free w = absurd w
way_kept g h l (ensuring o ∷ ks) target u lt free w = absurd w

module _ (g : Ground) (h : Site) (static : Static h) (ks : List Item) (m : source.Memory) (ls : List Level)
    (k : machine.Memory) (both : Common g h m (aligned k m)) where
  pub do_break : (j : ℕ) (e : CoreForm) (d : Doing g h j (break_form e) ks m.place ls k.lists)
      → Step h (Run (perform j (break_form e)) ks m) (state_at g h d.x d.n (aligned k m))
  unfolding do_form
  do_break j e d = by d.loop refl
    where
      by : (o : Option Loop) → d.loop ≡ o
          → Step h (Run (perform j (break_form e)) ks m) (state_at g h d.x d.n (aligned k m))
      by None is =
          begins_last g h ks m ls k both j (break_form e) e leave_call d refl (omega arith) d.covered (op.Break d.r)
          (subst (λ (o : Option Loop). Stands h d.n (gen (within h d.loop) d.s d.r e ⊕ break_by o d.r)) is d.code)
          (λ n l. goes_far (record {
            at = refl;
            by = breaks_far;
            action = refl;
            first = refl;
            last = refl;
            outside = is;
            leaves = l;
          }))
      by (Some target) is =
          let p = gen (within h d.loop) d.s d.r e in
          let move = does (op.Move target.value d.r) in
          let out = leave target.out in
          let code = subst (λ (o : Option Loop). Stands h d.n (p ⊕ break_by o d.r)) is d.code in
          let kept = keeps e (within h d.loop) d.s d.r in
          let last = right_at h d.n d.s p (move ⊕ out) d.here kept code in
          let one : high move ≡ 1 = high-puts (line.Does (op.Move target.value d.r)) in
          by_none h (Run (perform j (break_form e)) ks m) (state_at g h d.x d.n (aligned k m)) (omega arith) (
            g,
            h,
            both,
            record {
              x = d.x;
              n = d.n;
              r = d.r;
              is = refl;
              there = d.there;
              loop = d.loop;
              s = d.s;
              here = d.here;
              covered = d.covered;
              above = d.above;
              code = left h d.n p (move ⊕ out) (within_both _ move out (within_puts _ _) (within_puts _ _)) code;
              next = record {
                low = d.r;
                end = d.n + high (gen (within h d.loop) d.s d.r (break_form e));
                above = d.above;
                below = omega arith;
                behind = breaks (record {
                  at = refl;
                  action = refl;
                  first = refl;
                  last = refl;
                  target = target;
                  inside = is;
                  moves = the_line h (d.n + high p) (line.Does (op.Move target.value d.r))
                      (left h (d.n + high p) move out (within_puts _ _) last);
                  leaves = the_line h (d.n + high p + 1) (line.Leave target.out)
                      (moved h (d.n + high p + high move) (d.n + high p + 1) out (omega (arith, one))
                      (right h (d.n + high p) move out (within_puts _ _) last));
                });
                outer = d.loop;
                inner = refl;
                next = d.next;
              };
            },
          )

  pub give_break : (v : Value) (j : ℕ) (a : Action) (vs : List Value) (es : Forms)
      (d : GivesIn g h v (part (operands j a vs es) ∷ ks) m.place ls k.lists)
      → BreakBehind h a vs es d.next.low d.n d.r d.loop
      → Step h (Run (give v) (part (operands j a vs es) ∷ ks) m) (state_at g h d.x d.n (aligned k m))
  unfolding do_give give_part finish
  give_break v j a vs es d b =
      let c = Run (give v) (part (operands j a vs es) ∷ ks) m in
      let low = d.next.low in
      let way = way_of g h k.lists ks d.next.end low b.target d.next.outer (d.next.inner ∙ b.inside) d.next.next in
      let goes : go h.source c ≡ Run (travel (leave_loop v)) ks m =
      ap (λ (x : Action). next_operand h.source j x (vs ++ v ∷ []) es ks m) b.action
      ∙ ap (λ (us : List Value). next_operand h.source j leave_call (us ++ v ∷ []) es ks m) b.first
      ∙ ap (λ (fs : Forms). next_operand h.source j leave_call (v ∷ []) fs ks m) b.last
      ∙ ap (λ (t : Bool). leave_from t v ks m) (in_loop_is g h k.lists ks b.target way) in
      let r = b.target.value in
      let k' = written h (aligned k m) r v in
      let stands : slot_at k.lists h.list low ≡ V v =
      subst (λ (i : ℕ). slot_at k.lists h.list i ≡ V v) (sym b.at) d.stands in
      let s = (same_here g h m (aligned k m) both) in
      let room = room_of g h k.lists ks b.target way in
      by_one h c (state_at g h d.x d.n (aligned k m)) (state_at g h d.x (d.n + 1) k')
      (going (give v) (part (operands j a vs es) ∷ ks) m (frame (frame_at h d.x d.n) ∷ g.below) (aligned k m) refl)
      (turned h d.x d.n (op.Move r low) g.below (aligned k m) b.moves
      ∙ ap (λ (u : Slot). state_at g h d.x (d.n + 1) (written h (aligned k m) r (read u))) stands)
      (subst (λ (q : Config). Related h q (state_at g h d.x (d.n + 1) k')) (sym goes) (leaping (record {
        g = g;
        h = h;
        both = written_here g h m (aligned k m) both r v room.above;
        x = d.x;
        n = d.n + 1;
        is = refl;
        there = d.there;
        to = b.target.out;
        throws = leave_thrown g h d.x (d.n + 1) b.target.out k' b.leaves;
        guarded = b.leaves.guarded;
        target = b.target;
        by = to_end v refl refl
            (slot_same k.lists h.list r (V v) s.present (omega (arith, s.long, room.within)));
        way = way_kept g h k.lists ks b.target v s.present (omega (arith, both.free)) way;
      })))

  pub do_next : (j : ℕ) (e : CoreForm) (d : Doing g h j (next_form e) ks m.place ls k.lists)
      → Step h (Run (perform j (next_form e)) ks m) (state_at g h d.x d.n (aligned k m))
  unfolding do_form
  do_next j e d = by d.loop refl
    where
      by : (o : Option Loop) → d.loop ≡ o
          → Step h (Run (perform j (next_form e)) ks m) (state_at g h d.x d.n (aligned k m))
      by None is =
          begins_last g h ks m ls k both j (next_form e) e leave_round d refl (omega arith) d.covered (op.Return d.r)
          (subst (λ (o : Option Loop). Stands h d.n (gen (within h d.loop) d.s d.r e ⊕ next_by o d.r)) is d.code)
          (λ n l. ends_body (record {
            at = refl;
            action = refl;
            first = refl;
            last = refl;
            outside = is;
            returns = l;
          }))
      by (Some target) is =
          let p = gen (within h d.loop) d.s d.r e in
          let out = leave target.round in
          let code = subst (λ (o : Option Loop). Stands h d.n (p ⊕ next_by o d.r)) is d.code in
          by_none h (Run (perform j (next_form e)) ks m) (state_at g h d.x d.n (aligned k m)) (omega arith) (
            g,
            h,
            both,
            record {
              x = d.x;
              n = d.n;
              r = d.r;
              is = refl;
              there = d.there;
              loop = d.loop;
              s = d.s;
              here = d.here;
              covered = d.covered;
              above = d.above;
              code = left h d.n p out (within_puts _ _) code;
              next = record {
                low = d.r;
                end = d.n + high (gen (within h d.loop) d.s d.r (next_form e));
                above = d.above;
                below = omega arith;
                behind = begins_round (record {
                  action = refl;
                  first = refl;
                  last = refl;
                  target = target;
                  inside = is;
                  leaves = the_line h (d.n + high p) (line.Leave target.round)
                      (right_at h d.n d.s p out d.here (keeps e (within h d.loop) d.s d.r) code);
                });
                outer = d.loop;
                inner = refl;
                next = d.next;
              };
            },
          )

  pub give_next : (v : Value) (j : ℕ) (a : Action) (vs : List Value) (es : Forms)
      (d : GivesIn g h v (part (operands j a vs es) ∷ ks) m.place ls k.lists) → NextBehind h a vs es d.n d.loop
      → Step h (Run (give v) (part (operands j a vs es) ∷ ks) m) (state_at g h d.x d.n (aligned k m))
  unfolding do_give give_part finish
  give_next v j a vs es d b =
      let c = Run (give v) (part (operands j a vs es) ∷ ks) m in
      let goes : go h.source c ≡ Run (travel (next v)) ks m =
      ap (λ (x : Action). next_operand h.source j x (vs ++ v ∷ []) es ks m) b.action
      ∙ ap (λ (us : List Value). next_operand h.source j leave_round (us ++ v ∷ []) es ks m) b.first
      ∙ ap (λ (fs : Forms). next_operand h.source j leave_round (v ∷ []) fs ks m) b.last in
      by_none h c (state_at g h d.x d.n (aligned k m))
      (subst (λ (q : Config). measure q < measure c) (sym goes) (omega arith))
      (subst (λ (q : Config). Related h q (state_at g h d.x d.n (aligned k m))) (sym goes) (leaping (record {
        g = g;
        h = h;
        both = both;
        x = d.x;
        n = d.n;
        is = refl;
        there = d.there;
        to = b.target.round;
        throws = leave_thrown g h d.x d.n b.target.round (aligned k m) b.leaves;
        guarded = b.leaves.guarded;
        target = b.target;
        by = to_round v refl refl;
        way = way_of g h k.lists ks d.next.end d.next.low b.target d.next.outer (d.next.inner ∙ b.inside) d.next.next;
      })))

  -- the frame that runs stands at the jump
  pub record Leaping (e : Exit) (is : List Item) : Type 0 where
    pub x : Rest
    pub n : ℕ
    pub there : m.place ≡ place_in h
    pub to : ℕ
    pub throws : turn h.program (state_at g h x n (aligned k m))
        ≡ throw h.program (Jump h.activation (at_line h to)) (frame (frame_at h x n) ∷ g.below) (aligned k m)
    pub guarded : IsGuarded h n
    pub target : Loop
    pub by : LeavesTo h k.lists e to target
    pub way : Way g h k.lists is target

  -- An exit at a part: it is passed, or it is the loop.
  module _ (e : Exit) (p : Part) (q : Leaping e (part p ∷ ks)) where
    abbrev conf : Config
    conf = Run (travel e) (part p ∷ ks) m

    lands : (to : ℕ) → q.to ≡ to → StaysIn h to
        → turn h.program (state_at g h q.x q.n (aligned k m)) ≡ state_at g h q.x to (aligned k m)
    lands to same stays_in =
        q.throws
        ∙ ap (λ (i : ℕ). throw h.program (Jump h.activation (at_line h i)) (frame (frame_at h q.x q.n) ∷ g.below) (aligned k m))
        same
        ∙ lands_at g h q.x q.n to (aligned k m) q.guarded stays_in

    -- the exit comes to the loop
    at_loop : (n : ℕ) (t b : CoreForm) → LoopWay g h k.lists n t b ks q.target
        → go h.source conf ≡ travel_loop e n t b ks m → LeavesTo h k.lists e q.to q.target
        → Step h conf (state_at g h q.x q.n (aligned k m))
    at_loop n t b w goes (to_end v is leads_to held) =
        let to = q.target.out in
        let value : q.target.value ≡ w.low = sym (ap (λ (l : Loop). l.value) w.inside) ∙ w.loop.value in
        let leap = subst (λ (l : Loop). LineAt h l.out (line.Jump w.end)) w.inside w.loop.leads_out in
        by_two h conf (state_at g h q.x q.n (aligned k m)) (state_at g h q.x to (aligned k m))
        (state_at g h q.x w.end (aligned k m))
        (going (travel e) (part p ∷ ks) m (frame (frame_at h q.x q.n) ∷ g.below) (aligned k m) refl)
        (lands to leads_to (stays_there h to leap.guarded))
        (going (travel e) (part p ∷ ks) m (frame (frame_at h q.x to) ∷ g.below) (aligned k m) refl)
        (jumped h q.x to w.end g.below (aligned k m) leap)
        (subst (λ (z : Config). Related h z (state_at g h q.x w.end (aligned k m)))
        (sym (goes ∙ ap (λ (y : Exit). travel_loop y n t b ks m) is))
        (stays g h v ks m q.x (aligned k m) w.end w.low w.outer both q.there
        (subst (λ (i : ℕ). slot_at k.lists h.list i ≡ V v) value held) w.next))
    at_loop n t b w goes (to_round v is leads_to) = by w.loop.round
      where
        test_line : ℕ
        test_line = w.loop.test_spot.line

        stays_in : StaysIn h q.target.round
        stays_in = subst (λ (l : Loop). StaysIn h l.round) w.inside w.loop.stays

        goes' : go h.source conf ≡ Run (perform n t) (part (loop_test n t b) ∷ ks) m
        goes' = goes ∙ ap (λ (y : Exit). travel_loop y n t b ks m) is

        related : Related h (go h.source conf) (state_at g h q.x test_line (aligned k m))
        related = subst (λ (z : Config). Related h z (state_at g h q.x test_line (aligned k m))) (sym goes')
            (at_test g h static ks m ls k both q.x w.low w.end w.outer n t b w.loop q.there w.next)

        by : (w.loop.target.round ≡ test_line) ⊎ LineAt h w.loop.target.round (line.Jump test_line)
            → Step h conf (state_at g h q.x q.n (aligned k m))
        by (inl here) =
            by_one h conf (state_at g h q.x q.n (aligned k m)) (state_at g h q.x test_line (aligned k m))
            (going (travel e) (part p ∷ ks) m (frame (frame_at h q.x q.n) ∷ g.below) (aligned k m) refl)
            (lands q.target.round leads_to stays_in
            ∙ ap (λ (i : ℕ). state_at g h q.x i (aligned k m)) (sym (ap (λ (l : Loop). l.round) w.inside) ∙ here)) related
        by (inr leap) =
            by_two h conf (state_at g h q.x q.n (aligned k m)) (state_at g h q.x q.target.round (aligned k m))
            (state_at g h q.x test_line (aligned k m))
            (going (travel e) (part p ∷ ks) m (frame (frame_at h q.x q.n) ∷ g.below) (aligned k m) refl)
            (lands q.target.round leads_to stays_in)
            (going (travel e) (part p ∷ ks) m (frame (frame_at h q.x q.target.round) ∷ g.below) (aligned k m) refl)
            (jumped h q.x q.target.round test_line g.below (aligned k m)
            (subst (λ (l : Loop). LineAt h l.round (line.Jump test_line)) w.inside leap)) related

    pub leap_on : Step h conf (state_at g h q.x q.n (aligned k m))
    unfolding do_travel
    leap_on = by (stop_of p) q.way refl
      where
        further : Way g h k.lists ks q.target → go h.source conf ≡ Run (travel e) ks m
            → Step h conf (state_at g h q.x q.n (aligned k m))
        further w goes =
            by_none h conf (state_at g h q.x q.n (aligned k m))
            (subst (λ (z : Config). measure z < measure conf) (sym goes) (omega (arith, weight_pos p)))
            (subst (λ (z : Config). Related h z (state_at g h q.x q.n (aligned k m))) (sym goes) (leaping (record {
              g = g;
              h = h;
              both = both;
              x = q.x;
              n = q.n;
              is = refl;
              there = q.there;
              to = q.to;
              throws = q.throws;
              guarded = q.guarded;
              target = q.target;
              by = q.by;
              way = w;
            })))

        by : (o : Stop) → WayBy o (Way g h k.lists ks q.target) (λ j t b. LoopWay g h k.lists j t b ks q.target)
            → go h.source conf ≡ travel_part e o ks m → Step h conf (state_at g h q.x q.n (aligned k m))
        by passes w goes = further w goes
        by (loops n t b) w goes = at_loop n t b w goes q.by
        by (rescues n r) w goes =
            further (way_past r.clauses (Way g h k.lists ks q.target) w)
            (goes ∙ past_rescue h k.lists e q.to q.target n r ks m q.by)
        by (assigns x r) w goes = absurd w
        by (retries r) w goes = absurd w
        by (ensures n f) w goes = absurd w
