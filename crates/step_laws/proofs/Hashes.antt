-- Hash literals: the Hash is there before its pairs, and gets each of them once its key and its value are there.
use Rattle.std.proofs.Common.{◌≡◌, ℕ, ◌+◌, ◌<◌, List, [], ◌∷◌, refl, sym, ap, ◌∙◌, subst, arith}
use Rattle.std.specs.Prelude.{codes, Option, Some}
use Rattle.rb_value.specs.declared.value.Value.{Value}
use Rattle.rb_value.specs.declared.value.Value.TheVariants.{Obj}
use Rattle.rb_value.specs.declared.value.ObjId.{ObjId}
use Rattle.rb_value.specs.declared.exit.Slot.{Slot}
use Rattle.rb_value.specs.declared.exit.Slot.TheVariants.{V}
use Rattle.rb_value.specs.declared.core_class.CoreClass.TheVariants as class
use Rattle.rb_value.specs.declared.kind.Kind.TheVariants as kind
use Rattle.rb_value.specs.Slot.{read}
use Rattle.rite_code.specs.declared.operation.Operation.TheVariants as op
use Rattle.def_core.specs.Store.{core, fresh, next_number, with_object}
use Rattle.def_core.specs.Parts.{no_pairs as no_keys}
use Rattle.ir_core.specs.CoreForm.{CoreForm, hash, Pairs, no_pairs, pair}
use Rattle.gen_parts.specs.declared.line.Line.TheVariants as line
use Rattle.gen_parts.specs.declared.emitter.Spot.{Spot}
use Rattle.gen_parts.specs.Pieces.{past, does, ◌⊕◌}
use Rattle.gen_forms.specs.declared.context.Loop.{Loop}
use Rattle.gen_forms.specs.Gen.{gen, gather_pairs}
use Rattle.def_calls.specs.World.{World, Answer, Result as Given, gives, raises, with_store}
use Rattle.def_calls.specs.Views.{a_hash}
use Rattle.def_calls.specs.Values.{with_pair}
use Rattle.def_eval.specs.Configuration as source
use Rattle.def_eval.specs.Configuration.{hash_key, hash_value, Item, part, perform, give, Config, Run}
use Rattle.def_eval.specs.Forms.{next_pair, do_form}
use Rattle.def_eval.specs.Giving.{after_pair, give_part, do_give}
use Rattle.def_eval.specs.Transition.{go}
use Rattle.def_machine.specs.State as machine
use Rattle.def_machine.specs.State.{Level, frame, State, slot_at}
use Rattle.def_machine.specs.Unwind.{after as after_machine}
use Rattle.def_machine.specs.Turn.{turn, act, on_object, and_then, add_pairs}
use Rattle.step_laws.specs.Site.{Site, within, place_in, at_line, LineAt, Room}
use Rattle.step_laws.specs.Covers.{CoversPairs}
use Rattle.step_laws.specs.Calm.{Grows, Quiet}
use Rattle.step_laws.specs.Measure.{measure}
use Rattle.step_laws.proofs.Placed.{high, high-both, high-puts, high-nothing, line-past, Stands, moved, Keeps, within_puts, left, right, left_at, right_at, the_line, Rest, frame_at, turned}
use Rattle.step_laws.specs.Behind.{Static}
use Rattle.step_laws.specs.Relation.{Ground, over_levels, InFrame, Common, Doing, GivesIn, raised, Related, Step}
use Rattle.step_laws.proofs.Untouched.{grown, below_running}
use Rattle.step_laws.proofs.Matching.{by_none, by_one, in_loop, going, state_at, written, stays}
use Rattle.step_laws.proofs.Calling.{leaves_frame}
use Rattle.step_laws.proofs.Within.{keeps_both, keeps_ends, keeps, pairs_keep}
use Rattle.step_laws.proofs.Literals.{aligned}
use Rattle.step_laws.proofs.Gathered.{kept}

-- The next key is about to be done, or the Hash is given.
on_with : (g : Ground) (h : Site) (j : ℕ) (id : ObjId) (ps : Pairs) (ks : List Item) (m : source.Memory) (k : machine.Memory)
    (x : Rest) (n low end : ℕ) (loop : Option Loop) (s : Spot) → Common g h m k → m.place ≡ place_in h → Room h low
    → CoversPairs h loop low s j ps → s.line ≡ n → Stands h n (gather_pairs (within h loop) s low ps)
    → n + high (gather_pairs (within h loop) s low ps) ≡ end → slot_at k.lists h.list low ≡ V (Obj id)
    → InFrame g h k.lists ks end low loop → Related h (next_pair j id ps ks m) (state_at g h x n k)
on_with g h j id no_pairs ks m k x n low end loop s both there room covered here code ends held next =
    stays g h (Obj id) ks m x k n low loop both there held
    (subst (λ (i : ℕ). InFrame g h k.lists ks i low loop) (sym (omega (arith, ends, high-nothing))) next)
on_with g h j id (pair a b ps) ks m k x n low end loop s both there room covered here code ends held next =
    let p = gen (within h loop) s (low + 1) a in
    let q = gen (within h loop) (past s p) (low + 1 + 1) b in
    let o = op.HashAdd low 1 in
    let one = (p ⊕ q) ⊕ does o in
    let others = gather_pairs (within h loop) (past s one) low ps in
    let kept_first : Keeps s p = keeps a (within h loop) s (low + 1) in
    let kept_second : Keeps (past s p) q = keeps b (within h loop) (past s p) (low + 1 + 1) in
    let kept_two : Keeps s (p ⊕ q) = keeps_both s p q kept_first kept_second in
    let first = left_at h n s one others here (pairs_keep ps (within h loop) (past s one) low) code in
    let two = left h n (p ⊕ q) (does o) (within_puts _ _) first in
    let tall : high one ≡ high p + high q + 1 =
    omega (arith, high-both (p ⊕ q) (does o), high-both p q, high-puts (line.Does o)) in
    let next_line : (past s one).line ≡ n + high one = omega (arith, line-past s one, here) in (
      g,
      h,
      both,
      record {
        x = x;
        n = n;
        r = low + 1;
        is = refl;
        there = there;
        loop = loop;
        s = s;
        here = here;
        covered = covered.0;
        above = omega (arith, room.above);
        code = left_at h n s p q here kept_second two;
        next = record {
          low = low;
          end = end;
          above = room.above;
          below = omega arith;
          behind = record {
            at = refl;
            held = held;
            s = past s p;
            here = omega (arith, line-past s p, here);
            room = room;
            covered = (covered.1, covered.2);
            value = right_at h n s p q here kept_first two;
            next = past s one;
            next_line = omega (arith, next_line, tall);
            puts = subst (λ (i : ℕ). LineAt h i (line.Does o)) (omega (arith, high-both p q))
                (the_line h (n + high (p ⊕ q)) (line.Does o) (right_at h n s (p ⊕ q) (does o) here kept_two first));
            code = moved h (n + high one) (past s one).line others (sym next_line)
                (right_at h n s one others here (keeps_ends s (p ⊕ q) (line.Does o) kept_two) code);
            ends = omega (arith, ends, next_line, high-both one others);
          };
          outer = loop;
          inner = refl;
          next = next;
        };
      },
    )

quiet_pairs : (j : ℕ) (id : ObjId) (ps : Pairs) (ks : List Item) (m : source.Memory) (w : World)
    → Quiet m (next_pair j id ps ks (source.with_world m w)) → Grows m.world w
quiet_pairs j id no_pairs ks m w q = q.1
quiet_pairs j id (pair a b ps) ks m w q = q.1

-- The turn that puts the pair behind the Hash.
module _ (g : Ground) (h : Site) (x : Rest) (n low : ℕ) (k : machine.Memory) (id : ObjId) (u v : Value)
    (held : slot_at k.lists h.list low ≡ V (Obj id)) (key : slot_at k.lists h.list (low + 1) ≡ V u)
    (stands : slot_at k.lists h.list (low + 1 + 1) ≡ V v)
    (about : a_hash k.world.store.objects (Obj id) ≡ Some id) where
  -- what the instruction answers
  abbrev pub put_answer : Answer
  put_answer = and_then (with_pair k.world id u v).world (with_pair k.world id u v).result
      (λ w. record { result = gives (Obj id); world = w })

  abbrev told : Option ObjId → Value → Value → State
  told i a b = on_object h.program (codes "HASHADD") i low (at_line h (n + 1)) (frame_at h x n) g.below k
      (λ d. add_pairs k.world d (a ∷ b ∷ []))

  pub paired : act h.program (op.HashAdd low 1) (at_line h (n + 1)) (frame_at h x n) g.below k
      ≡ after_machine h.program put_answer low (at_line h (n + 1)) (frame_at h x n) g.below k
  paired =
      ap (λ (s : Slot). told (a_hash k.world.store.objects (read s)) (read (slot_at k.lists h.list (low + 1)))
      (read (slot_at k.lists h.list (low + 1 + 1)))) held
      ∙ ap (λ (i : Option ObjId). told i (read (slot_at k.lists h.list (low + 1)))
      (read (slot_at k.lists h.list (low + 1 + 1)))) about
      ∙ ap (λ (s : Slot). told (Some id) (read s) (read (slot_at k.lists h.list (low + 1 + 1)))) key
      ∙ ap (λ (s : Slot). told (Some id) u (read s)) stands

module _ (g : Ground) (h : Site) (static : Static h) (ks : List Item) (m : source.Memory) (ls : List Level)
    (k : machine.Memory) (both : Common g h m (aligned k m)) where
  pub do_hash : (j : ℕ) (ps : Pairs) (d : Doing g h j (hash ps) ks m.place ls k.lists)
      → Quiet m (go h.source (Run (perform j (hash ps)) ks m))
      → Step h (Run (perform j (hash ps)) ks m) (state_at g h d.x d.n (aligned k m))
  unfolding do_form
  do_hash j ps d quiet =
      let o = op.Hash d.r 0 in
      let p = does o in
      let q = gather_pairs (within h d.loop) (past d.s p) d.r ps in
      let id = next_number m.world.store in
      let w = with_store m.world (with_object m.world.store (fresh (core class.Hash) (kind.Hash no_keys))) in
      let end = d.n + high (p ⊕ q) in
      let t = kept g h static ks m k both w (quiet_pairs j id ps ks m w quiet) (Obj id) end d.r d.loop d.covered.0 d.next in
      let tall : high p ≡ 1 = high-puts (line.Does o) in
      by_one h (Run (perform j (hash ps)) ks m) (state_at g h d.x d.n (aligned k m))
      (state_at g h d.x (d.n + 1) (written h (machine.with_world k w) d.r (Obj id)))
      (going (perform j (hash ps)) ks m (frame (frame_at h d.x d.n) ∷ g.below) (aligned k m) refl)
      (turned h d.x d.n o g.below (aligned k m) (the_line h d.n (line.Does o)
      (left_at h d.n d.s p q d.here (pairs_keep ps (within h d.loop) (past d.s p) d.r) d.code)))
      (on_with g h j id ps ks (source.with_world m w) (written h (machine.with_world k w) d.r (Obj id)) d.x (d.n + 1) d.r
      end d.loop (past d.s p) t.common d.there d.covered.0 d.covered.1 (omega (arith, line-past d.s p, d.here, tall))
      (moved h (d.n + high p) (d.n + 1) q (omega (arith, tall)) (right h d.n p q (within_puts _ _) d.code))
      (omega (arith, tall, high-both p q)) t.held t.next)

  -- the value of the pair is next
  pub give_key : (u : Value) (j : ℕ) (id : ObjId) (e : CoreForm) (ps : Pairs)
      (d : GivesIn g h u (part (hash_key j id e ps) ∷ ks) m.place ls k.lists)
      → Step h (Run (give u) (part (hash_key j id e ps) ∷ ks) m) (state_at g h d.x d.n (aligned k m))
  unfolding do_give give_part
  give_key u j id e ps d =
      let b = d.next.behind in
      let low = d.next.low in
      let q = gen (within h d.loop) b.s (low + 1 + 1) e in
      by_none h (Run (give u) (part (hash_key j id e ps) ∷ ks) m) (state_at g h d.x d.n (aligned k m)) (omega arith) (
        g,
        h,
        both,
        record {
          x = d.x;
          n = d.n;
          r = low + 1 + 1;
          is = refl;
          there = d.there;
          loop = d.loop;
          s = b.s;
          here = b.here;
          covered = b.covered.0;
          above = omega (arith, b.room.above);
          code = b.value;
          next = record {
            low = low;
            end = d.next.end;
            above = b.room.above;
            below = omega arith;
            behind = record {
              at = refl;
              held = b.held;
              key = subst (λ (i : ℕ). slot_at k.lists h.list i ≡ V u) (sym b.at) d.stands;
              s = b.next;
              here = b.next_line;
              room = b.room;
              covered = b.covered.1;
              puts = b.puts;
              code = moved h b.next.line (d.n + high q + 1) (gather_pairs (within h d.loop) b.next low ps) b.next_line b.code;
              ends = omega (arith, b.ends, b.next_line);
            };
            outer = d.next.outer;
            inner = d.next.inner;
            next = d.next.next;
          };
        },
      )

  pub give_pair : (v : Value) (j : ℕ) (id : ObjId) (u : Value) (ps : Pairs)
      (d : GivesIn g h v (part (hash_value j id u ps) ∷ ks) m.place ls k.lists)
      → a_hash m.world.store.objects (Obj id) ≡ Some id
      → Quiet m (go h.source (Run (give v) (part (hash_value j id u ps) ∷ ks) m))
      → Step h (Run (give v) (part (hash_value j id u ps) ∷ ks) m) (state_at g h d.x d.n (aligned k m))
  unfolding do_give give_part
  give_pair v j id u ps d about quiet = by answer.result answer.world refl turns
    where
      c : Config
      c = Run (give v) (part (hash_value j id u ps) ∷ ks) m

      answer : Answer
      answer = with_pair m.world id u v

      low : ℕ
      low = d.next.low

      stands : slot_at k.lists h.list (low + 1 + 1) ≡ V v
      stands = subst (λ (i : ℕ). slot_at k.lists h.list i ≡ V v) (sym d.next.behind.at) d.stands

      told_by : Given → World → Answer
      told_by r w = and_then w r (λ z. record { result = gives (Obj id); world = z })

      turns : turn h.program (state_at g h d.x d.n (aligned k m))
          ≡ after_machine h.program (told_by answer.result answer.world) low (at_line h (d.n + 1)) (frame_at h d.x d.n) g.below
          (aligned k m)
      turns = turned h d.x d.n (op.HashAdd low 1) g.below (aligned k m) d.next.behind.puts
          ∙ paired g h d.x d.n low (aligned k m) id u v d.next.behind.held d.next.behind.key stands about

      by : (r : Given) (w : World) → go h.source c ≡ after_pair j id ps ks m (record { result = r; world = w }) r
          → turn h.program (state_at g h d.x d.n (aligned k m))
          ≡ after_machine h.program (told_by r w) low (at_line h (d.n + 1)) (frame_at h d.x d.n) g.below (aligned k m)
          → Step h c (state_at g h d.x d.n (aligned k m))
      by (gives z) w goes acts =
          let b = d.next.behind in
          let k' = written h (machine.with_world k w) low (Obj id) in
          let t = kept g h static ks m k both w (quiet_pairs j id ps ks m w (subst (Quiet m) goes quiet)) (Obj id) d.next.end low d.loop b.room
          (in_loop g h k.lists ks d.next.end low d.loop d.next.outer d.next.inner d.next.next) in
          by_one h c (state_at g h d.x d.n (aligned k m)) (state_at g h d.x (d.n + 1) k')
          (going (give v) (part (hash_value j id u ps) ∷ ks) m (frame (frame_at h d.x d.n) ∷ g.below) (aligned k m) refl) acts
          (subst (λ (q : Config). Related h q (state_at g h d.x (d.n + 1) k')) (sym goes)
          (on_with g h j id ps ks (source.with_world m w) k' d.x (d.n + 1) low d.next.end d.loop b.s t.common d.there b.room
          b.covered b.here b.code b.ends t.held t.next))
      by (raises e) w goes acts =
          let still = subst (Quiet m) goes quiet in
          by_none h c (state_at g h d.x d.n (aligned k m))
          (subst (λ (q : Config). measure q < measure c) (sym goes) (omega arith))
          (subst (λ (q : Config). Related h q (state_at g h d.x d.n (aligned k m))) (sym goes) (raised (record {
            g = over_levels g (frame (frame_at h d.x d.n) ∷ g.below);
            e = e;
            exception = refl;
            memory = machine.with_world k w;
            throws = acts;
            out = sym still.0;
            both = grown (over_levels g (frame (frame_at h d.x d.n) ∷ g.below)) m (aligned k m)
                (below_running g h m (aligned k m) both (frame_at h d.x d.n) refl) m.place w still.1;
            leaving = leaves_frame g h k.lists ks d.next.end low d.next.outer d.x d.n both.site
                d.next.behind.puts.guarded d.next.next;
          })))
