-- Texts: the String is there before its pieces, and gets the bytes of each of them.
use Rattle.std.proofs.Common.{◌≡◌, ℕ, ◌+◌, List, [], ◌∷◌, refl, sym, ap, ◌∙◌, subst, arith}
use Rattle.std.specs.Prelude.{codes, Option, Some}
use Rattle.rb_value.specs.declared.value.Value.{Value}
use Rattle.rb_value.specs.declared.value.Value.TheVariants.{Obj}
use Rattle.rb_value.specs.declared.value.ObjId.{ObjId}
use Rattle.rb_value.specs.declared.exit.Slot.{Slot}
use Rattle.rb_value.specs.declared.exit.Slot.TheVariants.{V}
use Rattle.rb_value.specs.Slot.{read}
use Rattle.rite_code.specs.declared.code.PoolItem.{PoolItem}
use Rattle.rite_code.specs.declared.operation.Operation.TheVariants as op
use Rattle.def_core.specs.Store.{next_number, with_object}
use Rattle.def_rows.specs.Answers.{text_object}
use Rattle.ir_core.specs.CoreForm.{text, Forms, none, more}
use Rattle.gen_parts.specs.declared.line.Line.TheVariants as line
use Rattle.gen_parts.specs.declared.emitter.Spot.{Spot}
use Rattle.gen_parts.specs.Pieces.{past, does, ◌⊕◌}
use Rattle.gen_forms.specs.declared.context.Loop.{Loop}
use Rattle.gen_forms.specs.Gen.{gen, gather_text, text_entry}
use Rattle.def_calls.specs.World.{World, gives, with_store}
use Rattle.def_calls.specs.Views.{a_string}
use Rattle.def_calls.specs.Values.{appended, text_of_value}
use Rattle.def_eval.specs.Configuration as source
use Rattle.def_eval.specs.Configuration.{pieces, Item, part, perform, give, Run}
use Rattle.def_eval.specs.Forms.{next_piece, do_form}
use Rattle.def_eval.specs.Giving.{give_part, do_give}
use Rattle.def_machine.specs.State as machine
use Rattle.def_machine.specs.State.{Level, frame, State, slot_at, value_at}
use Rattle.def_machine.specs.Turn.{act, on_object, new_text}
use Rattle.step_laws.specs.Site.{Site, within, place_in, at_line, Room}
use Rattle.def_eval.specs.Transition.{go}
use Rattle.step_laws.specs.Calm.{Grows, Quiet}
use Rattle.step_laws.specs.Covers.{CoversPieces}
use Rattle.step_laws.proofs.Placed.{high, high-both, high-puts, high-nothing, line-past, Stands, moved, Keeps, within_puts, left, right, left_at, right_at, the_line, Rest, frame_at, turned}
use Rattle.step_laws.specs.Behind.{Static}
use Rattle.step_laws.specs.Relation.{Ground, InFrame, Common, Doing, GivesIn, Related, Step}
use Rattle.step_laws.proofs.Matching.{by_one, in_loop, going, state_at, written, stays}
use Rattle.step_laws.proofs.Literals.{aligned}
use Rattle.step_laws.proofs.Within.{keeps_ends, keeps, text_keeps}
use Rattle.step_laws.proofs.Gathered.{kept}

-- The next piece is about to be done, or the String is given.
on_with : (g : Ground) (h : Site) (j : ℕ) (id : ObjId) (es : Forms) (ks : List Item) (m : source.Memory) (k : machine.Memory)
    (x : Rest) (n low end : ℕ) (loop : Option Loop) (s : Spot) → Common g h m k → m.place ≡ place_in h → Room h low
    → CoversPieces h loop low s j es → s.line ≡ n → Stands h n (gather_text (within h loop) s low es)
    → n + high (gather_text (within h loop) s low es) ≡ end → slot_at k.lists h.list low ≡ V (Obj id)
    → InFrame g h k.lists ks end low loop → Related h (next_piece j id es ks m) (state_at g h x n k)
on_with g h j id none ks m k x n low end loop s both there room covered here code ends held next =
    stays g h (Obj id) ks m x k n low loop both there held
    (subst (λ (i : ℕ). InFrame g h k.lists ks i low loop) (sym (omega (arith, ends, high-nothing))) next)
on_with g h j id (more e es) ks m k x n low end loop s both there room covered here code ends held next =
    let p = gen (within h loop) s (low + 1) e in
    let o = op.StrCat low in
    let one = p ⊕ does o in
    let q = gather_text (within h loop) (past s one) low es in
    let kept_first : Keeps s p = keeps e (within h loop) s (low + 1) in
    let first = left_at h n s one q here (text_keeps es (within h loop) (past s one) low) code in
    let tall : high one ≡ high p + 1 = omega (arith, high-both p (does o), high-puts (line.Does o)) in (
      g,
      h,
      both,
      record {
        x = x;
        n = n;
        r = low + 1;
        is = refl;
        there = there;
        loop = loop;
        s = s;
        here = here;
        covered = covered.0;
        above = omega (arith, room.above);
        code = left h n p (does o) (within_puts _ _) first;
        next = record {
          low = low;
          end = end;
          above = room.above;
          below = omega arith;
          behind = record {
            at = refl;
            held = held;
            s = past s one;
            here = omega (arith, line-past s one, here, tall);
            room = room;
            covered = covered.1;
            adds = the_line h (n + high p) (line.Does o) (right_at h n s p (does o) here kept_first first);
            code = moved h (n + high one) (n + high p + 1) q (omega (arith, tall))
                (right_at h n s one q here (keeps_ends s p (line.Does o) kept_first) code);
            ends = omega (arith, ends, tall, high-both one q);
          };
          outer = loop;
          inner = refl;
          next = next;
        };
      },
    )

quiet_pieces : (j : ℕ) (id : ObjId) (es : Forms) (ks : List Item) (m : source.Memory) (w : World)
    → Quiet m (next_piece j id es ks (source.with_world m w)) → Grows m.world w
quiet_pieces j id none ks m w q = q.1
quiet_pieces j id (more e es) ks m w q = q.1

-- The turn that adds the bytes of what stands behind the String.
module _ (g : Ground) (h : Site) (x : Rest) (n low : ℕ) (k : machine.Memory) (id : ObjId) (v : Value)
    (held : slot_at k.lists h.list low ≡ V (Obj id)) (stands : slot_at k.lists h.list (low + 1) ≡ V v)
    (about : a_string k.world.store.objects (Obj id) ≡ Some id) where
  abbrev longer : ObjId → Value → World
  longer d u = with_store k.world (appended k.world.store d (text_of_value k.world.store u))

  abbrev told : Option ObjId → Value → State
  told i u = on_object h.program (codes "STRCAT") i low (at_line h (n + 1)) (frame_at h x n) g.below k
      (λ d. record { result = gives (Obj d); world = longer d u })

  pub added : act h.program (op.StrCat low) (at_line h (n + 1)) (frame_at h x n) g.below k
      ≡ state_at g h x (n + 1) (written h (machine.with_world k
      (with_store k.world (appended k.world.store id (text_of_value k.world.store v)))) low (Obj id))
  added =
      ap (λ (a : Slot). told (a_string k.world.store.objects (read a)) (value_at k.lists h.list (low + 1))) held
      ∙ ap (λ (i : Option ObjId). told i (value_at k.lists h.list (low + 1))) about
      ∙ ap (λ (a : Slot). told (Some id) (read a)) stands

module _ (g : Ground) (h : Site) (static : Static h) (ks : List Item) (m : source.Memory) (ls : List Level)
    (k : machine.Memory) (both : Common g h m (aligned k m)) where
  pub do_text : (j : ℕ) (es : Forms) (d : Doing g h j (text es) ks m.place ls k.lists)
      → Quiet m (go h.source (Run (perform j (text es)) ks m))
      → Step h (Run (perform j (text es)) ks m) (state_at g h d.x d.n (aligned k m))
  unfolding do_form
  do_text j es d quiet =
      let o = op.String d.r (text_entry h.context []) in
      let p = does o in
      let q = gather_text (within h d.loop) (past d.s p) d.r es in
      let id = next_number m.world.store in
      let w = with_store m.world (with_object m.world.store (text_object [])) in
      let end = d.n + high (p ⊕ q) in
      let t = kept g h static ks m k both w (quiet_pieces j id es ks m w quiet) (Obj id) end d.r d.loop d.covered.0 d.next in
      let tall : high p ≡ 1 = high-puts (line.Does o) in
      by_one h (Run (perform j (text es)) ks m) (state_at g h d.x d.n (aligned k m))
      (state_at g h d.x (d.n + 1) (written h (machine.with_world k w) d.r (Obj id)))
      (going (perform j (text es)) ks m (frame (frame_at h d.x d.n) ∷ g.below) (aligned k m) refl)
      (turned h d.x d.n o g.below (aligned k m) (the_line h d.n (line.Does o)
      (left_at h d.n d.s p q d.here (text_keeps es (within h d.loop) (past d.s p) d.r) d.code))
      ∙ ap (λ (i : Option PoolItem). new_text h.program i d.r (at_line h (d.n + 1)) (frame_at h d.x d.n) g.below (aligned k m))
      d.covered.1)
      (on_with g h j id es ks (source.with_world m w) (written h (machine.with_world k w) d.r (Obj id)) d.x (d.n + 1) d.r
      end d.loop (past d.s p) t.common d.there d.covered.0 d.covered.2 (omega (arith, line-past d.s p, d.here, tall))
      (moved h (d.n + high p) (d.n + 1) q (omega (arith, tall)) (right h d.n p q (within_puts _ _) d.code))
      (omega (arith, tall, high-both p q)) t.held t.next)

  pub give_piece : (v : Value) (j : ℕ) (id : ObjId) (es : Forms)
      (d : GivesIn g h v (part (pieces j id es) ∷ ks) m.place ls k.lists)
      → a_string m.world.store.objects (Obj id) ≡ Some id
      → Quiet m (go h.source (Run (give v) (part (pieces j id es) ∷ ks) m))
      → Step h (Run (give v) (part (pieces j id es) ∷ ks) m) (state_at g h d.x d.n (aligned k m))
  unfolding do_give give_part
  give_piece v j id es d about quiet =
      let b = d.next.behind in
      let low = d.next.low in
      let c = Run (give v) (part (pieces j id es) ∷ ks) m in
      let stands : slot_at k.lists h.list (low + 1) ≡ V v =
      subst (λ (a : ℕ). slot_at k.lists h.list a ≡ V v) (sym b.at) d.stands in
      let w = with_store m.world (appended m.world.store id (text_of_value m.world.store v)) in
      let k' = written h (machine.with_world k w) low (Obj id) in
      let u = kept g h static ks m k both w (quiet_pieces j id es ks m w quiet) (Obj id) d.next.end low d.loop b.room
      (in_loop g h k.lists ks d.next.end low d.loop d.next.outer d.next.inner d.next.next) in
      by_one h c (state_at g h d.x d.n (aligned k m)) (state_at g h d.x (d.n + 1) k')
      (going (give v) (part (pieces j id es) ∷ ks) m (frame (frame_at h d.x d.n) ∷ g.below) (aligned k m) refl)
      (turned h d.x d.n (op.StrCat low) g.below (aligned k m) b.adds
      ∙ added g h d.x d.n low (aligned k m) id v b.held stands about)
      (on_with g h j id es ks (source.with_world m w) k' d.x (d.n + 1) low d.next.end d.loop b.s u.common d.there b.room
      b.covered b.here b.code b.ends u.held u.next)
