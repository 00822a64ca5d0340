-- Array literals: the Array is there before its elements, and gets each of them, or those of a splat.
use Rattle.std.proofs.Common.{◌≡◌, ℕ, ◌+◌, List, [], ◌∷◌, refl, sym, ap, ◌∙◌, subst, arith, Bool, true, false}
use Rattle.std.specs.Prelude.{codes, Option, Some}
use Rattle.rb_value.specs.declared.value.Value.{Value}
use Rattle.rb_value.specs.declared.value.Value.TheVariants.{Obj}
use Rattle.rb_value.specs.declared.value.ObjId.{ObjId}
use Rattle.rb_value.specs.declared.exit.Slot.{Slot}
use Rattle.rb_value.specs.declared.exit.Slot.TheVariants.{V}
use Rattle.rb_value.specs.Slot.{read}
use Rattle.rite_code.specs.declared.operation.Operation.TheVariants as op
use Rattle.def_core.specs.Store.{next_number, with_object}
use Rattle.def_rows.specs.Answers.{items_object}
use Rattle.ir_core.specs.CoreForm.{CoreForm, array, Items, no_items, plain, splat}
use Rattle.gen_parts.specs.declared.line.Line.TheVariants as line
use Rattle.gen_parts.specs.declared.emitter.Spot.{Spot}
use Rattle.gen_parts.specs.Pieces.{past, does, ◌⊕◌}
use Rattle.gen_forms.specs.declared.context.Loop.{Loop}
use Rattle.gen_forms.specs.Gen.{gen, gather}
use Rattle.def_calls.specs.World.{World, gives, with_store}
use Rattle.def_calls.specs.Views.{an_array}
use Rattle.def_calls.specs.Values as values
use Rattle.def_eval.specs.Source.{Source, span}
use Rattle.def_eval.specs.Configuration as source
use Rattle.def_eval.specs.Configuration.{Gathering, an_array as new_array, elements, Item, part, perform, give, Config, Run}
use Rattle.def_eval.specs.Forms.{next_element, do_form}
use Rattle.def_eval.specs.Giving.{with_element, give_part, do_give}
use Rattle.def_eval.specs.Transition.{go}
use Rattle.def_machine.specs.State as machine
use Rattle.def_machine.specs.State.{Level, frame, State, slot_at, value_at}
use Rattle.def_machine.specs.Turn.{act, on_object}
use Rattle.step_laws.specs.Calm.{Grows, Quiet}
use Rattle.step_laws.specs.Site.{Site, within, place_in, at_line, Room}
use Rattle.step_laws.specs.Covers.{Covers, CoversElements}
use Rattle.step_laws.proofs.Placed.{high, high-both, high-puts, high-nothing, line-past, Stands, moved, Keeps, within_puts, left, right, left_at, right_at, the_line, Rest, frame_at, turned}
use Rattle.step_laws.specs.Behind.{Static, push, ElementBehind, in_literal}
use Rattle.step_laws.specs.Relation.{Ground, InFrame, Common, Doing, GivesIn, Related, Step}
use Rattle.step_laws.proofs.Matching.{by_one, in_loop, going, state_at, written, stays}
use Rattle.step_laws.proofs.Literals.{aligned}
use Rattle.step_laws.proofs.Within.{keeps_ends, keeps, elements_keep}
use Rattle.step_laws.proofs.Gathered.{kept}

-- an item of the literal is about to be done
item_on : (g : Ground) (h : Site) (j : ℕ) (id : ObjId) (spread : Bool) (e : CoreForm) (is : Items) (ks : List Item)
    (m : source.Memory) (k : machine.Memory) (x : Rest) (n low end : ℕ) (loop : Option Loop) (s : Spot)
    → Common g h m k → m.place ≡ place_in h → Room h low → Covers h loop (low + 1) s j e
    → CoversElements h loop low (past s (gen (within h loop) s (low + 1) e ⊕ does (push spread low))) (j + span e) is
    → s.line ≡ n
    → Stands h n ((gen (within h loop) s (low + 1) e ⊕ does (push spread low))
    ⊕ gather (within h loop) (past s (gen (within h loop) s (low + 1) e ⊕ does (push spread low))) low is)
    → n + high ((gen (within h loop) s (low + 1) e ⊕ does (push spread low))
    ⊕ gather (within h loop) (past s (gen (within h loop) s (low + 1) e ⊕ does (push spread low))) low is) ≡ end
    → slot_at k.lists h.list low ≡ V (Obj id) → InFrame g h k.lists ks end low loop
    → Related h (Run (perform j e) (part (elements (j + span e) new_array id spread is) ∷ ks) m) (state_at g h x n k)
item_on g h j id spread e is ks m k x n low end loop s both there room covered others here code ends held next =
    let p = gen (within h loop) s (low + 1) e in
    let o = push spread low in
    let one = p ⊕ does o in
    let q = gather (within h loop) (past s one) low is in
    let kept_first : Keeps s p = keeps e (within h loop) s (low + 1) in
    let first = left_at h n s one q here (elements_keep is (within h loop) (past s one) low) code in
    let tall : high one ≡ high p + 1 = omega (arith, high-both p (does o), high-puts (line.Does o)) in (
      g,
      h,
      both,
      record {
        x = x;
        n = n;
        r = low + 1;
        is = refl;
        there = there;
        loop = loop;
        s = s;
        here = here;
        covered = covered;
        above = omega (arith, room.above);
        code = left h n p (does o) (within_puts _ _) first;
        next = record {
          low = low;
          end = end;
          above = room.above;
          below = omega arith;
          behind = in_literal (record {
            at = refl;
            gathers = refl;
            held = held;
            s = past s one;
            here = omega (arith, line-past s one, here, tall);
            room = room;
            covered = others;
            pushes = the_line h (n + high p) (line.Does o) (right_at h n s p (does o) here kept_first first);
            code = moved h (n + high one) (n + high p + 1) q (omega (arith, tall))
                (right_at h n s one q here (keeps_ends s p (line.Does o) kept_first) code);
            ends = omega (arith, ends, tall, high-both one q);
          });
          outer = loop;
          inner = refl;
          next = next;
        };
      },
    )

-- The next element is about to be done, or the Array is given.
on_with : (g : Ground) (h : Site) (j : ℕ) (id : ObjId) (is : Items) (ks : List Item) (m : source.Memory) (k : machine.Memory)
    (x : Rest) (n low end : ℕ) (loop : Option Loop) (s : Spot) → Common g h m k → m.place ≡ place_in h → Room h low
    → CoversElements h loop low s j is → s.line ≡ n → Stands h n (gather (within h loop) s low is)
    → n + high (gather (within h loop) s low is) ≡ end → slot_at k.lists h.list low ≡ V (Obj id)
    → InFrame g h k.lists ks end low loop → Related h (next_element h.source j new_array id is ks m) (state_at g h x n k)
on_with g h j id no_items ks m k x n low end loop s both there room covered here code ends held next =
    stays g h (Obj id) ks m x k n low loop both there held
    (subst (λ (i : ℕ). InFrame g h k.lists ks i low loop) (sym (omega (arith, ends, high-nothing))) next)
on_with g h j id (plain e is) ks m k x n low end loop s both there room covered here code ends held next =
    item_on g h j id false e is ks m k x n low end loop s both there room covered.0 covered.1 here code ends held next
on_with g h j id (splat e is) ks m k x n low end loop s both there room covered here code ends held next =
    item_on g h j id true e is ks m k x n low end loop s both there room covered.0 covered.1 here code ends held next

quiet_elements : (s : Source) (j : ℕ) (id : ObjId) (is : Items) (ks : List Item) (m : source.Memory) (w : World)
    → Quiet m (next_element s j new_array id is ks (source.with_world m w)) → Grows m.world w
quiet_elements s j id no_items ks m w q = q.1
quiet_elements s j id (plain e is) ks m w q = q.1
quiet_elements s j id (splat e is) ks m w q = q.1

-- The turn that pushes what stands behind the Array.
module _ (g : Ground) (h : Site) (x : Rest) (n low : ℕ) (k : machine.Memory) (id : ObjId) (v : Value)
    (held : slot_at k.lists h.list low ≡ V (Obj id)) (stands : slot_at k.lists h.list (low + 1) ≡ V v)
    (about : an_array k.world.store.objects (Obj id) ≡ Some id) where
  -- the world with an element more, or those of a splat
  abbrev pub more : Bool → World
  more false = with_store k.world (values.pushed k.world.store id (v ∷ []))
  more true = with_store k.world (values.push_splat (values.splat k.world.store v) id)

  abbrev told : List ℕ → (ObjId → World) → Option ObjId → State
  told instruction to o = on_object h.program instruction o low (at_line h (n + 1)) (frame_at h x n) g.below k
      (λ i. record { result = gives (Obj i); world = to i })

  pub pushed : (spread : Bool) → act h.program (push spread low) (at_line h (n + 1)) (frame_at h x n) g.below k
      ≡ state_at g h x (n + 1) (written h (machine.with_world k (more spread)) low (Obj id))
  pushed false =
      let with_one : Value → ObjId → World = λ u i. with_store k.world (values.pushed k.world.store i (u ∷ [])) in
      ap (λ (a : Slot). told (codes "ARYPUSH") (with_one (value_at k.lists h.list (low + 1)))
      (an_array k.world.store.objects (read a))) held
      ∙ ap (told (codes "ARYPUSH") (with_one (value_at k.lists h.list (low + 1)))) about
      ∙ ap (λ (a : Slot). told (codes "ARYPUSH") (with_one (read a)) (Some id)) stands
  pushed true =
      let with_all : Value → ObjId → World =
      λ u i. with_store k.world (values.push_splat (values.splat k.world.store u) i) in
      ap (λ (a : Slot). told (codes "ARYCAT") (with_all (value_at k.lists h.list (low + 1)))
      (an_array k.world.store.objects (read a))) held
      ∙ ap (told (codes "ARYCAT") (with_all (value_at k.lists h.list (low + 1)))) about
      ∙ ap (λ (a : Slot). told (codes "ARYCAT") (with_all (read a)) (Some id)) stands

module _ (g : Ground) (h : Site) (static : Static h) (j : ℕ) (ks : List Item) (m : source.Memory) (ls : List Level)
    (k : machine.Memory) (both : Common g h m (aligned k m)) where
  pub do_array : (is : Items) (d : Doing g h j (array is) ks m.place ls k.lists)
      → Quiet m (go h.source (Run (perform j (array is)) ks m))
      → Step h (Run (perform j (array is)) ks m) (state_at g h d.x d.n (aligned k m))
  unfolding do_form
  do_array is d quiet =
      let o = op.Array d.r 0 in
      let p = does o in
      let q = gather (within h d.loop) (past d.s p) d.r is in
      let id = next_number m.world.store in
      let w = with_store m.world (with_object m.world.store (items_object [])) in
      let end = d.n + high (p ⊕ q) in
      let t = kept g h static ks m k both w (quiet_elements h.source j id is ks m w quiet) (Obj id) end d.r d.loop d.covered.0 d.next in
      let tall : high p ≡ 1 = high-puts (line.Does o) in
      by_one h (Run (perform j (array is)) ks m) (state_at g h d.x d.n (aligned k m))
      (state_at g h d.x (d.n + 1) (written h (machine.with_world k w) d.r (Obj id)))
      (going (perform j (array is)) ks m (frame (frame_at h d.x d.n) ∷ g.below) (aligned k m) refl)
      (turned h d.x d.n o g.below (aligned k m) (the_line h d.n (line.Does o)
      (left_at h d.n d.s p q d.here (elements_keep is (within h d.loop) (past d.s p) d.r) d.code)))
      (on_with g h j id is ks (source.with_world m w) (written h (machine.with_world k w) d.r (Obj id)) d.x (d.n + 1) d.r
      end d.loop (past d.s p) t.common d.there d.covered.0 d.covered.1 (omega (arith, line-past d.s p, d.here, tall))
      (moved h (d.n + high p) (d.n + 1) q (omega (arith, tall)) (right h d.n p q (within_puts _ _) d.code))
      (omega (arith, tall, high-both p q)) t.held t.next)

  pub element_of : (spread : Bool) (v : Value) (id : ObjId) (about : an_array m.world.store.objects (Obj id) ≡ Some id)
      (low : ℕ) (held : slot_at k.lists h.list low ≡ V (Obj id)) (stands : slot_at k.lists h.list (low + 1) ≡ V v)
      (x : Rest) (n : ℕ)
      → with_element m id spread v ≡ source.with_world m (more g h x n low (aligned k m) id v held stands about spread)
  element_of false v id about low held stands x n = refl
  element_of true v id about low held stands x n = refl

  pub give_element : (v : Value) (i : ℕ) (q : Gathering) (id : ObjId) (spread : Bool) (is : Items)
      (d : GivesIn g h v (part (elements i q id spread is) ∷ ks) m.place ls k.lists)
      → ElementBehind h k.lists i q id spread is d.next.low d.n d.r d.next.end d.loop
      → an_array m.world.store.objects (Obj id) ≡ Some id
      → Quiet m (go h.source (Run (give v) (part (elements i q id spread is) ∷ ks) m))
      → Step h (Run (give v) (part (elements i q id spread is) ∷ ks) m) (state_at g h d.x d.n (aligned k m))
  unfolding do_give give_part
  give_element v i q id spread is d b about quiet =
      let low = d.next.low in
      let c = Run (give v) (part (elements i q id spread is) ∷ ks) m in
      let stands : slot_at k.lists h.list (low + 1) ≡ V v =
      subst (λ (a : ℕ). slot_at k.lists h.list a ≡ V v) (sym b.at) d.stands in
      let w = more g h d.x d.n low (aligned k m) id v b.held stands about spread in
      let k' = written h (machine.with_world k w) low (Obj id) in
      let goes : go h.source c ≡ next_element h.source i new_array id is ks (source.with_world m w) =
      ap (λ (o : Gathering). next_element h.source i o id is ks (with_element m id spread v)) b.gathers
      ∙ ap (next_element h.source i new_array id is ks) (element_of spread v id about low b.held stands d.x d.n) in
      let u = kept g h static ks m k both w (quiet_elements h.source i id is ks m w (subst (Quiet m) goes quiet)) (Obj id) d.next.end
      low d.loop b.room (in_loop g h k.lists ks d.next.end low d.loop d.next.outer d.next.inner d.next.next) in
      by_one h c (state_at g h d.x d.n (aligned k m)) (state_at g h d.x (d.n + 1) k')
      (going (give v) (part (elements i q id spread is) ∷ ks) m (frame (frame_at h d.x d.n) ∷ g.below) (aligned k m) refl)
      (turned h d.x d.n (push spread low) g.below (aligned k m) b.pushes
      ∙ pushed g h d.x d.n low (aligned k m) id v b.held stands about spread)
      (subst (λ (q : Config). Related h q (state_at g h d.x (d.n + 1) k')) (sym goes)
      (on_with g h i id is ks (source.with_world m w) k' d.x (d.n + 1) low d.next.end d.loop b.s u.common d.there b.room
      b.covered b.here b.code b.ends u.held u.next))
