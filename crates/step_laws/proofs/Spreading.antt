-- Arguments with splats: the Array that gathers them stands in the register behind what is called, and gets each of them, or
-- those of a splat.
use Rattle.std.proofs.Common.{◌≡◌, ◌⊎◌, ℕ, ◌+◌, List, [], ◌∷◌, refl, sym, ap, ◌∙◌, subst, arith, Bool, true, false, true≢false}
use Rattle.std.specs.Prelude.{Option, Some}
use Rattle.rb_value.specs.declared.value.Value.{Value}
use Rattle.rb_value.specs.declared.value.Value.TheVariants.{Obj}
use Rattle.rb_value.specs.declared.value.ObjId.{ObjId}
use Rattle.rb_value.specs.declared.exit.Slot.TheVariants.{V}
use Rattle.rite_code.specs.declared.operation.Operation.TheVariants as op
use Rattle.ir_core.specs.CoreForm.{CoreForm, Maybe, Items, no_items, plain, splat}
use Rattle.ir_walk.specs.Width.{has_splat}
use Rattle.gen_parts.specs.declared.line.Line.TheVariants as line
use Rattle.gen_parts.specs.declared.emitter.Spot.{Spot}
use Rattle.gen_parts.specs.Pieces.{Piece, past, does, nothing, ◌⊕◌}
use Rattle.gen_parts.proofs.Laws.{past-both, past-nothing}
use Rattle.gen_forms.specs.declared.context.Loop.{Loop}
use Rattle.gen_forms.specs.Gen.{gen, gather}
use Rattle.def_core.specs.Store.{next_number, with_object}
use Rattle.def_rows.specs.Answers.{items_object}
use Rattle.def_calls.specs.World.{World, with_store}
use Rattle.def_calls.specs.Values.{elements_or_itself}
use Rattle.def_calls.specs.Views.{an_array}
use Rattle.def_calls.specs.Calls.{Sending}
use Rattle.def_eval.specs.Source.{Source, span}
use Rattle.def_eval.specs.Configuration as source
use Rattle.def_eval.specs.Configuration.{Gathering, arguments_of, elements, Item, part, perform, give, Config, Run}
use Rattle.def_eval.specs.Forms.{next_element, gather as gather_all}
use Rattle.def_eval.specs.Giving.{with_element, give_part, do_give}
use Rattle.def_eval.specs.Transition.{go}
use Rattle.def_machine.specs.State as machine
use Rattle.def_machine.specs.State.{Registers, Level, frame, slot_at, put}
use Rattle.def_machine.specs.Turn.{turn}
use Rattle.eval_laws.specs.Standing.{past_items}
use Rattle.step_laws.specs.Site.{Site, within, place_in, Room}
use Rattle.step_laws.specs.Covers.{past_new, Covers, CoversElements}
use Rattle.step_laws.specs.Calm.{Grows, IsSteady, Quiet, Still, Peace}
use Rattle.step_laws.specs.Bodies.{CallsBodies}
use Rattle.step_laws.proofs.Placed.{high, high-both, high-puts, high-nothing, line-past, Stands, moved, Keeps, within_puts, left, left_at, right_at, the_line, Rest, frame_at, turned}
use Rattle.step_laws.specs.Behind.{Static, HoldsCall, push, Callee, sending_of, ArrayEnds, GatheredAt, ArgumentBehind, in_call}
use Rattle.step_laws.specs.Relation.{Ground, InFrame, Common, GivesIn, Related, Step}
use Rattle.step_laws.proofs.Registers.{slot_same, keeps_above, call_kept}
use Rattle.step_laws.proofs.Untouched.{put_only, frame_kept, grown_here, same_here, written_here}
use Rattle.step_laws.proofs.Matching.{Soon, soon_one, by_one, in_loop, going, state_at, written}
use Rattle.step_laws.proofs.Calling.{From}
use Rattle.step_laws.proofs.Literals.{aligned}
use Rattle.step_laws.proofs.Within.{keeps_ends, keeps, elements_keep}
use Rattle.step_laws.proofs.Packing.{steady_kept, splat_symbols}
use Rattle.step_laws.proofs.Arguments.{array_on}
use Rattle.step_laws.proofs.Arrays.{more, pushed, element_of}

array_moved : (h : Site) (around : Option Loop) (q : Callee) (low : ℕ) (own : Bool) (s s' : Spot) (j : ℕ) (b : Maybe)
    (n n' end : ℕ) → s ≡ s' → n ≡ n' → ArrayEnds h around q low own s j b n end → ArrayEnds h around q low own s' j b n' end
array_moved h around q low own s s' j b n n' end same_spot same_line e =
    subst (λ (t : Spot). ArrayEnds h around q low own t j b n' end) same_spot
    (subst (λ (i : ℕ). ArrayEnds h around q low own s j b i end) same_line e)

-- A call whose Array has got some of its arguments, before the code of the others at line n; the number is that of the first
-- body in them.
record ArgumentSite (g : Ground) (h : Site) (ks : List Item) (l : List Registers) (sender : Sending) (recv : Value)
    (id : ObjId) (is : Items) (n j : ℕ) (b : Maybe) : Type 0 where
  pub low : ℕ
  pub own : Bool
  pub callee : Callee
  pub loop : Option Loop
  pub s : Spot
  pub here : s.line ≡ n
  pub room : Room h low
  pub room_behind : Room h (low + 1)
  pub called : HoldsCall h l own low recv []
  pub sending : sender ≡ sending_of h.source callee
  pub held : slot_at l h.list (low + 1) ≡ V (Obj id)
  pub covered : CoversElements h loop (low + 1) s j is
  pub code : Stands h n (gather (within h loop) s (low + 1) is)
  pub end : ℕ
  pub ends : ArrayEnds h loop callee low own (past s (gather (within h loop) s (low + 1) is)) (past_items j is) b
      (n + high (gather (within h loop) s (low + 1) is)) end
  pub next : InFrame g h l ks end low loop

-- the next argument is about to be done
argument_on : (g : Ground) (h : Site) (ks : List Item) (m : source.Memory) (k : machine.Memory) (x : Rest) (n j : ℕ)
    (sender : Sending) (recv : Value) (id : ObjId) (b : Maybe) (e : CoreForm) (is all : Items) (spread : Bool)
    → Common g h m k → m.place ≡ place_in h → (z : ArgumentSite g h ks k.lists sender recv id all n j b)
    → Covers h z.loop (z.low + 1 + 1) z.s j e
    → CoversElements h z.loop (z.low + 1)
    (past z.s (gen (within h z.loop) z.s (z.low + 1 + 1) e ⊕ does (push spread (z.low + 1)))) (j + span e) is
    → gather (within h z.loop) z.s (z.low + 1) all
    ≡ (gen (within h z.loop) z.s (z.low + 1 + 1) e ⊕ does (push spread (z.low + 1)))
    ⊕ gather (within h z.loop) (past z.s (gen (within h z.loop) z.s (z.low + 1 + 1) e ⊕ does (push spread (z.low + 1))))
    (z.low + 1) is
    → past_items j all ≡ past_items (j + span e) is
    → Related h (Run (perform j e) (part (elements (j + span e) (arguments_of sender recv b) id spread is) ∷ ks) m)
    (state_at g h x n k)
argument_on g h ks m k x n j sender recv id b e is all spread both there z covered others same numbers =
    let c = within h z.loop in
    let p = gen c z.s (z.low + 1 + 1) e in
    let o = push spread (z.low + 1) in
    let one = p ⊕ does o in
    let q = gather c (past z.s one) (z.low + 1) is in
    let code : Stands h n (one ⊕ q) = subst (Stands h n) same z.code in
    let kept_first : Keeps z.s p = keeps e c z.s (z.low + 1 + 1) in
    let first = left_at h n z.s one q z.here (elements_keep is c (past z.s one) (z.low + 1)) code in
    let tall : high one ≡ high p + 1 = omega (arith, high-both p (does o), high-puts (line.Does o)) in
    let ends : ArrayEnds h z.loop z.callee z.low z.own (past z.s (one ⊕ q)) (past_items (j + span e) is) b
    (n + high (one ⊕ q)) z.end =
    subst (λ (i : ℕ). ArrayEnds h z.loop z.callee z.low z.own (past z.s (one ⊕ q)) i b (n + high (one ⊕ q)) z.end) numbers
    (subst (λ (u : Piece). ArrayEnds h z.loop z.callee z.low z.own (past z.s u) (past_items j all) b (n + high u) z.end) same
    z.ends) in (
      g,
      h,
      both,
      record {
        x = x;
        n = n;
        r = z.low + 1 + 1;
        is = refl;
        there = there;
        loop = z.loop;
        s = z.s;
        here = z.here;
        covered = covered;
        above = omega (arith, z.room.above);
        code = left h n p (does o) (within_puts _ _) first;
        next = record {
          low = z.low;
          end = z.end;
          above = z.room.above;
          below = omega arith;
          behind = in_call (record {
            at = refl;
            sender = sender;
            recv = recv;
            given = b;
            gathers = refl;
            callee = z.callee;
            sending = z.sending;
            own = z.own;
            called = z.called;
            held = z.held;
            s = past z.s one;
            here = omega (arith, line-past z.s one, z.here, tall);
            room = z.room;
            room_behind = z.room_behind;
            covered = others;
            pushes = the_line h (n + high p) (line.Does o) (right_at h n z.s p (does o) z.here kept_first first);
            code = moved h (n + high one) (n + high p + 1) q (omega (arith, tall))
                (right_at h n z.s one q z.here (keeps_ends z.s p (line.Does o) kept_first) code);
            ends = array_moved h z.loop z.callee z.low z.own (past z.s (one ⊕ q)) (past (past z.s one) q)
                (past_items (j + span e) is) b (n + high (one ⊕ q)) (n + high p + 1 + high q) z.end (past-both z.s one q)
                (omega (arith, tall, high-both one q)) ends;
          });
          outer = z.loop;
          inner = refl;
          next = z.next;
        };
      },
    )

quiet_arguments : (s : Source) (j : ℕ) (sender : Sending) (recv : Value) (b : Maybe) (id : ObjId) (is : Items)
    (ks : List Item) (m : source.Memory) (w : World) → has_splat is ≡ true
    → Quiet m (next_element s j (arguments_of sender recv b) id is ks (source.with_world m w)) → Grows m.world w
quiet_arguments s j sender recv b id no_items ks m w some q = absurd (true≢false (sym some))
quiet_arguments s j sender recv b id (plain e is) ks m w some q = q.1
quiet_arguments s j sender recv b id (splat e is) ks m w some q = q.1

-- the first one, where there is one
first_argument : (g : Ground) (h : Site) (ks : List Item) (m : source.Memory) (k : machine.Memory) (x : Rest) (n j : ℕ)
    (sender : Sending) (recv : Value) (id : ObjId) (b : Maybe) (is : Items) → has_splat is ≡ true → Common g h m k
    → m.place ≡ place_in h → ArgumentSite g h ks k.lists sender recv id is n j b
    → Related h (next_element h.source j (arguments_of sender recv b) id is ks m) (state_at g h x n k)
first_argument g h ks m k x n j sender recv id b no_items some both there z = absurd (true≢false (sym some))
first_argument g h ks m k x n j sender recv id b (plain e is) some both there z =
    argument_on g h ks m k x n j sender recv id b e is (plain e is) false both there z z.covered.0 z.covered.1 refl refl
first_argument g h ks m k x n j sender recv id b (splat e is) some both there z =
    argument_on g h ks m k x n j sender recv id b e is (splat e is) true both there z z.covered.0 z.covered.1 refl refl

-- What the memory of the machine has after a turn that writes an Array behind what is called.
record Gathers (g : Ground) (h : Site) (ks : List Item) (m : source.Memory) (k : machine.Memory) (w : World) (recv : Value)
    (id : ObjId) (low : ℕ) (own : Bool) (end : ℕ) (loop : Option Loop) : Type 0 where
  pub common : Common g h (source.with_world m w) (written h (machine.with_world k w) (low + 1) (Obj id))
  pub called : HoldsCall h (put k.lists h.list (low + 1) (V (Obj id))) own low recv []
  pub held : slot_at (put k.lists h.list (low + 1) (V (Obj id))) h.list (low + 1) ≡ V (Obj id)
  pub next : InFrame g h (put k.lists h.list (low + 1) (V (Obj id))) ks end low loop

gathers : (g : Ground) (h : Site) (ks : List Item) (m : source.Memory) (k : machine.Memory) → Common g h m (aligned k m)
    → (w : World) → Grows m.world w → (recv : Value) (id : ObjId) (low : ℕ) (own : Bool) (end : ℕ) (loop : Option Loop)
    → Room h low → Room h (low + 1) → HoldsCall h k.lists own low recv [] → InFrame g h k.lists ks end low loop
    → Gathers g h ks m k w recv id low own end loop
gathers g h ks m k both w grows recv id low own end loop room behind called next =
    let v = V (Obj id) in
    let l = put k.lists h.list (low + 1) v in
    let s = same_here g h m (aligned k m) both in
    let b = grown_here g h m (aligned k m) both w grows in
    record {
      common = written_here g h (source.with_world m w) (machine.with_world k w) b (low + 1) (Obj id) behind.above;
      called = call_kept h k.lists l own (low + 1) low recv []
          (keeps_above h k.lists (low + 1) (low + 1) v s.present (omega arith)) room.above (omega arith) called;
      held = slot_same k.lists h.list (low + 1) v s.present (omega (arith, s.long, behind.within));
      next = frame_kept g h k.lists l ks end low loop (keeps_above h k.lists low (low + 1) v s.present (omega arith))
          (put_only k.lists h.list (low + 1) (Obj id)) (omega (arith, both.free)) next;
    }

-- The Array is made.
pub spread_on : (g : Ground) (h : Site) (ks : List Item) (m : source.Memory) (k : machine.Memory)
    → Common g h m (aligned k m) → m.place ≡ place_in h → (c : Config) (x : Rest) (n j : ℕ)
    → From h c (frame (frame_at h x n) ∷ g.below) (aligned k m) m → (sender : Sending) (recv : Value) (is : Items)
    (b : Maybe) (q : Callee) (low : ℕ) (own : Bool) (s : Spot) (end : ℕ) (loop : Option Loop)
    → GatheredAt h loop q low own is s j b n end → s.line ≡ n → Room h low → HoldsCall h k.lists own low recv []
    → sender ≡ sending_of h.source q → InFrame g h k.lists ks end low loop
    → go h.source c ≡ gather_all h.source j (arguments_of sender recv b) is ks m
    → Soon h.source h.program c (state_at g h x n (aligned k m))
spread_on g h ks m k both there c x n j from sender recv is b q low own s end loop z here room called sending next goes =
    let id = next_number m.world.store in
    let w = with_store m.world (with_object m.world.store (items_object [])) in
    let k' = written h (machine.with_world k w) (low + 1) (Obj id) in
    let grows = quiet_arguments h.source j sender recv b id is ks m w z.spread (subst (Quiet m) goes from.quiet) in
    let t = gathers g h ks m k both w grows recv id low own end loop room z.room_behind called next in
    let o = op.Array (low + 1) 0 in
    soon_one h.source h.program c (state_at g h x n (aligned k m)) (state_at g h x (n + 1) k') from.alike
    (turned h x n o g.below (aligned k m) z.makes)
    (subst (λ (d : Config). Related h d (state_at g h x (n + 1) k')) (sym goes)
    (first_argument g h ks (source.with_world m w) k' x (n + 1) j sender recv id b is z.spread t.common there (record {
      low = low;
      own = own;
      callee = q;
      loop = loop;
      s = past_new (low + 1) s;
      here = omega (arith, line-past s (does o), high-puts (line.Does o), here);
      room = room;
      room_behind = z.room_behind;
      called = t.called;
      sending = sending;
      held = t.held;
      covered = z.covered;
      code = z.code;
      end = end;
      ends = z.ends;
      next = t.next;
    })))

module _ (g : Ground) (h : Site) (static : Static h) (ks : List Item) (m : source.Memory) (ls : List Level)
    (k : machine.Memory) (both : Common g h m (aligned k m)) (steady : IsSteady h.source m.world) where
  -- An argument has its value, or those of a splat.
  module _ (v : Value) (i : ℕ) (q : Gathering) (id : ObjId) (spread : Bool) (all : Items)
      (d : GivesIn g h v (part (elements i q id spread all) ∷ ks) m.place ls k.lists)
      (b : ArgumentBehind h k.lists i q id spread all d.next.low d.n d.r d.next.end d.loop)
      (about : an_array m.world.store.objects (Obj id) ≡ Some id)
      (peace : Peace h.source h.program (give v) (part (elements i q id spread all) ∷ ks) m) where
    abbrev low : ℕ
    low = d.next.low

    abbrev conf : Config
    conf = Run (give v) (part (elements i q id spread all) ∷ ks) m

    stands : slot_at k.lists h.list (low + 1 + 1) ≡ V v
    stands = subst (λ (a : ℕ). slot_at k.lists h.list a ≡ V v) (sym b.at) d.stands

    abbrev w : World
    w = more g h d.x d.n (low + 1) (aligned k m) id v b.held stands about spread

    abbrev k' : machine.Memory
    k' = written h (machine.with_world k w) (low + 1) (Obj id)

    grown : with_element m id spread v ≡ source.with_world m w
    grown = element_of g h static i ks m ls k both spread v id about (low + 1) b.held stands d.x d.n

    goes : go h.source conf ≡ next_element h.source i (arguments_of b.sender b.recv b.given) id all ks (source.with_world m w)
    unfolding do_give give_part
    goes =
        ap (λ (o : Gathering). next_element h.source i o id all ks (with_element m id spread v)) b.gathers
        ∙ ap (next_element h.source i (arguments_of b.sender b.recv b.given) id all ks) grown

    turns : turn h.program (state_at g h d.x d.n (aligned k m)) ≡ state_at g h d.x (d.n + 1) k'
    turns =
        turned h d.x d.n (push spread (low + 1)) g.below (aligned k m) b.pushes
        ∙ pushed g h d.x d.n (low + 1) (aligned k m) id v b.held stands about spread

    from : From h conf (frame (frame_at h d.x d.n) ∷ g.below) (aligned k m) m
    from = record {
      alike = going (give v) (part (elements i q id spread all) ∷ ks) m (frame (frame_at h d.x d.n) ∷ g.below) (aligned k m)
          refl;
      out = refl;
      quiet = peace.quiet;
    }

    next : InFrame g h k.lists ks d.next.end low d.loop
    next = in_loop g h k.lists ks d.next.end low d.loop d.next.outer d.next.inner d.next.next

    may : Still m (go h.source conf) ⊎ CallsBodies h.source h.program m.world.store.objects w.store.objects
    may = subst (λ (l : source.Memory). Still m (go h.source conf)
        ⊎ CallsBodies h.source h.program m.world.store.objects l.world.store.objects) grown peace.calls

    symbols : w.store.symbols ≡ m.world.store.symbols
    symbols = by spread
      where
        by : (t : Bool) → (more g h d.x d.n (low + 1) (aligned k m) id v b.held stands about t).store.symbols
            ≡ m.world.store.symbols
        by false = refl
        by true = splat_symbols m.world.store v

    out : w.out ≡ m.world.out
    out = by spread
      where
        by : (t : Bool) → (more g h d.x d.n (low + 1) (aligned k m) id v b.held stands about t).out ≡ m.world.out
        by false = refl
        by true = refl

    -- the next one
    goes_on : (e : CoreForm) (is : Items) (t : Bool)
        → go h.source conf
        ≡ Run (perform i e) (part (elements (i + span e) (arguments_of b.sender b.recv b.given) id t is) ∷ ks)
        (source.with_world m w)
        → ((z : ArgumentSite g h ks k'.lists b.sender b.recv id all (d.n + 1) i b.given)
        → Common g h (source.with_world m w) k'
        → Related h (Run (perform i e) (part (elements (i + span e) (arguments_of b.sender b.recv b.given) id t is) ∷ ks)
        (source.with_world m w)) (state_at g h d.x (d.n + 1) k'))
        → Step h conf (state_at g h d.x d.n (aligned k m))
    goes_on e is t went to =
        let quiet = subst (Quiet m) went peace.quiet in
        let u = gathers g h ks m k both w quiet.1 b.recv id low b.own d.next.end d.loop b.room b.room_behind b.called next in
        by_one h conf (state_at g h d.x d.n (aligned k m)) (state_at g h d.x (d.n + 1) k') from.alike turns
        (subst (λ (c : Config). Related h c (state_at g h d.x (d.n + 1) k')) (sym went) (to (record {
          low = low;
          own = b.own;
          callee = b.callee;
          loop = d.loop;
          s = b.s;
          here = b.here;
          room = b.room;
          room_behind = b.room_behind;
          called = u.called;
          sending = b.sending;
          held = u.held;
          covered = b.covered;
          code = b.code;
          end = d.next.end;
          ends = b.ends;
          next = u.next;
        }) u.common))

    -- or the call
    calls : all ≡ no_items → Step h conf (state_at g h d.x d.n (aligned k m))
    calls none =
        let args = elements_or_itself w (Obj id) in
        let piece : Items → Piece = λ is. gather (within h d.loop) b.s (low + 1) is in
        (array_on g h ks m k both d.there conf d.x d.n from (omega arith) w (steady_kept h.source m.world w symbols steady) out
        low id b.sender b.recv args i b.given (record {
          own = b.own;
          callee = b.callee;
          loop = d.loop;
          s = b.s;
          here = b.here;
          room = b.room;
          room_behind = b.room_behind;
          called = b.called;
          sending = b.sending;
          elements = refl;
          end = d.next.end;
          ends = array_moved h d.loop b.callee low b.own (past b.s nothing) b.s i b.given (d.n + 1 + high nothing) (d.n + 1)
              d.next.end (past-nothing b.s) (omega (arith, high-nothing))
              (subst (λ (is : Items). ArrayEnds h d.loop b.callee low b.own (past b.s (piece is)) (past_items i is) b.given
              (d.n + 1 + high (piece is)) d.next.end) none b.ends);
          next = next;
        }) may turns
        (goes ∙ ap (λ (is : Items). next_element h.source i (arguments_of b.sender b.recv b.given) id is ks
        (source.with_world m w)) none)).advances

  pub give_argument : (v : Value) (i : ℕ) (q : Gathering) (id : ObjId) (spread : Bool) (all : Items)
      (d : GivesIn g h v (part (elements i q id spread all) ∷ ks) m.place ls k.lists)
      → ArgumentBehind h k.lists i q id spread all d.next.low d.n d.r d.next.end d.loop
      → an_array m.world.store.objects (Obj id) ≡ Some id
      → Peace h.source h.program (give v) (part (elements i q id spread all) ∷ ks) m
      → Step h (Run (give v) (part (elements i q id spread all) ∷ ks) m) (state_at g h d.x d.n (aligned k m))
  give_argument v i q id spread no_items d b about peace = calls v i q id spread no_items d b about peace refl
  give_argument v i q id spread (plain e is) d b about peace =
      goes_on v i q id spread (plain e is) d b about peace e is false (goes v i q id spread (plain e is) d b about peace)
      (λ z common. argument_on g h ks (source.with_world m (w v i q id spread (plain e is) d b about peace))
      (k' v i q id spread (plain e is) d b about peace) d.x (d.n + 1) i b.sender b.recv id b.given e is (plain e is) false
      common d.there z z.covered.0 z.covered.1 refl refl)
  give_argument v i q id spread (splat e is) d b about peace =
      goes_on v i q id spread (splat e is) d b about peace e is true (goes v i q id spread (splat e is) d b about peace)
      (λ z common. argument_on g h ks (source.with_world m (w v i q id spread (splat e is) d b about peace))
      (k' v i q id spread (splat e is) d b about peace) d.x (d.n + 1) i b.sender b.recv id b.given e is (splat e is) true
      common d.there z z.covered.0 z.covered.1 refl refl)
