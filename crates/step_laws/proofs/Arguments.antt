-- Calls whose arguments stand in an Array: the call takes it apart, or its block is done before.
use Rattle.std.proofs.Common.{◌≡◌, ◌⊎◌, inr, ℕ, ◌+◌, ◌<◌, List, [], ◌∷◌, refl, sym, ap, ◌∙◌, subst, arith, Bool}
use Rattle.std.specs.Prelude.{Option, None}
use Rattle.rb_value.specs.declared.value.Value.{Value}
use Rattle.rb_value.specs.declared.value.Value.TheVariants.{Obj}
use Rattle.rb_value.specs.declared.value.ObjId.{ObjId}
use Rattle.rb_value.specs.declared.value.SymId.{SymId}
use Rattle.rb_value.specs.declared.exit.Slot.TheVariants.{V}
use Rattle.rb_value.specs.Slot.{read}
use Rattle.rite_code.specs.declared.operation.Operation.{Operation}
use Rattle.rite_code.specs.declared.operation.Operation.TheVariants as op
use Rattle.ir_core.specs.CoreForm.{CoreForm, Maybe, absent, there}
use Rattle.gen_parts.specs.declared.line.Line.TheVariants as line
use Rattle.gen_parts.specs.declared.emitter.Spot.{Spot}
use Rattle.gen_forms.specs.declared.context.Loop.{Loop}
use Rattle.gen_forms.specs.Gen.{gen, symbol as entry_of}
use Rattle.def_calls.specs.Seen.{Going}
use Rattle.def_calls.specs.World.{World, activation_at}
use Rattle.def_calls.specs.Values.{elements_or_itself}
use Rattle.def_calls.specs.Calls.{Sending, by_name, to_proc, Entry}
use Rattle.def_calls.specs.Calls as calls
use Rattle.def_eval.specs.Configuration as source
use Rattle.def_eval.specs.Configuration.{Place, block, Item, part, perform, Config, Run}
use Rattle.def_eval.specs.Entering.{enter}
use Rattle.def_eval.specs.Forms.{perform_call, own_block, asked, with_arguments}
use Rattle.def_eval.specs.Transition.{go}
use Rattle.def_machine.specs.State as machine
use Rattle.def_machine.specs.State.{Registers, frame, value_at, slot_at, put, shown}
use Rattle.def_machine.specs.Entering.{enter as enter_machine}
use Rattle.def_machine.specs.Turn.{turn, act, call as call_machine}
use Rattle.step_laws.specs.Site.{Site, IsGuarded, within, place_in, at_line, LineAt, Room, number}
use Rattle.step_laws.specs.Passed.{IsAtOnce}
use Rattle.step_laws.specs.Covers.{Covers}
use Rattle.step_laws.specs.Calm.{IsSteady, Quiet, Still}
use Rattle.step_laws.specs.Bodies.{CallsBodies}
use Rattle.step_laws.specs.Measure.{burden, measure}
use Rattle.step_laws.proofs.Placed.{high, Stands, Rest, frame_at, turned}
use Rattle.step_laws.specs.Behind.{HoldsCall, PassesBlock, Callee, sending_of, SendsArray, sends_array, sends_array_self, yields_array, ArrayEnds, array_alone, array_with}
use Rattle.step_laws.specs.Relation.{Ground, InFrame, Common, Same, Related}
use Rattle.step_laws.proofs.Registers.{slot_same, slot_other, keeps_above, call_kept}
use Rattle.step_laws.proofs.Untouched.{put_only, frame_kept, grown_here, same_here, written_here}
use Rattle.step_laws.proofs.Matching.{Within, Soon, soon_one, one_more, widen, later, state_at}
use Rattle.step_laws.proofs.Calling.{From}
use Rattle.step_laws.proofs.Waiting.{asking, waiting_worlds, waiting_frame}
use Rattle.step_laws.proofs.Called.{call_entered}
use Rattle.step_laws.proofs.Entered.{then_enters, entered}
use Rattle.step_laws.proofs.Literals.{aligned}
use Rattle.step_laws.proofs.Operators.{symbol_is}

-- A call whose Array of arguments is made or gets its last one by the turn at line n, in that world; the number is that of
-- the first body behind.
pub record Filled (g : Ground) (h : Site) (ks : List Item) (l : List Registers) (w : World) (sender : Sending) (recv : Value)
    (args : List Value) (id : ObjId) (low n j : ℕ) (b : Maybe) : Type 0 where
  pub own : Bool
  pub callee : Callee
  pub loop : Option Loop
  pub s : Spot
  pub here : s.line ≡ n + 1
  pub room : Room h low
  pub room_behind : Room h (low + 1)
  pub called : HoldsCall h l own low recv []
  pub sending : sender ≡ sending_of h.source callee
  pub elements : elements_or_itself w (Obj id) ≡ args
  pub end : ℕ
  pub ends : ArrayEnds h loop callee low own s j b (n + 1) end
  pub next : InFrame g h l ks end low loop

module _ (g : Ground) (h : Site) (ks : List Item) (m : source.Memory) (k : machine.Memory)
    (both : Common g h m (aligned k m)) (at_home : m.place ≡ place_in h) (c : Config) (x : Rest) (n : ℕ)
    (from : From h c (frame (frame_at h x n) ∷ g.below) (aligned k m) m) (less : burden ks m < measure c) (w : World)
    (steady : IsSteady h.source w) (out : w.out ≡ m.world.out) (low : ℕ) (id : ObjId) (sender : Sending) (recv : Value)
    (args : List Value) (j : ℕ) (b : Maybe) (z : Filled g h ks k.lists w sender recv args id low n j b)
    (may : Still m (go h.source c) ⊎ CallsBodies h.source h.program m.world.store.objects w.store.objects) where
  abbrev l : List Registers
  l = put k.lists h.list (low + 1) (V (Obj id))

  -- the memory of the machine with that world, and with other lists
  abbrev with_lists : List Registers → machine.Memory
  with_lists us = record (machine.with_world k w) { lists = us }

  here : Same h m.scopes k.lists
  here = same_here g h m (aligned k m) both

  both_filled : Common g h m (record (aligned k m) { lists = l })
  both_filled = written_here g h m (aligned k m) both (low + 1) (Obj id) z.room_behind.above

  next_filled : InFrame g h l ks z.end low z.loop
  next_filled =
      frame_kept g h k.lists l ks z.end low z.loop
      (keeps_above h k.lists low (low + 1) (V (Obj id)) here.present (omega arith)) (put_only k.lists h.list (low + 1) (Obj id))
      (omega (arith, both.free)) z.next

  array_there : slot_at l h.list (low + 1) ≡ V (Obj id)
  array_there =
      slot_same k.lists h.list (low + 1) (V (Obj id)) here.present (omega (arith, here.long, z.room_behind.within))

  called_still : HoldsCall h l z.own low recv []
  called_still =
      call_kept h k.lists l z.own (low + 1) low recv []
      (keeps_above h k.lists (low + 1) (low + 1) (V (Obj id)) here.present (omega arith)) z.room.above (omega arith) z.called

  from_filled : From h c (frame (frame_at h x (n + 1)) ∷ g.below) (with_lists l) m
  unfolding shown
  from_filled = record { alike = ap Going out ∙ from.alike; out = out; quiet = from.quiet }

  abbrev the_entry : Sending → Entry
  the_entry q = calls.call w (activation_at w h.activation) q recv args None

  goes_in : (q : Sending) → sender ≡ q → own_block q (source.with_world m w) ≡ None
      → asked q (source.with_world m w) ≡ source.with_world m w
      → go h.source c ≡ with_arguments h.source j sender recv args absent ks (source.with_world m w)
      → go h.source c ≡ enter h.source (the_entry q) None ks (source.with_world m w)
  goes_in q e unblocked unasked goes =
      goes
      ∙ ap (λ (i : Sending). with_arguments h.source j i recv args absent ks (source.with_world m w)) e
      ∙ ap (λ (o : Option ObjId). perform_call h.source q recv args o ks (asked q (source.with_world m w))) unblocked
      ∙ ap (perform_call h.source q recv args None ks) unasked
      ∙ ap (λ (p : Place). enter h.source (calls.call w (activation_at w p.activation) q recv args None) None ks
      (source.with_world m w)) at_home

  -- The call, in a list of registers with the Array and what is called.
  called_in : (us : List Registers) (q : Sending) → Common g h m (record (aligned k m) { lists = us })
      → IsGuarded h (n + 1) → InFrame g h us ks (n + 1 + 1) low z.loop → value_at us h.list low ≡ recv → value_at us h.list (low + 1) ≡ Obj id
      → go h.source c ≡ enter h.source (the_entry q) None ks (source.with_world m w)
      → turn h.program (state_at g h x (n + 1) (with_lists l))
      ≡ call_machine h.program q low 255 None (at_line h (n + 1 + 1)) (frame_at h x (n + 1)) g.below (with_lists us)
      → Soon h.source h.program c (state_at g h x (n + 1) (with_lists l))
  called_in us q both' guarded next first second goes turns =
      let k' = with_lists us in
      let f = frame_at h (asking h x (n + 1) low) (n + 1) in
      entered h.source h.program c (frame (frame_at h x (n + 1)) ∷ g.below) (with_lists l) m from_filled (the_entry q) None ks
      (source.with_world m w) g (frame f ∷ g.below) k' goes
      (turns
      ∙ ap (λ (u : Value). enter_machine h.program (calls.call w (activation_at w h.activation) q u
      (elements_or_itself w (value_at us h.list (low + 1))) None) None (frame f ∷ g.below) k') first
      ∙ ap (λ (u : Value). enter_machine h.program (calls.call w (activation_at w h.activation) q recv
      (elements_or_itself w u) None) None (frame f ∷ g.below) k') second
      ∙ ap (λ (vs : List Value). enter_machine h.program (calls.call w (activation_at w h.activation) q recv vs None) None
      (frame f ∷ g.below) k') z.elements)
      less refl (waiting_worlds g h m (record (aligned k m) { lists = us }) both' f refl)
      (waiting_frame g h ks m x (n + 1) low z.loop k' at_home both.site z.room guarded next)
      (then_enters h.source h.program m.world.store.objects w.store.objects (the_entry q)
      (λ is. call_entered h.source h.program m.world.store.objects w is (activation_at w h.activation) q recv args None) may)

  -- where nothing but the call stands behind the Array
  alone_on : (o : Operation) → SendsArray h low z.callee z.own o → LineAt h (n + 1) (line.Does o) → n + 1 + 1 ≡ z.end
      → go h.source c ≡ with_arguments h.source j sender recv args absent ks (source.with_world m w)
      → Soon h.source h.program c (state_at g h x (n + 1) (with_lists l))
  alone_on o sends at tall goes = by sends
    where
      next : InFrame g h l ks (n + 1 + 1) low z.loop
      next = subst (λ (i : ℕ). InFrame g h l ks i low z.loop) (sym tall) next_filled

      sends_it : (i : Operation) → o ≡ i → turn h.program (state_at g h x (n + 1) (with_lists l))
          ≡ act h.program i (at_line h (n + 1 + 1)) (frame_at h x (n + 1)) g.below (with_lists l)
      sends_it i e =
          turned h x (n + 1) o g.below (with_lists l) at
          ∙ ap (λ (q : Operation). act h.program q (at_line h (n + 1 + 1)) (frame_at h x (n + 1)) g.below (with_lists l)) e

      by : SendsArray h low z.callee z.own o → Soon h.source h.program c (state_at g h x (n + 1) (with_lists l))
      by (sends_array y q own named e) =
          let held = subst (λ (t : Bool). HoldsCall h l t low recv []) own called_still in
          called_in l (by_name (number h.source y)) both_filled at.guarded next (ap read held.0) (ap read array_there)
          (goes_in (by_name (number h.source y)) (z.sending ∙ ap (sending_of h.source) q) refl refl goes)
          (sends_it (op.Send low (entry_of h.context y) 255) e
          ∙ ap (λ (s : SymId). call_machine h.program (by_name s) low 255 None (at_line h (n + 1 + 1)) (frame_at h x (n + 1))
          g.below (with_lists l)) (symbol_is h x (n + 1) (with_lists l) y steady named))
      by (sends_array_self y q own named e) =
          let held = subst (λ (t : Bool). HoldsCall h l t low recv []) own called_still in
          let s = same_here g h m (record (aligned k m) { lists = l }) both_filled in
          let u = value_at l h.list 0 in
          let us = put l h.list low (V u) in
          let first : value_at us h.list low ≡ recv =
          ap read (slot_same l h.list low (V u) s.present (omega (arith, s.long, z.room.within))) ∙ s.self ∙ sym held.0 in
          called_in us (by_name (number h.source y))
          (written_here g h m (record (aligned k m) { lists = l }) both_filled low u z.room.above) at.guarded
          (frame_kept g h l us ks (n + 1 + 1) low z.loop (keeps_above h l low low (V u) s.present (omega arith))
          (put_only l h.list low u) (omega (arith, both.free)) next) first
          (ap read (slot_other l h.list low (low + 1) (V u) s.present (omega arith) ∙ array_there))
          (goes_in (by_name (number h.source y)) (z.sending ∙ ap (sending_of h.source) q) refl refl goes)
          (sends_it (op.SSend low (entry_of h.context y) 255) e
          ∙ ap (λ (i : SymId). call_machine h.program (by_name i) low 255 None (at_line h (n + 1 + 1)) (frame_at h x (n + 1))
          g.below (with_lists us)) (symbol_is h x (n + 1) (with_lists us) y steady named))
      by (yields_array q own e) =
          let held = subst (λ (t : Bool). HoldsCall h l t low recv []) own called_still in
          called_in l to_proc both_filled at.guarded next (ap read held.0) (ap read array_there)
          (goes_in to_proc (z.sending ∙ ap (sending_of h.source) q) refl refl goes) (sends_it (op.Call low 255) e)

  -- where the block stands behind it
  block_on : (e : CoreForm) (o : Operation) → IsAtOnce e
      → PassesBlock h low z.own (sending_of h.source z.callee) 255 o
      → Covers h z.loop (low + 1 + 1) z.s j e → Stands h (n + 1) (gen (within h z.loop) z.s (low + 1 + 1) e)
      → LineAt h (n + 1 + high (gen (within h z.loop) z.s (low + 1 + 1) e)) (line.Does o)
      → n + 1 + high (gen (within h z.loop) z.s (low + 1 + 1) e) + 1 ≡ z.end
      → go h.source c ≡ Run (perform j e) (part (block sender recv args) ∷ ks) (source.with_world m w)
      → Related h (go h.source c) (state_at g h x (n + 1) (with_lists l))
  block_on e o at_once passes covered code at tall goes =
      let quiet = subst (Quiet m) goes from.quiet in
      subst (λ (d : Config). Related h d (state_at g h x (n + 1) (with_lists l))) (sym goes) (inr (
        g,
        h,
        grown_here g h m (record (aligned k m) { lists = l }) both_filled w quiet.1,
        record {
          x = x;
          n = n + 1;
          r = low + 1 + 1;
          is = refl;
          there = at_home;
          at_once = at_once;
          loop = z.loop;
          s = z.s;
          here = z.here;
          covered = covered;
          code = code;
          hands = record {
            low = low;
            at = refl;
            own = z.own;
            room = z.room;
            called = called_still;
            id = id;
            held = array_there;
            elements = z.elements;
            sender = o;
            passes = subst (λ (i : Sending). PassesBlock h low z.own i 255 o) (sym z.sending) passes;
            sends = at;
            next = subst (λ (i : ℕ). InFrame g h l ks i low z.loop) (sym tall) next_filled;
          };
        },
      ))

  pub array_on : turn h.program (state_at g h x n (aligned k m)) ≡ state_at g h x (n + 1) (with_lists l)
      → go h.source c ≡ with_arguments h.source j sender recv args b ks (source.with_world m w)
      → Within 6 h.source h.program c (state_at g h x n (aligned k m))
  array_on turns goes = by z.ends
    where
      given : (mb : Maybe) → b ≡ mb
          → go h.source c ≡ with_arguments h.source j sender recv args mb ks (source.with_world m w)
      given mb e = goes
          ∙ ap (λ (q : Maybe). with_arguments h.source j sender recv args q ks (source.with_world m w)) e

      by : ArrayEnds h z.loop z.callee low z.own z.s j b (n + 1) z.end
          → Within 6 h.source h.program c (state_at g h x n (aligned k m))
      by (array_alone o none sends at tall) =
          widen 4 6 (omega arith) h.source h.program c (state_at g h x n (aligned k m))
          (one_more 3 (omega arith) h.source h.program c (state_at g h x n (aligned k m)) (state_at g h x (n + 1) (with_lists l))
          from.alike turns (alone_on o sends at tall (given absent none)))
      by (array_with e o is at_once passes covered code at tall) =
          later h.source h.program c (state_at g h x n (aligned k m))
          (soon_one h.source h.program c (state_at g h x n (aligned k m)) (state_at g h x (n + 1) (with_lists l)) from.alike turns
          (block_on e o at_once passes covered code at tall (given (there e) is)))
