-- Calls: the receiver, the items one after the other, and the call.
use Rattle.std.proofs.Common.{◌≡◌, ◌⊎◌, inl, ℕ, ◌+◌, ◌<◌, List, ◌∷◌, refl, sym, ap, ◌∙◌, subst, arith, length, Bool, true, false}
use Rattle.std.specs.Prelude.{if◌then◌else◌, Option, None, nat_lt}
use Rattle.rb_value.specs.declared.value.Value.{Value}
use Rattle.rb_value.specs.declared.value.ObjId.{ObjId}
use Rattle.rb_value.specs.declared.exit.Slot.TheVariants.{V}
use Rattle.rb_value.specs.Slot.{read}
use Rattle.rite_code.specs.declared.operation.Operation.{Operation}
use Rattle.rite_code.specs.declared.operation.Operation.TheVariants as op
use Rattle.ir_counts.specs.Tables.{item_count}
use Rattle.ir_core.specs.CoreForm.{Name, CoreForm, Maybe, absent, there, Items, no_items, plain, splat}
use Rattle.gen_parts.specs.declared.line.Line.TheVariants as line
use Rattle.gen_parts.specs.declared.emitter.Spot.{Spot}
use Rattle.gen_parts.specs.Pieces.{past, does, nothing, ◌⊕◌}
use Rattle.gen_parts.proofs.Laws.{past-both}
use Rattle.gen_forms.specs.declared.context.Loop.{Loop}
use Rattle.gen_forms.specs.Gen.{gen, pass_in_registers, symbol as entry_of}
use Rattle.def_core.specs.Store.{next_number, with_object}
use Rattle.def_rows.specs.Answers.{items_object}
use Rattle.def_calls.specs.World.{World, with_store, activation_at}
use Rattle.def_calls.specs.Calls.{Sending, by_name, to_proc, to_super, Entry}
use Rattle.def_calls.specs.Calls as calls
use Rattle.def_eval.specs.Configuration as source
use Rattle.eval_laws.specs.Standing.{past_items}
use Rattle.def_eval.specs.Configuration.{Place, block, Item, part, perform, Config, Run}
use Rattle.def_eval.specs.Scopes.{running}
use Rattle.def_eval.specs.Entering.{enter}
use Rattle.def_eval.specs.Forms.{perform_call, own_block, asked, with_arguments, packed as packed_in, next_item}
use Rattle.def_eval.specs.Transition.{go}
use Rattle.def_machine.specs.State as machine
use Rattle.def_machine.specs.State.{Registers, frame, value_at}
use Rattle.def_machine.specs.Entering.{enter as enter_machine}
use Rattle.def_machine.specs.Unwind.{after as after_machine}
use Rattle.def_machine.specs.Turn.{turn, call as call_machine, row, make_array, arguments}
use Rattle.step_laws.specs.Site.{Site, IsGuarded, within, place_in, at_line, LineAt, Room, number}
use Rattle.step_laws.specs.Covers.{past_items_code, Covers, CoversItems}
use Rattle.step_laws.specs.Calm.{IsSteady, IsBlock, Still}
use Rattle.step_laws.specs.Bodies.{EntersBody, CallsBodies}
use Rattle.step_laws.specs.Measure.{size, size_items, size_block, burden, measure}
use Rattle.step_laws.proofs.Placed.{high, high-both, high-puts, high-nothing, line-past, Stands, left_at, right_at, Rest, frame_at, turned}
use Rattle.step_laws.proofs.Within.{keeps, items_keep}
use Rattle.step_laws.proofs.Matching.{Within, Soon, soon_none, later, state_at, written}
use Rattle.step_laws.specs.Behind.{Static, Holds, HoldsCall, CallBy, block_sender, PassesBlock, Callee, a_method, sending_of, ArrayEnds, CallEnds, alone, with_block, packed, ItemsEnd, by_call, by_yield, by_block, AsksBlock, by_own, by_array}
use Rattle.step_laws.specs.Relation.{Ground, InFrame, Common, Related}
use Rattle.step_laws.proofs.Registers.{slot_same, keeps_above}
use Rattle.step_laws.proofs.Untouched.{put_only, frame_kept, same_here, written_here}
use Rattle.step_laws.proofs.Calling.{From}
use Rattle.step_laws.proofs.Waiting.{asking, waiting_worlds, waiting_frame}
use Rattle.step_laws.proofs.Packing.{steady_kept, new_elements, items_held, called_held, items_kept}
use Rattle.step_laws.proofs.Arguments.{array_on}
use Rattle.step_laws.proofs.Asking.{asks_on}
use Rattle.step_laws.proofs.Passing.{sender_passes}
use Rattle.step_laws.proofs.Called.{call_entered}
use Rattle.step_laws.proofs.Entered.{then_enters, entered}
use Rattle.step_laws.proofs.Literals.{aligned}
use Rattle.step_laws.proofs.Operators.{few, row_is, arguments_are, calls_value, calls_self}

-- A call some of whose items have their values, at line n; the number is that of the first body behind.
pub record CallSite (g : Ground) (h : Site) (l : List Registers) (sender : Sending) (recv : Value) (vs : List Value)
    (is : Items) (ks : List Item) (n j : ℕ) (b : Maybe) : Type 0 where
  pub low : ℕ
  pub own : Bool
  pub loop : Option Loop
  pub s : Spot
  pub here : s.line ≡ n
  pub r : ℕ
  pub row : low + 1 + length vs ≡ r
  pub room : Room h low
  pub covered : CoversItems h loop r s j is
  pub held : HoldsCall h l own low recv vs
  pub code : Stands h n (pass_in_registers (within h loop) s r is)
  pub end : ℕ
  pub ends : ItemsEnd h loop sender low (length vs + item_count is) own (past_items_code h loop r s is) (past_items j is) b
      (n + high (pass_in_registers (within h loop) s r is)) end
  pub next : InFrame g h l ks end low loop

pub ends_moved : (h : Site) (around : Option Loop) (low : ℕ) (x : Name) (c c' : ℕ) (own : Bool) (s s' : Spot) (j : ℕ)
    (b : Maybe) (n n' end : ℕ) → c ≡ c' → s ≡ s' → n ≡ n' → CallEnds h around low x c own s j b n end
    → CallEnds h around low x c' own s' j b n' end
ends_moved h around low x c c' own s s' j b n n' end same_count same_spot same_line e =
    subst (λ (i : ℕ). CallEnds h around low x i own s' j b n' end) same_count
    (subst (λ (t : Spot). CallEnds h around low x c own t j b n' end) same_spot
    (subst (λ (i : ℕ). CallEnds h around low x c own s j b i end) same_line e))

pub sent_moved : (h : Site) (around : Option Loop) (q : Sending) (low c c' : ℕ) (own : Bool) (s s' : Spot) (j : ℕ)
    (b : Maybe) (n n' end : ℕ) → c ≡ c' → s ≡ s' → n ≡ n' → ItemsEnd h around q low c own s j b n end
    → ItemsEnd h around q low c' own s' j b n' end
sent_moved h around q low c c' own s s' j b n n' end same_count same_spot same_line e =
    subst (λ (i : ℕ). ItemsEnd h around q low i own s' j b n' end) same_count
    (subst (λ (t : Spot). ItemsEnd h around q low c own t j b n' end) same_spot
    (subst (λ (i : ℕ). ItemsEnd h around q low c own s j b i end) same_line e))

module _ (g : Ground) (h : Site) (static : Static h) (ks : List Item) (m : source.Memory)
    (k : machine.Memory) (both : Common g h m (aligned k m)) (steady : IsSteady h.source m.world)
    (at_home : m.place ≡ place_in h) where
  abbrev the_entry : Sending → Value → List Value → Entry
  the_entry q recv vs = calls.call m.world (activation_at m.world h.activation) q recv vs None

  -- the evaluation enters what is called
  goes_in : (j : ℕ) (sender : Sending) (recv : Value) (vs : List Value) (q : Sending) → sender ≡ q → own_block q m ≡ None
      → asked q m ≡ m → nat_lt 253 (length vs) ≡ false
      → next_item h.source j sender recv vs no_items absent ks m ≡ enter h.source (the_entry q recv vs) None ks m
  goes_in j sender recv vs q e unblocked unasked n =
      ap (λ (b : Bool). with_arguments h.source j sender recv vs absent ks (if b
      then source.with_world m (with_store m.world (with_object m.world.store (items_object vs))) else m)) n
      ∙ ap (λ (z : Sending). with_arguments h.source j z recv vs absent ks m) e
      ∙ ap (λ (b : Option ObjId). perform_call h.source q recv vs b ks (asked q m)) unblocked
      ∙ ap (perform_call h.source q recv vs None ks) unasked
      ∙ ap (λ (p : Place). enter h.source (calls.call m.world (activation_at m.world p.activation) q recv vs None) None ks m)
      at_home

  -- the turn of a call enters the same
  turns_in : (x : Rest) (n r count : ℕ) (k' : machine.Memory) (recv : Value) (vs : List Value) (q : Sending)
      → value_at k'.lists h.list r ≡ recv → Holds k'.lists h.list (r + 1) vs → count ≡ length vs
      → nat_lt 253 count ≡ false → k'.world ≡ m.world
      → call_machine h.program q r count None (at_line h (n + 1)) (frame_at h x n) g.below k'
      ≡ enter_machine h.program (the_entry q recv vs) None (frame (frame_at h (asking h x n r) n) ∷ g.below) k'
  turns_in x n r count k' recv vs q is_recv held all n253 same =
      ap (λ (v : Value). enter_machine h.program (calls.call k'.world (activation_at k'.world h.activation) q v
      (arguments (frame_at h x n) k' r count) None) None (frame (frame_at h (asking h x n r) n) ∷ g.below) k') is_recv
      ∙ ap (λ (us : List Value). enter_machine h.program (calls.call k'.world (activation_at k'.world h.activation) q recv
      us None) None (frame (frame_at h (asking h x n r) n) ∷ g.below) k')
      (arguments_are (frame_at h x n) k' r count vs held all n253)
      ∙ ap (λ (w : World). enter_machine h.program (calls.call w (activation_at w h.activation) q recv vs None) None
      (frame (frame_at h (asking h x n r) n) ∷ g.below) k') same

  -- the transition enters no body, or what is called are methods with code
  abbrev MayCall : Config → Type 0
  MayCall c = Still m (go h.source c) ⊎ CallsBodies h.source h.program m.world.store.objects m.world.store.objects

  enters_by : (c : Config) (q : Sending) (recv : Value) (vs : List Value) → MayCall c
      → Still m (go h.source c) ⊎ EntersBody h.source h.program m.world.store.objects (the_entry q recv vs)
  enters_by c q recv vs calls =
      then_enters h.source h.program m.world.store.objects m.world.store.objects (the_entry q recv vs)
      (λ is. call_entered h.source h.program m.world.store.objects m.world is (activation_at m.world h.activation) q recv vs None) calls

  -- The instruction of a call whose value and items stand in their registers.
  called_at : (c : Config) (x : Rest) (n low : ℕ) (around : Option Loop) (q : Sending) (recv : Value) (vs : List Value)
      (count : ℕ) (k' : machine.Memory) → Common g h m k' → Room h low → IsGuarded h n → InFrame g h k'.lists ks (n + 1) low around
      → value_at k'.lists h.list low ≡ recv → Holds k'.lists h.list (low + 1) vs → count ≡ length vs
      → nat_lt 253 count ≡ false → k'.world ≡ m.world → From h c (frame (frame_at h x n) ∷ g.below) (aligned k m) m
      → go h.source c ≡ enter h.source (the_entry q recv vs) None ks m
      → turn h.program (state_at g h x n (aligned k m))
      ≡ call_machine h.program q low count None (at_line h (n + 1)) (frame_at h x n) g.below k'
      → burden ks m < measure c → MayCall c → Soon h.source h.program c (state_at g h x n (aligned k m))
  called_at c x n low around q recv vs count k' both' room guarded next first held all n253 same from goes turns less calls =
      let f = frame_at h (asking h x n low) n in
      entered h.source h.program c (frame (frame_at h x n) ∷ g.below) (aligned k m) m from (the_entry q recv vs) None ks m g
      (frame f ∷ g.below) k' goes (turns ∙ turns_in x n low count k' recv vs q first held all n253 same) less refl
      (waiting_worlds g h m k' both' f refl) (waiting_frame g h ks m x n low around k' at_home both'.site room guarded next) (enters_by c q recv vs calls)

  -- behind the last item stands one line
  behind_last : (s : Spot) (r n end low : ℕ) (o : Operation) (loop : Option Loop)
      → LineAt h (n + high (pass_in_registers (within h loop) s r no_items)) (line.Does o)
      → n + high (pass_in_registers (within h loop) s r no_items) + 1 ≡ end → InFrame g h k.lists ks end low loop
      → LineAt h n (line.Does o) × InFrame g h k.lists ks (n + 1) low loop
  behind_last s r n end low o loop stands tall next =
      let here : n + high (pass_in_registers (within h loop) s r no_items) ≡ n = omega (arith, high-nothing) in (
        subst (λ (i : ℕ). LineAt h i (line.Does o)) here stands,
        subst (λ (i : ℕ). InFrame g h k.lists ks i low loop) (omega (arith, here, tall)) next,
      )

  -- all items have their values, and no block is passed
  call_now : (c : Config) (x : Rest) (n j : ℕ) (sender : Sending) (recv : Value) (vs : List Value) (mb : Maybe)
      (b : CallSite g h k.lists sender recv vs no_items ks n j mb) (y : Name) (o : Operation)
      → CallBy h b.low y (length vs + item_count no_items) b.own o
      → LineAt h (n + high (pass_in_registers (within h b.loop) b.s b.r no_items)) (line.Does o)
      → n + high (pass_in_registers (within h b.loop) b.s b.r no_items) + 1 ≡ b.end
      → From h c (frame (frame_at h x n) ∷ g.below) (aligned k m) m
      → go h.source c ≡ next_item h.source j sender recv vs no_items absent ks m
      → sender ≡ by_name (number h.source y) → burden ks m < measure c → MayCall c
      → Soon h.source h.program c (state_at g h x n (aligned k m))
  call_now c x n j sender recv vs mb b y o by_that stands tall from goes e less calls =
      let count : length vs + item_count no_items ≡ length vs = omega arith in
      let n253 = few h b.low y (length vs + item_count no_items) b.own o by_that in
      let goes' = goes ∙ goes_in j sender recv vs (by_name (number h.source y)) e refl refl
      (ap (nat_lt 253) (sym count) ∙ n253) in
      let last = behind_last b.s b.r n b.end b.low o b.loop stands tall b.next in
      by b.own by_that b.held last.0 last.1 goes' count n253
    where
      by : (own : Bool) → CallBy h b.low y (length vs + item_count no_items) own o
          → HoldsCall h k.lists own b.low recv vs → LineAt h n (line.Does o)
          → InFrame g h k.lists ks (n + 1) b.low b.loop
          → go h.source c ≡ enter h.source (the_entry (by_name (number h.source y)) recv vs) None ks m
          → length vs + item_count no_items ≡ length vs → nat_lt 253 (length vs + item_count no_items) ≡ false
          → Soon h.source h.program c (state_at g h x n (aligned k m))
      by false by_that held at next goes' count n253 =
          called_at c x n b.low b.loop (by_name (number h.source y)) recv vs (length vs + item_count no_items) (aligned k m)
          both b.room at.guarded next (ap read held.0) held.1 count n253 refl from goes'
          (turned h x n o g.below (aligned k m) at
          ∙ calls_value g h x n b.low (at_line h (n + 1)) (aligned k m) y (length vs + item_count no_items) o steady by_that)
          less calls
      by true by_that held at next goes' count n253 =
          let s = same_here g h m (aligned k m) both in
          let v = value_at k.lists h.list 0 in
          let k' = written h (aligned k m) b.low v in
          let first : value_at k'.lists h.list b.low ≡ recv =
          ap read (slot_same k.lists h.list b.low (V v) s.present (omega (arith, s.long, b.room.within)))
          ∙ s.self ∙ sym held.0 in
          let next' = frame_kept g h k.lists k'.lists ks (n + 1) b.low b.loop
          (keeps_above h k.lists b.low b.low (V v) s.present (omega arith)) (put_only k.lists h.list b.low v)
          (omega (arith, both.free)) next in
          called_at c x n b.low b.loop (by_name (number h.source y)) recv vs (length vs + item_count no_items) k'
          (written_here g h m (aligned k m) both b.low v b.room.above) b.room at.guarded next' first
          (items_kept h k.lists (b.low + 1) b.low v vs s.present (omega arith) held.1) count n253 refl from goes'
          (turned h x n o g.below (aligned k m) at
          ∙ calls_self g h x n b.low (at_line h (n + 1)) (aligned k m) y (length vs + item_count no_items) o steady by_that)
          less calls

  -- so it is of the block of a method
  yield_now : (c : Config) (x : Rest) (n j : ℕ) (sender : Sending) (recv : Value) (vs : List Value) (mb : Maybe)
      (b : CallSite g h k.lists sender recv vs no_items ks n j mb) → sender ≡ to_proc → b.own ≡ false
      → nat_lt 253 (length vs + item_count no_items) ≡ false
      → LineAt h (n + high (pass_in_registers (within h b.loop) b.s b.r no_items))
      (line.Does (op.Call b.low (length vs + item_count no_items)))
      → n + high (pass_in_registers (within h b.loop) b.s b.r no_items) + 1 ≡ b.end
      → From h c (frame (frame_at h x n) ∷ g.below) (aligned k m) m
      → go h.source c ≡ next_item h.source j sender recv vs no_items absent ks m → burden ks m < measure c → MayCall c
      → Soon h.source h.program c (state_at g h x n (aligned k m))
  yield_now c x n j sender recv vs mb b e own n253 stands tall from goes less calls =
      let count : length vs + item_count no_items ≡ length vs = omega arith in
      let o = op.Call b.low (length vs + item_count no_items) in
      let held = subst (λ (t : Bool). HoldsCall h k.lists t b.low recv vs) own b.held in
      let last = behind_last b.s b.r n b.end b.low o b.loop stands tall b.next in
      called_at c x n b.low b.loop to_proc recv vs (length vs + item_count no_items) (aligned k m) both b.room last.0.guarded last.1
      (ap read held.0) held.1 count n253 refl from
      (goes ∙ goes_in j sender recv vs to_proc e refl refl (ap (nat_lt 253) (sym count) ∙ n253))
      (turned h x n o g.below (aligned k m) last.0) less calls

  -- or that of the method is passed
  asks_now : (c : Config) (x : Rest) (n j : ℕ) (sender : Sending) (recv : Value) (vs : List Value) (mb : Maybe)
      (b : CallSite g h k.lists sender recv vs no_items ks n j mb) → sender ≡ to_super → b.own ≡ true
      → nat_lt 253 (length vs + item_count no_items) ≡ false → Room h (b.low + 1 + (length vs + item_count no_items))
      → AsksBlock h (b.low + 1 + (length vs + item_count no_items))
      (n + high (pass_in_registers (within h b.loop) b.s b.r no_items))
      → LineAt h (n + high (pass_in_registers (within h b.loop) b.s b.r no_items) + 1 + 1 + 1)
      (line.Does (op.Super b.low (length vs + item_count no_items)))
      → n + high (pass_in_registers (within h b.loop) b.s b.r no_items) + 1 + 1 + 1 + 1 ≡ b.end
      → From h c (frame (frame_at h x n) ∷ g.below) (aligned k m) m
      → go h.source c ≡ next_item h.source j sender recv vs no_items absent ks m → burden ks m < measure c → MayCall c
      → IsBlock m.world.store.objects (running m).block
      → Within 6 h.source h.program c (state_at g h x n (aligned k m))
  asks_now c x n j sender recv vs mb b e own few room asks stands tall from goes less may can =
      let count : length vs + item_count no_items ≡ length vs = omega arith in
      let here : n + high (pass_in_registers (within h b.loop) b.s b.r no_items) ≡ n = omega (arith, high-nothing) in
      let few' : nat_lt 253 (length vs) ≡ false = ap (nat_lt 253) (sym count) ∙ few in
      let l = n + high (pass_in_registers (within h b.loop) b.s b.r no_items) in
      asks_on g h ks m k both at_home c x n from less b.low recv vs b.loop b.room
      (subst (λ (i : ℕ). Room h (b.low + 1 + i)) count room)
      (subst (λ (t : Bool). HoldsCall h k.lists t b.low recv vs) own b.held) few'
      (subst (AsksBlock h (b.low + 1 + length vs)) here (subst (λ (i : ℕ). AsksBlock h (b.low + 1 + i) l) count asks))
      (subst (λ (i : ℕ). LineAt h (i + 1 + 1 + 1) (line.Does (op.Super b.low (length vs)))) here
      (subst (λ (i : ℕ). LineAt h (l + 1 + 1 + 1) (line.Does (op.Super b.low i))) count stands))
      (subst (λ (i : ℕ). InFrame g h k.lists ks i b.low b.loop) (omega (arith, here, tall)) b.next) j can
      (goes
      ∙ ap (λ (t : Bool). with_arguments h.source j sender recv vs absent ks (if t
      then source.with_world m (with_store m.world (with_object m.world.store (items_object vs))) else m)) few'
      ∙ ap (λ (q : Sending). with_arguments h.source j q recv vs absent ks m) e) may

  -- all items have their values, and the block is about to be done
  block_now : (c : Config) (x : Rest) (n j : ℕ) (sender : Sending) (recv : Value) (vs : List Value) (mb : Maybe)
      (b : CallSite g h k.lists sender recv vs no_items ks n j mb) (o : Operation) (f : CoreForm) (count : ℕ)
      → count ≡ length vs → mb ≡ there f → nat_lt 253 count ≡ false → PassesBlock h b.low b.own sender count o
      → Covers h b.loop (b.low + 1 + count) (past_items_code h b.loop b.r b.s no_items) j f
      → Stands h n (gen (within h b.loop) (past_items_code h b.loop b.r b.s no_items) (b.low + 1 + count) f)
      → LineAt h (n + high (gen (within h b.loop) (past_items_code h b.loop b.r b.s no_items) (b.low + 1 + count) f))
      (line.Does o)
      → n + high (gen (within h b.loop) (past_items_code h b.loop b.r b.s no_items) (b.low + 1 + count) f) + 1 ≡ b.end
      → go h.source c ≡ next_item h.source j sender recv vs no_items mb ks m
      → 2 + size f + burden ks m < measure c
      → Soon h.source h.program c (state_at g h x n (aligned k m))
  block_now c x n j sender recv vs mb b o f count all given few passes covered first second tall goes less =
      let sp = past_items_code h b.loop b.r b.s no_items in
      let r = b.low + 1 + count in
      let few' : nat_lt 253 (length vs) ≡ false = ap (nat_lt 253) (sym all) ∙ few in
      let goes' : go h.source c ≡ Run (perform j f) (part (block sender recv vs) ∷ ks) m =
      goes ∙ ap (λ (q : Maybe). next_item h.source j sender recv vs no_items q ks m) given
      ∙ ap (λ (t : Bool). Run (perform j f) (part (block sender recv vs) ∷ ks) (if t
      then source.with_world m (with_store m.world (with_object m.world.store (items_object vs))) else m)) few' in
      soon_none h.source h.program c (state_at g h x n (aligned k m))
      (subst (λ (d : Config). measure d < measure c) (sym goes') (omega (arith, less)))
      (subst (λ (d : Config). Related h d (state_at g h x n (aligned k m))) (sym goes') (inl (
        g,
        h,
        both,
        record {
          x = x;
          n = n;
          r = r;
          is = refl;
          there = at_home;
          loop = b.loop;
          s = sp;
          here = omega (arith, line-past b.s nothing, high-nothing, b.here);
          covered = covered;
          above = omega (arith, b.room.above);
          code = first;
          next = record {
            low = b.low;
            end = b.end;
            above = b.room.above;
            below = omega arith;
            behind = record {
              own = b.own;
              at = omega (arith, all);
              room = b.room;
              few = few';
              sender = o;
              passes = subst (λ (i : ℕ). PassesBlock h b.low b.own sender i o) all passes;
              held = b.held;
              sends = second;
              ends = tall;
            };
            outer = b.loop;
            inner = refl;
            next = b.next;
          };
        },
      )))

  -- the world with an Array of these values
  abbrev packed_world : List Value → World
  packed_world vs = with_store m.world (with_object m.world.store (items_object vs))

  abbrev MayPack : Config → List Value → Type 0
  MayPack c vs = Still m (go h.source c)
      ⊎ CallsBodies h.source h.program m.world.store.objects (packed_in m vs).world.store.objects

  -- all items have their values, and are more than go into registers
  packed_now : (c : Config) (x : Rest) (n j : ℕ) (sender : Sending) (recv : Value) (vs : List Value) (mb : Maybe)
      (b : CallSite g h k.lists sender recv vs no_items ks n j mb) (q : Callee) (count : ℕ) → count ≡ length vs
      → sender ≡ sending_of h.source q → nat_lt 253 count ≡ true → Room h (b.low + 1)
      → LineAt h n (line.Does (op.Array (b.low + 1) count))
      → ArrayEnds h b.loop q b.low b.own
      (past (past_items_code h b.loop b.r b.s no_items) (does (op.Array (b.low + 1) count))) j mb (n + 1) b.end
      → From h c (frame (frame_at h x n) ∷ g.below) (aligned k m) m
      → go h.source c ≡ next_item h.source j sender recv vs no_items mb ks m → burden ks m < measure c → MayPack c vs
      → Within 6 h.source h.program c (state_at g h x n (aligned k m))
  packed_now c x n j sender recv vs mb b q count all e many room at ends from goes less may =
      let o = op.Array (b.low + 1) count in
      let id = next_number m.world.store in
      let w = packed_world vs in
      let sp = past_items_code h b.loop b.r b.s no_items in
      let many' : nat_lt 253 (length vs) ≡ true = ap (nat_lt 253) (sym all) ∙ many in
      let f = frame_at h x n in
      array_on g h ks m k both at_home c x n from less w (steady_kept h.source m.world w refl steady) refl b.low id sender recv vs j
      mb (record {
        own = b.own;
        callee = q;
        loop = b.loop;
        s = past sp (does o);
        here = omega (arith, line-past b.s nothing, high-nothing, line-past sp (does o), high-puts (line.Does o), b.here);
        room = b.room;
        room_behind = room;
        called = called_held h k.lists b.own b.low recv vs b.held;
        sending = e;
        elements = new_elements m.world.store vs;
        end = b.end;
        ends = ends;
        next = b.next;
      })
      (subst (λ (t : Bool). Still m (go h.source c) ⊎ CallsBodies h.source h.program m.world.store.objects
      (if t then source.with_world m w else m).world.store.objects) many' may)
      (turned h x n o g.below (aligned k m) at
      ∙ ap (λ (i : ℕ). after_machine h.program (make_array m.world (row f (aligned k m) (b.low + 1) i)) (b.low + 1)
      (at_line h (n + 1)) f g.below (aligned k m)) all
      ∙ ap (λ (us : List Value). after_machine h.program (make_array m.world us) (b.low + 1) (at_line h (n + 1)) f g.below
      (aligned k m)) (row_is f (aligned k m) (b.low + 1) vs (items_held h k.lists b.own b.low recv vs b.held)))
      (goes ∙ ap (λ (t : Bool). with_arguments h.source j sender recv vs mb ks (if t then source.with_world m w else m)) many')

  -- the next item, or the call
  pub items_on : (c : Config) (x : Rest) (n j : ℕ) (sender : Sending) (recv : Value) (vs : List Value) (is : Items)
      (mb : Maybe) (b : CallSite g h k.lists sender recv vs is ks n j mb)
      → From h c (frame (frame_at h x n) ∷ g.below) (aligned k m) m
      → go h.source c ≡ next_item h.source j sender recv vs is mb ks m
      → size_items is + size_block mb + burden ks m < measure c → MayPack c vs
      → IsBlock m.world.store.objects (running m).block
      → Within 6 h.source h.program c (state_at g h x n (aligned k m))
  items_on c x n j sender recv vs no_items mb b from goes less may can = at b.ends
    where
      goes_by : mb ≡ absent → go h.source c ≡ next_item h.source j sender recv vs no_items absent ks m
      goes_by none = goes ∙ ap (λ (q : Maybe). next_item h.source j sender recv vs no_items q ks m) none

      soon : Soon h.source h.program c (state_at g h x n (aligned k m))
          → Within 6 h.source h.program c (state_at g h x n (aligned k m))
      soon a = later h.source h.program c (state_at g h x n (aligned k m)) a

      here : n + high (pass_in_registers (within h b.loop) b.s b.r no_items) ≡ n
      here = omega (arith, high-nothing)

      may_call : nat_lt 253 (length vs + item_count no_items) ≡ false → MayCall c
      may_call few =
          let count : length vs + item_count no_items ≡ length vs = omega arith in
          subst (λ (t : Bool). Still m (go h.source c) ⊎ CallsBodies h.source h.program m.world.store.objects
          (if t then source.with_world m (packed_world vs) else m).world.store.objects)
          (ap (nat_lt 253) (sym count) ∙ few) may

      pack : (q : Callee) → sender ≡ sending_of h.source q → nat_lt 253 (length vs + item_count no_items) ≡ true
          → Room h (b.low + 1)
          → LineAt h (n + high (pass_in_registers (within h b.loop) b.s b.r no_items))
          (line.Does (op.Array (b.low + 1) (length vs + item_count no_items)))
          → ArrayEnds h b.loop q b.low b.own (past (past_items_code h b.loop b.r b.s no_items)
          (does (op.Array (b.low + 1) (length vs + item_count no_items)))) (past_items j no_items) mb
          (n + high (pass_in_registers (within h b.loop) b.s b.r no_items) + 1) b.end
          → Within 6 h.source h.program c (state_at g h x n (aligned k m))
      pack q e many room stands ends =
          let count = length vs + item_count no_items in
          let o = op.Array (b.low + 1) count in
          packed_now c x n j sender recv vs mb b q count (omega arith) e many room
          (subst (λ (i : ℕ). LineAt h i (line.Does o)) here stands)
          (subst (λ (i : ℕ). ArrayEnds h b.loop q b.low b.own
          (past (past_items_code h b.loop b.r b.s no_items) (does o)) j mb (i + 1) b.end) here ends) from goes
          (omega (arith, less)) may

      blocked : (f : CoreForm) (o : Operation) → mb ≡ there f → nat_lt 253 (length vs + item_count no_items) ≡ false
          → PassesBlock h b.low b.own sender (length vs + item_count no_items) o
          → Covers h b.loop (b.low + 1 + (length vs + item_count no_items)) (past_items_code h b.loop b.r b.s no_items) j f
          → Stands h (n + high (pass_in_registers (within h b.loop) b.s b.r no_items))
          (gen (within h b.loop) (past_items_code h b.loop b.r b.s no_items)
          (b.low + 1 + (length vs + item_count no_items)) f)
          → LineAt h (n + high (pass_in_registers (within h b.loop) b.s b.r no_items)
          + high (gen (within h b.loop) (past_items_code h b.loop b.r b.s no_items)
          (b.low + 1 + (length vs + item_count no_items)) f)) (line.Does o)
          → n + high (pass_in_registers (within h b.loop) b.s b.r no_items)
          + high (gen (within h b.loop) (past_items_code h b.loop b.r b.s no_items)
          (b.low + 1 + (length vs + item_count no_items)) f) + 1 ≡ b.end
          → Within 6 h.source h.program c (state_at g h x n (aligned k m))
      blocked f o given few passes covered first second tall =
          let count = length vs + item_count no_items in
          let p = gen (within h b.loop) (past_items_code h b.loop b.r b.s no_items) (b.low + 1 + count) f in
          soon (block_now c x n j sender recv vs mb b o f count (omega arith) given few passes covered
          (subst (λ (i : ℕ). Stands h i p) here first) (subst (λ (i : ℕ). LineAt h (i + high p) (line.Does o)) here second)
          (omega (arith, here, tall)) goes (omega (arith, less, ap size_block given)))

      by : (y : Name) → sender ≡ by_name (number h.source y)
          → CallEnds h b.loop b.low y (length vs + item_count no_items) b.own (past_items_code h b.loop b.r b.s no_items)
          (past_items j no_items) mb (n + high (pass_in_registers (within h b.loop) b.s b.r no_items)) b.end
          → Within 6 h.source h.program c (state_at g h x n (aligned k m))
      by y e (alone o none by_that stands tall) =
          soon (call_now c x n j sender recv vs mb b y o by_that stands tall from (goes_by none) e (omega (arith, less))
          (may_call (few h b.low y (length vs + item_count no_items) b.own o by_that)))
      by y e (with_block f given few named covered first second tall) =
          blocked f (block_sender b.own b.low (entry_of h.context y) (length vs + item_count no_items)) given few
          (sender_passes h b.low b.own y sender (length vs + item_count no_items) e named) covered first second tall
      by y e (packed many named room stands ends) = pack (a_method y) e many room stands ends

      at : ItemsEnd h b.loop sender b.low (length vs + item_count no_items) b.own (past_items_code h b.loop b.r b.s no_items)
          (past_items j no_items) mb (n + high (pass_in_registers (within h b.loop) b.s b.r no_items)) b.end
          → Within 6 h.source h.program c (state_at g h x n (aligned k m))
      at (by_call y e ends) = by y e ends
      at (by_yield e own none few stands tall) =
          soon (yield_now c x n j sender recv vs mb b e own few stands tall from (goes_by none) (omega (arith, less))
          (may_call few))
      at (by_block f o given few passes covered first second tall) =
          blocked f o given few passes covered first second tall
      at (by_own e own none few room asks stands tall) =
          asks_now c x n j sender recv vs mb b e own few room asks stands tall from (goes_by none) (omega (arith, less))
          (may_call few) can
      at (by_array q e many room stands ends) = pack q e many room stands ends
  items_on c x n j sender recv vs (splat i is) mb b from goes less may can = absurd b.covered
  items_on c x n j sender recv vs (plain i is) mb b from goes less may can =
      let r = b.r in
      let p = gen (within h b.loop) b.s r i in
      let q = pass_in_registers (within h b.loop) (past b.s p) (r + 1) is in
      let more : length vs + (1 + item_count is) ≡ length vs + 1 + item_count is = omega arith in
      later h.source h.program c (state_at g h x n (aligned k m)) (soon_none h.source h.program c (state_at g h x n (aligned k m))
      (subst (λ (d : Config). measure d < measure c) (sym goes) (omega (arith, less)))
      (subst (λ (d : Config). Related h d (state_at g h x n (aligned k m))) (sym goes) (
        g,
        h,
        both,
        record {
          x = x;
          n = n;
          r = r;
          is = refl;
          there = at_home;
          loop = b.loop;
          s = b.s;
          here = b.here;
          covered = b.covered.0;
          above = omega (arith, b.room.above, b.row);
          code = left_at h n b.s p q b.here (items_keep is (within h b.loop) (past b.s p) (r + 1)) b.code;
          next = record {
            low = b.low;
            end = b.end;
            above = b.room.above;
            below = omega (arith, b.row);
            behind = record {
              own = b.own;
              at = b.row;
              s = past b.s p;
              here = line-past b.s p ∙ ap (λ (l : ℕ). l + high p) b.here;
              room = b.room;
              covered = b.covered.1;
              held = b.held;
              code = right_at h n b.s p q b.here (keeps i (within h b.loop) b.s r) b.code;
              ends = sent_moved h b.loop sender b.low (length vs + item_count (plain i is)) (length vs + 1 + item_count is) b.own
                  (past_items_code h b.loop r b.s (plain i is)) (past_items_code h b.loop (r + 1) (past b.s p) is)
                  (past_items j (plain i is)) mb (n + high (p ⊕ q)) (n + high p + high q) b.end more (past-both b.s p q)
                  (omega (arith, high-both p q)) b.ends;
            };
            outer = b.loop;
            inner = refl;
            next = b.next;
          };
        },
      )))
