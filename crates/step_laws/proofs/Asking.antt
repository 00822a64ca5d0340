-- `super` without a block: its instructions ask whether the method has one, and pass it.
use Rattle.std.proofs.Common.{◌≡◌, ◌⊎◌, inl, inr, ℕ, zero, suc, ◌+◌, ◌<◌, List, [], ◌∷◌, ◌++◌, length, get_or, refl, sym, ap, ◌∙◌, subst, arith, Bool, true, false, true≢false}
use Rattle.std.specs.Prelude.{if◌then◌else◌, codes, nat_eq, nat_lt, Option, Some, None, is_some}
use Rattle.std.specs.Map.{lookup}
use Rattle.rb_value.specs.declared.value.Value.{Value}
use Rattle.rb_value.specs.declared.value.Value.TheVariants.{Nil, Obj}
use Rattle.rb_value.specs.declared.value.ObjId.{ObjId}
use Rattle.rb_value.specs.declared.exit.Slot.TheVariants.{V}
use Rattle.rb_value.specs.declared.kind.Kind.{Kind}
use Rattle.rb_value.specs.declared.kind.Kind.TheVariants as kind
use Rattle.rb_value.specs.Object.{Object}
use Rattle.rb_value.specs.Slot.{read}
use Rattle.rite_code.specs.Code.{Program}
use Rattle.rite_code.specs.declared.operation.Operation.TheVariants as op
use Rattle.ir_core.specs.CoreForm.{absent}
use Rattle.gen_parts.specs.declared.line.Line.TheVariants as line
use Rattle.gen_forms.specs.declared.context.Loop.{Loop}
use Rattle.def_core.specs.Classes.{contents_of}
use Rattle.def_core.specs.Store as store
use Rattle.def_core.specs.Store.{object_at, next_number}
use Rattle.def_rows.specs.Answers.{text_object}
use Rattle.def_calls.specs.Seen.{Going}
use Rattle.def_calls.specs.World.{World, Activation, activation_at}
use Rattle.def_calls.specs.Views.{Callable, callable_of, kind_by, kind_in, object_in}
use Rattle.def_calls.specs.Definitions.{text_if, yield_told}
use Rattle.def_calls.specs.Calls.{BlockArgument, no_block, block_of, proc_or_not, block_argument, to_super, Entry}
use Rattle.def_calls.specs.Calls as calls
use Rattle.def_eval.specs.Source.{Source}
use Rattle.def_eval.specs.Configuration as source
use Rattle.def_eval.specs.Configuration.{Place, Item, Config}
use Rattle.def_eval.specs.Scopes.{running}
use Rattle.def_eval.specs.Entering.{enter}
use Rattle.def_eval.specs.Forms.{perform_call, with_arguments}
use Rattle.def_eval.specs.Transition.{go}
use Rattle.def_machine.specs.State as machine
use Rattle.def_machine.specs.State.{Registers, frame, slot_at, value_at, put, shown}
use Rattle.def_machine.specs.Entering.{enter as enter_machine}
use Rattle.def_machine.specs.Unwind.{after as after_machine}
use Rattle.def_machine.specs.Turn.{turn, arguments, registers_of, block_of_home, call as call_machine, call_with}
use Rattle.step_laws.specs.Site.{Site, place_in, at_line, LineAt, Room}
use Rattle.step_laws.specs.Calm.{IsBlock, Still}
use Rattle.step_laws.specs.Bodies.{IsEntry, HasCode, CallsBodies}
use Rattle.step_laws.specs.Measure.{burden, measure}
use Rattle.step_laws.specs.Behind.{HoldsCall, AsksBlock}
use Rattle.step_laws.specs.Relation.{Ground, InFrame, Common}
use Rattle.step_laws.proofs.Placed.{Rest, frame_at, turned}
use Rattle.step_laws.proofs.Registers.{slot_same, slot_other, keeps_above, call_kept}
use Rattle.step_laws.proofs.Untouched.{put_only, frame_kept, same_here, written_here}
use Rattle.step_laws.proofs.Matching.{Within, Soon, one_more, widen, state_at}
use Rattle.step_laws.proofs.Calling.{From}
use Rattle.step_laws.proofs.Waiting.{asking, waiting_worlds, waiting_frame}
use Rattle.step_laws.proofs.Packing.{items_kept}
use Rattle.step_laws.proofs.Called.{call_entered}
use Rattle.step_laws.proofs.Entered.{then_enters, entered}
use Rattle.step_laws.proofs.Literals.{aligned}
use Rattle.step_laws.proofs.Operators.{arguments_are, not_all}
use Rattle.step_laws.proofs.Branches.{jumped_not}

-- A new text is no class and no Proc.

either_there : (objects : List Object) (o : Object) (n : ℕ)
    → (get_or (objects ++ o ∷ []) n store.absent ≡ get_or objects n store.absent)
    ⊎ ((get_or (objects ++ o ∷ []) n store.absent ≡ o) × (get_or objects n store.absent ≡ store.absent))
either_there [] o zero = inr (refl, refl)
either_there [] o (suc n) = inl refl
either_there (q ∷ objects) o zero = inl refl
either_there (q ∷ objects) o (suc n) = either_there objects o n

module _ (objects : List Object) (text : List ℕ) where
  abbrev more : List Object
  more = objects ++ text_object text ∷ []

  kept : (C : Kind → Type 0) → C (kind.String text) → (id : ObjId) → C (object_at objects id).kind
      → C (object_at more id).kind
  kept C new id is = by (either_there objects (text_object text) id.0)
    where
      by : (get_or more id.0 store.absent ≡ get_or objects id.0 store.absent)
          ⊎ ((get_or more id.0 store.absent ≡ text_object text) × (get_or objects id.0 store.absent ≡ store.absent))
          → C (object_at more id).kind
      by (inl e) = subst (λ (o : Object). C o.kind) (sym e) is
      by (inr e) = subst (λ (o : Object). C o.kind) (sym e.0) new

  calls_still : (s : Source) (p : Program) (before : List Object) → CallsBodies s p before objects
      → CallsBodies s p before more
  calls_still s p before is = record {
    methods = λ c name.
        kept (λ (q : Kind). IsEntry s p (lookup (nat_eq name.0) (contents_of q).methods)) tt c (is.methods c name);
    procs = λ v. by (object_in v) (is.procs v);
    classes = is.classes;
  }
    where
      by : (o : Option ObjId) → HasCode s p before (callable_of (kind_by objects o))
          → HasCode s p before (callable_of (kind_by more o))
      by None h = h
      by (Some id) h = kept (λ (q : Kind). HasCode s p before (callable_of q)) tt id h

  block_still : (o : Option ObjId) → IsBlock objects o → IsBlock more o
  block_still None is = tt
  block_still (Some p) is = by (either_there objects (text_object text) p.0)
    where
      by : (get_or more p.0 store.absent ≡ get_or objects p.0 store.absent)
          ⊎ ((get_or more p.0 store.absent ≡ text_object text) × (get_or objects p.0 store.absent ≡ store.absent))
          → IsBlock more (Some p)
      by (inl e) = subst (λ (o : Object). is_some (callable_of o.kind) ≡ true) (sym e) is
      by (inr e) = absurd (true≢false (sym (subst (λ (o : Object). is_some (callable_of o.kind) ≡ true) e.1 is)))

-- The block of the method, and the world in which it was asked for.

abbrev block_value : Option ObjId → Value
block_value None = Nil
block_value (Some p) = Obj p

abbrev passed_block : World → Option ObjId → BlockArgument
passed_block w None = no_block
passed_block w (Some p) = block_of p w

argument_is : (w : World) (o : Option ObjId) → IsBlock w.store.objects o
    → block_argument w (block_value o) ≡ passed_block w o
unfolding block_argument
argument_is w None is = refl
argument_is w (Some p) is = by (callable_of (kind_in w.store.objects (Obj p))) is
  where
    by : (q : Option Callable) → is_some q ≡ true → proc_or_not w p q ≡ block_of p w
    by None e = absurd (true≢false (sym e))
    by (Some q) e = refl

abbrev told_in : World → Option ObjId → World
told_in w o = (text_if w (codes "yield") (is_some o)).world

same_running : (w : World) (p : ObjId) (a : ℕ) → activation_at (told_in w (Some p)) a ≡ activation_at w a
unfolding activation_at
same_running w p a = refl

-- The arguments stand in their registers at line n.
module _ (g : Ground) (h : Site) (ks : List Item) (m : source.Memory) (k : machine.Memory)
    (both : Common g h m (aligned k m)) (at_home : m.place ≡ place_in h) (c : Config) (x : Rest) (n : ℕ)
    (from : From h c (frame (frame_at h x n) ∷ g.below) (aligned k m) m) (less : burden ks m < measure c) (low : ℕ)
    (recv : Value) (vs : List Value) (loop : Option Loop) (room : Room h low) (room_behind : Room h (low + 1 + length vs))
    (held : HoldsCall h k.lists true low recv vs) (few : nat_lt 253 (length vs) ≡ false)
    (asks : AsksBlock h (low + 1 + length vs) n) (at : LineAt h (n + 1 + 1 + 1) (line.Does (op.Super low (length vs))))
    (next : InFrame g h k.lists ks (n + 1 + 1 + 1 + 1) low loop) where
  abbrev r : ℕ
  r = low + 1 + length vs

  -- the memory of the machine with that world and these lists
  abbrev mem : World → List Registers → machine.Memory
  mem w l = record (machine.with_world k w) { lists = l }

  -- what stands in its registers
  record Ready (l : List Registers) : Type 0 where
    pub alike : Common g h m (record (aligned k m) { lists = l })
    pub holds : HoldsCall h l true low recv vs
    pub goes_on : InFrame g h l ks (n + 1 + 1 + 1 + 1) low loop

  ready : Ready k.lists
  ready = record { alike = both; holds = held; goes_on = next }

  written_ready : (l : List Registers) (v : Value) → Ready l → Ready (put l h.list r (V v))
  written_ready l v y =
      let s = same_here g h m (record (aligned k m) { lists = l }) y.alike in
      let l' = put l h.list r (V v) in
      record {
        alike = written_here g h m (record (aligned k m) { lists = l }) y.alike r v room_behind.above;
        holds = call_kept h l l' true r low recv vs (keeps_above h l r r (V v) s.present (omega arith)) room.above (omega arith)
            y.holds;
        goes_on = frame_kept g h l l' ks (n + 1 + 1 + 1 + 1) low loop (keeps_above h l low r (V v) s.present (omega arith))
            (put_only l h.list r v) (omega (arith, y.alike.free)) y.goes_on;
      }

  stands : (l : List Registers) (v : Value) → Ready l → slot_at (put l h.list r (V v)) h.list r ≡ V v
  stands l v y =
      let s = same_here g h m (record (aligned k m) { lists = l }) y.alike in
      slot_same l h.list r (V v) s.present (omega (arith, s.long, room_behind.within))

  from_at : (i : ℕ) (w : World) (l : List Registers) → w.out ≡ m.world.out
      → From h c (frame (frame_at h x i) ∷ g.below) (mem w l) m
  unfolding shown
  from_at i w l out = record { alike = ap Going out ∙ from.alike; out = out; quiet = from.quiet }

  abbrev the_entry : World → Option ObjId → Entry
  the_entry w o = calls.call w (activation_at w h.activation) to_super recv vs o

  call_by : (w : World) (o : Option ObjId) (us : List Registers)
      → call_with h.program to_super low (length vs) (passed_block w o) (at_line h (n + 1 + 1 + 1 + 1))
      (frame_at h x (n + 1 + 1 + 1)) g.below (mem w us)
      ≡ call_machine h.program to_super low (length vs) o (at_line h (n + 1 + 1 + 1 + 1))
      (frame_at h x (n + 1 + 1 + 1)) g.below (mem w us)
  call_by w None us = refl
  call_by w (Some p) us = refl

  -- The block stands behind them: the call.
  supers : (w : World) (o : Option ObjId) (l : List Registers) → Ready l → value_at l h.list r ≡ block_value o
      → IsBlock w.store.objects o → w.out ≡ m.world.out
      → go h.source c ≡ perform_call h.source to_super recv vs o ks (source.with_world m w)
      → (Still m (go h.source c) ⊎ CallsBodies h.source h.program m.world.store.objects w.store.objects)
      → Soon h.source h.program c (state_at g h x (n + 1 + 1 + 1) (mem w l))
  supers w o l y is can out goes may =
      let s = same_here g h m (record (aligned k m) { lists = l }) y.alike in
      let i = n + 1 + 1 + 1 in
      let u = value_at l h.list 0 in
      let us = put l h.list low (V u) in
      let k' = mem w us in
      let f = frame_at h (asking h x i low) i in
      let both' = written_here g h m (record (aligned k m) { lists = l }) y.alike low u room.above in
      let next' = frame_kept g h l us ks (i + 1) low loop (keeps_above h l low low (V u) s.present (omega arith))
      (put_only l h.list low u) (omega (arith, y.alike.free)) y.goes_on in
      let first : value_at us h.list low ≡ recv =
      ap read (slot_same l h.list low (V u) s.present (omega (arith, s.long, room.within))) ∙ s.self ∙ sym y.holds.0 in
      let second : block_argument w (value_at us h.list (low + 1 + registers_of (length vs))) ≡ passed_block w o =
      ap (λ (b : Bool). block_argument w (value_at us h.list (low + 1 + (if b then 1 else length vs)))) (not_all (length vs) few)
      ∙ ap (block_argument w) (ap read (slot_other l h.list low r (V u) s.present (omega arith)) ∙ is)
      ∙ argument_is w o can in
      let args = arguments_are (frame_at h x i) k' low (length vs) vs
      (items_kept h l (low + 1) low u vs s.present (omega arith) y.holds.1) refl few in
      entered h.source h.program c (frame (frame_at h x i) ∷ g.below) (mem w l) m (from_at i w l out) (the_entry w o) o ks
      (source.with_world m w) g (frame f ∷ g.below) k'
      (goes
      ∙ ap (λ (p : Place). enter h.source (calls.call w (activation_at w p.activation) to_super recv vs o) o ks
      (source.with_world m w)) at_home)
      (turned h x i (op.Super low (length vs)) g.below (mem w l) at
      ∙ ap (λ (b : BlockArgument). call_with h.program to_super low (length vs) b (at_line h (i + 1)) (frame_at h x i) g.below
      k') second
      ∙ call_by w o us
      ∙ ap (λ (v : Value). enter_machine h.program (calls.call w (activation_at w h.activation) to_super v
      (arguments (frame_at h x i) k' low (length vs)) o) o (frame f ∷ g.below) k') first
      ∙ ap (λ (zs : List Value). enter_machine h.program (calls.call w (activation_at w h.activation) to_super recv zs o) o
      (frame f ∷ g.below) k') args)
      less refl (waiting_worlds g h m (record (aligned k m) { lists = us }) both' f refl)
      (waiting_frame g h ks m x i low loop k' at_home both'.site room at.guarded next')
      (then_enters h.source h.program m.world.store.objects w.store.objects (the_entry w o)
      (λ is. call_entered h.source h.program m.world.store.objects w is (activation_at w h.activation) to_super recv vs o) may)

  -- The instructions before it.

  here : (o : Option ObjId) → (running m).block ≡ o → (activation_at m.world h.activation).block ≡ o
  here o e = ap (λ (p : Place). (activation_at m.world p.activation).block) (sym at_home) ∙ e

  tells : (o : Option ObjId) → (running m).block ≡ o → turn h.program (state_at g h x n (aligned k m))
      ≡ after_machine h.program (text_if m.world (codes "yield") (is_some o)) r (at_line h (n + 1)) (frame_at h x n) g.below
      (aligned k m)
  unfolding yield_told
  tells o e =
      turned h x n (op.Defined r 6 0) g.below (aligned k m) asks.defined
      ∙ ap (λ (q : Option ObjId). after_machine h.program (text_if m.world (codes "yield") (is_some q)) r (at_line h (n + 1))
      (frame_at h x n) g.below (aligned k m)) (here o e)

  -- the method has none
  none_passed : (running m).block ≡ None → go h.source c ≡ perform_call h.source to_super recv vs None ks m
      → (Still m (go h.source c) ⊎ CallsBodies h.source h.program m.world.store.objects m.world.store.objects)
      → Within 6 h.source h.program c (state_at g h x n (aligned k m))
  none_passed e goes may =
      let l = put k.lists h.list r (V Nil) in
      let k' = mem m.world l in
      widen 5 6 (omega arith) h.source h.program c (state_at g h x n (aligned k m))
      (one_more 4 (omega arith) h.source h.program c (state_at g h x n (aligned k m)) (state_at g h x (n + 1) k') from.alike
      (tells None e)
      (one_more 3 (omega arith) h.source h.program c (state_at g h x (n + 1) k') (state_at g h x (n + 1 + 1 + 1) k')
      (from_at (n + 1) m.world l refl).alike
      (jumped_not g h x (n + 1) r (n + 1 + 1 + 1) k' Nil false asks.skips (stands k.lists Nil ready) refl)
      (supers m.world None l (written_ready k.lists Nil ready) (ap read (stands k.lists Nil ready)) tt refl goes may)))

  -- it has one
  one_passed : (p : ObjId) → (running m).block ≡ Some p → IsBlock m.world.store.objects (Some p)
      → go h.source c ≡ perform_call h.source to_super recv vs (Some p) ks (source.with_world m (told_in m.world (Some p)))
      → (Still m (go h.source c) ⊎ CallsBodies h.source h.program m.world.store.objects m.world.store.objects)
      → Within 6 h.source h.program c (state_at g h x n (aligned k m))
  one_passed p e can goes may =
      let w = told_in m.world (Some p) in
      let v = Obj (next_number m.world.store) in
      let l = put k.lists h.list r (V v) in
      let l2 = put l h.list r (V (Obj p)) in
      let once = written_ready k.lists v ready in
      let twice = written_ready l (Obj p) once in
      one_more 5 (omega arith) h.source h.program c (state_at g h x n (aligned k m)) (state_at g h x (n + 1) (mem w l)) from.alike
      (tells (Some p) e)
      (one_more 4 (omega arith) h.source h.program c (state_at g h x (n + 1) (mem w l)) (state_at g h x (n + 1 + 1) (mem w l))
      (from_at (n + 1) w l refl).alike
      (jumped_not g h x (n + 1) r (n + 1 + 1 + 1) (mem w l) v true asks.skips (stands k.lists v ready) refl)
      (one_more 3 (omega arith) h.source h.program c (state_at g h x (n + 1 + 1) (mem w l))
      (state_at g h x (n + 1 + 1 + 1) (mem w l2)) (from_at (n + 1 + 1) w l refl).alike
      (turned h x (n + 1 + 1) (op.BlkPush r) g.below (mem w l) asks.pushes
      ∙ ap (λ (q : Option ObjId). block_of_home h.program q r (at_line h (n + 1 + 1 + 1)) (frame_at h x (n + 1 + 1)) g.below
      (mem w l)) (ap (λ (a : Activation). a.block) (same_running m.world p h.activation) ∙ here (Some p) e))
      (supers w (Some p) l2 twice (ap read (stands l (Obj p) once))
      (block_still m.world.store.objects (codes "yield") (Some p) can) refl goes (still may))))
    where
      still : Still m (go h.source c) ⊎ CallsBodies h.source h.program m.world.store.objects m.world.store.objects
          → Still m (go h.source c)
          ⊎ CallsBodies h.source h.program m.world.store.objects (told_in m.world (Some p)).store.objects
      still (inl q) = inl q
      still (inr q) =
          inr (calls_still m.world.store.objects (codes "yield") h.source h.program m.world.store.objects q)

  pub asks_on : (j : ℕ) → IsBlock m.world.store.objects (running m).block
      → go h.source c ≡ with_arguments h.source j to_super recv vs absent ks m
      → (Still m (go h.source c) ⊎ CallsBodies h.source h.program m.world.store.objects m.world.store.objects)
      → Within 6 h.source h.program c (state_at g h x n (aligned k m))
  unfolding yield_told
  asks_on j can goes may = by (running m).block refl can
    where
      goes_by : (o : Option ObjId) → (running m).block ≡ o
          → go h.source c ≡ perform_call h.source to_super recv vs o ks (source.with_world m (told_in m.world o))
      goes_by o e =
          goes
          ∙ ap (λ (q : Option ObjId). perform_call h.source to_super recv vs q ks (source.with_world m (told_in m.world q))) e

      by : (o : Option ObjId) → (running m).block ≡ o → IsBlock m.world.store.objects o
          → Within 6 h.source h.program c (state_at g h x n (aligned k m))
      by None e is = none_passed e (goes_by None e) may
      by (Some p) e is = one_passed p e is (goes_by (Some p) e) may
