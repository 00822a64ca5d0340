-- Block literals, and calls with a block: the Proc is made, and passed with the call.
use Rattle.std.proofs.Common.{◌≡◌, ◌⊎◌, ℕ, suc, ◌+◌, ◌<◌, List, ◌∷◌, refl, sym, ap, ◌∙◌, subst, arith, length, get_or, Bool, true, false}
use Rattle.std.specs.Prelude.{if◌then◌else◌, nat_lt, Option, Some, None, unwrap_or}
use Rattle.rb_value.specs.declared.value.Value.{Value}
use Rattle.rb_value.specs.declared.value.Value.TheVariants.{Obj}
use Rattle.rb_value.specs.declared.value.ObjId.{ObjId}
use Rattle.rb_value.specs.declared.value.SymId.{SymId}
use Rattle.rb_value.specs.declared.exit.Slot.TheVariants.{V}
use Rattle.rb_value.specs.Slot.{read}
use Rattle.rb_value.specs.declared.method.Shape.{Shape}
use Rattle.rb_value.specs.Object.{Object}
use Rattle.rb_value.specs.declared.procs.Sending.TheVariants.{Unsent}
use Rattle.rb_value.specs.declared.kind.Kind.TheVariants as kinds
use Rattle.rb_value.specs.declared.core_class.CoreClass.TheVariants as class
use Rattle.rite_code.specs.declared.operation.Operation.TheVariants as op
use Rattle.rite_code.specs.Code.{Program}
use Rattle.rite_code.specs.declared.code.Irep.{Irep}
use Rattle.rite_code.specs.declared.operation.Operation.{Operation}
use Rattle.ir_core.specs.CoreForm.{CoreForm, function, lambda, Body}
use Rattle.scope_resolver.specs.declared.body_kind.BodyKind.TheVariants as kind
use Rattle.gen_parts.specs.declared.emitter.Spot.{Spot}
use Rattle.gen_parts.specs.Pieces.{makes}
use Rattle.gen_forms.specs.declared.context.Loop.{Loop}
use Rattle.gen_forms.specs.Gen.{body_code, symbol as entry_of}
use Rattle.def_core.specs.Store.{core, fresh, next_number}
use Rattle.def_calls.specs.World.{World, Activation, Answer, Result, gives, raises, make, activation_at}
use Rattle.def_calls.specs.Values.{wrong_value}
use Rattle.def_calls.specs.Calls.{Sending, by_name, to_super, Entry, BlockArgument, no_block, block_of, not_a_block, block_argument, passing}
use Rattle.def_calls.specs.Calls as calls
use Rattle.def_eval.specs.Source.{parameters_of}
use Rattle.def_eval.specs.Configuration as source
use Rattle.def_eval.specs.Configuration.{Place, block, Item, part, perform, give, Config, Run}
use Rattle.def_eval.specs.Scopes.{scopes_around, shape_of}
use Rattle.def_eval.specs.Entering.{first_of, after, after_result, enter, make_proc}
use Rattle.def_eval.specs.Forms.{perform_call, do_form}
use Rattle.def_eval.specs.Giving.{with_block, give_part, do_give}
use Rattle.def_eval.specs.Transition.{go}
use Rattle.def_machine.specs.State as machine
use Rattle.def_machine.specs.State.{Frame, Level, frame, State, body_at, value_at}
use Rattle.def_machine.specs.Unwind.{after_result as after_machine}
use Rattle.def_machine.specs.Entering.{enter as enter_machine}
use Rattle.def_machine.specs.Turn.{turn, act, fetch, shape_by, lists_around, make_proc as make_proc_machine, arguments, registers_of, call as call_machine, call_with}
use Rattle.scope_laws.proofs.Alike.{around_alike}
use Rattle.step_laws.specs.Site.{Site, IsGuarded, place_in, at_line, Room, number}
use Rattle.step_laws.specs.Around.{Around}
use Rattle.step_laws.specs.Covers.{Makes}
use Rattle.step_laws.specs.Calm.{IsSteady, QuietBy, Quiet, Still, Peace, objects_with}
use Rattle.step_laws.specs.Bodies.{CallsBodies}
use Rattle.step_laws.specs.Measure.{burden, measure}
use Rattle.step_laws.proofs.Placed.{high, Stands, Rest, frame_at, turned}
use Rattle.step_laws.specs.Behind.{Static, Holds, HoldsCall, PassesBlock, to_value, to_self, to_above}
use Rattle.step_laws.specs.Relation.{Ground, over_levels, InFrame, Linked, SeesIn, Common, Doing, GivesIn, raised, Related, Step}
use Rattle.step_laws.proofs.Registers.{slot_same, slot_other, keeps_above}
use Rattle.step_laws.proofs.Untouched.{put_only, frame_kept, grown, grown_here, made_here, same_here, written_here, below_running}
use Rattle.step_laws.proofs.Matching.{by_none, by_one, going, state_at, written, writes}
use Rattle.step_laws.proofs.Calling.{From, leaves_frame}
use Rattle.step_laws.proofs.Literals.{aligned}
use Rattle.step_laws.proofs.Operators.{arguments_are, not_all, symbol_is}
use Rattle.step_laws.proofs.Called.{call_entered}
use Rattle.step_laws.proofs.Entered.{then_enters, entered}
use Rattle.step_laws.proofs.Definitions.{made_line, high_made}
use Rattle.step_laws.proofs.Packing.{items_kept}
use Rattle.step_laws.proofs.Waiting.{asking, waiting_worlds, waiting_frame}

-- what the instruction does that makes a Proc
abbrev pub proc_after : Program → ℕ → ℕ → Frame → List Level → machine.Memory → Answer → State
proc_after p r next f ls k b = after_machine p b.result r next f ls (machine.with_world k b.world)

-- the Proc of a body
abbrev pub proc_object : Bool → ℕ → Shape → List ℕ → Activation → Object
proc_object l n s ns a = fresh (core class.Proc) (kinds.Proc (record {
  code = n;
  shape = s;
  scopes = ns;
  receiver = a.self;
  owner = a.owner;
  name = a.name;
  classes = a.classes;
  home = a.home;
  sending = Unsent;
  block = a.block;
  lambda = l;
}))

abbrev the_proc : Bool → World → ℕ → Shape → List ℕ → Activation → Answer
the_proc l w n s ns a = make w (proc_object l n s ns a)

-- the arguments that the instruction of a call reads, by what the block argument is
abbrev pub ArgumentsFor : Frame → machine.Memory → ℕ → ℕ → List Value → BlockArgument → Type 0
ArgumentsFor f k low count vs no_block = arguments f k low count ≡ vs
ArgumentsFor f k low count vs (block_of p w) = arguments f (machine.with_world k w) low count ≡ vs
ArgumentsFor f k low count vs not_a_block = Unit {0}

module _ (g : Ground) (h : Site) (static : Static h) (ks : List Item) (m : source.Memory) (ls : List Level)
    (k : machine.Memory) (both : Common g h m (aligned k m)) where
  -- both sides make the same
  pub same_proc : (l : Bool) (x : Rest) (n r : ℕ) (s : Spot) (j : ℕ) (f : Body) → m.place ≡ place_in h → Makes h r s j f
      → make_proc_machine h.program (frame_at h x n) (aligned k m) (get_or (body_at h.program h.body).children s.child 0) l
      ≡ make_proc m j f l
  unfolding make_proc make_proc_machine
  same_proc l x n r s j f there made =
      let a = activation_at m.world h.activation in
      let ns = lists_around (suc h.list) k.lists (Some h.list) in
      ap (λ (i : ℕ). the_proc l m.world i (shape_by (fetch h.program i 0)) ns a) made.child
      ∙ ap (λ (q : Shape). the_proc l m.world j q ns a) made.shape
      ∙ ap (λ (q : List ℕ). the_proc l m.world j (shape_of (parameters_of f)) q a)
      (sym (around_alike m.scopes k.lists (sym both.all.sites.around) h.list))
      ∙ ap (λ (q : Place). the_proc l m.world j (shape_of (parameters_of f)) (scopes_around m.scopes q.scope)
      (activation_at m.world q.activation)) (sym there)

  -- its body sees what its literal sees, in the scope of this site
  pub the_scope : m.place ≡ place_in h → first_of (scopes_around m.scopes m.place.scope) ≡ Some h.list
  unfolding scopes_around
  the_scope there = ap (λ (q : Place). Some q.scope) there

  sees_here : (j : ℕ) (ns : List ℕ) → Around h.source j h.context.scopes → first_of ns ≡ Some h.list
      → SeesIn h.source g.sites j ns
  sees_here j ns sees e = (
    h.context.scopes,
    sees,
    subst (Linked g.sites h.context.scopes) (sym e) (h, both.site, refl, refl),
  )

  pub made_sees : (j : ℕ) (ns : List ℕ) → Around h.source j h.context.scopes → first_of ns ≡ Some h.list → (b : ℕ)
      (us : List ℕ) → ◌≡◌ {A = Option (ℕ × List ℕ)} (Some (j, ns)) (Some (b, us)) → SeesIn h.source g.sites b us
  made_sees j ns sees e b us is =
      let one : j ≡ b = ap (λ (o : Option (ℕ × List ℕ)). (unwrap_or o (j, ns)).0) is in
      let two : ns ≡ us = ap (λ (o : Option (ℕ × List ℕ)). (unwrap_or o (j, ns)).1) is in
      subst (λ (i : ℕ). SeesIn h.source g.sites i us) one (subst (SeesIn h.source g.sites j) two (sees_here j ns sees e))

  -- the Proc of a block or of a lambda is made
  proc_given : (l : Bool) (j : ℕ) (e : CoreForm) (f : Body) (o : Operation) (bodies : List Irep)
      (d : Doing g h j e ks m.place ls k.lists) → Makes h d.r d.s j f → Stands h d.n (makes o d.s.body bodies)
      → InFrame g h k.lists ks (d.n + high (makes o d.s.body bodies)) d.r d.loop
      → go h.source (Run (perform j e) ks m)
      ≡ Run (give (Obj (next_number m.world.store))) ks (source.with_world m (make_proc m j f l).world)
      → act h.program o (at_line h (d.n + 1)) (frame_at h d.x d.n) g.below (aligned k m)
      ≡ proc_after h.program d.r (at_line h (d.n + 1)) (frame_at h d.x d.n) g.below (aligned k m)
      (make_proc_machine h.program (frame_at h d.x d.n) (aligned k m)
      (get_or (body_at h.program h.body).children d.s.child 0) l)
      → QuietBy (Some (j, scopes_around m.scopes m.place.scope)) m (go h.source (Run (perform j e) ks m))
      → Step h (Run (perform j e) ks m) (state_at g h d.x d.n (aligned k m))
  unfolding make_proc
  proc_given l j e f o bodies d made code next goes acts quiet =
      let c = Run (perform j e) ks m in
      let ns = scopes_around m.scopes m.place.scope in
      let one : ℕ × List ℕ = (j, ns) in
      let w = (make_proc m j f l).world in
      let v = Obj (next_number m.world.store) in
      let k' = machine.with_world k w in
      let both' : Common g h (source.with_world m w) k' =
      made_here g h m (aligned k m) both w (Some one) (subst (QuietBy (Some one) m) goes quiet).1
      (made_sees j ns made.sees (the_scope d.there)) in
      by_one h c (state_at g h d.x d.n (aligned k m)) (state_at g h d.x (d.n + 1) (written h k' d.r v))
      (going (perform j e) ks m (frame (frame_at h d.x d.n) ∷ g.below) (aligned k m) refl)
      (turned h d.x d.n o g.below (aligned k m) (made_line h d.n d.s.body o bodies code) ∙ acts
      ∙ ap (proc_after h.program d.r (at_line h (d.n + 1)) (frame_at h d.x d.n) g.below (aligned k m))
      (same_proc l d.x d.n d.r d.s j f d.there made))
      (subst (λ (z : Config). Related h z (state_at g h d.x (d.n + 1) (written h k' d.r v))) (sym goes)
      (writes g h static v ks (source.with_world m w) d.x k' (d.n + 1) d.r d.loop both' d.there made.room
      (subst (λ (i : ℕ). InFrame g h k.lists ks (d.n + i) d.r d.loop) (high_made o d.s.body bodies) next)))

  pub do_function : (j : ℕ) (f : Body) (d : Doing g h j (function f) ks m.place ls k.lists)
      → QuietBy (Some (j, scopes_around m.scopes m.place.scope)) m (go h.source (Run (perform j (function f)) ks m))
      → Step h (Run (perform j (function f)) ks m) (state_at g h d.x d.n (aligned k m))
  unfolding do_form make_proc
  do_function j f d quiet =
      proc_given false j (function f) f (op.Block d.r d.s.child) (body_code kind.Block h.context.scopes d.s.body f) d d.covered
      d.code d.next refl refl quiet

  pub do_lambda : (j : ℕ) (f : Body) (d : Doing g h j (lambda f) ks m.place ls k.lists)
      → QuietBy (Some (j, scopes_around m.scopes m.place.scope)) m (go h.source (Run (perform j (lambda f)) ks m))
      → Step h (Run (perform j (lambda f)) ks m) (state_at g h d.x d.n (aligned k m))
  unfolding do_form make_proc
  do_lambda j f d quiet =
      proc_given true j (lambda f) f (op.Lambda d.r d.s.child) (body_code kind.Block h.context.scopes d.s.body f) d d.covered
      d.code d.next refl refl quiet

-- A call with a block whose items, and the block, stand in their registers.
module _ (g : Ground) (h : Site) (static : Static h) (ks : List Item) (m : source.Memory) (k : machine.Memory)
    (both : Common g h m (aligned k m)) (steady : IsSteady h.source m.world) (at_home : m.place ≡ place_in h) (c : Config)
    (x : Rest) (n low : ℕ) (room : Room h low) (around : Option Loop)
    (from : From h c (frame (frame_at h x n) ∷ g.below) (aligned k m) m) (less : burden ks m < measure c) (guarded : IsGuarded h n)
  where
    -- what an instruction answers that has written a register before
    answer_in : (r : Result) (w : World) (k' : machine.Memory) → Common g h m k' → InFrame g h k'.lists ks (n + 1) low around
        → go h.source c ≡ after_result r w ks m
        → turn h.program (state_at g h x n (aligned k m))
        ≡ after_machine h.program r low (at_line h (n + 1)) (frame_at h x n) g.below (machine.with_world k' w)
        → Step h c (state_at g h x n (aligned k m))
    answer_in (gives v) w k' both' next goes turns =
        let quiet = subst (Quiet m) goes from.quiet in
        let k2 = machine.with_world k' w in
        let both2 : Common g h (source.with_world m w) k2 = grown_here g h m k' both' w quiet.1 in
        by_one h c (state_at g h x n (aligned k m)) (state_at g h x (n + 1) (written h k2 low v)) from.alike turns
        (subst (λ (d : Config). Related h d (state_at g h x (n + 1) (written h k2 low v))) (sym goes)
        (writes g h static v ks (source.with_world m w) x k2 (n + 1) low around both2 at_home room next))
    answer_in (raises e) w k' both' next goes turns =
        let quiet = subst (Quiet m) goes from.quiet in
        by_none h c (state_at g h x n (aligned k m))
        (subst (λ (d : Config). measure d < measure c) (sym goes) (omega (arith, less)))
        (subst (λ (d : Config). Related h d (state_at g h x n (aligned k m))) (sym goes) (raised (record {
          g = over_levels g (frame (frame_at h x n) ∷ g.below);
          e = e;
          exception = refl;
          memory = machine.with_world k' w;
          throws = turns;
          out = from.out ∙ sym quiet.0;
          both = grown (over_levels g (frame (frame_at h x n) ∷ g.below)) m k'
              (below_running g h m k' both' (frame_at h x n) refl) m.place w quiet.1;
          leaving = leaves_frame g h k'.lists ks (n + 1) low around x n both'.site guarded next;
        })))

    module _ (k' : machine.Memory) (both' : Common g h m k') (next : InFrame g h k'.lists ks (n + 1) low around)
        (sender to : Sending) (sending : sender ≡ to) (recv : Value) (vs : List Value) (count : ℕ)
        (first : value_at k'.lists h.list low ≡ recv) where
      abbrev the_entry : World → Option ObjId → Entry
      the_entry w b = calls.call w (activation_at w h.activation) to recv vs b

      -- what is called with that block in that world
      enters_with : (b : Option ObjId) (w : World) → go h.source c ≡ perform_call h.source sender recv vs b ks (source.with_world m w)
          → turn h.program (state_at g h x n (aligned k m))
          ≡ call_machine h.program to low count b (at_line h (n + 1)) (frame_at h x n)
          g.below (machine.with_world k' w)
          → arguments (frame_at h x n) (machine.with_world k' w) low count ≡ vs
          → (Still m (go h.source c) ⊎ CallsBodies h.source h.program m.world.store.objects w.store.objects)
          → Step h c (state_at g h x n (aligned k m))
      enters_with b w goes turns args may =
          let f = frame_at h (asking h x n low) n in
          let e = the_entry w b in
          (entered h.source h.program c (frame (frame_at h x n) ∷ g.below) (aligned k m) m from e b ks (source.with_world m w) g
          (frame f ∷ g.below) (machine.with_world k' w)
          (goes
          ∙ ap (λ (q : Sending). perform_call h.source q recv vs b ks (source.with_world m w)) sending
          ∙ ap (λ (p : Place). enter h.source
          (calls.call w (activation_at w p.activation) to recv vs b) b ks
          (source.with_world m w)) at_home)
          (turns
          ∙ ap (λ (u : Value). enter_machine h.program (calls.call w (activation_at w h.activation)
          to u (arguments (frame_at h x n) (machine.with_world k' w) low count) b) b
          (frame f ∷ g.below) (machine.with_world k' w)) first
          ∙ ap (λ (us : List Value). enter_machine h.program (calls.call w (activation_at w h.activation)
          to recv us b) b (frame f ∷ g.below) (machine.with_world k' w)) args)
          less refl (waiting_worlds g h m k' both' f refl)
          (waiting_frame g h ks m x n low around k' at_home both'.site room guarded next)
          (then_enters h.source h.program m.world.store.objects w.store.objects e
          (λ is. call_entered h.source h.program m.world.store.objects w is (activation_at w h.activation) to recv vs
          b) may)).advances

      -- by what the block argument is
      pub passes : (q : BlockArgument) → go h.source c ≡ with_block h.source sender recv vs q ks m
          → turn h.program (state_at g h x n (aligned k m))
          ≡ call_with h.program to low count q (at_line h (n + 1)) (frame_at h x n) g.below k'
          → ArgumentsFor (frame_at h x n) k' low count vs q
          → (Still m (go h.source c) ⊎ CallsBodies h.source h.program m.world.store.objects (objects_with m.world q))
          → Step h c (state_at g h x n (aligned k m))
      passes no_block goes turns args may =
          enters_with None m.world goes
          (turns ∙ ap (λ (w : World). call_machine h.program to low count None
          (at_line h (n + 1)) (frame_at h x n) g.below (machine.with_world k' w)) both'.all.world)
          (subst (λ (w : World). arguments (frame_at h x n) (machine.with_world k' w) low count ≡ vs) both'.all.world args) may
      passes (block_of p w) goes turns args may = enters_with (Some p) w goes turns args may
      passes not_a_block goes turns args may =
          let a : World → Answer = λ w. wrong_value w (passing to) in
          answer_in (a m.world).result (a m.world).world k' both' next
          (goes ∙ ap (λ (q : Sending). after (wrong_value m.world (passing q)) ks m) sending)
          (turns ∙ ap (λ (w : World). after_machine h.program (a w).result low (at_line h (n + 1)) (frame_at h x n) g.below
          (machine.with_world k' (a w).world)) both'.all.world)

-- The block has its value: the call.
module _ (g : Ground) (h : Site) (static : Static h) (ks : List Item) (m : source.Memory) (ls : List Level)
    (k : machine.Memory) (both : Common g h m (aligned k m)) (steady : IsSteady h.source m.world) where
  registers_few : (n : ℕ) → nat_lt 253 n ≡ false → registers_of n ≡ n
  registers_few n few = ap (λ (b : Bool). if b then 1 else n) (not_all n few)

  -- the arguments are the items, whatever the block is
  row_arguments : (k' : machine.Memory) (x : Rest) (n low : ℕ) (vs : List Value) → Holds k'.lists h.list (low + 1) vs
      → nat_lt 253 (length vs) ≡ false → (q : BlockArgument) → ArgumentsFor (frame_at h x n) k' low (length vs) vs q
  row_arguments k' x n low vs held few no_block = arguments_are (frame_at h x n) k' low (length vs) vs held refl few
  row_arguments k' x n low vs held few (block_of p w) =
      arguments_are (frame_at h x n) (machine.with_world k' w) low (length vs) vs held refl few
  row_arguments k' x n low vs held few not_a_block = tt

  -- the value of the block stands behind the items
  abbrev behind_items : ℕ → List Value → ℕ
  behind_items low vs = low + 1 + length vs

  -- with what the instruction calls, whose block is read there
  called_with : (k' : machine.Memory) (x : Rest) (n low : ℕ) (q : Sending) (vs : List Value) (v : Value)
      → k'.world ≡ m.world → nat_lt 253 (length vs) ≡ false → value_at k'.lists h.list (behind_items low vs) ≡ v
      → call_with h.program q low (length vs)
      (block_argument k'.world (value_at k'.lists h.list (low + 1 + registers_of (length vs)))) (at_line h (n + 1))
      (frame_at h x n) g.below k'
      ≡ call_with h.program q low (length vs) (block_argument m.world v) (at_line h (n + 1)) (frame_at h x n) g.below k'
  called_with k' x n low q vs v same few is =
      let by : BlockArgument → State =
      λ b. call_with h.program q low (length vs) b (at_line h (n + 1)) (frame_at h x n) g.below k' in
      let u = value_at k'.lists h.list (low + 1 + registers_of (length vs)) in
      ap (λ (w : World). by (block_argument w u)) same
      ∙ ap (λ (i : ℕ). by (block_argument m.world (value_at k'.lists h.list (low + 1 + i)))) (registers_few (length vs) few)
      ∙ ap (λ (z : Value). by (block_argument m.world z)) is

  pub give_block : (v : Value) (sender : Sending) (recv : Value) (vs : List Value)
      (d : GivesIn g h v (part (block sender recv vs) ∷ ks) m.place ls k.lists)
      → Peace h.source h.program (give v) (part (block sender recv vs) ∷ ks) m
      → Step h (Run (give v) (part (block sender recv vs) ∷ ks) m) (state_at g h d.x d.n (aligned k m))
  unfolding do_give give_part
  give_block v sender recv vs d peace = by d.next.behind.passes
    where
      conf : Config
      conf = Run (give v) (part (block sender recv vs) ∷ ks) m

      from : From h conf (frame (frame_at h d.x d.n) ∷ g.below) (aligned k m) m
      from = record {
        alike = going (give v) (part (block sender recv vs) ∷ ks) m (frame (frame_at h d.x d.n) ∷ g.below) (aligned k m) refl;
        out = refl;
        quiet = peace.quiet;
      }

      next : InFrame g h k.lists ks (d.n + 1) d.next.low d.next.outer
      next = subst (λ (i : ℕ). InFrame g h k.lists ks i d.next.low d.next.outer) (sym d.next.behind.ends) d.next.next

      is : value_at k.lists h.list (behind_items d.next.low vs) ≡ v
      is = ap (λ (i : ℕ). value_at k.lists h.list i) d.next.behind.at ∙ ap read d.stands

      sends_it : (o : Operation) → d.next.behind.sender ≡ o → turn h.program (state_at g h d.x d.n (aligned k m))
          ≡ act h.program o (at_line h (d.n + 1)) (frame_at h d.x d.n) g.below (aligned k m)
      sends_it o e =
          turned h d.x d.n d.next.behind.sender g.below (aligned k m) d.next.behind.sends
          ∙ ap (λ (q : Operation). act h.program q (at_line h (d.n + 1)) (frame_at h d.x d.n) g.below (aligned k m)) e

      of_value : (q : Sending) → sender ≡ q → d.next.behind.own ≡ false
          → turn h.program (state_at g h d.x d.n (aligned k m))
          ≡ call_with h.program q d.next.low (length vs)
          (block_argument m.world (value_at k.lists h.list (d.next.low + 1 + registers_of (length vs)))) (at_line h (d.n + 1))
          (frame_at h d.x d.n) g.below (aligned k m) → Step h conf (state_at g h d.x d.n (aligned k m))
      of_value q sending own turns =
          let y = d.next.behind in
          let held = subst (λ (t : Bool). HoldsCall h k.lists t d.next.low recv vs) own y.held in
          passes g h static ks m k both steady d.there conf d.x d.n d.next.low y.room d.next.outer from (omega arith) y.sends.guarded
          (aligned k m) both next sender q sending recv vs (length vs) (ap read held.0) (block_argument m.world v) refl
          (turns ∙ called_with (aligned k m) d.x d.n d.next.low q vs v refl y.few is)
          (row_arguments (aligned k m) d.x d.n d.next.low vs held.1 y.few (block_argument m.world v)) peace.calls

      of_self : (q : Sending) → sender ≡ q → d.next.behind.own ≡ true
          → turn h.program (state_at g h d.x d.n (aligned k m))
          ≡ call_with h.program q d.next.low (length vs)
          (block_argument m.world (value_at (written h (aligned k m) d.next.low (value_at k.lists h.list 0)).lists h.list
          (d.next.low + 1 + registers_of (length vs)))) (at_line h (d.n + 1)) (frame_at h d.x d.n) g.below
          (written h (aligned k m) d.next.low (value_at k.lists h.list 0))
          → Step h conf (state_at g h d.x d.n (aligned k m))
      of_self q sending own turns =
          let y = d.next.behind in
          let held = subst (λ (t : Bool). HoldsCall h k.lists t d.next.low recv vs) own y.held in
          let s = same_here g h m (aligned k m) both in
          let u = value_at k.lists h.list 0 in
          let k' = written h (aligned k m) d.next.low u in
          let first : value_at k'.lists h.list d.next.low ≡ recv =
          ap read (slot_same k.lists h.list d.next.low (V u) s.present (omega (arith, s.long, y.room.within)))
          ∙ s.self ∙ sym held.0 in
          let is' : value_at k'.lists h.list (behind_items d.next.low vs) ≡ v =
          ap read (slot_other k.lists h.list d.next.low (behind_items d.next.low vs) (V u) s.present (omega arith)) ∙ is in
          let next' = frame_kept g h k.lists k'.lists ks (d.n + 1) d.next.low d.next.outer
          (keeps_above h k.lists d.next.low d.next.low (V u) s.present (omega arith)) (put_only k.lists h.list d.next.low u)
          (omega (arith, both.free)) next in
          passes g h static ks m k both steady d.there conf d.x d.n d.next.low y.room d.next.outer from (omega arith) y.sends.guarded k'
          (written_here g h m (aligned k m) both d.next.low u y.room.above) next' sender q sending recv vs (length vs) first
          (block_argument m.world v) refl (turns ∙ called_with k' d.x d.n d.next.low q vs v refl y.few is')
          (row_arguments k' d.x d.n d.next.low vs
          (items_kept h k.lists (d.next.low + 1) d.next.low u vs s.present (omega arith) held.1) y.few
          (block_argument m.world v)) peace.calls

      by : PassesBlock h d.next.low d.next.behind.own sender (length vs) d.next.behind.sender
          → Step h conf (state_at g h d.x d.n (aligned k m))
      by (to_value y e own named o) =
          of_value (by_name (number h.source y)) e own
          (sends_it (op.SendB d.next.low (entry_of h.context y) (length vs)) o
          ∙ ap (λ (s : SymId). call_with h.program (by_name s) d.next.low (length vs)
          (block_argument m.world (value_at k.lists h.list (d.next.low + 1 + registers_of (length vs)))) (at_line h (d.n + 1))
          (frame_at h d.x d.n) g.below (aligned k m)) (symbol_is h d.x d.n (aligned k m) y steady named))
      by (to_self y e own named o) =
          let k' = written h (aligned k m) d.next.low (value_at k.lists h.list 0) in
          of_self (by_name (number h.source y)) e own
          (sends_it (op.SSendB d.next.low (entry_of h.context y) (length vs)) o
          ∙ ap (λ (s : SymId). call_with h.program (by_name s) d.next.low (length vs)
          (block_argument m.world (value_at k'.lists h.list (d.next.low + 1 + registers_of (length vs)))) (at_line h (d.n + 1))
          (frame_at h d.x d.n) g.below k') (symbol_is h d.x d.n (aligned k m) y steady named))
      by (to_above e own o) = of_self to_super e own (sends_it (op.Super d.next.low (length vs)) o)
