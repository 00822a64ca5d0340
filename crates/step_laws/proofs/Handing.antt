-- The block of a call whose arguments stand in an Array: its value is there in one transition, which leaves the Array as it
-- is, and the call takes both.
use Rattle.std.proofs.Common.{◌≡◌, inr, ℕ, zero, suc, ◌+◌, List, [], ◌∷◌, ◌++◌, ◌≤◌, refl, sym, ap, ◌∙◌, subst, arith, get_or, Bool, true, false}
use Rattle.std.specs.Prelude.{Option, Some, None, unwrap_or}
use Rattle.rb_value.specs.declared.value.Value.{Value}
use Rattle.rb_value.specs.declared.value.Value.TheVariants.{Nil, True, False, Int, Sym, Obj}
use Rattle.rb_value.specs.declared.value.ObjId.{ObjId}
use Rattle.rb_value.specs.declared.value.SymId.{SymId}
use Rattle.rb_value.specs.declared.exit.Slot.TheVariants.{V}
use Rattle.rb_value.specs.Object.{Object}
use Rattle.rb_value.specs.Slot.{read}
use Rattle.rite_code.specs.declared.operation.Operation.{Operation}
use Rattle.rite_code.specs.declared.operation.Operation.TheVariants as op
use Rattle.ir_core.specs.CoreForm.{Name, CoreForm, sym as symbol_form, function, local, Body, Local}
use Rattle.scope_resolver.specs.declared.body_kind.BodyKind.TheVariants as kind
use Rattle.scope_resolver.specs.Layout.{place_of}
use Rattle.gen_parts.specs.declared.line.Line.TheVariants as line
use Rattle.gen_parts.specs.Pieces.{does}
use Rattle.gen_forms.specs.declared.context.Loop.{Loop}
use Rattle.gen_forms.specs.Gen.{gen, body_code, read as reads, symbol as entry_of}
use Rattle.def_core.specs.Bind.{elements_of, elements_in}
use Rattle.def_core.specs.Store.{Store, absent, next_number, with_object}
use Rattle.def_calls.specs.World.{World}
use Rattle.def_calls.specs.Views.{Callable, callable_of, kind_in}
use Rattle.def_calls.specs.Values.{elements_or_itself}
use Rattle.def_calls.specs.Calls.{Sending, by_name, to_super, BlockArgument, no_block, block_of, not_a_block, proc_or_not, block_argument}
use Rattle.def_eval.specs.Source.{parameters_of}
use Rattle.def_eval.specs.Configuration as source
use Rattle.def_eval.specs.Configuration.{block, Item, part, perform, give, Config, Run}
use Rattle.def_eval.specs.Entering.{symbol, make_proc}
use Rattle.def_eval.specs.Forms.{do_form}
use Rattle.def_eval.specs.Giving.{give_part, do_give}
use Rattle.def_eval.specs.Scopes.{variable, scopes_around, shape_of, running}
use Rattle.def_eval.specs.Transition.{go}
use Rattle.def_machine.specs.State as machine
use Rattle.def_machine.specs.State.{Level, frame, value_at, put}
use Rattle.def_machine.specs.Turn.{turn, act, call_with}
use Rattle.eval_laws.specs.Procs.{literal}
use Rattle.step_laws.specs.Site.{Site, within, place_in, at_line, Room, number}
use Rattle.step_laws.specs.Covers.{Makes}
use Rattle.step_laws.specs.Passed.{IsAtOnce, a_literal, a_local, a_symbol}
use Rattle.step_laws.specs.Calm.{IsSteady, QuietBy, Peace}
use Rattle.step_laws.specs.Behind.{Static, HoldsCall, PassesBlock, to_value, to_self, to_above}
use Rattle.step_laws.specs.Relation.{Ground, Common, HandsArray, Handed, Handing, Related, Step}
use Rattle.step_laws.proofs.Placed.{high, high-puts, Stands, Rest, frame_at, turned, the_line}
use Rattle.step_laws.proofs.Registers.{slot_same, slot_other, keeps_above, call_kept}
use Rattle.step_laws.proofs.Untouched.{put_only, frame_kept, made_here, same_here, written_here}
use Rattle.step_laws.proofs.Matching.{by_one, going, state_at, written}
use Rattle.step_laws.proofs.Calling.{From}
use Rattle.step_laws.proofs.Literals.{aligned}
use Rattle.step_laws.proofs.Answers.{symbols_same}
use Rattle.step_laws.proofs.Locals.{local_read}
use Rattle.step_laws.proofs.Definitions.{made_line, high_made}
use Rattle.step_laws.proofs.Operators.{symbol_is}
use Rattle.step_laws.proofs.Blocks.{proc_after, proc_object, same_proc, made_sees, the_scope, ArgumentsFor, passes}

-- A new object that is no Array changes no other.

still_there : (objects : List Object) (o : Object) → elements_of o.kind ≡ None → (n : ℕ)
    → elements_of (get_or (objects ++ o ∷ []) n absent).kind ≡ elements_of (get_or objects n absent).kind
still_there [] o none zero = none
still_there [] o none (suc n) = refl
still_there (q ∷ objects) o none zero = refl
still_there (q ∷ objects) o none (suc n) = still_there objects o none n

elements_still : (st : Store) (o : Object) → elements_of o.kind ≡ None → (id : ObjId)
    → unwrap_or (elements_in (with_object st o).objects (Obj id)) (Obj id ∷ [])
    ≡ unwrap_or (elements_in st.objects (Obj id)) (Obj id ∷ [])
elements_still st o none id =
    ap (λ (e : Option (List Value)). unwrap_or e (Obj id ∷ [])) (still_there st.objects o none id.0)

-- so it is where a block argument is taken
abbrev SameElements : World → ObjId → BlockArgument → Type 0
SameElements w id no_block = Unit {0}
SameElements w id (block_of p u) = elements_or_itself u (Obj id) ≡ elements_or_itself w (Obj id)
SameElements w id not_a_block = Unit {0}

argument_still : (w : World) (id : ObjId) (v : Value) → SameElements w id (block_argument w v)
unfolding block_argument
argument_still w id Nil = tt
argument_still w id True = tt
argument_still w id False = tt
argument_still w id (Int n) = tt
argument_still w id (Sym s) = elements_still w.store _ refl id
argument_still w id (Obj p) = by (callable_of (kind_in w.store.objects (Obj p)))
  where
    by : (x : Option Callable) → SameElements w id (proc_or_not w p x)
    by None = tt
    by (Some q) = refl

-- the Proc of a literal is no Array
proc_still : (m : source.Memory) (j : ℕ) (f : Body) (id : ObjId)
    → elements_or_itself (make_proc m j f false).world (Obj id) ≡ elements_or_itself m.world (Obj id)
unfolding make_proc
proc_still m j f id =
    elements_still m.world.store (proc_object false j (shape_of (parameters_of f)) (scopes_around m.scopes m.place.scope)
    (running m)) refl id

-- The arguments that the instruction reads.
array_arguments : (h : Site) (x : Rest) (n low : ℕ) (id : ObjId) (w : World) (vs : List Value) (k : machine.Memory)
    → k.world ≡ w → value_at k.lists h.list (low + 1) ≡ Obj id → elements_or_itself w (Obj id) ≡ vs → (q : BlockArgument)
    → SameElements w id q → ArgumentsFor (frame_at h x n) k low 255 vs q
array_arguments h x n low id w vs k world second elements no_block same =
    ap (elements_or_itself k.world) second ∙ ap (λ (u : World). elements_or_itself u (Obj id)) world ∙ elements
array_arguments h x n low id w vs k world second elements (block_of p u) same =
    ap (elements_or_itself u) second ∙ same ∙ elements
array_arguments h x n low id w vs k world second elements not_a_block same = tt

module _ (g : Ground) (h : Site) (static : Static h) (ks : List Item) (m : source.Memory) (ls : List Level)
    (k : machine.Memory) (both : Common g h m (aligned k m)) (q : Sending) (recv : Value) (vs : List Value) where
  -- the value of the block is written behind the Array
  beside : (w : World) (x : Rest) (n r : ℕ) (loop : Option Loop) (v : Value) → Room h r
      → Common g h (source.with_world m w) (machine.with_world k w) → m.place ≡ place_in h
      → (z : HandsArray g h m.world q recv vs ks k.lists n r loop)
      → elements_or_itself w (Obj z.id) ≡ elements_or_itself m.world (Obj z.id)
      → Related h (Run (give v) (part (block q recv vs) ∷ ks) (source.with_world m w))
      (state_at g h x n (written h (machine.with_world k w) r v))
  beside w x n r loop v room both' there z same =
      let c = same_here g h (source.with_world m w) (machine.with_world k w) both' in
      let l = put k.lists h.list r (V v) in
      let keeps = keeps_above h k.lists r r (V v) c.present (omega arith) in
      inr (
        g,
        h,
        written_here g h (source.with_world m w) (machine.with_world k w) both' r v room.above,
        record {
          x = x;
          n = n;
          r = r;
          is = refl;
          there = there;
          stands = slot_same k.lists h.list r (V v) c.present (omega (arith, c.long, room.within));
          loop = loop;
          hands = record {
            low = z.low;
            at = z.at;
            own = z.own;
            room = z.room;
            called = call_kept h k.lists l z.own r z.low recv [] keeps z.room.above (omega (arith, z.at)) z.called;
            id = z.id;
            held = keeps.same (z.low + 1) (omega (arith, z.room.above)) (omega (arith, z.at)) ∙ z.held;
            elements = same ∙ z.elements;
            sender = z.sender;
            passes = z.passes;
            sends = z.sends;
            next = frame_kept g h k.lists l ks (n + 1) z.low loop
                (keeps_above h k.lists z.low r (V v) c.present (omega (arith, z.at))) (put_only k.lists h.list r v)
                (omega (arith, both'.free)) z.next;
          };
        },
      )

  abbrev conf : ℕ → CoreForm → Config
  conf j e = Run (perform j e) (part (block q recv vs) ∷ ks) m

  -- the Proc of a literal
  literal_handed : (j : ℕ) (f : Body) (d : Handing g h j (function f) q recv vs ks m ls k.lists)
      → QuietBy (Some (j, scopes_around m.scopes m.place.scope)) m (go h.source (conf j (function f)))
      → Step h (conf j (function f)) (state_at g h d.x d.n (aligned k m))
  unfolding do_form make_proc
  literal_handed j f d quiet =
      let made : Makes h d.r d.s j f = d.covered in
      let ns = scopes_around m.scopes m.place.scope in
      let one : ℕ × List ℕ = (j, ns) in
      let w = (make_proc m j f false).world in
      let v = Obj (next_number m.world.store) in
      let o = op.Block d.r d.s.child in
      let bodies = body_code kind.Block h.context.scopes d.s.body f in
      let goes : go h.source (conf j (function f)) ≡ Run (give v) (part (block q recv vs) ∷ ks) (source.with_world m w) = refl in
      let both' : Common g h (source.with_world m w) (machine.with_world k w) =
      made_here g h m (aligned k m) both w (Some one) (subst (QuietBy (Some one) m) goes quiet).1
      (made_sees g h static ks m ls k both j ns made.sees (the_scope g h static ks m ls k both d.there)) in
      let hands = subst (λ (i : ℕ). HandsArray g h m.world q recv vs ks k.lists (d.n + i) d.r d.loop)
      (high_made o d.s.body bodies) d.hands in
      by_one h (conf j (function f)) (state_at g h d.x d.n (aligned k m))
      (state_at g h d.x (d.n + 1) (written h (machine.with_world k w) d.r v))
      (going (perform j (function f)) (part (block q recv vs) ∷ ks) m (frame (frame_at h d.x d.n) ∷ g.below) (aligned k m) refl)
      (turned h d.x d.n o g.below (aligned k m) (made_line h d.n d.s.body o bodies d.code)
      ∙ ap (proc_after h.program d.r (at_line h (d.n + 1)) (frame_at h d.x d.n) g.below (aligned k m))
      (same_proc g h static ks m ls k both false d.x d.n d.r d.s j f d.there made))
      (subst (λ (z : Config). Related h z (state_at g h d.x (d.n + 1) (written h (machine.with_world k w) d.r v))) (sym goes)
      (beside w d.x (d.n + 1) d.r d.loop v made.room both' d.there hands (proc_still m j f hands.id)))

  -- a value that one instruction loads
  value_handed : (j : ℕ) (e : CoreForm) (d : Handing g h j e q recv vs ks m ls k.lists) (o : Operation) (v : Value)
      → go h.source (conf j e) ≡ Run (give v) (part (block q recv vs) ∷ ks) m → Room h d.r
      → gen (within h d.loop) d.s d.r e ≡ does o
      → act h.program o (at_line h (d.n + 1)) (frame_at h d.x d.n) g.below (aligned k m)
      ≡ state_at g h d.x (d.n + 1) (written h (aligned k m) d.r v) → Step h (conf j e) (state_at g h d.x d.n (aligned k m))
  value_handed j e d o v goes room is acts =
      let code = subst (Stands h d.n) is d.code in
      let hands = subst (λ (i : ℕ). HandsArray g h m.world q recv vs ks k.lists (d.n + i) d.r d.loop)
      (ap high is ∙ high-puts (line.Does o)) d.hands in
      by_one h (conf j e) (state_at g h d.x d.n (aligned k m)) (state_at g h d.x (d.n + 1) (written h (aligned k m) d.r v))
      (going (perform j e) (part (block q recv vs) ∷ ks) m (frame (frame_at h d.x d.n) ∷ g.below) (aligned k m) refl)
      (turned h d.x d.n o g.below (aligned k m) (the_line h d.n (line.Does o) code) ∙ acts)
      (subst (λ (z : Config). Related h z (state_at g h d.x (d.n + 1) (written h (aligned k m) d.r v))) (sym goes)
      (beside m.world d.x (d.n + 1) d.r d.loop v room both d.there hands refl))

  local_handed : (j : ℕ) (x : Local) (d : Handing g h j (local x) q recv vs ks m ls k.lists)
      → Step h (conf j (local x)) (state_at g h d.x d.n (aligned k m))
  unfolding do_form
  local_handed j x d =
      value_handed j (local x) d (reads d.r (place_of h.context.scopes x)) (variable m x) refl d.covered.0 refl
      (local_read g h static ks m ls k both x d.x d.n d.r d.there d.covered.1)

  symbol_handed : (j : ℕ) (y : Name) (d : Handing g h j (symbol_form y) q recv vs ks m ls k.lists)
      → Step h (conf j (symbol_form y)) (state_at g h d.x d.n (aligned k m))
  unfolding do_form
  symbol_handed j y d =
      value_handed j (symbol_form y) d (op.LoadSym d.r (entry_of h.context y)) (Sym (symbol m y)) refl d.covered.0 refl
      (ap (λ (s : SymId). state_at g h d.x (d.n + 1) (written h (aligned k m) d.r (Sym s)))
      (symbols_same h d.x d.n k m y d.covered.1))

  hands_by : {e : CoreForm} → IsAtOnce e → (j : ℕ) (d : Handing g h j e q recv vs ks m ls k.lists)
      → QuietBy (literal (perform j e) m) m (go h.source (conf j e))
      → Step h (conf j e) (state_at g h d.x d.n (aligned k m))
  hands_by (a_literal f) j d quiet = literal_handed j f d quiet
  hands_by (a_local x) j d quiet = local_handed j x d
  hands_by (a_symbol x) j d quiet = symbol_handed j x d

  -- the block is done
  pub do_handing : (j : ℕ) (e : CoreForm) (d : Handing g h j e q recv vs ks m ls k.lists)
      → QuietBy (literal (perform j e) m) m (go h.source (Run (perform j e) (part (block q recv vs) ∷ ks) m))
      → Step h (Run (perform j e) (part (block q recv vs) ∷ ks) m) (state_at g h d.x d.n (aligned k m))
  do_handing j e d quiet = hands_by d.at_once j d quiet

  -- The call takes it, and the Array apart.
  pub give_handed : IsSteady h.source m.world → (v : Value) (d : Handed g h v q recv vs ks m ls k.lists)
      → Peace h.source h.program (give v) (part (block q recv vs) ∷ ks) m
      → Step h (Run (give v) (part (block q recv vs) ∷ ks) m) (state_at g h d.x d.n (aligned k m))
  unfolding do_give give_part
  give_handed steady v d peace = by d.hands.passes
    where
      c : Config
      c = Run (give v) (part (block q recv vs) ∷ ks) m

      from : From h c (frame (frame_at h d.x d.n) ∷ g.below) (aligned k m) m
      from = record {
        alike = going (give v) (part (block q recv vs) ∷ ks) m (frame (frame_at h d.x d.n) ∷ g.below) (aligned k m) refl;
        out = refl;
        quiet = peace.quiet;
      }

      block_there : value_at k.lists h.list (d.hands.low + 1 + 1) ≡ v
      block_there = ap (λ (i : ℕ). value_at k.lists h.list i) d.hands.at ∙ ap read d.stands

      sends_it : (o : Operation) → d.hands.sender ≡ o → turn h.program (state_at g h d.x d.n (aligned k m))
          ≡ act h.program o (at_line h (d.n + 1)) (frame_at h d.x d.n) g.below (aligned k m)
      sends_it o e =
          turned h d.x d.n d.hands.sender g.below (aligned k m) d.hands.sends
          ∙ ap (λ (i : Operation). act h.program i (at_line h (d.n + 1)) (frame_at h d.x d.n) g.below (aligned k m)) e

      of_value : (to : Sending) → q ≡ to → d.hands.own ≡ false
          → turn h.program (state_at g h d.x d.n (aligned k m))
          ≡ call_with h.program to d.hands.low 255 (block_argument m.world (value_at k.lists h.list (d.hands.low + 1 + 1)))
          (at_line h (d.n + 1)) (frame_at h d.x d.n) g.below (aligned k m) → Step h c (state_at g h d.x d.n (aligned k m))
      of_value to sending own turns =
          let held = subst (λ (t : Bool). HoldsCall h k.lists t d.hands.low recv []) own d.hands.called in
          passes g h static ks m k both steady d.there c d.x d.n d.hands.low d.hands.room d.loop from (omega arith) d.hands.sends.guarded (aligned k m)
          both d.hands.next q to sending recv vs 255 (ap read held.0) (block_argument m.world v) refl
          (turns ∙ ap (λ (u : Value). call_with h.program to d.hands.low 255 (block_argument m.world u) (at_line h (d.n + 1))
          (frame_at h d.x d.n) g.below (aligned k m)) block_there)
          (array_arguments h d.x d.n d.hands.low d.hands.id m.world vs (aligned k m) refl (ap read d.hands.held)
          d.hands.elements (block_argument m.world v) (argument_still m.world d.hands.id v)) peace.calls

      of_self : (to : Sending) → q ≡ to → d.hands.own ≡ true
          → turn h.program (state_at g h d.x d.n (aligned k m))
          ≡ call_with h.program to d.hands.low 255
          (block_argument m.world (value_at (written h (aligned k m) d.hands.low (value_at k.lists h.list 0)).lists h.list
          (d.hands.low + 1 + 1))) (at_line h (d.n + 1)) (frame_at h d.x d.n) g.below
          (written h (aligned k m) d.hands.low (value_at k.lists h.list 0))
          → Step h c (state_at g h d.x d.n (aligned k m))
      of_self to sending own turns =
          let held = subst (λ (t : Bool). HoldsCall h k.lists t d.hands.low recv []) own d.hands.called in
          let s = same_here g h m (aligned k m) both in
          let u = value_at k.lists h.list 0 in
          let k' = written h (aligned k m) d.hands.low u in
          let first : value_at k'.lists h.list d.hands.low ≡ recv =
          ap read (slot_same k.lists h.list d.hands.low (V u) s.present (omega (arith, s.long, d.hands.room.within)))
          ∙ s.self ∙ sym held.0 in
          let other : (i : ℕ) → d.hands.low + 1 ≤ i → value_at k'.lists h.list i ≡ value_at k.lists h.list i =
          λ i le. ap read (slot_other k.lists h.list d.hands.low i (V u) s.present (omega (arith, le))) in
          passes g h static ks m k both steady d.there c d.x d.n d.hands.low d.hands.room d.loop from (omega arith) d.hands.sends.guarded k'
          (written_here g h m (aligned k m) both d.hands.low u d.hands.room.above)
          (frame_kept g h k.lists k'.lists ks (d.n + 1) d.hands.low d.loop
          (keeps_above h k.lists d.hands.low d.hands.low (V u) s.present (omega arith)) (put_only k.lists h.list d.hands.low u)
          (omega (arith, both.free)) d.hands.next) q to sending recv vs 255 first (block_argument m.world v) refl
          (turns ∙ ap (λ (z : Value). call_with h.program to d.hands.low 255 (block_argument m.world z) (at_line h (d.n + 1))
          (frame_at h d.x d.n) g.below k') (other (d.hands.low + 1 + 1) (omega arith) ∙ block_there))
          (array_arguments h d.x d.n d.hands.low d.hands.id m.world vs k' refl
          (other (d.hands.low + 1) (omega arith) ∙ ap read d.hands.held) d.hands.elements (block_argument m.world v)
          (argument_still m.world d.hands.id v)) peace.calls

      by : PassesBlock h d.hands.low d.hands.own q 255 d.hands.sender → Step h c (state_at g h d.x d.n (aligned k m))
      by (to_value y e own named o) =
          of_value (by_name (number h.source y)) e own
          (sends_it (op.SendB d.hands.low (entry_of h.context y) 255) o
          ∙ ap (λ (s : SymId). call_with h.program (by_name s) d.hands.low 255
          (block_argument m.world (value_at k.lists h.list (d.hands.low + 1 + 1))) (at_line h (d.n + 1)) (frame_at h d.x d.n)
          g.below (aligned k m)) (symbol_is h d.x d.n (aligned k m) y steady named))
      by (to_self y e own named o) =
          let k' = written h (aligned k m) d.hands.low (value_at k.lists h.list 0) in
          of_self (by_name (number h.source y)) e own
          (sends_it (op.SSendB d.hands.low (entry_of h.context y) 255) o
          ∙ ap (λ (s : SymId). call_with h.program (by_name s) d.hands.low 255
          (block_argument m.world (value_at k'.lists h.list (d.hands.low + 1 + 1))) (at_line h (d.n + 1)) (frame_at h d.x d.n)
          g.below k') (symbol_is h d.x d.n (aligned k m) y steady named))
      by (to_above e own o) = of_self to_super e own (sends_it (op.Super d.hands.low 255) o)
