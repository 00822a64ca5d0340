-- Calls of a name alone: a method of self without arguments, or what else the name is said to be where there is none.
use Rattle.std.proofs.Common.{◌≡◌, ℕ, ◌+◌, List, [], ◌∷◌, refl, sym, ap, ◌∙◌, subst, arith}
use Rattle.std.specs.Prelude.{None}
use Rattle.rb_value.specs.declared.value.Value.{Value}
use Rattle.rb_value.specs.declared.value.SymId.{SymId}
use Rattle.rb_value.specs.declared.exit.Slot.TheVariants.{V}
use Rattle.rb_value.specs.Slot.{read}
use Rattle.rite_code.specs.declared.operation.Operation.TheVariants as op
use Rattle.ir_core.specs.CoreForm.{Name, call, absent, no_items, bare}
use Rattle.gen_parts.specs.declared.line.Line.TheVariants as line
use Rattle.gen_parts.specs.Pieces.{nothing, does, ◌⊕◌}
use Rattle.gen_forms.specs.Gen.{gen, symbol as entry_of}
use Rattle.def_calls.specs.World.{Activation, activation_at}
use Rattle.def_calls.specs.Calls.{by_bare_name, Entry}
use Rattle.def_calls.specs.Calls as calls
use Rattle.def_eval.specs.Configuration as source
use Rattle.def_eval.specs.Configuration.{Place, Item, perform, Run}
use Rattle.def_eval.specs.Entering.{symbol, enter}
use Rattle.def_eval.specs.Forms.{self_of, do_form}
use Rattle.def_machine.specs.State as machine
use Rattle.def_machine.specs.State.{Level, frame, State, value_at}
use Rattle.def_machine.specs.Entering.{enter as enter_machine}
use Rattle.step_laws.specs.Site.{Site, within, at_line, LineAt}
use Rattle.step_laws.specs.Calm.{IsSteady, Peace}
use Rattle.step_laws.proofs.Placed.{high, high-both, high-nothing, high-puts, moved, right, the_line, Rest, frame_at, turned}
use Rattle.step_laws.proofs.Guards.{within_both, within_nothing}
use Rattle.step_laws.specs.Behind.{Static}
use Rattle.step_laws.specs.Relation.{Ground, Waits, over_levels, InFrame, Common, Doing, Step}
use Rattle.step_laws.proofs.Registers.{keeps_above, slot_same}
use Rattle.step_laws.proofs.Untouched.{put_only, frame_kept, grown, same_here, written_here, below_running}
use Rattle.step_laws.proofs.Matching.{going, state_at, written}
use Rattle.step_laws.proofs.Called.{call_entered}
use Rattle.step_laws.proofs.Entered.{then_enters, entered}
use Rattle.step_laws.proofs.Literals.{aligned, self_is}
use Rattle.step_laws.proofs.Answers.{symbols_same}

-- the frame waits for the call's value
abbrev asking : Site → Rest → ℕ → ℕ → Rest
asking h x n r = record x { after = at_line h (n + 1); waits = r }

module _ (g : Ground) (h : Site) (static : Static h) (ks : List Item) (m : source.Memory) (ls : List Level)
    (k : machine.Memory) (both : Common g h m (aligned k m)) (steady : IsSteady h.source m.world) where
  abbrev the_entry : SymId → Activation → Value → Entry
  the_entry s a recv = calls.call m.world a (by_bare_name s) recv [] None

  pub do_call_bare : (j : ℕ) (y : Name) (d : Doing g h j (call bare y no_items absent) ks m.place ls k.lists)
      → Peace h.source h.program (perform j (call bare y no_items absent)) ks m
      → Step h (Run (perform j (call bare y no_items absent)) ks m) (state_at g h d.x d.n (aligned k m))
  unfolding do_form
  do_call_bare j y d peace =
      let conf = Run (perform j (call bare y no_items absent)) ks m in
      let r = d.r in
      let o = op.SSend r (entry_of h.context y) 254 in
      let v = value_at k.lists h.list 0 in
      let k' = written h (aligned k m) r v in
      let s = same_here g h m (aligned k m) both in
      let both' = written_here g h m (aligned k m) both r v d.covered.0.above in
      let code = right h d.n (nothing ⊕ nothing) (nothing ⊕ does o)
      (within_both _ nothing nothing (within_nothing _) (within_nothing _)) d.code in
      let last = right h (d.n + high (nothing ⊕ nothing)) nothing (does o) (within_nothing _) code in
      let at : LineAt h d.n (line.Does o) =
      the_line h d.n (line.Does o) (moved h (d.n + high (nothing ⊕ nothing) + high nothing) d.n (does o)
      (omega (arith, high-both nothing nothing, high-nothing)) last) in
      let tall : d.n + high (gen (within h d.loop) d.s r (call bare y no_items absent)) ≡ d.n + 1 =
      omega (
        arith,
        high-both (nothing ⊕ nothing) (nothing ⊕ does o),
        high-both nothing nothing,
        high-both nothing (does o),
        high-nothing,
        high-puts (line.Does o),
      ) in
      let next : InFrame g h k'.lists ks (d.n + 1) r d.loop =
      frame_kept g h k.lists k'.lists ks (d.n + 1) r d.loop
      (keeps_above h k.lists r r (V v) s.present (omega arith)) (put_only k.lists h.list r v) (omega (arith, both.free))
      (subst (λ (i : ℕ). InFrame g h k.lists ks i r d.loop) tall d.next) in
      let self = self_is g h m (aligned k m) both d.there in
      let first : value_at k'.lists h.list r ≡ v =
      ap read (slot_same k.lists h.list r (V v) s.present (omega (arith, s.long, d.covered.0.within))) in
      let f = frame_at h (asking h d.x d.n r) d.n in
      let waiting : Waits g.sites g.fiber k'.lists ks m.place (frame f ∷ g.below) = record {
        h = h;
        x = asking h d.x d.n r;
        at = d.n;
        n = d.n + 1;
        is = refl;
        site = both.site;
        after = refl;
        room = d.covered.0;
        there = d.there;
        guarded = at.guarded;
        around = d.loop;
        next = next;
      } in
      (entered h.source h.program conf (frame (frame_at h d.x d.n) ∷ g.below) (aligned k m) m (record {
        alike = going (perform j (call bare y no_items absent)) ks m (frame (frame_at h d.x d.n) ∷ g.below) (aligned k m) refl;
        out = refl;
        quiet = peace.quiet;
      }) (the_entry (symbol m y) (activation_at m.world h.activation) (self_of m)) None ks m g
      (frame f ∷ g.below) k'
      (ap (λ (p : Place). enter h.source (the_entry (symbol m y) (activation_at m.world p.activation) (self_of m)) None ks m)
      d.there)
      (turned h d.x d.n o g.below (aligned k m) at
      ∙ ap (λ (i : SymId). told i (value_at k'.lists h.list r)) (symbols_same h d.x d.n k m y d.covered.1)
      ∙ ap (told (symbol m y)) (first ∙ sym self))
      (omega arith) refl (λ w grows. grown (over_levels g (frame f ∷ g.below)) m k' (below_running g h m k' both' f refl) m.place w grows)
      waiting (then_enters h.source h.program m.world.store.objects m.world.store.objects
      (the_entry (symbol m y) (activation_at m.world h.activation) (self_of m))
      (λ is. call_entered h.source h.program m.world.store.objects m.world is (activation_at m.world h.activation) (by_bare_name (symbol m y))
      (self_of m) [] None) peace.calls)).advances
    where
      told : SymId → Value → State
      told i recv = enter_machine h.program (the_entry i (activation_at m.world h.activation) recv) None
          (frame (frame_at h (asking h d.x d.n d.r) d.n) ∷ g.below)
          (written h (aligned k m) d.r (value_at k.lists h.list 0))
