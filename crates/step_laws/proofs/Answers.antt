-- Leaves whose value is looked up or made: an instruction gives what the form gives, or throws what it raises.
use Rattle.std.proofs.Common.{◌≡◌, ℕ, ◌+◌, ◌<◌, List, ◌∷◌, refl, sym, ap, ◌∙◌, subst, arith}
use Rattle.std.specs.Prelude.{Option}
use Rattle.rb_value.specs.declared.value.Value.{Value}
use Rattle.rb_value.specs.declared.value.Value.TheVariants as value
use Rattle.rb_value.specs.declared.value.SymId.{SymId}
use Rattle.rite_code.specs.declared.code.PoolItem.{PoolItem}
use Rattle.rite_code.specs.declared.operation.Operation.{Operation}
use Rattle.rite_code.specs.declared.operation.Operation.TheVariants as op
use Rattle.def_core.specs.Changes.{intern}
use Rattle.def_rows.specs.Answers.{text_object}
use Rattle.ir_core.specs.CoreForm.{Name, str, sym as symbol_form, ivar, gvar, constant}
use Rattle.gen_parts.specs.declared.line.Line.TheVariants as line
use Rattle.gen_parts.specs.Pieces.{does}
use Rattle.gen_forms.specs.declared.context.Loop.{Loop}
use Rattle.gen_forms.specs.Gen.{text_entry, symbol as entry_of}
use Rattle.def_calls.specs.World.{World, activation_at, Answer, Result as Given, gives, raises, make, global}
use Rattle.def_calls.specs.Constants.{get_constant}
use Rattle.def_calls.specs.Values.{instance_variable}
use Rattle.def_eval.specs.Configuration as source
use Rattle.def_eval.specs.Configuration.{Place, Item, perform, Config, Run}
use Rattle.def_eval.specs.Entering.{symbol, after_result}
use Rattle.def_eval.specs.Forms.{self_of, do_form}
use Rattle.def_eval.specs.Transition.{go}
use Rattle.def_machine.specs.State as machine
use Rattle.def_machine.specs.State.{Level, frame, State, value_at}
use Rattle.def_machine.specs.Unwind.{after_result as after_machine}
use Rattle.def_machine.specs.Turn.{act, new_text, symbol as symbol_machine}
use Rattle.step_laws.specs.Site.{Site, place_in, at_line, LineAt, Room, Named}
use Rattle.step_laws.specs.Calm.{Quiet}
use Rattle.step_laws.specs.Measure.{burden, measure}
use Rattle.step_laws.proofs.Placed.{high, high-puts, the_line, Rest, frame_at, turned}
use Rattle.step_laws.specs.Behind.{Static}
use Rattle.step_laws.specs.Relation.{Ground, over_levels, InFrame, Common, Doing, raised, Related, Step}
use Rattle.step_laws.proofs.Untouched.{grown, grown_here, below_running}
use Rattle.step_laws.proofs.Matching.{by_none, by_one, going, state_at, written, writes}
use Rattle.step_laws.proofs.Calling.{From, leaves_frame}
use Rattle.step_laws.proofs.Literals.{aligned, written_by, self_is}

-- The answer of an instruction, with its register.
pub answer_at : (g : Ground) (h : Site) → Static h → (c : Config) (a : Given) (w : World) (ks : List Item) (m : source.Memory)
    (x : Rest) (k : machine.Memory) (n r : ℕ) (o : Operation) (around : Option Loop) → From h c (frame (frame_at h x n) ∷ g.below) (aligned k m) m
    → go h.source c ≡ after_result a w ks m → LineAt h n (line.Does o)
    → act h.program o (at_line h (n + 1)) (frame_at h x n) g.below (aligned k m)
    ≡ after_machine h.program a r (at_line h (n + 1)) (frame_at h x n) g.below (machine.with_world k w)
    → burden ks m < measure c → Common g h m (aligned k m) → m.place ≡ place_in h → Room h r
    → InFrame g h k.lists ks (n + 1) r around → Step h c (state_at g h x n (aligned k m))
answer_at g h static c (gives v) w ks m x k n r o around from goes l acts less both at_home room next =
    let k' = machine.with_world k w in
    let quiet = subst (Quiet m) goes from.quiet in
    let both' : Common g h (source.with_world m w) k' = grown_here g h m (aligned k m) both w quiet.1 in
    by_one h c (state_at g h x n (aligned k m)) (state_at g h x (n + 1) (written h k' r v)) from.alike
    (turned h x n o g.below (aligned k m) l ∙ acts)
    (subst (λ (d : Config). Related h d (state_at g h x (n + 1) (written h k' r v))) (sym goes)
    (writes g h static v ks (source.with_world m w) x k' (n + 1) r around both' at_home room next))
answer_at g h static c (raises e) w ks m x k n r o around from goes l acts less both at_home room next =
    let quiet = subst (Quiet m) goes from.quiet in
    by_none h c (state_at g h x n (aligned k m))
    (subst (λ (d : Config). measure d < measure c) (sym goes) (omega (arith, less)))
    (subst (λ (d : Config). Related h d (state_at g h x n (aligned k m))) (sym goes) (raised (record {
      g = over_levels g (frame (frame_at h x n) ∷ g.below);
      e = e;
      exception = refl;
      memory = machine.with_world k w;
      throws = turned h x n o g.below (aligned k m) l ∙ acts;
      out = from.out ∙ sym quiet.0;
      both = grown (over_levels g (frame (frame_at h x n) ∷ g.below)) m (aligned k m)
          (below_running g h m (aligned k m) both (frame_at h x n) refl) m.place w quiet.1;
      leaving = leaves_frame g h k.lists ks (n + 1) r around x n both.site l.guarded next;
    })))

-- both sides name the same symbol
pub symbols_same : (h : Site) (x : Rest) (n : ℕ) (k : machine.Memory) (m : source.Memory) (y : Name) → Named h y
    → symbol_machine h.program (frame_at h x n) (aligned k m) (entry_of h.context y) ≡ symbol m y
symbols_same h x n k m y named = ap (λ (z : Name). (intern m.world.store z).symbol) named.listed

module _ (g : Ground) (h : Site) (static : Static h) (j : ℕ) (ks : List Item) (m : source.Memory) (ls : List Level)
    (k : machine.Memory) (both : Common g h m (aligned k m)) where
  one_line : (n r : ℕ) (o : Operation) (around : Option Loop) → InFrame g h k.lists ks (n + high (does o)) r around
      → InFrame g h k.lists ks (n + 1) r around
  one_line n r o around a = subst (λ (i : ℕ). InFrame g h k.lists ks (n + i) r around) (high-puts (line.Does o)) a

  pub do_symbol : (y : Name) (d : Doing g h j (symbol_form y) ks m.place ls k.lists)
      → Step h (Run (perform j (symbol_form y)) ks m) (state_at g h d.x d.n (aligned k m))
  unfolding do_form
  do_symbol y d =
      let o = op.LoadSym d.r (entry_of h.context y) in
      written_by g h static (Run (perform j (symbol_form y)) ks m) (value.Sym (symbol m y)) ks m d.x k d.n d.r o d.loop
      (going (perform j (symbol_form y)) ks m (frame (frame_at h d.x d.n) ∷ g.below) (aligned k m) refl) refl
      (the_line h d.n (line.Does o) d.code)
      (ap (λ (s : SymId). state_at g h d.x (d.n + 1) (written h (aligned k m) d.r (value.Sym s)))
      (symbols_same h d.x d.n k m y d.covered.1)) both d.there d.covered.0 (one_line d.n d.r o d.loop d.next)

  pub do_gvar : (y : Name) (d : Doing g h j (gvar y) ks m.place ls k.lists)
      → Step h (Run (perform j (gvar y)) ks m) (state_at g h d.x d.n (aligned k m))
  unfolding do_form
  do_gvar y d =
      let o = op.GetGv d.r (entry_of h.context y) in
      written_by g h static (Run (perform j (gvar y)) ks m) (global m.world (symbol m y)) ks m d.x k d.n d.r o d.loop
      (going (perform j (gvar y)) ks m (frame (frame_at h d.x d.n) ∷ g.below) (aligned k m) refl) refl
      (the_line h d.n (line.Does o) d.code)
      (ap (λ (s : SymId). state_at g h d.x (d.n + 1) (written h (aligned k m) d.r (global m.world s)))
      (symbols_same h d.x d.n k m y d.covered.1)) both d.there d.covered.0 (one_line d.n d.r o d.loop d.next)

  pub do_ivar : (y : Name) (d : Doing g h j (ivar y) ks m.place ls k.lists)
      → Step h (Run (perform j (ivar y)) ks m) (state_at g h d.x d.n (aligned k m))
  unfolding do_form
  do_ivar y d =
      let o = op.GetIv d.r (entry_of h.context y) in
      let self : self_of m ≡ value_at k.lists h.list 0 = self_is g h m (aligned k m) both d.there in
      written_by g h static (Run (perform j (ivar y)) ks m) (instance_variable m.world (self_of m) (symbol m y)) ks m d.x k
      d.n d.r o d.loop (going (perform j (ivar y)) ks m (frame (frame_at h d.x d.n) ∷ g.below) (aligned k m) refl) refl
      (the_line h d.n (line.Does o) d.code)
      (ap (λ (s : SymId). state_at g h d.x (d.n + 1)
      (written h (aligned k m) d.r (instance_variable m.world (value_at k.lists h.list 0) s)))
      (symbols_same h d.x d.n k m y d.covered.1)
      ∙ ap (λ (v : Value). state_at g h d.x (d.n + 1)
      (written h (aligned k m) d.r (instance_variable m.world v (symbol m y)))) (sym self))
      both d.there d.covered.0 (one_line d.n d.r o d.loop d.next)

  pub do_str : (t : List ℕ) (d : Doing g h j (str t) ks m.place ls k.lists)
      → Quiet m (go h.source (Run (perform j (str t)) ks m))
      → Step h (Run (perform j (str t)) ks m) (state_at g h d.x d.n (aligned k m))
  unfolding do_form
  do_str t d quiet =
      let o = op.String d.r (text_entry h.context t) in
      let a = make m.world (text_object t) in
      answer_at g h static (Run (perform j (str t)) ks m) a.result a.world ks m d.x k d.n d.r o d.loop (record {
        alike = going (perform j (str t)) ks m (frame (frame_at h d.x d.n) ∷ g.below) (aligned k m) refl;
        out = refl;
        quiet = quiet;
      }) refl (the_line h d.n (line.Does o) d.code)
      (ap (λ (i : Option PoolItem). new_text h.program i d.r (at_line h (d.n + 1)) (frame_at h d.x d.n) g.below (aligned k m))
      d.covered.1) (omega arith) both d.there d.covered.0 (one_line d.n d.r o d.loop d.next)

  pub do_constant : (y : Name) (d : Doing g h j (constant y) ks m.place ls k.lists)
      → Quiet m (go h.source (Run (perform j (constant y)) ks m))
      → Step h (Run (perform j (constant y)) ks m) (state_at g h d.x d.n (aligned k m))
  unfolding do_form
  do_constant y d quiet =
      let o = op.GetConst d.r (entry_of h.context y) in
      let a = get_constant m.world (activation_at m.world h.activation).classes (symbol m y) in
      let answer : Answer → State =
      λ b. after_machine h.program b.result d.r (at_line h (d.n + 1)) (frame_at h d.x d.n) g.below
      (machine.with_world k b.world) in
      answer_at g h static (Run (perform j (constant y)) ks m) a.result a.world ks m d.x k d.n d.r o d.loop (record {
        alike = going (perform j (constant y)) ks m (frame (frame_at h d.x d.n) ∷ g.below) (aligned k m) refl;
        out = refl;
        quiet = quiet;
      })
      (ap (λ (p : Place). after_result
      (get_constant m.world (activation_at m.world p.activation).classes (symbol m y)).result
      (get_constant m.world (activation_at m.world p.activation).classes (symbol m y)).world ks m) d.there)
      (the_line h d.n (line.Does o) d.code)
      (ap (λ (s : SymId). answer (get_constant m.world (activation_at m.world h.activation).classes s))
      (symbols_same h d.x d.n k m y d.covered.1)) (omega arith) both d.there d.covered.0 (one_line d.n d.r o d.loop d.next)
