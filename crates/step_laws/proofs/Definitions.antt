-- What defines a method: the class around the text, and then the method with the body that is its child.
use Rattle.std.proofs.Common.{◌≡◌, ℕ, ◌+◌, List, ◌∷◌, refl, sym, ap, ◌∙◌, subst, arith, get_or}
use Rattle.std.specs.Prelude.{codes, Option, Some}
use Rattle.rb_value.specs.declared.value.Value.{Value}
use Rattle.rb_value.specs.declared.value.Value.TheVariants.{Obj, Sym}
use Rattle.rb_value.specs.declared.value.ObjId.{ObjId}
use Rattle.rb_value.specs.declared.value.SymId.{SymId}
use Rattle.rb_value.specs.declared.exit.Slot.TheVariants.{V}
use Rattle.rb_value.specs.Slot.{read}
use Rattle.rite_code.specs.declared.code.Irep.{Irep}
use Rattle.rite_code.specs.declared.operation.Operation.{Operation}
use Rattle.rite_code.specs.declared.operation.Operation.TheVariants as op
use Rattle.ir_core.specs.CoreForm.{Name, define, Body}
use Rattle.scope_resolver.specs.declared.body_kind.BodyKind.TheVariants as kind
use Rattle.gen_parts.specs.declared.line.Line.TheVariants as line
use Rattle.gen_parts.specs.Pieces.{past, does, makes, ◌⊕◌}
use Rattle.gen_forms.specs.Gen.{body_code, symbol as entry_of}
use Rattle.def_calls.specs.World.{World, activation_at, class_around}
use Rattle.def_calls.specs.Definitions.{space_in, with_space, define_method}
use Rattle.def_eval.specs.Configuration as source
use Rattle.def_eval.specs.Configuration.{Place, Item, perform, give, Config, Run}
use Rattle.def_eval.specs.Entering.{symbol, after}
use Rattle.def_eval.specs.Forms.{do_form}
use Rattle.def_eval.specs.Transition.{go}
use Rattle.def_machine.specs.State as machine
use Rattle.def_machine.specs.State.{Level, frame, State, body_at, value_at}
use Rattle.def_machine.specs.Unwind.{after as after_machine}
use Rattle.def_machine.specs.Turn.{symbol as symbol_machine}
use Rattle.step_laws.specs.Site.{Site, at_line, LineAt}
use Rattle.step_laws.specs.Calm.{IsSteady, IsWithin, Quiet}
use Rattle.step_laws.proofs.Placed.{high, high-both, high-puts, Stands, moved, left, right, the_line, frame_at, turned}
use Rattle.step_laws.specs.Behind.{Static}
use Rattle.step_laws.specs.Relation.{Ground, InFrame, Common, Doing, Related, Step}
use Rattle.step_laws.proofs.Registers.{keeps_above, slot_same}
use Rattle.step_laws.proofs.Untouched.{put_only, frame_kept, grown_here, same_here, written_here}
use Rattle.step_laws.proofs.Guards.{within_puts, within_makes}
use Rattle.step_laws.proofs.Matching.{by_two, going, state_at, written, writes}
use Rattle.step_laws.proofs.Literals.{aligned}
use Rattle.step_laws.proofs.Answers.{symbols_same}

-- the instruction that makes a body
pub made_line : (h : Site) (n b : ℕ) (o : Operation) (bodies : List Irep) → Stands h n (makes o b bodies)
    → LineAt h n (line.Does o)
unfolding Stands makes
made_line h n b o bodies s = s.0

pub high_made : (o : Operation) (b : ℕ) (bodies : List Irep) → high (makes o b bodies) ≡ 1
unfolding high makes
high_made o b bodies = refl

module _ (g : Ground) (h : Site) (static : Static h) (ks : List Item) (m : source.Memory) (ls : List Level)
    (k : machine.Memory) (both : Common g h m (aligned k m)) (steady : IsSteady h.source m.world) where
  pub do_define : (j : ℕ) (x : Name) (f : Body) (d : Doing g h j (define x f) ks m.place ls k.lists)
      → IsWithin m.world (activation_at m.world m.place.activation)
      → Quiet m (go h.source (Run (perform j (define x f)) ks m))
      → Step h (Run (perform j (define x f)) ks m) (state_at g h d.x d.n (aligned k m))
  unfolding do_form define_method
  do_define j x f d around quiet =
      let conf = Run (perform j (define x f)) ks m in
      let r = d.r in
      let p = does (op.TClass r) in
      let t = past d.s p in
      let o = op.Def r (entry_of h.context x) t.child in
      let bodies = body_code kind.Method h.context.scopes t.body f in
      let q = makes o t.body bodies in
      let one : high p ≡ 1 = high-puts (line.Does (op.TClass r)) in
      let first : LineAt h d.n (line.Does (op.TClass r)) =
      the_line h d.n (line.Does (op.TClass r)) (left h d.n p q (within_makes _ _ _ _) d.code) in
      let second : LineAt h (d.n + 1) (line.Does o) =
      made_line h (d.n + 1) t.body o bodies (moved h (d.n + high p) (d.n + 1) q (omega (arith, one)) (right h d.n p q (within_puts _ _) d.code)) in
      let space : IsWithin m.world (activation_at m.world h.activation) =
      subst (λ (z : Place). IsWithin m.world (activation_at m.world z.activation)) d.there around in
      let v = Obj class in
      let s = same_here g h m (aligned k m) both in
      let both' = written_here g h m (aligned k m) both r v d.covered.room.above in
      let held : value_at holding.lists h.list r ≡ v =
      ap read (slot_same k.lists h.list r (V v) s.present (omega (arith, s.long, d.covered.room.within))) in
      let tall : d.n + high (p ⊕ q) ≡ d.n + 1 + 1 = omega (arith, high-both p q, one, high_made o t.body bodies) in
      let next : InFrame g h holding.lists ks (d.n + 1 + 1) r d.loop =
      frame_kept g h k.lists holding.lists ks (d.n + 1 + 1) r d.loop
      (keeps_above h k.lists r r (V v) s.present (omega arith)) (put_only k.lists h.list r v) (omega (arith, both.free))
      (subst (λ (i : ℕ). InFrame g h k.lists ks i r d.loop) tall d.next) in
      let goes : go h.source conf ≡ Run (give (Sym (symbol m x))) ks (source.with_world m defined) =
      ap (λ (z : Place). after (define_method m.world (class_around m.world (activation_at m.world z.activation).classes)
      (symbol m x) j (activation_at m.world z.activation).classes) ks m) d.there in
      by_two h conf (state_at g h d.x d.n (aligned k m)) (state_at g h d.x (d.n + 1) holding)
      (state_at g h d.x (d.n + 1 + 1) (written h (machine.with_world holding defined) r (Sym (symbol m x))))
      (going (perform j (define x f)) ks m (frame (frame_at h d.x d.n) ∷ g.below) (aligned k m) refl)
      (turned h d.x d.n (op.TClass r) g.below (aligned k m) first)
      (going (perform j (define x f)) ks m (frame (frame_at h d.x (d.n + 1)) ∷ g.below) holding refl)
      (turned h d.x (d.n + 1) o g.below holding second
      ∙ ap (λ (u : Value). told u (space_in m.world.store.objects u)
      (symbol_machine h.program (frame_at h d.x (d.n + 1)) (aligned k m) (entry_of h.context x))
      (get_or (body_at h.program h.body).children t.child 0)) held
      ∙ ap (λ (c : Option ObjId). told v c
      (symbol_machine h.program (frame_at h d.x (d.n + 1)) (aligned k m) (entry_of h.context x))
      (get_or (body_at h.program h.body).children t.child 0)) space
      ∙ ap (λ (y : SymId). told v (Some class) y (get_or (body_at h.program h.body).children t.child 0))
      (symbols_same h d.x (d.n + 1) k m x d.covered.named)
      ∙ ap (λ (i : ℕ). told v (Some class) (symbol m x) i) d.covered.child)
      (subst (λ (z : Config). Related h z
      (state_at g h d.x (d.n + 1 + 1) (written h (machine.with_world holding defined) r (Sym (symbol m x))))) (sym goes)
      (writes g h static (Sym (symbol m x)) ks (source.with_world m defined) d.x (machine.with_world holding defined)
      (d.n + 1 + 1) r d.loop
      (grown_here g h m holding both' defined (subst (Quiet m) goes quiet).1) d.there d.covered.room next))
    where
      class : ObjId
      class = class_around m.world (activation_at m.world h.activation).classes

      -- the class stands in the register
      holding : machine.Memory
      holding = written h (aligned k m) d.r (Obj class)

      -- the world with the method
      defined : World
      defined = (define_method m.world class (symbol m x) j (activation_at m.world h.activation).classes).world

      told : Value → Option ObjId → SymId → ℕ → State
      told u c y i = after_machine h.program (with_space m.world (codes "DEF") u c
          (λ z. define_method m.world z y i (activation_at m.world h.activation).classes)) d.r (at_line h (d.n + 1 + 1))
          (frame_at h d.x (d.n + 1)) g.below holding
