-- `::X`: the class Object, and then its constant.
use Rattle.std.proofs.Common.{◌≡◌, ℕ, ◌+◌, refl, ap, ◌∙◌, subst, arith, List, ◌∷◌}
use Rattle.std.specs.Prelude.{codes, Option, Some}
use Rattle.rb_value.specs.declared.value.Value.{Value}
use Rattle.rb_value.specs.declared.value.Value.TheVariants.{Obj}
use Rattle.rb_value.specs.declared.value.ObjId.{ObjId}
use Rattle.rb_value.specs.declared.value.SymId.{SymId}
use Rattle.rb_value.specs.declared.exit.Slot.TheVariants.{V}
use Rattle.rb_value.specs.Slot.{read}
use Rattle.rb_value.specs.declared.core_class.CoreClass.TheVariants as class
use Rattle.rite_code.specs.declared.operation.Operation.TheVariants as op
use Rattle.ir_core.specs.CoreForm.{Name, top_constant}
use Rattle.gen_parts.specs.declared.line.Line.TheVariants as line
use Rattle.gen_parts.specs.Pieces.{does, ◌⊕◌}
use Rattle.gen_forms.specs.Gen.{symbol as entry_of}
use Rattle.def_core.specs.Store.{core}
use Rattle.def_calls.specs.Constants.{get_constant_in}
use Rattle.def_calls.specs.Definitions.{space_in, with_space}
use Rattle.def_eval.specs.Configuration as source
use Rattle.def_eval.specs.Configuration.{Item, perform, Config, Run}
use Rattle.def_eval.specs.Entering.{symbol}
use Rattle.def_eval.specs.Forms.{do_form}
use Rattle.def_eval.specs.Transition.{go}
use Rattle.def_machine.specs.State as machine
use Rattle.def_machine.specs.State.{Level, frame, State, value_at}
use Rattle.def_machine.specs.Unwind.{after as after_machine}
use Rattle.def_machine.specs.Turn.{symbol as symbol_machine}
use Rattle.step_laws.specs.Site.{Site, at_line, LineAt}
use Rattle.step_laws.specs.Calm.{HasObject, Quiet}
use Rattle.step_laws.proofs.Placed.{high, high-both, high-puts, moved, within_puts, left, right, the_line, frame_at, turned}
use Rattle.step_laws.specs.Behind.{Static}
use Rattle.step_laws.specs.Relation.{Ground, InFrame, Common, Doing, Step}
use Rattle.step_laws.proofs.Registers.{keeps_above, slot_same}
use Rattle.step_laws.proofs.Untouched.{put_only, frame_kept, same_here, written_here}
use Rattle.step_laws.proofs.Matching.{going, state_at, written}
use Rattle.step_laws.proofs.Literals.{aligned}
use Rattle.step_laws.proofs.Answers.{symbols_same}
use Rattle.step_laws.proofs.Midway.{few_of, few_before, answer_behind}

pub do_top_constant : (g : Ground) (h : Site) → Static h → (j : ℕ) (ks : List Item) (m : source.Memory) (ls : List Level)
    (k : machine.Memory) (both : Common g h m (aligned k m)) (y : Name)
    (d : Doing g h j (top_constant y) ks m.place ls k.lists) → HasObject m.world
    → Quiet m (go h.source (Run (perform j (top_constant y)) ks m))
    → Step h (Run (perform j (top_constant y)) ks m) (state_at g h d.x d.n (aligned k m))
unfolding do_form
do_top_constant g h static j ks m ls k both y d there quiet =
    let conf = Run (perform j (top_constant y)) ks m in
    let r = d.r in
    let p = does (op.OClass r 0) in
    let o = op.GetMCnst r (entry_of h.context y) in
    let one : high p ≡ 1 = high-puts (line.Does (op.OClass r 0)) in
    let first : LineAt h d.n (line.Does (op.OClass r 0)) =
    the_line h d.n (line.Does (op.OClass r 0)) (left h d.n p (does o) (within_puts _ _) d.code) in
    let second : LineAt h (d.n + 1) (line.Does o) =
    the_line h (d.n + 1) (line.Does o)
    (moved h (d.n + high p) (d.n + 1) (does o) (omega (arith, one)) (right h d.n p (does o) (within_puts _ _) d.code)) in
    let s = same_here g h m (aligned k m) both in
    let held : value_at holding.lists h.list r ≡ Obj object =
    ap read (slot_same k.lists h.list r (V (Obj object)) s.present (omega (arith, s.long, d.covered.0.within))) in
    let tall : d.n + high (p ⊕ does o) ≡ d.n + 1 + 1 = omega (arith, high-both p (does o), one, high-puts (line.Does o)) in
    let next : InFrame g h holding.lists ks (d.n + 1 + 1) r d.loop =
    frame_kept g h k.lists holding.lists ks (d.n + 1 + 1) r d.loop
    (keeps_above h k.lists r r (V (Obj object)) s.present (omega arith)) (put_only k.lists h.list r (Obj object))
    (omega (arith, both.free)) (subst (λ (i : ℕ). InFrame g h k.lists ks i r d.loop) tall d.next) in
    let a = get_constant_in m.world object (symbol m y) in
    (few_before 3 h.source h.program conf (state_at g h d.x d.n (aligned k m)) (state_at g h d.x (d.n + 1) holding)
    (omega arith) (going (perform j (top_constant y)) ks m (frame (frame_at h d.x d.n) ∷ g.below) (aligned k m) refl)
    (turned h d.x d.n (op.OClass r 0) g.below (aligned k m) first)
    (few_of h.source h.program conf (state_at g h d.x (d.n + 1) holding)
    (answer_behind g h static conf a.result m.world a.world ks m d.x holding (d.n + 1) r o d.loop
    (going (perform j (top_constant y)) ks m (frame (frame_at h d.x (d.n + 1)) ∷ g.below) holding refl) refl quiet refl
    second
    (ap (λ (v : Value). told v (space_in m.world.store.objects v)
    (machine_symbol (d.n + 1))) held
    ∙ ap (λ (c : Option ObjId). told (Obj object) c (machine_symbol (d.n + 1))) there
    ∙ ap (told (Obj object) (Some object)) (symbols_same h d.x (d.n + 1) k m y d.covered.1)) (omega arith)
    (written_here g h m (aligned k m) both r (Obj object) d.covered.0.above) d.there d.covered.0 next))).advances
  where
    object : ObjId
    object = core class.Object

    -- Object stands in the register
    holding : machine.Memory
    holding = written h (aligned k m) d.r (Obj object)

    machine_symbol : ℕ → SymId
    machine_symbol n = symbol_machine h.program (frame_at h d.x n) (aligned k m) (entry_of h.context y)

    told : Value → Option ObjId → SymId → State
    told v c z = after_machine h.program (with_space m.world (codes "GETMCNST") v c (λ i. get_constant_in m.world i z))
        d.r (at_line h (d.n + 1 + 1)) (frame_at h d.x (d.n + 1)) g.below holding
