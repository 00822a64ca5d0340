-- What `defined?` tells: a text, or what an instruction looks up.
use Rattle.std.proofs.Common.{◌≡◌, ℕ, ◌+◌, List, ◌∷◌, refl, sym, ap, ◌∙◌, subst, arith}
use Rattle.std.specs.Prelude.{codes, Option}
use Rattle.rb_value.specs.declared.value.Value.{Value}
use Rattle.rb_value.specs.declared.value.SymId.{SymId}
use Rattle.rb_syntax.specs.declared.core_form.DefinedKind.{DefinedKind}
use Rattle.rb_syntax.specs.declared.core_form.DefinedKind.TheVariants as asks
use Rattle.rite_code.specs.declared.code.PoolItem.{PoolItem}
use Rattle.rite_code.specs.declared.operation.Operation.{Operation}
use Rattle.rite_code.specs.declared.operation.Operation.TheVariants as op
use Rattle.ir_core.specs.CoreForm.{Name, CoreForm, defined, absent, there}
use Rattle.gen_parts.specs.declared.line.Line.TheVariants as line
use Rattle.gen_parts.specs.Pieces.{does}
use Rattle.gen_forms.specs.declared.context.Loop.{Loop}
use Rattle.gen_forms.specs.Gen.{ask, text_entry, symbol as entry_of}
use Rattle.def_calls.specs.World.{Activation, activation_at, Answer}
use Rattle.def_calls.specs.Definitions.{instance_variable_told, global_told, constant_told, method_told, yield_told, super_told}
use Rattle.def_eval.specs.Configuration as source
use Rattle.def_eval.specs.Configuration.{Place, tell, Item, perform, Run}
use Rattle.def_eval.specs.Scopes.{running}
use Rattle.def_eval.specs.Entering.{symbol}
use Rattle.def_eval.specs.Forms.{self_of, tell_alone, do_form}
use Rattle.def_eval.specs.Transition.{go}
use Rattle.def_machine.specs.State as machine
use Rattle.def_machine.specs.State.{Level, frame, State, value_at}
use Rattle.def_machine.specs.Unwind.{after as after_machine}
use Rattle.def_machine.specs.Turn.{act, new_text}
use Rattle.step_laws.specs.Site.{Site, place_in, at_line, LineAt, Room}
use Rattle.step_laws.specs.Calm.{IsSteady, Quiet}
use Rattle.step_laws.proofs.Placed.{high, high-puts, the_line, Rest, frame_at}
use Rattle.step_laws.specs.Behind.{Static}
use Rattle.step_laws.specs.Relation.{Ground, InFrame, Common, Doing, Step}
use Rattle.step_laws.proofs.Matching.{going, state_at}
use Rattle.step_laws.proofs.Literals.{aligned, self_is}
use Rattle.step_laws.proofs.Answers.{answer_at, symbols_same}
use Rattle.step_laws.proofs.Strict.{one_operand}

module _ (g : Ground) (h : Site) (static : Static h) (ks : List Item) (m : source.Memory) (ls : List Level)
    (k : machine.Memory) (both : Common g h m (aligned k m)) (steady : IsSteady h.source m.world) where
  here : m.place ≡ place_in h → activation_at m.world h.activation ≡ running m
  here at_home = ap (λ (p : Place). activation_at m.world p.activation) (sym at_home)

  own : m.place ≡ place_in h → value_at k.lists h.list 0 ≡ self_of m
  own at_home = sym (self_is g h m (aligned k m) both at_home)

  one_line : (n r : ℕ) (o : Operation) (around : Option Loop) → InFrame g h k.lists ks (n + high (does o)) r around
      → InFrame g h k.lists ks (n + 1) r around
  one_line n r o around a = subst (λ (i : ℕ). InFrame g h k.lists ks (n + i) r around) (high-puts (line.Does o)) a

  abbrev told : Rest → ℕ → ℕ → Answer → State
  told x n r a = after_machine h.program a r (at_line h (n + 1)) (frame_at h x n) g.below (aligned k m)

  -- an instruction that answers what is told
  tells : (j : ℕ) (q : DefinedKind) (y : Name) (d : Doing g h j (defined q y absent) ks m.place ls k.lists) (o : Operation)
      → Quiet m (go h.source (Run (perform j (defined q y absent)) ks m)) → LineAt h d.n (line.Does o)
      → InFrame g h k.lists ks (d.n + 1) d.r d.loop
      → act h.program o (at_line h (d.n + 1)) (frame_at h d.x d.n) g.below (aligned k m)
      ≡ told d.x d.n d.r (tell_alone q y m)
      → Room h d.r → Step h (Run (perform j (defined q y absent)) ks m) (state_at g h d.x d.n (aligned k m))
  unfolding do_form
  tells j q y d o quiet l next acts room =
      let a = tell_alone q y m in
      answer_at g h static (Run (perform j (defined q y absent)) ks m) a.result a.world ks m d.x k d.n d.r o d.loop (record {
        alike = going (perform j (defined q y absent)) ks m (frame (frame_at h d.x d.n) ∷ g.below) (aligned k m) refl;
        out = refl;
        quiet = quiet;
      }) refl l acts (omega arith) both d.there room next

  pub do_defined : (j : ℕ) (q : DefinedKind) (y : Name) (d : Doing g h j (defined q y absent) ks m.place ls k.lists)
      → Quiet m (go h.source (Run (perform j (defined q y absent)) ks m))
      → Step h (Run (perform j (defined q y absent)) ks m) (state_at g h d.x d.n (aligned k m))
  unfolding ask
  do_defined j asks.Expression y d quiet =
      let t = codes "expression" in
      let o = op.String d.r (text_entry h.context t) in
      tells j asks.Expression y d o quiet (the_line h d.n (line.Does o) d.code) (one_line d.n d.r o d.loop d.next)
      (ap (λ (i : Option PoolItem). new_text h.program i d.r (at_line h (d.n + 1)) (frame_at h d.x d.n) g.below (aligned k m))
      d.covered.1) d.covered.0
  do_defined j asks.LocalVariable y d quiet =
      let t = codes "local-variable" in
      let o = op.String d.r (text_entry h.context t) in
      tells j asks.LocalVariable y d o quiet (the_line h d.n (line.Does o) d.code) (one_line d.n d.r o d.loop d.next)
      (ap (λ (i : Option PoolItem). new_text h.program i d.r (at_line h (d.n + 1)) (frame_at h d.x d.n) g.below (aligned k m))
      d.covered.1) d.covered.0
  do_defined j asks.SelfReference y d quiet =
      let t = codes "self" in
      let o = op.String d.r (text_entry h.context t) in
      tells j asks.SelfReference y d o quiet (the_line h d.n (line.Does o) d.code) (one_line d.n d.r o d.loop d.next)
      (ap (λ (i : Option PoolItem). new_text h.program i d.r (at_line h (d.n + 1)) (frame_at h d.x d.n) g.below (aligned k m))
      d.covered.1) d.covered.0
  do_defined j asks.Assignment y d quiet =
      let t = codes "assignment" in
      let o = op.String d.r (text_entry h.context t) in
      tells j asks.Assignment y d o quiet (the_line h d.n (line.Does o) d.code) (one_line d.n d.r o d.loop d.next)
      (ap (λ (i : Option PoolItem). new_text h.program i d.r (at_line h (d.n + 1)) (frame_at h d.x d.n) g.below (aligned k m))
      d.covered.1) d.covered.0
  do_defined j asks.InstanceVariable y d quiet =
      let o = op.Defined d.r 0 (entry_of h.context y) in
      tells j asks.InstanceVariable y d o quiet (the_line h d.n (line.Does o) d.code) (one_line d.n d.r o d.loop d.next)
      (ap (λ (s : SymId). told d.x d.n d.r (instance_variable_told m.world (value_at k.lists h.list 0) s))
      (symbols_same h d.x d.n k m y d.covered.1)
      ∙ ap (λ (v : Value). told d.x d.n d.r (instance_variable_told m.world v (symbol m y))) (own d.there)) d.covered.0
  do_defined j asks.GlobalVariable y d quiet =
      let o = op.Defined d.r 1 (entry_of h.context y) in
      tells j asks.GlobalVariable y d o quiet (the_line h d.n (line.Does o) d.code) (one_line d.n d.r o d.loop d.next)
      (ap (λ (s : SymId). told d.x d.n d.r (global_told m.world s))
      (symbols_same h d.x d.n k m y d.covered.1)) d.covered.0
  do_defined j asks.Constant y d quiet =
      let o = op.Defined d.r 2 (entry_of h.context y) in
      tells j asks.Constant y d o quiet (the_line h d.n (line.Does o) d.code) (one_line d.n d.r o d.loop d.next)
      (ap (λ (s : SymId). told d.x d.n d.r (constant_told m.world (activation_at m.world h.activation).classes s))
      (symbols_same h d.x d.n k m y d.covered.1)
      ∙ ap (λ (b : Activation). told d.x d.n d.r (constant_told m.world b.classes (symbol m y))) (here d.there)) d.covered.0
  do_defined j asks.Method y d quiet =
      let o = op.Defined d.r 4 (entry_of h.context y) in
      tells j asks.Method y d o quiet (the_line h d.n (line.Does o) d.code) (one_line d.n d.r o d.loop d.next)
      (ap (λ (s : SymId). told d.x d.n d.r (method_told m.world (value_at k.lists h.list 0) (value_at k.lists h.list 0) s))
      (symbols_same h d.x d.n k m y d.covered.1)
      ∙ ap (λ (v : Value). told d.x d.n d.r (method_told m.world v v (symbol m y))) (own d.there)) d.covered.0
  do_defined j asks.Yield y d quiet =
      let o = op.Defined d.r 6 0 in
      tells j asks.Yield y d o quiet (the_line h d.n (line.Does o) d.code) (one_line d.n d.r o d.loop d.next)
      (ap (λ (b : Activation). told d.x d.n d.r (yield_told m.world b)) (here d.there)) d.covered.0
  do_defined j asks.Super y d quiet =
      let o = op.Defined d.r 7 0 in
      tells j asks.Super y d o quiet (the_line h d.n (line.Does o) d.code) (one_line d.n d.r o d.loop d.next)
      (ap (λ (b : Activation). told d.x d.n d.r (super_told m.world b)) (here d.there)) d.covered.0

  pub do_defined_of : (j : ℕ) (q : DefinedKind) (y : Name) (e : CoreForm)
      (d : Doing g h j (defined q y (there e)) ks m.place ls k.lists)
      → Step h (Run (perform j (defined q y (there e))) ks m) (state_at g h d.x d.n (aligned k m))
  unfolding do_form ask
  do_defined_of j asks.Expression y e d = absurd d.covered.2
  do_defined_of j asks.LocalVariable y e d = absurd d.covered.2
  do_defined_of j asks.SelfReference y e d = absurd d.covered.2
  do_defined_of j asks.Assignment y e d = absurd d.covered.2
  do_defined_of j asks.InstanceVariable y e d = absurd d.covered.2
  do_defined_of j asks.GlobalVariable y e d = absurd d.covered.2
  do_defined_of j asks.Constant y e d =
      one_operand g h static ks m ls k both steady d.there (Run (perform j (defined asks.Constant y (there e))) ks m) d.x d.n
      d.r j d.loop d.s e (tell asks.Constant y) (op.Defined d.r 3 (entry_of h.context y)) refl (omega arith) d.here
      d.covered.1 d.covered.0 refl d.covered.2 refl d.code d.next
  do_defined_of j asks.Method y e d =
      one_operand g h static ks m ls k both steady d.there (Run (perform j (defined asks.Method y (there e))) ks m) d.x d.n
      d.r j d.loop d.s e (tell asks.Method y) (op.Defined d.r 5 (entry_of h.context y)) refl (omega arith) d.here
      d.covered.1 d.covered.0 refl d.covered.2 refl d.code d.next
  do_defined_of j asks.Yield y e d = absurd d.covered.2
  do_defined_of j asks.Super y e d = absurd d.covered.2
