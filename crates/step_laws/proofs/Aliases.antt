-- Methods that get another name, and that are undefined: no register gets what the instruction answers, and the form
-- is nil.
use Rattle.std.proofs.Common.{◌≡◌, ℕ, ◌+◌, ◌<◌, List, ◌∷◌, refl, sym, ap, ◌∙◌, subst, arith}
use Rattle.std.specs.Prelude.{Option, Some, None}
use Rattle.rb_value.specs.declared.value.Value.TheVariants.{Nil}
use Rattle.rb_value.specs.declared.value.ObjId.{ObjId}
use Rattle.rb_value.specs.declared.value.SymId.{SymId}
use Rattle.rite_code.specs.declared.operation.Operation.{Operation}
use Rattle.rite_code.specs.declared.operation.Operation.TheVariants as op
use Rattle.def_core.specs.declared.cause.Cause.{Cause}
use Rattle.def_core.specs.declared.cause.Cause.TheVariants as cause
use Rattle.def_core.specs.declared.found.Found.{Found}
use Rattle.def_core.specs.Store.{next_number}
use Rattle.def_core.specs.Find.{find}
use Rattle.def_core.specs.Changes.{fails}
use Rattle.ir_core.specs.CoreForm.{Name, alias_form, undef_form}
use Rattle.gen_parts.specs.declared.line.Line.TheVariants as line
use Rattle.gen_parts.specs.Pieces.{does, ◌⊕◌}
use Rattle.gen_forms.specs.declared.context.Loop.{Loop}
use Rattle.gen_forms.specs.Gen.{symbol as entry_of}
use Rattle.def_calls.specs.Seen.{Going}
use Rattle.def_calls.specs.World.{World, Answer, Result as Given, gives, raises, activation_at, class_around, fail}
use Rattle.def_calls.specs.Definitions.{alias_found, alias_method, undefine_found, undefine_method}
use Rattle.def_eval.specs.Configuration as source
use Rattle.def_eval.specs.Configuration.{Place, Item, perform, Config, Run}
use Rattle.def_eval.specs.Entering.{symbol, after_result, after}
use Rattle.def_eval.specs.Forms.{do_form}
use Rattle.def_eval.specs.Transition.{go}
use Rattle.def_machine.specs.State as machine
use Rattle.def_machine.specs.State.{Level, frame, State, shown}
use Rattle.def_machine.specs.Turn.{act, only_result, symbol as symbol_machine}
use Rattle.step_laws.specs.Site.{Site, place_in, at_line, LineAt, Room}
use Rattle.step_laws.specs.Calm.{Quiet}
use Rattle.step_laws.specs.Measure.{burden, measure}
use Rattle.step_laws.proofs.Placed.{high, high-both, high-puts, Stands, moved, within_puts, left, right, the_line, Rest, frame_at, turned}
use Rattle.step_laws.specs.Behind.{Static}
use Rattle.step_laws.specs.Relation.{Ground, over_levels, InFrame, Common, Doing, raised, Related, Step}
use Rattle.step_laws.proofs.Untouched.{grown, below_running}
use Rattle.step_laws.proofs.Matching.{by_none, by_two, going, state_at, written, writes}
use Rattle.step_laws.proofs.Calling.{From, leaves_frame}
use Rattle.step_laws.proofs.Literals.{aligned, with_worlds}
use Rattle.step_laws.proofs.Answers.{symbols_same}

-- an answer that is nil and leaves the output, or that is raised
pub data NilOr (w : World) (a : Answer) : Type 0 where
  is_nil : a.result ≡ gives Nil → a.world.out ≡ w.out → NilOr w a
  is_raised : (e : ObjId) → a.result ≡ raises e → NilOr w a

failed : (w : World) (c : Cause) → NilOr w (fail w c)
unfolding fail fails
failed w c = is_raised (next_number (fails w.store c).store) refl

alias_is : (w : World) (c : ObjId) (new old : SymId) → NilOr w (alias_method w c new old)
unfolding alias_method
alias_is w c new old = by (find w.store.objects c old)
  where
    by : (o : Option Found) → NilOr w (alias_found w c new old o)
    by None = failed w (cause.UndefinedInClass old c)
    by (Some f) = is_nil refl refl

undefine_is : (w : World) (c : ObjId) (name : SymId) → NilOr w (undefine_method w c name)
unfolding undefine_method
undefine_is w c name = by (find w.store.objects c name)
  where
    by : (o : Option Found) → NilOr w (undefine_found w c name o)
    by None = failed w (cause.UndefinedInClass name c)
    by (Some f) = is_nil refl refl

module _ (g : Ground) (h : Site) (static : Static h) (ks : List Item) (m : source.Memory) (ls : List Level)
    (k : machine.Memory) (both : Common g h m (aligned k m)) where
  -- an instruction whose answer no register gets, and nil behind it
  nil_at : (c : Config) (a : Answer) (x : Rest) (n r : ℕ) (around : Option Loop) (o : Operation)
      → From h c (frame (frame_at h x n) ∷ g.below) (aligned k m) m → NilOr m.world a
      → go h.source c ≡ after_result a.result a.world ks m → LineAt h n (line.Does o)
      → LineAt h (n + 1) (line.Does (op.LoadNil r))
      → act h.program o (at_line h (n + 1)) (frame_at h x n) g.below (aligned k m)
      ≡ only_result h.program a.result (at_line h (n + 1)) (frame_at h x n) g.below (machine.with_world k a.world)
      → burden ks m < measure c → m.place ≡ place_in h → Room h r → InFrame g h k.lists ks (n + 1 + 1) r around
      → Step h c (state_at g h x n (aligned k m))
  unfolding shown
  nil_at c a x n r around o from (is_nil e out) goes l load acts less there room next =
      let w = a.world in
      let k' = machine.with_world k w in
      let goes' = goes ∙ ap (λ (q : Given). after_result q w ks m) e in
      let quiet = subst (Quiet m) goes' from.quiet in
      by_two h c (state_at g h x n (aligned k m)) (state_at g h x (n + 1) k') (state_at g h x (n + 1 + 1) (written h k' r Nil))
      from.alike
      (turned h x n o g.below (aligned k m) l ∙ acts
      ∙ ap (λ (q : Given). only_result h.program q (at_line h (n + 1)) (frame_at h x n) g.below k') e)
      (out_same k' out ∙ from.alike)
      (turned h x (n + 1) (op.LoadNil r) g.below k' load)
      (subst (λ (q : Config). Related h q (state_at g h x (n + 1 + 1) (written h k' r Nil)))
      (sym (goes ∙ ap (λ (q : Given). after_result q w ks m) e))
      (writes g h static Nil ks (source.with_world m w) x k' (n + 1 + 1) r around (with_worlds g h m k both w quiet.1)
      there room next))
    where
      out_same : (k' : machine.Memory) → k'.world.out ≡ m.world.out
          → shown (state_at g h x (n + 1) k') ≡ shown (state_at g h x n (aligned k m))
      out_same k' e = ap Going e
  nil_at c a x n r around o from (is_raised i e) goes l load acts less there room next =
      let goes' = goes ∙ ap (λ (q : Given). after_result q a.world ks m) e in
      let quiet = subst (Quiet m) goes' from.quiet in
      by_none h c (state_at g h x n (aligned k m))
      (subst (λ (d : Config). measure d < measure c) (sym goes') (omega (arith, less)))
      (subst (λ (d : Config). Related h d (state_at g h x n (aligned k m))) (sym goes') (raised (record {
        g = over_levels g (frame (frame_at h x n) ∷ g.below);
        e = i;
        exception = refl;
        memory = machine.with_world k a.world;
        throws = turned h x n o g.below (aligned k m) l ∙ acts
            ∙ ap (λ (q : Given). only_result h.program q (at_line h (n + 1)) (frame_at h x n) g.below
            (machine.with_world k a.world)) e;
        out = from.out ∙ sym quiet.0;
        both = grown (over_levels g (frame (frame_at h x n) ∷ g.below)) m (aligned k m)
            (below_running g h m (aligned k m) both (frame_at h x n) refl) m.place a.world quiet.1;
        leaving = leaves_frame g h k.lists ks (n + 1 + 1) r around x n both.site l.guarded next;
      })))

  -- the lines of such a form
  record Two (n r : ℕ) (o : Operation) (around : Option Loop) : Type 0 where
    does_it : LineAt h n (line.Does o)
    load : LineAt h (n + 1) (line.Does (op.LoadNil r))
    next : InFrame g h k.lists ks (n + 1 + 1) r around

  two_lines : (n r : ℕ) (o : Operation) (around : Option Loop)
      → Stands h n (does o ⊕ does (op.LoadNil r))
      → InFrame g h k.lists ks (n + high (does o ⊕ does (op.LoadNil r))) r around → Two n r o around
  two_lines n r o around code next =
      let p = does o in
      let q = does (op.LoadNil r) in
      let one : high p ≡ 1 = high-puts (line.Does o) in
      record {
        does_it = the_line h n (line.Does o) (left h n p q (within_puts _ _) code);
        load = the_line h (n + 1) (line.Does (op.LoadNil r)) (moved h (n + high p) (n + 1) q (omega (arith, one))
            (right h n p q (within_puts _ _) code));
        next = subst (λ (i : ℕ). InFrame g h k.lists ks i r around)
            (omega (arith, high-both p q, one, high-puts (line.Does (op.LoadNil r)))) next;
      }

  pub do_alias : (j : ℕ) (y z : Name) (d : Doing g h j (alias_form y z) ks m.place ls k.lists)
      → Quiet m (go h.source (Run (perform j (alias_form y z)) ks m))
      → Step h (Run (perform j (alias_form y z)) ks m) (state_at g h d.x d.n (aligned k m))
  unfolding do_form
  do_alias j y z d quiet =
      let o = op.Alias (entry_of h.context y) (entry_of h.context z) in
      let c = class_around m.world (activation_at m.world h.activation).classes in
      let a = alias_method m.world c (symbol m y) (symbol m z) in
      let two = two_lines d.n d.r o d.loop d.code d.next in
      nil_at (Run (perform j (alias_form y z)) ks m) a d.x d.n d.r d.loop o (record {
        alike = going (perform j (alias_form y z)) ks m (frame (frame_at h d.x d.n) ∷ g.below) (aligned k m) refl;
        out = refl;
        quiet = quiet;
      }) (alias_is m.world c (symbol m y) (symbol m z))
      (ap (λ (p : Place). after (alias_method m.world (class_around m.world (activation_at m.world p.activation).classes)
      (symbol m y) (symbol m z)) ks m) d.there) two.does_it two.load
      (ap (λ (s : SymId). told (alias_method m.world c s (entry_symbol z)) d.x d.n)
      (symbols_same h d.x d.n k m y d.covered.1)
      ∙ ap (λ (s : SymId). told (alias_method m.world c (symbol m y) s) d.x d.n)
      (symbols_same h d.x d.n k m z d.covered.2))
      (omega arith) d.there d.covered.0 two.next
    where
      told : Answer → Rest → ℕ → State
      told b x n = only_result h.program b.result (at_line h (n + 1)) (frame_at h x n) g.below (machine.with_world k b.world)

      entry_symbol : Name → SymId
      entry_symbol y = symbol_machine h.program (frame_at h d.x d.n) (aligned k m) (entry_of h.context y)

  pub do_undef : (j : ℕ) (y : Name) (d : Doing g h j (undef_form y) ks m.place ls k.lists)
      → Quiet m (go h.source (Run (perform j (undef_form y)) ks m))
      → Step h (Run (perform j (undef_form y)) ks m) (state_at g h d.x d.n (aligned k m))
  unfolding do_form
  do_undef j y d quiet =
      let o = op.Undef (entry_of h.context y) in
      let c = class_around m.world (activation_at m.world h.activation).classes in
      let a = undefine_method m.world c (symbol m y) in
      let two = two_lines d.n d.r o d.loop d.code d.next in
      nil_at (Run (perform j (undef_form y)) ks m) a d.x d.n d.r d.loop o (record {
        alike = going (perform j (undef_form y)) ks m (frame (frame_at h d.x d.n) ∷ g.below) (aligned k m) refl;
        out = refl;
        quiet = quiet;
      }) (undefine_is m.world c (symbol m y))
      (ap (λ (p : Place). after (undefine_method m.world (class_around m.world (activation_at m.world p.activation).classes)
      (symbol m y)) ks m) d.there) two.does_it two.load
      (ap (λ (s : SymId). told (undefine_method m.world c s) d.x d.n) (symbols_same h d.x d.n k m y d.covered.1))
      (omega arith) d.there d.covered.0 two.next
    where
      told : Answer → Rest → ℕ → State
      told b x n = only_result h.program b.result (at_line h (n + 1)) (frame_at h x n) g.below (machine.with_world k b.world)
