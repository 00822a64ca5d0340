-- Literals and self: a turn loads the value.
use Rattle.std.proofs.Common.{◌≡◌, ℕ, ◌+◌, ℤ, pos, negsuc, List, ◌∷◌, refl, sym, ap, ◌∙◌, subst, Bool, true, false}
use Rattle.std.specs.Prelude.{if◌then◌else◌, Option, Some, slice_get}
use Rattle.rb_value.specs.declared.value.Value.{Value}
use Rattle.rb_value.specs.declared.value.Value.TheVariants.{Nil, True, False, Int}
use Rattle.rite_code.specs.Code.{Program}
use Rattle.rite_code.specs.declared.code.PoolItem.{PoolItem}
use Rattle.rite_code.specs.declared.code.PoolItem.TheVariants as pool
use Rattle.rite_code.specs.declared.operation.Operation.{Operation}
use Rattle.rite_code.specs.declared.operation.Operation.TheVariants as op
use Rattle.ir_core.specs.CoreForm.{CoreForm, nil, truth, falsehood, self_ref, int}
use Rattle.gen_parts.specs.declared.line.Line.TheVariants as line
use Rattle.gen_parts.specs.Pieces.{does}
use Rattle.gen_forms.specs.declared.context.Loop.{Loop}
use Rattle.gen_forms.specs.Gen.{is_within, load_integer as load, integer_entry}
use Rattle.def_calls.specs.World.{World, activation_at}
use Rattle.def_eval.specs.Source.{Source}
use Rattle.def_eval.specs.Configuration as source
use Rattle.def_eval.specs.Configuration.{Place, Item, perform, give, Config, Run, seen}
use Rattle.def_eval.specs.Forms.{do_form, self_of}
use Rattle.def_eval.specs.Transition.{go}
use Rattle.def_machine.specs.State as machine
use Rattle.def_machine.specs.State.{Registers, Frame, Level, frame, On, body_at, value_at, shown}
use Rattle.def_machine.specs.Turn.{act, load_integer}
use Rattle.step_laws.specs.Site.{Site, within, place_in, at_line, LineAt, Room}
use Rattle.step_laws.specs.Calm.{Grows}
use Rattle.step_laws.proofs.Placed.{high, high-puts, the_line, Rest, frame_at, turned}
use Rattle.step_laws.specs.Behind.{Static}
use Rattle.step_laws.specs.Relation.{Ground, InFrame, Running, Common, Doing, Related, Step}
use Rattle.step_laws.proofs.Untouched.{grown_here}
use Rattle.step_laws.proofs.Matching.{by_one, going, state_at, written, writes}

-- the machine's memory with the world of the evaluation
abbrev pub aligned : machine.Memory → source.Memory → machine.Memory
aligned k m = machine.with_world k m.world

-- both sides with another world
pub with_worlds : (g : Ground) (h : Site) (m : source.Memory) (k : machine.Memory) → Common g h m (aligned k m)
    → (w : World) → Grows m.world w → Common g h (source.with_world m w) (machine.with_world k w)
with_worlds g h m k both w grows = grown_here g h m (aligned k m) both w grows

-- a form whose code is one instruction, which writes its value
pub written_by : (g : Ground) (h : Site) → Static h → (c : Config) (v : Value) (ks : List Item) (m : source.Memory) (x : Rest)
    (k : machine.Memory) (n r : ℕ) (o : Operation) (around : Option Loop)
    → shown (state_at g h x n (aligned k m)) ≡ seen c
    → go h.source c ≡ Run (give v) ks m
    → LineAt h n (line.Does o)
    → act h.program o (at_line h (n + 1)) (frame_at h x n) g.below (aligned k m)
    ≡ state_at g h x (n + 1) (written h (aligned k m) r v)
    → Common g h m (aligned k m) → m.place ≡ place_in h → Room h r → InFrame g h k.lists ks (n + 1) r around
    → Step h c (state_at g h x n (aligned k m))
written_by g h static c v ks m x k n r o around out goes l acts both there room a =
    by_one h c (state_at g h x n (aligned k m)) (state_at g h x (n + 1) (written h (aligned k m) r v)) out
    (turned h x n o g.below (aligned k m) l ∙ acts)
    (subst (λ (d : Config). Related h d (state_at g h x (n + 1) (written h (aligned k m) r v))) (sym goes)
    (writes g h static v ks m x (aligned k m) (n + 1) r around both there room a))

-- self of the evaluation stands in register 0
pub self_is : {s : Source} {p : Program} (g : Ground) (h : Site) (m : source.Memory) (k : machine.Memory)
    → Running s p g h m k → m.place ≡ place_in h → self_of m ≡ value_at k.lists h.list 0
self_is g h m k b there =
    let i = b.all.sites.each h b.site in
    ap (λ (q : Place). (activation_at m.world q.activation).self) there ∙ i.self ∙ sym i.same.self

-- An integer is loaded, whichever instruction is the shortest.
load_is : (g : Ground) (h : Site) (f : Frame) (k : machine.Memory) (r next : ℕ) (z : ℤ) (e : ℕ) → f.body ≡ h.body
    → (s t : Bool) → (t ≡ false → slice_get (body_at h.program h.body).pool e ≡ Some (pool.Int z))
    → act h.program (if s then op.LoadI16 r z else (if t then op.LoadI32 r z else op.LoadL r e)) next f g.below k
    ≡ On (frame (record f { place = next }) ∷ g.below) (machine.write k f r (Int z))
load_is g h f k r next z e same true t pooled = refl
load_is g h f k r next z e same false true pooled = refl
load_is g h f k r next z e same false false pooled =
    ap (λ (b : ℕ). load_integer (slice_get (body_at h.program b).pool e) r next f g.below k) same
    ∙ ap (λ (i : Option PoolItem). load_integer i r next f g.below k) (pooled refl)

small : (g : Ground) (h : Site) (f : Frame) (k : machine.Memory) (r next n : ℕ) (o : Operation) (b : Bool)
    → act h.program o next f g.below k ≡ On (frame (record f { place = next }) ∷ g.below) (machine.write k f r (Int (pos n)))
    → act h.program (if b then op.LoadI r n else o) next f g.below k
    ≡ On (frame (record f { place = next }) ∷ g.below) (machine.write k f r (Int (pos n)))
small g h f k r next n o true e = refl
small g h f k r next n o false e = e

pub loaded : (g : Ground) (h : Site) (x : Rest) (o : Option Loop) (k : machine.Memory) (n r : ℕ) (z : ℤ)
    → (is_within (negsuc 2147483647) z (pos 2147483647) ≡ false
    → slice_get (body_at h.program h.body).pool (integer_entry h.context z) ≡ Some (pool.Int z))
    → act h.program (load (within h o) r z) (at_line h (n + 1)) (frame_at h x n) g.below k
    ≡ state_at g h x (n + 1) (written h k r (Int z))
loaded g h x o k n r (pos i) pooled =
    small g h (frame_at h x n) k r (at_line h (n + 1)) i _ (is_within (pos 0) (pos i) (pos 255))
    (load_is g h (frame_at h x n) k r (at_line h (n + 1)) (pos i) (integer_entry h.context (pos i)) refl
    (is_within (negsuc 32767) (pos i) (pos 32767)) (is_within (negsuc 2147483647) (pos i) (pos 2147483647)) pooled)
loaded g h x o k n r (negsuc i) pooled =
    load_is g h (frame_at h x n) k r (at_line h (n + 1)) (negsuc i) (integer_entry h.context (negsuc i)) refl
    (is_within (negsuc 32767) (negsuc i) (pos 32767)) (is_within (negsuc 2147483647) (negsuc i) (pos 2147483647)) pooled

-- behind one line
one_line : (g : Ground) (h : Site) (l : List Registers) (ks : List Item) (n r : ℕ) (o : Operation) (around : Option Loop)
    → InFrame g h l ks (n + high (does o)) r around → InFrame g h l ks (n + 1) r around
one_line g h l ks n r o around a = subst (λ (i : ℕ). InFrame g h l ks (n + i) r around) (high-puts (line.Does o)) a

module _ (g : Ground) (h : Site) (static : Static h) (j : ℕ) (ks : List Item) (m : source.Memory) (ls : List Level)
    (k : machine.Memory) (both : Common g h m (aligned k m)) where
  literal : (e : CoreForm) (v : Value) (o : Operation) (d : Doing g h j e ks m.place ls k.lists)
      → go h.source (Run (perform j e) ks m) ≡ Run (give v) ks m → LineAt h d.n (line.Does o)
      → act h.program o (at_line h (d.n + 1)) (frame_at h d.x d.n) g.below (aligned k m)
      ≡ state_at g h d.x (d.n + 1) (written h (aligned k m) d.r v)
      → Room h d.r → InFrame g h k.lists ks (d.n + 1) d.r d.loop
      → Step h (Run (perform j e) ks m) (state_at g h d.x d.n (aligned k m))
  literal e v o d goes l acts room a =
      written_by g h static (Run (perform j e) ks m) v ks m d.x k d.n d.r o d.loop
      (going (perform j e) ks m (frame (frame_at h d.x d.n) ∷ g.below) (aligned k m) refl) goes l acts both d.there room a

  pub do_nil : (d : Doing g h j nil ks m.place ls k.lists)
      → Step h (Run (perform j nil) ks m) (state_at g h d.x d.n (aligned k m))
  unfolding do_form
  do_nil d =
      let o = op.LoadNil d.r in
      literal nil Nil o d refl (the_line h d.n (line.Does o) d.code) refl d.covered (one_line g h k.lists ks d.n d.r o d.loop d.next)

  pub do_truth : (d : Doing g h j truth ks m.place ls k.lists)
      → Step h (Run (perform j truth) ks m) (state_at g h d.x d.n (aligned k m))
  unfolding do_form
  do_truth d =
      let o = op.LoadT d.r in
      literal truth True o d refl (the_line h d.n (line.Does o) d.code) refl d.covered
      (one_line g h k.lists ks d.n d.r o d.loop d.next)

  pub do_falsehood : (d : Doing g h j falsehood ks m.place ls k.lists)
      → Step h (Run (perform j falsehood) ks m) (state_at g h d.x d.n (aligned k m))
  unfolding do_form
  do_falsehood d =
      let o = op.LoadF d.r in
      literal falsehood False o d refl (the_line h d.n (line.Does o) d.code) refl d.covered
      (one_line g h k.lists ks d.n d.r o d.loop d.next)

  pub do_self : (d : Doing g h j self_ref ks m.place ls k.lists)
      → Step h (Run (perform j self_ref) ks m) (state_at g h d.x d.n (aligned k m))
  unfolding do_form
  do_self d =
      let o = op.LoadSelf d.r in
      let same : self_of m ≡ value_at k.lists h.list 0 = self_is g h m (aligned k m) both d.there in
      literal self_ref (self_of m) o d refl (the_line h d.n (line.Does o) d.code)
      (ap (λ (v : Value). state_at g h d.x (d.n + 1) (written h (aligned k m) d.r v)) (sym same)) d.covered
      (one_line g h k.lists ks d.n d.r o d.loop d.next)

  pub do_int : (z : ℤ) (d : Doing g h j (int z) ks m.place ls k.lists)
      → Step h (Run (perform j (int z)) ks m) (state_at g h d.x d.n (aligned k m))
  unfolding do_form
  do_int z d =
      let o = load (within h d.loop) d.r z in
      literal (int z) (Int z) o d refl (the_line h d.n (line.Does o) d.code)
      (loaded g h d.x d.loop (aligned k m) d.n d.r z d.covered.1) d.covered.0
      (one_line g h k.lists ks d.n d.r o d.loop d.next)
