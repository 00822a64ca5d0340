-- A class or a module is opened by one instruction, and its body is run by the next one; or one of them raises.
use Rattle.std.proofs.Common.{◌≡◌, ◌⊎◌, inl, inr, ℕ, ◌+◌, ◌<◌, List, [], ◌∷◌, refl, sym, ap, ◌∙◌, subst, arith, length-append, get_or, Bool, true, false}
use Rattle.std.specs.Prelude.{codes, if◌then◌else◌, Option, Some, None}
use Rattle.rb_value.specs.declared.value.Value.{Value}
use Rattle.rb_value.specs.declared.value.ObjId.{ObjId}
use Rattle.rb_value.specs.declared.value.SymId.{SymId}
use Rattle.rb_value.specs.declared.exit.Slot.TheVariants.{V}
use Rattle.rb_value.specs.Slot.{read}
use Rattle.def_core.specs.declared.cause.Cause.TheVariants as cause
use Rattle.def_core.specs.Changes.{intern, fails, define_class, define_module}
use Rattle.rite_code.specs.declared.operation.Operation.{Operation}
use Rattle.rite_code.specs.declared.operation.Operation.TheVariants as op
use Rattle.ir_core.specs.CoreForm.{Name}
use Rattle.gen_parts.specs.declared.line.Line.TheVariants as line
use Rattle.gen_forms.specs.declared.context.Loop.{Loop}
use Rattle.gen_forms.specs.Gen.{symbol as entry_of}
use Rattle.def_calls.specs.Seen.{Going}
use Rattle.def_calls.specs.World.{World, Activation, Answer, Result as Given, gives, raises, fail, with_store, activation_at}
use Rattle.def_calls.specs.Calls.{is_full}
use Rattle.def_calls.specs.Definitions.{space_in, with_space, open_class, open_module, singleton_class}
use Rattle.def_calls.specs.Values.{wrong_value}
use Rattle.def_calls.specs.Views.{object_in}
use Rattle.def_eval.specs.Source.{body_at}
use Rattle.def_eval.specs.Configuration as source
use Rattle.def_eval.specs.Configuration.{Place, Action, Item, Config, seen}
use Rattle.def_eval.specs.Entering.{symbol, depth, after_result, begin_class, run_class, run_opened}
use Rattle.def_eval.specs.Forms.{open_after, finish}
use Rattle.def_eval.specs.Transition.{go}
use Rattle.def_machine.specs.State as machine
use Rattle.def_machine.specs.State.{Frame, Level, frame, State, value_at, shown}
use Rattle.def_machine.specs.State.{body_at as code_at}
use Rattle.def_machine.specs.Unwind.{after as after_machine, after_result as after_result_machine}
use Rattle.def_machine.specs.Entering.{answer_result}
use Rattle.def_machine.specs.Turn.{turn, act, execute, symbol as symbol_machine}
use Rattle.eval_laws.specs.Kinds.{IsKind, of_class}
use Rattle.step_laws.specs.Site.{Site, place_in, at_line, LineAt, Room, Named}
use Rattle.step_laws.specs.Calm.{Still}
use Rattle.step_laws.specs.Spaces.{IsSpace, GivesSpace, OpensSpace}
use Rattle.step_laws.specs.Bodies.{CallsBodies}
use Rattle.step_laws.specs.Measure.{burden, measure}
use Rattle.step_laws.specs.Standing.{Rest, frame_at}
use Rattle.step_laws.specs.Behind.{Static, Opens, a_class, a_module, a_singleton, OpensAt}
use Rattle.step_laws.specs.Relation.{Ground, over_levels, Waits, InFrame, Common}
use Rattle.step_laws.proofs.Placed.{turned}
use Rattle.step_laws.proofs.Registers.{keeps_above, slot_same}
use Rattle.step_laws.proofs.Untouched.{put_only, frame_kept, grown, same_here, written_here, below_running}
use Rattle.step_laws.proofs.Matching.{Soon, state_at, written}
use Rattle.step_laws.proofs.Calling.{From, Worlds, depth_is, answered}
use Rattle.step_laws.proofs.Literals.{aligned}
use Rattle.step_laws.proofs.Answers.{symbols_same}
use Rattle.step_laws.proofs.Waiting.{asking}
use Rattle.step_laws.proofs.Midway.{Few, few_of, few_more, few_before, raises_behind, answer_behind, answer_out}
use Rattle.step_laws.proofs.Receivers.{singleton_out}
use Rattle.step_laws.proofs.ClassBodies.{class_scope, begun_config, begun_state, begins_class}

-- What opens one writes nothing.

wrong_out : (w : World) (instruction : List ℕ) → (wrong_value w instruction).world.out ≡ w.out
unfolding wrong_value fail
wrong_out w instruction =
    let named = intern w.store instruction in
    answer_out (with_store w named.store) (fails named.store (cause.WrongValue named.symbol))

space_out : (w : World) (instruction : List ℕ) (v : Value) (o : Option ObjId) (f : ObjId → Answer)
    → ((c : ObjId) → (f c).world.out ≡ w.out) → (with_space w instruction v o f).world.out ≡ w.out
space_out w instruction v None f e = wrong_out w instruction
space_out w instruction v (Some c) f e = e c

class_out : (w : World) (scope : Value) (x : SymId) (parent : Value) → (open_class w scope x parent).world.out ≡ w.out
unfolding open_class
class_out w scope x parent =
    space_out w (codes "CLASS") scope (space_in w.store.objects scope) _
    (λ c. answer_out w (define_class w.store c x parent))

module_out : (w : World) (scope : Value) (x : SymId) → (open_module w scope x).world.out ≡ w.out
unfolding open_module
module_out w scope x =
    space_out w (codes "MODULE") scope (space_in w.store.objects scope) _
    (λ c. answer_out w (define_module w.store c x))

-- what an answer comes to has its world
after_moved : (a : Given) (u w : World) (ks : List Item) (m : source.Memory)
    → after_result a u ks (source.with_world m w) ≡ after_result a u ks m
after_moved (gives v) u w ks m = refl
after_moved (raises e) u w ks m = refl

-- The body is run of the class that stands in its register, at line n.
module _ (g : Ground) (h : Site) (static : Static h) (ks : List Item) (m : source.Memory) (l : machine.Memory)
    (both : Common g h m (aligned l m)) (at_home : m.place ≡ place_in h) (c : Config) (x : Rest) (n low : ℕ)
    (around : Option Loop) (body child : ℕ) (room : Room h low)
    (makes : get_or (code_at h.program h.body).children child 0 ≡ body) (kind : IsKind h.source body of_class)
    (at : LineAt h n (line.Does (op.Exec low child))) (w : World) (v : Value)
    (from : From h c (frame (frame_at h x n) ∷ g.below) (machine.with_world l w) m) (out : w.out ≡ m.world.out)
    (held : value_at l.lists h.list low ≡ v) (space : object_in v ≡ space_in w.store.objects v)
    (goes : go h.source c ≡ run_class h.source body (object_in v) ks (source.with_world m w))
    (calls : Still m (go h.source c) ⊎ CallsBodies h.source h.program m.world.store.objects m.world.store.objects)
    (less : burden ks m < measure c) (next : InFrame g h l.lists ks (n + 1) low around) where
  abbrev state : State
  state = state_at g h x n (machine.with_world l w)

  abbrev f : Frame
  f = frame_at h (asking h x n low) n

  abbrev gs : List Level
  gs = frame f ∷ g.below

  waiting : Waits g.sites g.fiber l.lists ks m.place gs
  waiting = record {
    h = h;
    x = asking h x n low;
    at = n;
    n = n + 1;
    is = refl;
    site = both.site;
    after = refl;
    room = room;
    there = at_home;
    guarded = at.guarded;
    around = around;
    next = next;
  }

  worlds : Worlds h.source h.program (over_levels g gs) m m l
  worlds u grows =
      grown (over_levels g gs) m (aligned l m) (below_running g h m (aligned l m) both f refl) m.place u grows

  abbrev run : ℕ → Option ObjId → State
  run i o = execute h.program i o low (at_line h (n + 1)) (frame_at h x n) g.below (machine.with_world l w)

  executes : (o : Option ObjId) → object_in v ≡ o
      → act h.program (op.Exec low child) (at_line h (n + 1)) (frame_at h x n) g.below (machine.with_world l w)
      ≡ run body o
  executes o e =
      ap (λ (z : Value). run (get_or (code_at h.program h.body).children child 0) (space_in w.store.objects z)) held
      ∙ ap (λ (i : ℕ). run i (space_in w.store.objects v)) makes
      ∙ ap (run body) (sym space ∙ e)

  went : (o : Option ObjId) → object_in v ≡ o → go h.source c ≡ run_class h.source body o ks (source.with_world m w)
  went o e = goes ∙ ap (λ (z : Option ObjId). run_class h.source body z ks (source.with_world m w)) e

  abbrev deep : Answer
  deep = fail w cause.StackTooDeep

  -- it begins, or too many activations are under way
  module _ (cls : ObjId) (e : object_in v ≡ Some cls) where
    abbrev runner : Activation
    runner = activation_at w h.activation

    abbrev begun : Config
    begun = begun_config h.source body cls runner w ks m

    goes_on : (t : Bool) → is_full (depth ks) ≡ t
        → go h.source c ≡ (if t then after_result deep.result deep.world ks (source.with_world m w) else begun)
    goes_on t q =
        went (Some cls) e
        ∙ ap (λ (b : Bool). if b then after_result deep.result deep.world ks (source.with_world m w)
        else begin_class body (body_at h.source body) cls ks (source.with_world m w)) q
        ∙ ap (λ (p : Place). if t then after_result deep.result deep.world ks (source.with_world m w)
        else begun_config h.source body cls (activation_at w p.activation) w ks m) at_home

    turns_on : (t : Bool) → is_full (depth ks) ≡ t → turn h.program state
        ≡ (if t then answer_result h.program deep.result gs (machine.with_world l deep.world)
        else begun_state h.program body cls runner w gs l)
    turns_on t q =
        turned h x n (op.Exec low child) g.below (machine.with_world l w) at ∙ executes (Some cls) e
        ∙ ap (λ (b : Bool). if b then answer_result h.program deep.result gs (machine.with_world l deep.world)
        else begun_state h.program body cls runner w gs l)
        (ap is_full (sym (depth_is g.sites g.fiber l.lists ks m.place gs waiting)) ∙ q)

    begins : go h.source c ≡ begun → turn h.program state ≡ begun_state h.program body cls runner w gs l
        → (Still m (go h.source c) ⊎ CallsBodies h.source h.program m.world.store.objects m.world.store.objects)
        → Soon h.source h.program c state
    begins goes' turns (inl still) =
        absurd (omega (
          arith,
          subst (Still m) goes' still,
          length-append m.scopes
              (class_scope (body_at h.source body) ∷ []),
        ))
    begins goes' turns (inr is) =
        begins_class h.source h.program c (frame (frame_at h x n) ∷ g.below) (machine.with_world l w) m from body cls
        runner w
        ks m g gs l goes' turns (is.classes body kind) worlds waiting

    on : (t : Bool) → is_full (depth ks) ≡ t → Soon h.source h.program c state
    on true q =
        answered h.source h.program c (frame (frame_at h x n) ∷ g.below) (machine.with_world l w) m from deep.result
        deep.world
        ks m g gs l (goes_on true q ∙ after_moved deep.result deep.world w ks m) (turns_on true q) less worlds waiting
    on false q = begins (goes_on false q) (turns_on false q) calls

  by : (o : Option ObjId) → object_in v ≡ o → Soon h.source h.program c state
  by None e =
      let wrong = wrong_value w (codes "EXEC") in
      answer_behind g h static c wrong.result w wrong.world ks m x l n low (op.Exec low child) around from.alike out
      from.quiet
      (went None e ∙ after_moved wrong.result wrong.world w ks m) at (executes None e) less both at_home room next
  by (Some cls) e = on cls e (is_full (depth ks)) refl

  runs_body : Soon h.source h.program c state
  runs_body = by (object_in v) refl

-- The instruction that opens it stands at line n; registers may have got values since the beginning of the transition.
module _ (g : Ground) (h : Site) (static : Static h) (ks : List Item) (m : source.Memory) (l : machine.Memory)
    (both : Common g h m (aligned l m)) (at_home : m.place ≡ place_in h) (c : Config) (x : Rest) (n low end : ℕ)
    (around : Option Loop) (a : Action) (count : ℕ) (b : OpensAt h a count low n end)
    (from : From h c (frame (frame_at h x n) ∷ g.below) (aligned l m) m)
    (calls : Still m (go h.source c) ⊎ CallsBodies h.source h.program m.world.store.objects m.world.store.objects)
    (less : burden ks m < measure c) (next : InFrame g h l.lists ks end low around) where
  abbrev begins_at : State
  begins_at = state_at g h x n (aligned l m)

  ahead : InFrame g h l.lists ks (n + 1 + 1) low around
  ahead = subst (λ (i : ℕ). InFrame g h l.lists ks i low around) (sym b.ends) next

  abbrev opens : Answer → State
  opens q = after_machine h.program q low (at_line h (n + 1)) (frame_at h x n) g.below (aligned l m)

  opened_by : (q : Answer) → q.world.out ≡ m.world.out → GivesSpace q
      → go h.source c ≡ open_after h.source b.body q ks m
      → act h.program b.o (at_line h (n + 1)) (frame_at h x n) g.below (aligned l m) ≡ opens q
      → Few 4 h.source h.program c begins_at
  unfolding shown
  opened_by q out space goes acts = by q.result refl
    where
      to : (z : Given) → q.result ≡ z → act h.program b.o (at_line h (n + 1)) (frame_at h x n) g.below (aligned l m)
          ≡ after_result_machine h.program z low (at_line h (n + 1)) (frame_at h x n) g.below
          (machine.with_world l q.world)
      to z is =
          acts ∙ ap (λ (y : Given). after_result_machine h.program y low (at_line h (n + 1)) (frame_at h x n) g.below
          (machine.with_world l q.world)) is

      went_to : (z : Given) → q.result ≡ z → go h.source c ≡ run_opened h.source b.body z q.world ks m
      went_to z is = goes ∙ ap (λ (y : Given). run_opened h.source b.body y q.world ks m) is

      -- what is given stands in the register
      given : (v : Value) → q.result ≡ gives v → Few 4 h.source h.program c begins_at
      given v is =
          let holding = written h (aligned l m) low v in
          let s = same_here g h m (aligned l m) both in
          let middle = state_at g h x (n + 1) (machine.with_world holding q.world) in
          let alike = out_alike v q.world out in
          few_before 3 h.source h.program c begins_at middle (omega arith) from.alike
          (turned h x n b.o g.below (aligned l m) b.opens ∙ to (gives v) is)
          (few_of h.source h.program c middle
          (runs_body g h static ks m holding (written_here g h m (aligned l m) both low v b.room.above) at_home c x
          (n + 1) low
          around b.body b.child b.room b.makes b.kind b.runs q.world v
          (record { alike = alike; out = out; quiet = from.quiet }) out
          (ap read (slot_same l.lists h.list low (V v) s.present (omega (arith, s.long, b.room.within))))
          (subst (λ (z : Given). IsSpace z q.world) is space) (went_to (gives v) is) calls less
          (frame_kept g h l.lists holding.lists ks (n + 1 + 1) low around
          (keeps_above h l.lists low low (V v) s.present (omega arith)) (put_only l.lists h.list low v)
          (omega (arith, both.free)) ahead)))
        where
          out_alike : (v : Value) (w : World) → w.out ≡ m.world.out
              → shown (state_at g h x (n + 1) (machine.with_world (written h (aligned l m) low v) w)) ≡ seen c
          out_alike v w e = ap Going e ∙ from.alike

      by : (z : Given) → q.result ≡ z → Few 4 h.source h.program c begins_at
      by (gives v) is = given v is
      by (raises e) is =
          few_more 3 4 h.source h.program c begins_at (omega arith) (few_of h.source h.program c begins_at
          (raises_behind g h c e m.world q.world ks m x (aligned l m) n low (n + 1 + 1) b.o around refl from.quiet
          (went_to (raises e) is) b.opens (to (raises e) is) less both ahead))

  -- a class, a module, and a singleton class, by what stands in the registers

  pub class_opened : (y : Name) (v u : Value) → b.o ≡ op.Class low (entry_of h.context y) → Named h y
      → value_at l.lists h.list low ≡ v → value_at l.lists h.list (low + 1) ≡ u
      → go h.source c ≡ open_after h.source b.body (open_class m.world v (symbol m y) u) ks m
      → GivesSpace (open_class m.world v (symbol m y) u) → Few 4 h.source h.program c begins_at
  class_opened y v u is named first second goes space =
      let told : Value → SymId → Value → State = λ z i t. opens (open_class m.world z i t) in
      let name = symbol_machine h.program (frame_at h x n) (aligned l m) (entry_of h.context y) in
      opened_by (open_class m.world v (symbol m y) u) (class_out m.world v (symbol m y) u) space goes
      (ap (λ (o : Operation). act h.program o (at_line h (n + 1)) (frame_at h x n) g.below (aligned l m)) is
      ∙ ap (λ (z : Value). told z name (value_at l.lists h.list (low + 1))) first
      ∙ ap (λ (i : SymId). told v i (value_at l.lists h.list (low + 1))) (symbols_same h x n l m y named)
      ∙ ap (λ (z : Value). told v (symbol m y) z) second)

  pub module_opened : (y : Name) (v : Value) → b.o ≡ op.Module low (entry_of h.context y) → Named h y
      → value_at l.lists h.list low ≡ v
      → go h.source c ≡ open_after h.source b.body (open_module m.world v (symbol m y)) ks m
      → GivesSpace (open_module m.world v (symbol m y)) → Few 4 h.source h.program c begins_at
  module_opened y v is named first goes space =
      let told : Value → SymId → State = λ z i. opens (open_module m.world z i) in
      let name = symbol_machine h.program (frame_at h x n) (aligned l m) (entry_of h.context y) in
      opened_by (open_module m.world v (symbol m y)) (module_out m.world v (symbol m y)) space goes
      (ap (λ (o : Operation). act h.program o (at_line h (n + 1)) (frame_at h x n) g.below (aligned l m)) is
      ∙ ap (λ (z : Value). told z name) first ∙ ap (told v) (symbols_same h x n l m y named))

  singleton_opened : (v : Value) → b.o ≡ op.SClass low → value_at l.lists h.list low ≡ v
      → go h.source c ≡ open_after h.source b.body (singleton_class m.world v) ks m
      → GivesSpace (singleton_class m.world v) → Few 4 h.source h.program c begins_at
  singleton_opened v is first goes space =
      opened_by (singleton_class m.world v) (singleton_out m.world v) space goes
      (ap (λ (o : Operation). act h.program o (at_line h (n + 1)) (frame_at h x n) g.below (aligned l m)) is
      ∙ ap (λ (z : Value). opens (singleton_class m.world z)) first)

  -- by an action with its operands
  pub opens_now : (v u : Value) → go h.source c ≡ finish h.source a v u ks m → value_at l.lists h.list low ≡ v
      → (count ≡ 2 → value_at l.lists h.list (low + 1) ≡ u) → OpensSpace a v u m → Few 4 h.source h.program c begins_at
  unfolding finish
  opens_now v u goes first second space = by b.by
    where
      by : Opens h low a b.body b.o count → Few 4 h.source h.program c begins_at
      by (a_class y is o named two) =
          class_opened y v u o named first (second two) (goes ∙ ap (λ (q : Action). finish h.source q v u ks m) is)
          (space.a_class y b.body is)
      by (a_module y is o named one) =
          module_opened y v o named first (goes ∙ ap (λ (q : Action). finish h.source q v u ks m) is)
          (space.a_module y b.body is)
      by (a_singleton is o one) =
          singleton_opened v o first (goes ∙ ap (λ (q : Action). finish h.source q v u ks m) is)
          (space.a_singleton b.body is)
