-- What an exit to an activation further out passes, and where it ends.
use Rattle.std.proofs.Common.{◌≡◌, ℕ, ◌+◌, ◌<◌, ◌≤◌, List, [], ◌∷◌, refl, sym, ap, ◌∙◌, subst, arith, length, Bool, true, false, true≢false}
use Rattle.std.specs.Prelude.{if◌then◌else◌, ◌||◌, nat_eq}
use Rattle.std.proofs.lemmas.Bool.{eqb-true, eqb-false, ne_eqb, eq-eqb}
use Rattle.rb_value.specs.declared.value.Value.{Value}
use Rattle.rite_code.specs.Code.{Program}
use Rattle.rite_code.specs.declared.code.CatchEntry.{CatchEntry}
use Rattle.def_calls.specs.World.{World}
use Rattle.def_calls.specs.Calls.{close}
use Rattle.def_calls.specs.Plans.{Iteration}
use Rattle.def_eval.specs.Source.{Source}
use Rattle.def_eval.specs.Configuration as source
use Rattle.def_eval.specs.Configuration.{Place, Stop, passes, loops, rescues, assigns, retries, ensures, stop_of, Part, Item, part, activation, iteration, give, travel, Config, Run}
use Rattle.def_eval.specs.Forms.{is_under_way}
use Rattle.def_eval.specs.Giving.{returned}
use Rattle.def_eval.specs.Exits.{travel_part, travel_activation, travel_iteration, reach as reach_source, do_travel}
use Rattle.def_eval.specs.Transition.{go}
use Rattle.def_machine.specs.State as machine
use Rattle.def_machine.specs.State.{Level, frame, State, On}
use Rattle.def_machine.specs.Unwind.{covering, handler, reach, at_frame, unwind, closed, receive, land, throw_within, throw}
use Rattle.def_machine.specs.Turn.{turn}
use Rattle.step_laws.specs.Site.{Site, at_line}
use Rattle.step_laws.specs.Calm.{Grows, Quiet}
use Rattle.step_laws.specs.Measure.{burden, measure}
use Rattle.step_laws.specs.Far.{Far, returns_far, breaks_far, exit_to, thrown_to}
use Rattle.step_laws.specs.Relation.{Waits, Ground, over_levels, IsPassed, uses, uses_in, Both, GoesFar, going_far, Alike, Advances}
use Rattle.step_laws.proofs.Placed.{Rest, frame_at}
use Rattle.step_laws.proofs.Untouched.{grown, without_top}
use Rattle.step_laws.proofs.Matching.{no_turn, going_out}
use Rattle.step_laws.proofs.Calling.{leaves, falls, given_back}
use Rattle.step_laws.proofs.Exits.{weight_pos}

-- tests of two numbers, whichever is first
same_test : (a b : ℕ) → nat_eq a b ≡ nat_eq b a
same_test a b = by (nat_eq a b) refl
  where
    by : (t : Bool) → nat_eq a b ≡ t → t ≡ nat_eq b a
    by true e = sym (eq-eqb b a (sym (eqb-true a b e)))
    by false e = sym (ne_eqb b a (λ same. eqb-false a b e (sym same)))

-- what is behind an activation is under way, if it isn't itself that one
further_way : (x y : Bool) → (x || y) ≡ true → x ≡ false → y ≡ true
further_way true y e f = absurd (true≢false f)
further_way false y e f = e

-- a part is passed
far_passes : (q : Far) (a : ℕ) (v : Value) (p : Stop) (ks : List Item) (m : source.Memory) → IsPassed p
    → travel_part (exit_to q a v) p ks m ≡ Run (travel (exit_to q a v)) ks m
far_passes q a v passes ks m g = refl
far_passes returns_far a v (loops n t b) ks m g = refl
far_passes breaks_far a v (loops n t b) ks m g = refl
far_passes returns_far a v (rescues n r) ks m g = refl
far_passes breaks_far a v (rescues n r) ks m g = refl
far_passes returns_far a v (assigns e r) ks m g = refl
far_passes breaks_far a v (assigns e r) ks m g = refl
far_passes returns_far a v (retries r) ks m g = refl
far_passes breaks_far a v (retries r) ks m g = refl
far_passes q a v (ensures n e) ks m g = absurd g

-- an activation and an iteration end with the value, or are left
far_reaches : (q : Far) (i : ℕ) (v : Value) (a : ℕ) (ks : List Item) (m : source.Memory)
    → travel_activation (exit_to q i v) a ks m ≡ reach_source (nat_eq a i) (exit_to q i v) v ks m
far_reaches returns_far i v a ks m = refl
far_reaches breaks_far i v a ks m = refl

far_ends : (q : Far) (i : ℕ) (v : Value) (a : ℕ) (it : Iteration) (ks : List Item) (m : source.Memory)
    → travel_iteration (exit_to q i v) a it ks m ≡ reach_source (nat_eq a i) (exit_to q i v) v ks m
far_ends returns_far i v a it ks m = refl
far_ends breaks_far i v a it ks m = refl

-- so it is on the levels
abbrev reached : Program → Far → ℕ → Value → List Level → machine.Memory → Bool → State
reached p q i v ls k b = if b then receive v ls k else throw p (thrown_to q i v) ls k

landed : (p : Program) (q : Far) (i : ℕ) (v : Value) (ls : List Level) (k : machine.Memory) (b : Bool)
    → land (λ y gs l. throw_within (length k.fibers.others) p y gs l)
    (reach b v ls k (unwind p (thrown_to q i v) ls k)) ≡ reached p q i v ls k b
unfolding throw
landed p q i v ls k true = refl
landed p q i v ls k false = refl

past_frame_far : (h : Site) (n : ℕ) → covering h.program h.body (at_line h n) ≡ [] → (q : Far) (i : ℕ) (v : Value) (x : Rest)
    (ls : List Level) (k : machine.Memory) → throw h.program (thrown_to q i v) (frame (frame_at h x n) ∷ ls) k
    ≡ reached h.program q i v ls (closed k h.activation) (nat_eq i h.activation)
unfolding throw unwind
past_frame_far h n none returns_far i v x ls k =
    ap by none ∙ landed h.program returns_far i v ls (closed k h.activation) (nat_eq i h.activation)
  where
    by : List CatchEntry → State
    by cs = land (λ y gs l. throw_within (length k.fibers.others) h.program y gs l)
        (at_frame (handler (thrown_to returns_far i v) cs)
        (thrown_to returns_far i v) (frame_at h x n) ls k
        (unwind h.program (thrown_to returns_far i v) ls (closed k h.activation)))
past_frame_far h n none breaks_far i v x ls k =
    ap by none ∙ landed h.program breaks_far i v ls (closed k h.activation) (nat_eq i h.activation)
  where
    by : List CatchEntry → State
    by cs = land (λ y gs l. throw_within (length k.fibers.others) h.program y gs l)
        (at_frame (handler (thrown_to breaks_far i v) cs)
        (thrown_to breaks_far i v) (frame_at h x n) ls k
        (unwind h.program (thrown_to breaks_far i v) ls (closed k h.activation)))

past_iteration_far : (p : Program) (q : Far) (i : ℕ) (v : Value) (a : ℕ) (it : Iteration) (u : Value) (ls : List Level)
    (k : machine.Memory) → throw p (thrown_to q i v) (machine.iteration a it u ∷ ls) k
    ≡ reached p q i v ls k (nat_eq i a)
unfolding throw unwind
past_iteration_far p returns_far i v a it u ls k = landed p returns_far i v ls k (nat_eq i a)
past_iteration_far p breaks_far i v a it u ls k = landed p breaks_far i v ls k (nat_eq i a)

module _ (s : Source) (p : Program) (m : source.Memory) (ls : List Level) (k : machine.Memory) where
  pub far_at_part : (x : source.Exit) (q : Part) (ks : List Item) → GoesFar s p x (part q ∷ ks) m ls k
      → Advances s p (Run (travel x) (part q ∷ ks) m) (On ls k)
  unfolding do_travel
  far_at_part x q ks t =
      let conf = Run (travel x) (part q ∷ ks) m in
      let goes : go s conf ≡ Run (travel (exit_to t.by t.to t.value)) ks m =
      ap (λ (y : source.Exit). go s (Run (travel y) (part q ∷ ks) m)) t.exit
      ∙ far_passes t.by t.to t.value (stop_of q) ks m t.leaving.0 in
      no_turn s p conf (On ls k)
      (subst (λ (d : Config). measure d < measure conf) (sym goes) (omega (arith, weight_pos q)))
      (subst (λ (d : Config). Alike s p d (On ls k)) (sym goes) (going_far (record {
        g = t.g;
        by = t.by;
        to = t.to;
        value = t.value;
        exit = refl;
        memory = t.memory;
        throws = t.throws;
        out = t.out;
        both = t.both;
        leaving = t.leaving.1;
        under_way = t.under_way;
      })))

  -- the levels that are left, when they are known
  at_levels : (x : source.Exit) (ks : List Item) (t : GoesFar s p x ks m ls k) (gs : List Level) → t.g.below ≡ gs
      → Both s p (over_levels t.g gs) m t.memory
  at_levels x ks t gs e = record {
    world = t.both.world;
    sites = t.both.sites;
    fibers = t.both.fibers;
    apart = subst (λ (is : List Level). (n : ℕ) → uses n is + uses_in n t.memory.fibers.others ≤ 1) e t.both.apart;
  }

  -- An item that may end with the value, in that memory and over those levels.
  module _ (x : source.Exit) (item : Item) (a : ℕ) (ks : List Item) (m' : source.Memory) (q : Far) (i : ℕ) (v : Value)
      (g : Ground) (others : List Level) (k' : machine.Memory)
      (goes : go s (Run (travel x) (item ∷ ks) m) ≡ reach_source (nat_eq a i) (exit_to q i v) v ks m')
      (turns : turn p (On ls k) ≡ reached p q i v others k' (nat_eq i a)) (out : k.world.out ≡ m.world.out)
      (quiet : Quiet m (go s (Run (travel x) (item ∷ ks) m)))
      (lighter : 1 + burden ks m' < measure (Run (travel x) (item ∷ ks) m))
      (both : Both s p (over_levels g others) m' k')
      (waits : Waits g.sites g.fiber k'.lists ks m'.place others)
      (way : (nat_eq i a || is_under_way ks i) ≡ true) where
    abbrev conf : Config
    conf = Run (travel x) (item ∷ ks) m

    passed_by : (t : Bool) → nat_eq i a ≡ t → Advances s p conf (On ls k)
    passed_by true e =
        let goes' : go s conf ≡ Run (give v) ks m' =
        goes ∙ ap (λ (b : Bool). reach_source b (exit_to q i v) v ks m') (same_test a i ∙ e) in
        let turns' : turn p (On ls k) ≡ receive v others k' = turns ∙ ap (reached p q i v others k') e in
        (given_back s p conf ls k m (record { alike = going_out (travel x) (item ∷ ks) m ls k out; out = out; quiet = quiet }) v
        ks m' g others k' goes' turns' (falls others ks m' conf lighter) both waits).advances
    passed_by false e =
        let goes' : go s conf ≡ Run (travel (exit_to q i v)) ks m' =
        goes ∙ ap (λ (b : Bool). reach_source b (exit_to q i v) v ks m') (same_test a i ∙ e) in
        let still = subst (Quiet m) goes' quiet in
        no_turn s p conf (On ls k)
        (subst (λ (d : Config). measure d < measure conf) (sym goes') (omega (arith, lighter)))
        (subst (λ (d : Config). Alike s p d (On ls k)) (sym goes') (going_far (record {
          g = over_levels g others;
          by = q;
          to = i;
          value = v;
          exit = refl;
          memory = k';
          throws = turns ∙ ap (reached p q i v others k') e;
          out = out ∙ sym still.0;
          both = both;
          leaving = leaves g.sites g.fiber k'.lists ks m'.place others waits;
          under_way = further_way (nat_eq i a) (is_under_way ks i) way e;
        })))

    ends_or_goes : Advances s p conf (On ls k)
    ends_or_goes = passed_by (nat_eq i a) refl

  -- activations were added alone, wherever the exit goes
  grows_by : (b : Bool) (x : source.Exit) (v : Value) (ks : List Item) (m' : source.Memory)
      → Quiet m (reach_source b x v ks m') → Grows m.world m'.world
  grows_by true x v ks m' quiet = quiet.1
  grows_by false x v ks m' quiet = quiet.1

  -- a body ends or is left
  pub far_at_activation : (x : source.Exit) (a : ℕ) (place : Place) (ks : List Item)
      → GoesFar s p x (activation a place ∷ ks) m ls k
      → Quiet m (go s (Run (travel x) (activation a place ∷ ks) m))
      → Advances s p (Run (travel x) (activation a place ∷ ks) m) (On ls k)
  unfolding do_travel
  far_at_activation x a place ks t quiet =
      let f = t.leaving in
      let w = close m.world a in
      let goes : go s (Run (travel x) (activation a place ∷ ks) m)
      ≡ reach_source (nat_eq a t.to) (exit_to t.by t.to t.value) t.value ks (returned m a place) =
      ap (λ (y : source.Exit). go s (Run (travel y) (activation a place ∷ ks) m)) t.exit
      ∙ far_reaches t.by t.to t.value a ks (returned m a place) in
      let grows = grows_by (nat_eq a t.to) (exit_to t.by t.to t.value) t.value ks (returned m a place)
      (subst (Quiet m) goes quiet) in
      let i = t.both.sites.each f.h f.site in
      let b = without_top t.g m t.memory (frame_at f.h f.x f.at) f.below
      (at_levels x (activation a place ∷ ks) t (frame (frame_at f.h f.x f.at) ∷ f.below) f.is) in
      let leaves_it : throw p (thrown_to t.by t.to t.value) (frame (frame_at f.h f.x f.at) ∷ f.below) t.memory
      ≡ reached p t.by t.to t.value f.below (closed t.memory f.h.activation) (nat_eq t.to f.h.activation) =
      subst (λ (q : Program). throw q (thrown_to t.by t.to t.value) (frame (frame_at f.h f.x f.at) ∷ f.below) t.memory
      ≡ reached q t.by t.to t.value f.below (closed t.memory f.h.activation) (nat_eq t.to f.h.activation)) i.program
      (past_frame_far f.h f.at f.unguarded t.by t.to t.value f.x f.below t.memory) in
      let turns = t.throws
      ∙ ap (λ (gs : List Level). throw p (thrown_to t.by t.to t.value) gs t.memory) f.is
      ∙ leaves_it
      ∙ ap (λ (u : World). reached p t.by t.to t.value f.below (machine.with_world t.memory u) (nat_eq t.to f.h.activation))
      (ap (λ (u : World). close u f.h.activation) t.both.world ∙ ap (close m.world) (sym f.same))
      ∙ ap (λ (c : ℕ). reached p t.by t.to t.value f.below (machine.with_world t.memory w) (nat_eq t.to c)) (sym f.same) in
      ends_or_goes x (activation a place) a ks (returned m a place) t.by t.to t.value t.g f.below
      (machine.with_world t.memory w) goes turns t.out quiet (omega arith)
      (grown (over_levels t.g f.below) m t.memory b place w grows) f.next t.under_way

  -- an iteration ends or is left
  pub far_at_iteration : (x : source.Exit) (a : ℕ) (it : Iteration) (place : Place) (ks : List Item)
      → GoesFar s p x (iteration a it place ∷ ks) m ls k → close m.world a ≡ m.world
      → Quiet m (go s (Run (travel x) (iteration a it place ∷ ks) m))
      → Advances s p (Run (travel x) (iteration a it place ∷ ks) m) (On ls k)
  unfolding do_travel
  far_at_iteration x a it place ks t same quiet =
      let f = t.leaving in
      let m' : source.Memory = record m { place = place } in
      let goes : go s (Run (travel x) (iteration a it place ∷ ks) m)
      ≡ reach_source (nat_eq a t.to) (exit_to t.by t.to t.value) t.value ks m' =
      ap (λ (y : source.Exit). go s (Run (travel y) (iteration a it place ∷ ks) m)) t.exit
      ∙ far_ends t.by t.to t.value a it ks (returned m a place)
      ∙ ap (λ (w : World). reach_source (nat_eq a t.to) (exit_to t.by t.to t.value) t.value ks
      (record m { place = place; world = w })) same in
      let turns = t.throws
      ∙ ap (λ (gs : List Level). throw p (thrown_to t.by t.to t.value) gs t.memory) f.is
      ∙ past_iteration_far p t.by t.to t.value a it f.answer f.below t.memory in
      let b = at_levels x (iteration a it place ∷ ks) t (machine.iteration a it f.answer ∷ f.below) f.is in
      ends_or_goes x (iteration a it place) a ks m' t.by t.to t.value t.g f.below t.memory goes turns t.out quiet
      (omega arith) (record { world = b.world; sites = b.sites; fibers = b.fibers; apart = b.apart }) f.next t.under_way

  -- it isn't past the last item
  pub far_at_end : (x : source.Exit) → GoesFar s p x [] m ls k → Advances s p (Run (travel x) [] m) (On ls k)
  far_at_end x t = absurd (true≢false (sym t.under_way))
