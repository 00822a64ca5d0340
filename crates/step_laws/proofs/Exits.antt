-- The end of the main program, and exceptions that leave items.
use Rattle.std.proofs.Common.{◌≡◌, ℕ, suc, ◌+◌, ◌<◌, ◌≤◌, List, [], ◌∷◌, refl, sym, ap, ◌∙◌, subst, arith, length, Bool, true, false, inl}
use Rattle.std.specs.Prelude.{if◌then◌else◌, Option, Some, None}
use Rattle.std.proofs.lemmas.Bool.{eq-eqb}
use Rattle.rb_value.specs.declared.value.Value.{Value}
use Rattle.rb_value.specs.declared.value.Value.TheVariants.{Obj}
use Rattle.rb_value.specs.declared.value.ObjId.{ObjId}
use Rattle.rb_value.specs.declared.exit.Exit.TheVariants.{Raise, Return}
use Rattle.rb_value.specs.Slot.{read}
use Rattle.rite_code.specs.Code.{Program}
use Rattle.rite_code.specs.declared.code.CatchEntry.{CatchEntry}
use Rattle.rite_code.specs.declared.operation.Operation.TheVariants as op
use Rattle.def_calls.specs.Seen.{Ended, Uncaught}
use Rattle.def_calls.specs.World.{World, activation_at, main_program, next_activation, with_activation, with_store}
use Rattle.def_calls.specs.Calls.{close, close_run, core_activation, is_asked, asking, unrescued, Unrescued}
use Rattle.def_calls.specs.Plans.{Iteration, caught}
use Rattle.def_calls.specs.Fibers.{Fiber, Fibers, Onward, back_to, finish}
use Rattle.def_calls.specs.Fibers as fibers
use Rattle.def_eval.specs.Source.{Source}
use Rattle.def_eval.specs.Configuration as source
use Rattle.def_eval.specs.Configuration.{Place, Exit, raise, Rescue, Part, Stop, passes, loops, rescues, assigns, retries, ensures, stop_of, Item, part, activation, iteration, Kept, give, travel, Config, Run, Halt}
use Rattle.ir_core.specs.CoreForm.{Clauses, no_clauses, clause}
use Rattle.def_eval.specs.Giving.{returned, next_clause, end_fiber, do_give}
use Rattle.def_eval.specs.Exits.{travel_part, travel_caught, end_by, end_or_ask, leave_fiber, do_travel}
use Rattle.def_eval.specs.Transition.{go}
use Rattle.def_machine.specs.State as machine
use Rattle.def_machine.specs.State.{Level, frame, State, On, Off}
use Rattle.def_machine.specs.Unwind.{covering, handler, reach, at_frame, unwind, closed, receive, receive_in_resumer, end_program, end_or_ask as end_or_ask_machine, fallen, land, throw_within, throw, end_by as end_by_machine, end_fiber as end_fiber_machine}
use Rattle.def_machine.specs.Turn.{turn}
use Rattle.step_laws.specs.Site.{Site, bare, at_line}
use Rattle.step_laws.specs.Calm.{Quiet}
use Rattle.step_laws.specs.Measure.{weight, measure}
use Rattle.step_laws.proofs.Placed.{Rest, frame_at, turned}
use Rattle.step_laws.specs.Behind.{Static}
use Rattle.step_laws.specs.Relation.{EndsBy, stops, returns, Waits, Ground, over_levels, HasNone, IsPassed, uses, uses_in, Both, Common, GivesIn, GivesOut, Throwing, raised, Alike, Advances, Step}
use Rattle.step_laws.proofs.Untouched.{grown, without_top}
use Rattle.step_laws.proofs.Switching.{Onwards, nowhere, onward, finished, ground_in, switched}
use Rattle.step_laws.proofs.Matching.{no_turn, one_turn, going, going_out, state_at}
use Rattle.step_laws.proofs.Calling.{From, leaves, falls, given_back, given_on}
use Rattle.step_laws.proofs.Literals.{aligned}

-- a fiber without a resumer is the last
no_more : {K : Type 0} (fs : Fibers K) → fs.resumer ≡ None → finish fs ≡ None
unfolding finish
no_more fs e = ap (back_to fs.others) e

-- the end of the main program leaves its world
main_closed : (w : World) (a : ℕ) → (activation_at w a).runs ≡ main_program → close w a ≡ w
unfolding close
main_closed w a e = ap (close_run w (activation_at w a).self) e

-- the world in which a fiber has ended
abbrev ended_in : World → fibers.Name → World
ended_in w n = with_store w (fibers.with_ended w.store n)

ends_same : (s : Source) (p : Program) (g : Ground) (m : source.Memory) (k : machine.Memory) → Both s p g m k
    → ended_in k.world k.fibers.running ≡ ended_in m.world m.fibers.running
ends_same s p g m k b =
    ap (λ (w : World). ended_in w k.fibers.running) b.world
    ∙ ap (ended_in m.world) (b.fibers.running_too ∙ sym b.fibers.running)

in_resumer_is : (v : Value) (gs : List Level) (k : machine.Memory) → 0 < length gs
    → receive_in_resumer v gs k ≡ receive v gs k
unfolding receive
in_resumer_is v [] k some = absurd (omega (arith, some))
in_resumer_is v (l ∷ gs) k some = refl

-- The end of a fiber: it goes back to the one that resumed it, and that of the main program is the end.
pub give_end : (s : Source) (p : Program) (v : Value) (m : source.Memory) (ls : List Level) (k : machine.Memory)
    → GivesOut s p v m ls k → Quiet m (go s (Run (give v) [] m)) → Advances s p (Run (give v) [] m) (On ls k)
unfolding do_give receive
give_end s p v m ls k d quiet =
    at (finished d.g.sites d.g.fiber d.memory.lists m.fibers d.memory.fibers d.both.fibers)
  where
    conf : Config
    conf = Run (give v) [] m

    at : Onwards d.g.sites d.memory.lists m.fibers.others d.memory.fibers.others (finish m.fibers)
        (finish d.memory.fibers) → Advances s p conf (On ls k)
    at (nowhere x y) =
        one_turn s p conf (On ls k) (Off (Ended d.memory.world.out 0)) (going_out (give v) [] m ls k d.out)
        (d.gives ∙ ap (λ (o : Option (Onward (List Level))). end_fiber_machine v o d.memory) y)
        (subst (λ (o : Option (Onward Kept)). Alike s p (end_fiber (give v) o m) (Off (Ended d.memory.world.out 0))) (sym x)
        (ap (λ (w : World). Ended w.out 0) d.both.world))
    at (onward o q left right i) =
        let w = ended_in m.world m.fibers.running in
        let u = ended_in d.memory.world d.memory.fibers.running in
        let k' : machine.Memory = record d.memory { fibers = q.fibers; world = u } in
        let m' : source.Memory = record m { place = o.kept.place; fibers = o.fibers; world = w } in
        let goes : go s conf ≡ Run (give v) o.kept.items m' =
        ap (λ (o : Option (Onward Kept)). end_fiber (give v) o m) left in
        let b = switched s p d.g m d.memory m.fibers.others d.memory.fibers.others o q w u d.both.sites (λ n. omega (arith, d.both.apart n)) i
        (subst (Quiet m) goes quiet).1 (ends_same s p d.g m d.memory d.both) in
        (given_on s p conf ls k (going_out (give v) [] m ls k d.out) v o.kept.items m' (ground_in d.g o q.kept) q.kept k'
        goes
        (d.gives ∙ ap (λ (o : Option (Onward (List Level))). end_fiber_machine v o d.memory) right
        ∙ in_resumer_is v q.kept k' i.some) i.some b i.waits).advances

-- without a resumer the end of the fiber is that of the program
received_last : (v : Value) (k : machine.Memory) → k.fibers.resumer ≡ None → receive v [] k ≡ Off (Ended k.world.out 0)
unfolding receive
received_last v k e = ap (λ (o : Option (Onward (List Level))). end_fiber_machine v o k) (no_more k.fibers e)

-- What a return does: past a frame that no entry covers it goes to what waits below.
pub returned_by : (h : Site) (n : ℕ) → covering h.program h.body (at_line h n) ≡ [] → (v : Value) (x : Rest) (ls : List Level)
    (k : machine.Memory)
    → throw h.program (Return h.activation v) (frame (frame_at h x n) ∷ ls) k
    ≡ receive v ls (closed k h.activation)
unfolding throw unwind
returned_by h n none v x ls k =
    ap by none
    ∙ ap (λ (b : Bool). land (λ y gs l. throw_within (length k.fibers.others) h.program y gs l)
    (reach b v ls (closed k h.activation) (unwind h.program (Return h.activation v) ls (closed k h.activation))))
    (eq-eqb h.activation h.activation refl)
  where
    by : List CatchEntry → State
    by cs = land (λ y gs l. throw_within (length k.fibers.others) h.program y gs l)
        (at_frame (handler (Return h.activation v) cs) (Return h.activation v) (frame_at h x n) ls k (unwind h.program (Return h.activation v) ls (closed k h.activation)))

-- The end of a body: that of the main program stops, and every other one returns its value.
pub give_activation : (g : Ground) (h : Site) → Static h → (ks : List Item) (m : source.Memory) (k : machine.Memory)
    → Common g h m (aligned k m) → (v : Value) (a : ℕ) (place : Place) (ls : List Level)
    (d : GivesIn g h v (activation a place ∷ ks) m.place ls k.lists)
    → Quiet m (go h.source (Run (give v) (activation a place ∷ ks) m))
    → Step h (Run (give v) (activation a place ∷ ks) m) (state_at g h d.x d.n (aligned k m))
unfolding do_give
give_activation g h static ks m k both v a place ls d quiet = at d.next.0.by
  where
    conf : Config
    conf = Run (give v) (activation a place ∷ ks) m

    from : From h conf (frame (frame_at h d.x d.n) ∷ g.below) (aligned k m) m
    from = record {
      alike = going (give v) (activation a place ∷ ks) m (frame (frame_at h d.x d.n) ∷ g.below) (aligned k m) refl;
      out = refl;
      quiet = quiet;
    }

    w : World
    w = close m.world a

    m' : source.Memory
    m' = record m { place = place; world = w }

    back : (gs : List Level) → g.below ≡ gs → Both h.source h.program (over_levels g gs) m' (machine.with_world k w)
    back gs e =
        let b = grown g m (aligned k m) both.all place w quiet.1 in
        record {
          world = b.world;
          sites = b.sites;
          fibers = b.fibers;
          apart = subst (λ (is : List Level). (n : ℕ) → uses n is + uses_in n k.fibers.others ≤ 1) e b.apart;
        }

    at : EndsBy (bare h) g.fiber g.below (λ q js. Waits g.sites g.fiber k.lists js q g.below) place ks d.n d.r
        → Step h conf (state_at g h d.x d.n (aligned k m))
    at (stops l main last empty root) =
        let i = both.all.sites.each h both.site in
        let same : close m.world a ≡ m.world =
        ap (close m.world) d.next.0.is ∙ main_closed m.world h.activation (i.runs ∙ main) in
        let none : k.fibers.resumer ≡ None = both.all.fibers.resumer ∙ both.all.fibers.rooted root in
        (given_back h.source h.program conf (frame (frame_at h d.x d.n) ∷ g.below) (aligned k m) m from v ks m' g []
        (machine.with_world k w) refl
        (turned (bare h) d.x d.n op.Stop g.below (aligned k m) l
        ∙ ap (λ (u : World). Off (Ended u.out 0)) (sym same)
        ∙ sym (received_last v (machine.with_world k w) none)) (omega arith) (back [] empty) last).advances
    at (returns l next) =
        (given_back h.source h.program conf (frame (frame_at h d.x d.n) ∷ g.below) (aligned k m) m from v ks m' g g.below
        (machine.with_world k w) refl
        (turned (bare h) d.x d.n (op.Return d.r) g.below (aligned k m) l
        ∙ ap (λ (u : Value). throw h.program (Return h.activation u) (frame (frame_at h d.x d.n) ∷ g.below) (aligned k m))
        (ap read d.stands)
        ∙ returned_by h d.n l.guarded v d.x g.below (aligned k m)
        ∙ ap (λ (c : ℕ). receive v g.below (machine.with_world k (close m.world c))) (sym d.next.0.is))
        (falls g.below ks m' conf (omega arith)) (back g.below refl) next).advances

-- What a throw does.

-- past a frame that no entry covers
past : (h : Site) (n : ℕ) → covering h.program h.body (at_line h n) ≡ [] → (e : ObjId) (x : Rest) (ls : List Level)
    (k : machine.Memory)
    → throw h.program (Raise e) (frame (frame_at h x n) ∷ ls) k ≡ throw h.program (Raise e) ls (closed k h.activation)
unfolding throw unwind
past h n none e x ls k = ap by none
  where
    by : List CatchEntry → State
    by cs = land (λ y gs l. throw_within (length k.fibers.others) h.program y gs l)
        (at_frame (handler (Raise e) cs) (Raise e) (frame_at h x n) ls k
        (unwind h.program (Raise e) ls (closed k h.activation)))

-- past an iteration, or its end
abbrev by_caught : Program → ObjId → List Level → machine.Memory → Option Value → State
by_caught p e ls k None = throw p (Raise e) ls k
by_caught p e ls k (Some v) = receive v ls k

past_iteration : (p : Program) (e : ObjId) (a : ℕ) (it : Iteration) (v : Value) (ls : List Level) (k : machine.Memory)
    → throw p (Raise e) (machine.iteration a it v ∷ ls) k ≡ by_caught p e ls k (caught it e k.world.store)
unfolding throw unwind
past_iteration p e a it v ls k = by (caught it e k.world.store)
  where
    by : (o : Option Value) → land (λ y gs l. throw_within (length k.fibers.others) p y gs l)
        (end_by_machine o ls k (unwind p (Raise e) ls k)) ≡ by_caught p e ls k o
    by None = refl
    by (Some u) = refl

-- past the last level of a fiber
past_fiber : (p : Program) (e : ObjId) (k : machine.Memory)
    → throw p (Raise e) [] k
    ≡ fallen (λ y ls l. throw_within (length k.fibers.others) p y ls l) e (finish k.fibers) k
unfolding throw unwind
past_fiber p e k = refl

-- no clause takes the exception
no_clause : (n : ℕ) (x : ObjId) (r : Rescue) (ks : List Item) (m : source.Memory) (cs : Clauses) → HasNone cs
    → next_clause n x cs r ks m ≡ Run (travel (raise x)) ks m
unfolding next_clause
no_clause n x r ks m no_clauses g = refl
no_clause n x r ks m (clause es t b cs) g = absurd g

-- an exit passes a part
passes_part : (x : ObjId) (p : Stop) (ks : List Item) (m : source.Memory) → IsPassed p
    → travel_part (raise x) p ks m ≡ Run (travel (raise x)) ks m
passes_part x passes ks m g = refl
passes_part x (loops n t b) ks m g = refl
passes_part x (rescues n r) ks m g = no_clause n x r ks m r.clauses g
passes_part x (assigns e r) ks m g = refl
passes_part x (retries r) ks m g = refl
passes_part x (ensures n e) ks m g = absurd g

pub weight_pos : (p : Part) → 1 ≤ weight p
weight_pos (source.operands n a vs es) = omega arith
weight_pos (source.receiver n x is b) = omega arith
weight_pos (source.items n s r vs is b) = omega arith
weight_pos (source.block s r vs) = omega arith
weight_pos (source.elements n g o s is) = omega arith
weight_pos (source.hash_key n o v ps) = omega arith
weight_pos (source.hash_value n o u ps) = omega arith
weight_pos (source.pieces n o es) = omega arith
weight_pos (source.rest n es) = omega arith
weight_pos (source.test n b bs o) = omega arith
weight_pos source.chosen = omega arith
weight_pos (source.and_then n e) = omega arith
weight_pos (source.or_else n e) = omega arith
weight_pos (source.loop_test n t b) = omega arith
weight_pos (source.loop_body n t b) = omega arith
weight_pos (source.rescued n b cs o) = omega arith
weight_pos (source.clause_class n e es t b cs r) = omega arith
weight_pos (source.clause_target n e b r) = omega arith
weight_pos (source.clause_body r) = omega arith
weight_pos (source.ensured n e) = omega arith

module _ (s : Source) (p : Program) (m : source.Memory) (ls : List Level) (k : machine.Memory) where
  ends_alike : (u : Unrescued) (out : List ℕ) → Alike s p (end_by u out) (end_program u out)
  ends_alike u out = by u.exits
    where
      by : (b : Bool)
          → Alike s p (if b then Halt (Ended out u.status) else Halt (Uncaught out u.class u.message))
          (if b then Off (Ended out u.status) else Off (Uncaught out u.class u.message))
      by true = refl
      by false = refl

  -- the program ends, or the exception is asked for its message
  asked_alike : (g : Ground) (l : machine.Memory) → Both s p g m l → g.below ≡ [] → (b : Bool) (e : ObjId)
      → Alike s p (end_or_ask b e m) (end_or_ask_machine b e (machine.with_world l m.world))
  asked_alike g l both last true e =
      let a = core_activation m.world (Obj e) in
      let w = with_activation (asking m.world) a in
      let place : Place = record m.place { activation = next_activation m.world } in
      let b = grown g m l both place w (record { more = a ∷ []; is = refl; procs = λ b ns is. inl is }) in
      record {
        g = over_levels g [];
        is = refl;
        both = record {
          world = b.world;
          sites = b.sites;
          fibers = b.fibers;
          apart = subst (λ (gs : List Level). (n : ℕ) → uses n gs + uses_in n l.fibers.others ≤ 1) last b.apart;
        };
        waits = refl;
      }
  asked_alike g l both last false e = ends_alike (unrescued m.world.store e) m.world.out

  -- nothing is left in the fiber: the program ends, or the exception goes on in what resumed the fiber
  pub travel_end : (x : Exit) → Throwing s p x [] m ls k → Quiet m (go s (Run (travel x) [] m))
      → Advances s p (Run (travel x) [] m) (On ls k)
  unfolding do_travel throw
  travel_end x t quiet = at (finished t.g.sites t.g.fiber t.memory.lists m.fibers t.memory.fibers t.both.fibers)
    where
      conf : Config
      conf = Run (travel x) [] m

      goes : go s conf ≡ leave_fiber t.e (finish m.fibers) m
      goes = ap (λ (y : Exit). go s (Run (travel y) [] m)) t.exception

      turns : turn p (On ls k)
          ≡ fallen (λ y gs l. throw_within (length t.memory.fibers.others) p y gs l) t.e (finish t.memory.fibers) t.memory
      turns = t.throws ∙ ap (λ (gs : List Level). throw p (Raise t.e) gs t.memory) t.leaving
          ∙ past_fiber p t.e t.memory

      at : Onwards t.g.sites t.memory.lists m.fibers.others t.memory.fibers.others (finish m.fibers)
          (finish t.memory.fibers) → Advances s p conf (On ls k)
      at (nowhere a b) =
          let l = machine.with_world t.memory m.world in
          let last = turns
          ∙ ap (λ (o : Option (Onward (List Level))). fallen (λ y gs l. throw_within (length t.memory.fibers.others) p y gs l)
          t.e o t.memory) b
          ∙ ap (λ (w : World). end_or_ask_machine (is_asked w t.e) t.e (machine.with_world t.memory w)) t.both.world in
          let goes' : go s conf ≡ end_or_ask (is_asked m.world t.e) t.e m =
          goes ∙ ap (λ (o : Option (Onward Kept)). leave_fiber t.e o m) a in
          one_turn s p conf (On ls k) (end_or_ask_machine (is_asked m.world t.e) t.e l)
          (going_out (travel x) [] m ls k t.out) last
          (subst (λ (d : Config). Alike s p d (end_or_ask_machine (is_asked m.world t.e) t.e l)) (sym goes')
          (asked_alike t.g t.memory t.both t.leaving (is_asked m.world t.e) t.e))
      at (onward o q left right i) =
          let w = ended_in m.world m.fibers.running in
          let u = ended_in t.memory.world t.memory.fibers.running in
          let k' : machine.Memory = record t.memory { fibers = q.fibers; world = u } in
          let m' : source.Memory = record m { place = o.kept.place; fibers = o.fibers; world = w } in
          let goes' : go s conf ≡ Run (travel (raise t.e)) o.kept.items m' =
          goes ∙ ap (λ (o : Option (Onward Kept)). leave_fiber t.e o m) left in
          let more : length t.memory.fibers.others ≡ suc (length q.fibers.others) = omega (arith, i.fewer) in
          no_turn s p conf (On ls k)
          (subst (λ (d : Config). measure d < measure conf) (sym goes') (omega (arith, i.lighter)))
          (subst (λ (d : Config). Alike s p d (On ls k)) (sym goes') (raised (record {
            g = ground_in t.g o q.kept;
            e = t.e;
            exception = refl;
            memory = k';
            throws = turns
                ∙ ap (λ (b : Option (Onward (List Level))). fallen
                (λ y gs l. throw_within (length t.memory.fibers.others) p y gs l) t.e b t.memory) right
                ∙ ap (λ (n : ℕ). throw_within n p (Raise t.e) q.kept k') more;
            out = t.out;
            both = switched s p t.g m t.memory m.fibers.others t.memory.fibers.others o q w u t.both.sites (λ n. omega (arith, t.both.apart n)) i
                (subst (Quiet m) goes' quiet).1 (ends_same s p t.g m t.memory t.both);
            leaving = leaves t.g.sites o.fibers.running t.memory.lists o.kept.items o.kept.place q.kept i.waits;
          })))

  -- a part is passed
  pub travel_part_on : (x : Exit) (q : Part) (ks : List Item) → Throwing s p x (part q ∷ ks) m ls k
      → Advances s p (Run (travel x) (part q ∷ ks) m) (On ls k)
  unfolding do_travel
  travel_part_on x q ks t =
      let conf = Run (travel x) (part q ∷ ks) m in
      let goes : go s conf ≡ Run (travel (raise t.e)) ks m =
      ap (λ (y : Exit). go s (Run (travel y) (part q ∷ ks) m)) t.exception
      ∙ passes_part t.e (stop_of q) ks m t.leaving.0 in
      no_turn s p conf (On ls k)
      (subst (λ (d : Config). measure d < measure conf) (sym goes) (omega (arith, weight_pos q)))
      (subst (λ (d : Config). Alike s p d (On ls k)) (sym goes) (raised (record {
        g = t.g;
        e = t.e;
        exception = refl;
        memory = t.memory;
        throws = t.throws;
        out = t.out;
        both = t.both;
        leaving = t.leaving.1;
      })))

  -- the levels that are left, when they are known
  at_levels : (x : Exit) (ks : List Item) (t : Throwing s p x ks m ls k) (gs : List Level) → t.g.below ≡ gs
      → Both s p (over_levels t.g gs) m t.memory
  at_levels x ks t gs e = record {
    world = t.both.world;
    sites = t.both.sites;
    fibers = t.both.fibers;
    apart = subst (λ (is : List Level). (n : ℕ) → uses n is + uses_in n t.memory.fibers.others ≤ 1) e t.both.apart;
  }

  -- a body is left
  pub travel_activation_on : (x : Exit) (a : ℕ) (place : Place) (ks : List Item)
      → Throwing s p x (activation a place ∷ ks) m ls k
      → Quiet m (go s (Run (travel x) (activation a place ∷ ks) m))
      → Advances s p (Run (travel x) (activation a place ∷ ks) m) (On ls k)
  unfolding do_travel
  travel_activation_on x a place ks t quiet =
      let conf = Run (travel x) (activation a place ∷ ks) m in
      let f = t.leaving in
      let goes : go s conf ≡ Run (travel (raise t.e)) ks (returned m a place) =
      ap (λ (y : Exit). go s (Run (travel y) (activation a place ∷ ks) m)) t.exception in
      let still = subst (Quiet m) goes quiet in
      let i = t.both.sites.each f.h f.site in
      let w = close m.world a in
      let b = without_top t.g m t.memory (frame_at f.h f.x f.at) f.below
      (at_levels x (activation a place ∷ ks) t (frame (frame_at f.h f.x f.at) ∷ f.below) f.is) in
      let leaves_frame : throw p (Raise t.e) (frame (frame_at f.h f.x f.at) ∷ f.below) t.memory
      ≡ throw p (Raise t.e) f.below (closed t.memory f.h.activation) =
      subst (λ (q : Program). throw q (Raise t.e) (frame (frame_at f.h f.x f.at) ∷ f.below) t.memory
      ≡ throw q (Raise t.e) f.below (closed t.memory f.h.activation)) i.program
      (past f.h f.at f.unguarded t.e f.x f.below t.memory) in
      no_turn s p conf (On ls k)
      (subst (λ (d : Config). measure d < measure conf) (sym goes) (omega arith))
      (subst (λ (d : Config). Alike s p d (On ls k)) (sym goes) (raised (record {
        g = over_levels t.g f.below;
        e = t.e;
        exception = refl;
        memory = machine.with_world t.memory w;
        throws = t.throws
            ∙ ap (λ (gs : List Level). throw p (Raise t.e) gs t.memory) f.is
            ∙ leaves_frame
            ∙ ap (λ (u : World). throw p (Raise t.e) f.below (machine.with_world t.memory u))
            (ap (λ (u : World). close u f.h.activation) t.both.world ∙ ap (close m.world) (sym f.same));
        out = t.out ∙ sym still.0;
        both = grown (over_levels t.g f.below) m t.memory b place w still.1;
        leaving = leaves t.g.sites t.g.fiber t.memory.lists ks place f.below f.next;
      })))

  caught_by : (x : Exit) (a : ℕ) (it : Iteration) (place : Place) (ks : List Item) (e : ObjId) (g : Ground)
      (others : List Level) (k' : machine.Memory) → k.world.out ≡ m.world.out
      → Quiet m (go s (Run (travel x) (iteration a it place ∷ ks) m))
      → Both s p (over_levels g others) m k' → Waits g.sites g.fiber k'.lists ks place others → (o : Option Value)
      → go s (Run (travel x) (iteration a it place ∷ ks) m) ≡ travel_caught e o ks (record m { place = place })
      → turn p (On ls k) ≡ by_caught p e others k' o
      → Advances s p (Run (travel x) (iteration a it place ∷ ks) m) (On ls k)
  caught_by x a it place ks e g others k' out quiet b waits None goes turns =
      let conf = Run (travel x) (iteration a it place ∷ ks) m in
      no_turn s p conf (On ls k)
      (subst (λ (d : Config). measure d < measure conf) (sym goes) (omega arith))
      (subst (λ (d : Config). Alike s p d (On ls k)) (sym goes) (raised (record {
        g = over_levels g others;
        e = e;
        exception = refl;
        memory = k';
        throws = turns;
        out = out;
        both = record { world = b.world; sites = b.sites; fibers = b.fibers; apart = b.apart };
        leaving = leaves g.sites g.fiber k'.lists ks place others waits;
      })))
  caught_by x a it place ks e g others k' out quiet b waits (Some v) goes turns =
      let conf = Run (travel x) (iteration a it place ∷ ks) m in
      let m' : source.Memory = record m { place = place } in
      (given_back s p conf ls k m (record {
        alike = going_out (travel x) (iteration a it place ∷ ks) m ls k out;
        out = out;
        quiet = quiet;
      }) v ks m' g others k' goes turns (falls others ks m' conf (omega arith))
      (record { world = b.world; sites = b.sites; fibers = b.fibers; apart = b.apart }) waits).advances

  -- an iteration is left, or ends by the exception
  pub travel_iteration_on : (x : Exit) (a : ℕ) (it : Iteration) (place : Place) (ks : List Item)
      → Throwing s p x (iteration a it place ∷ ks) m ls k → close m.world a ≡ m.world
      → Quiet m (go s (Run (travel x) (iteration a it place ∷ ks) m))
      → Advances s p (Run (travel x) (iteration a it place ∷ ks) m) (On ls k)
  unfolding do_travel
  travel_iteration_on x a it place ks t same quiet =
      let f = t.leaving in
      let goes : go s (Run (travel x) (iteration a it place ∷ ks) m)
      ≡ travel_caught t.e (caught it t.e m.world.store) ks (record m { place = place }) =
      ap (λ (y : Exit). go s (Run (travel y) (iteration a it place ∷ ks) m)) t.exception
      ∙ ap (λ (w : World). travel_caught t.e (caught it t.e w.store) ks (record m { place = place; world = w })) same in
      let turns : turn p (On ls k) ≡ by_caught p t.e f.below t.memory (caught it t.e m.world.store) =
      t.throws ∙ ap (λ (gs : List Level). throw p (Raise t.e) gs t.memory) f.is
      ∙ past_iteration p t.e a it f.answer f.below t.memory
      ∙ ap (λ (w : World). by_caught p t.e f.below t.memory (caught it t.e w.store)) t.both.world in
      let b = at_levels x (iteration a it place ∷ ks) t (machine.iteration a it f.answer ∷ f.below) f.is in
      caught_by x a it place ks t.e t.g f.below t.memory t.out quiet
      (record { world = b.world; sites = b.sites; fibers = b.fibers; apart = b.apart }) f.next
      (caught it t.e m.world.store) goes turns
