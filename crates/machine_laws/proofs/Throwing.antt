-- An exit goes to its handler or its target, and never further than the levels that it leads to.
use Rattle.std.proofs.Common.{◌≡◌, ◌⊎◌, ℕ, zero, suc, ◌<◌, List, [], ◌∷◌, length, Bool, true, false, refl, sym, ◌∙◌, subst, arith, inl, inr, true≢false}
use Rattle.std.specs.Prelude.{Option, Some, None, nat_eq, if◌then◌else◌}
use Rattle.std.proofs.lemmas.Bool.{eq-eqb}
use Rattle.rb_value.specs.declared.value.Value.{Value}
use Rattle.rb_value.specs.declared.value.Value.TheVariants.{Nil, Obj}
use Rattle.rb_value.specs.declared.value.ObjId.{ObjId}
use Rattle.rb_value.specs.declared.exit.Exit.{Exit}
use Rattle.rb_value.specs.declared.exit.Exit.TheVariants.{Raise, Return, Break, Jump}
use Rattle.rb_value.specs.declared.kind.Sort.TheVariants as sort
use Rattle.def_core.specs.Sound.{Census, census, IsValue, OptionIs}
use Rattle.rite_code.specs.Code.{Program}
use Rattle.def_calls.specs.World.{World, next_activation, with_activation}
use Rattle.def_calls.specs.Seen.{Ended, Uncaught}
use Rattle.def_calls.specs.Calls.{core_activation, Unrescued, is_asked, asking, unrescued}
use Rattle.def_calls.specs.Plans.{Iteration, reporting, caught}
use Rattle.def_calls.specs.Fibers.{Onward}
use Rattle.def_calls.specs.Fibers as fibers
use Rattle.def_machine.specs.State.{Frame, Level, frame, iteration, Memory, State, On, Off, with_world, goto}
use Rattle.def_machine.specs.Unwind.{closed, in_resumer, handler, covering, Landing, lands, falls, reach, past_frame, at_frame, end_by, at_iteration, unwind, end_program, end_or_ask, fallen, land, throw_within, throw}
use Rattle.def_machine.specs.Fits.{IsStart, IsUnderWay, IsException, ExitFits, AreApart, MemoryFits, RunsWell, Fits}
use Rattle.world_laws.specs.Fine.{Extends, Keeps}
use Rattle.world_laws.proofs.Changing.{has_any}
use Rattle.world_laws.proofs.Ending.{close_keeps}
use Rattle.world_laws.proofs.Entering.{report_begins}
use Rattle.world_laws.proofs.Growing.{value_stays, sort_stays}
use Rattle.world_laws.proofs.Plans.{caught_is}
use Rattle.world_laws.proofs.Standing.{keeps_then}
use Rattle.world_laws.proofs.Worlds.{keeps_activation}
use Rattle.machine_laws.specs.Levels.{WaitsWell, StandsWell, ExitGoes}
use Rattle.machine_laws.proofs.Frames.{frame_reshaped}
use Rattle.machine_laws.proofs.Memories.{kept_world, waits_still}
use Rattle.machine_laws.proofs.Opening.{opened_number, iterates}
use Rattle.machine_laws.proofs.Receiving.{moved, received, marked, resumer_waits, finished}
use Rattle.machine_laws.proofs.Worlds.{bodies, fine_world}

-- an exit that fits a frame goes from it
pub goes_from : (p : Program) (k : Census) (f : Frame) (ls : List Level) (x : Exit) → ExitFits p k f ls x
    → ExitGoes p k (frame f ∷ ls) x
goes_from p k f ls (Raise e) h = h
goes_from p k f ls (Return a v) h = h
goes_from p k f ls (Break a v) h = h
goes_from p k f ls (Jump a t) h = h

fits_at : (p : Program) (k : Census) (f : Frame) (ls : List Level) (x : Exit) → ExitGoes p k (frame f ∷ ls) x
    → ExitFits p k f ls x
fits_at p k f ls (Raise e) h = h
fits_at p k f ls (Return a v) h = h
fits_at p k f ls (Break a v) h = h
fits_at p k f ls (Jump a t) h = h

goes_later : (p : Program) (w v : World) → Extends w v → (ls : List Level) (x : Exit)
    → ExitGoes p (census w.store) ls x → ExitGoes p (census v.store) ls x
goes_later p w v e ls (Raise x) h = sort_stays w v e sort.Exception x h
goes_later p w v e ls (Return a u) h = (h.0, value_stays w v e u h.1)
goes_later p w v e ls (Break a u) h = (h.0, value_stays w v e u h.1)
goes_later p w v e ls (Jump a t) h = h

-- Levels that wait stand.

pub stands_of : (p : Program) (ls : List Level) (m : Memory) → WaitsWell p ls m → StandsWell p ls m
stands_of p [] m h = record { memory = h.memory; levels = tt; apart = h.apart }
stands_of p (l ∷ ls) m h = record { memory = h.memory; levels = (h.levels.0, h.levels.2); apart = h.apart }

pub stands_running : (p : Program) (l : Level) (ls : List Level) (m : Memory) → RunsWell p (l ∷ ls) m
    → StandsWell p (l ∷ ls) m
stands_running p l ls m h = record { memory = h.memory; levels = h.levels; apart = h.apart }

-- past the innermost level the others wait
below : (p : Program) (l : Level) (ls : List Level) (m : Memory) → StandsWell p (l ∷ ls) m → WaitsWell p ls m
below p l ls m h = record {
  memory = h.memory;
  levels = h.levels.1;
  apart = record { once = λ n. omega (arith, h.apart.once n) };
}

-- Where an exit comes to.

abbrev pub Raises : Census → Exit → Type 0
Raises k (Raise e) = IsException k e
Raises k (Return a v) = ⊥
Raises k (Break a v) = ⊥
Raises k (Jump a t) = ⊥

-- past the last level: the exit is an exception, and other fibers wait as they did
pub record FallsWell (p : Program) (m : Memory) (x : Exit) (v : Memory) : Type 0 where
  pub raises : Raises (census v.world.store) x
  pub memory : MemoryFits p v
  pub apart : AreApart [] v.fibers.others
  pub fibers : v.fibers ≡ m.fibers

abbrev pub LandingFits : Program → Memory → Landing → Type 0
LandingFits p m (lands s) = Fits p s
LandingFits p m (falls x v) = FallsWell p m x v

module _ (p : Program)
    (handles : (f : Frame) (x : Exit) → f.body < length p.bodies
    → OptionIs (IsStart p f.body) (handler x (covering p f.body f.place))) where
  -- the activation ends, or the exit goes further
  reached : (b : Bool) (v : Value) (ls : List Level) (m k : Memory) (far : Landing) → WaitsWell p ls k
      → IsValue (census k.world.store) v → (b ≡ false → LandingFits p m far)
      → LandingFits p m (reach b v ls k far)
  reached true v ls m k far h is further = received p v ls k h is
  reached false v ls m k far h is further = further refl

  other_level : (a b : ℕ) (l : Level) (ls : List Level) → nat_eq a b ≡ false → (a ≡ b) ⊎ IsUnderWay ls a
      → IsUnderWay ls a
  other_level a b l ls ne (inl e) = absurd (true≢false (sym (eq-eqb a b e) ∙ ne))
  other_level a b l ls ne (inr h) = h

  -- the frame's own jump
  jumped : (a t : ℕ) (f : Frame) (ls : List Level) (m : Memory) (far : Landing) (b : Bool) → nat_eq a f.activation ≡ b
      → RunsWell p (frame f ∷ ls) m → (a ≡ f.activation) × IsStart p f.body t
      → LandingFits p m (if b then lands (On (frame (goto f t) ∷ ls) m) else far)
  jumped a t f ls m far true e h goes = moved p f ls m t h goes.1
  jumped a t f ls m far false e h goes = absurd (true≢false (sym (eq-eqb a f.activation goes.0) ∙ e))

  running : (l : Level) (ls : List Level) (m : Memory) → StandsWell p (l ∷ ls) m → RunsWell p (l ∷ ls) m
  running l ls m h = record { memory = h.memory; levels = h.levels; apart = h.apart }

  -- the memory in which a frame's activation has ended
  closing : (f : Frame) (ls : List Level) (m : Memory) → StandsWell p (frame f ∷ ls) m
      → Keeps (bodies p m.lists) m.world (closed m f.activation).world
  closing f ls m h = close_keeps (bodies p m.lists) m.world (fine_world p m.lists m.world h.memory.world) f.activation

  closed_waits : (f : Frame) (ls : List Level) (m : Memory) → StandsWell p (frame f ∷ ls) m
      → WaitsWell p ls (closed m f.activation)
  closed_waits f ls m h =
      let c = kept_world p m h.memory (closed m f.activation).world (closing f ls m h) in
      waits_still p m (closed m f.activation) c refl ls (below p (frame f) ls m h)

  past : (x : Exit) (f : Frame) (ls : List Level) (m : Memory) (far : Landing) → StandsWell p (frame f ∷ ls) m
      → ExitGoes p (census m.world.store) (frame f ∷ ls) x
      → (ExitGoes p (census m.world.store) ls x → LandingFits p m far)
      → LandingFits p m (past_frame x f ls m far)
  past (Raise e) f ls m far h goes further = further goes
  past (Return a v) f ls m far h goes further =
      reached (nat_eq a f.activation) v ls m (closed m f.activation) far (closed_waits f ls m h)
      (value_stays m.world (closed m f.activation).world (closing f ls m h).extends v goes.1)
      (λ ne. further (other_level a f.activation (frame f) ls ne goes.0, goes.1))
  past (Break a v) f ls m far h goes further =
      reached (nat_eq a f.activation) v ls m (closed m f.activation) far (closed_waits f ls m h)
      (value_stays m.world (closed m f.activation).world (closing f ls m h).extends v goes.1)
      (λ ne. further (other_level a f.activation (frame f) ls ne goes.0, goes.1))
  past (Jump a t) f ls m far h goes further =
      jumped a t f ls m far (nat_eq a f.activation) refl (running (frame f) ls m h) goes

  -- an exit that comes to a handler
  handled : (t : ℕ) (x : Exit) (f : Frame) (ls : List Level) (m : Memory) → StandsWell p (frame f ∷ ls) m
      → IsStart p f.body t → ExitGoes p (census m.world.store) (frame f ∷ ls) x
      → Fits p (On (frame (record (goto f t) { pending = Some x }) ∷ ls) m)
  handled t x f ls m h start goes = record {
    memory = h.memory;
    levels = (
      frame_reshaped p f t f.after f.waits (Some x) f.arguments ls m h.levels.0 start
          (fits_at p (census m.world.store) f ls x goes) h.levels.0.arguments,
      h.levels.1,
    );
    apart = record { once = h.apart.once };
  }

  at_handler : (o : Option ℕ) (x : Exit) (f : Frame) (ls : List Level) (m : Memory) (far : Landing)
      → StandsWell p (frame f ∷ ls) m → OptionIs (IsStart p f.body) o
      → ExitGoes p (census m.world.store) (frame f ∷ ls) x
      → (ExitGoes p (census m.world.store) ls x → LandingFits p m far)
      → LandingFits p m (at_frame o x f ls m far)
  at_handler None x f ls m far h starts goes further = past x f ls m far h goes further
  at_handler (Some t) x f ls m far h starts goes further = handled t x f ls m h starts goes

  ended_by : (o : Option Value) (ls : List Level) (m : Memory) (far : Landing) → WaitsWell p ls m
      → OptionIs (IsValue (census m.world.store)) o → LandingFits p m far → LandingFits p m (end_by o ls m far)
  ended_by None ls m far h is further = further
  ended_by (Some v) ls m far h is further = received p v ls m h is

  past_iteration : (x : Exit) (a : ℕ) (it : Iteration) (v : Value) (ls : List Level) (m : Memory) (far : Landing)
      → StandsWell p (iteration a it v ∷ ls) m
      → ExitGoes p (census m.world.store) (iteration a it v ∷ ls) x
      → (ExitGoes p (census m.world.store) ls x → LandingFits p m far)
      → LandingFits p m (at_iteration x a it ls m far)
  past_iteration (Raise e) a it v ls m far h goes further =
      ended_by (caught it e m.world.store) ls m far (below p (iteration a it v) ls m h)
      (caught_is (bodies p m.lists) m.world (fine_world p m.lists m.world h.memory.world) it e
      (has_any m.world.store sort.Exception e goes)) (further goes)
  past_iteration (Return b u) a it v ls m far h goes further =
      reached (nat_eq b a) u ls m m far (below p (iteration a it v) ls m h) goes.1
      (λ ne. further (other_level b a (iteration a it v) ls ne goes.0, goes.1))
  past_iteration (Break b u) a it v ls m far h goes further =
      reached (nat_eq b a) u ls m m far (below p (iteration a it v) ls m h) goes.1
      (λ ne. further (other_level b a (iteration a it v) ls ne goes.0, goes.1))
  past_iteration (Jump b t) a it v ls m far h goes further = absurd goes

  -- with no level left
  fallen_out : (x : Exit) (m : Memory) → StandsWell p [] m → ExitGoes p (census m.world.store) [] x
      → FallsWell p m x m
  fallen_out x m h goes = record { raises = exception x goes; memory = h.memory; apart = h.apart; fibers = refl }
    where
      exception : (x : Exit) → ExitGoes p (census m.world.store) [] x → Raises (census m.world.store) x
      exception (Raise e) goes = goes
      exception (Return a v) goes = goes.0
      exception (Break a v) goes = goes.0
      exception (Jump a t) goes = goes

  landing_of : (m k : Memory) (s : Landing) → k.fibers ≡ m.fibers → LandingFits p k s → LandingFits p m s
  landing_of m k (lands t) same h = h
  landing_of m k (falls x v) same h = record {
    raises = h.raises;
    memory = h.memory;
    apart = h.apart;
    fibers = h.fibers ∙ same;
  }

  pub unwound : (x : Exit) (ls : List Level) (m : Memory) → StandsWell p ls m
      → ExitGoes p (census m.world.store) ls x → LandingFits p m (unwind p x ls m)
  unfolding unwind
  unwound x [] m h goes = fallen_out x m h goes
  unwound x (frame f ∷ ls) m h goes =
      let k = closed m f.activation in
      at_handler (handler x (covering p f.body f.place)) x f ls m (unwind p x ls k) h
      (handles f x h.levels.0.body) goes
      (λ on. landing_of m k (unwind p x ls k) refl
      (unwound x ls k (stands_of p ls k (closed_waits f ls m h))
      (goes_later p m.world k.world (closing f ls m h).extends ls x on)))
  unwound x (iteration a it v ∷ ls) m h goes =
      past_iteration x a it v ls m (unwind p x ls m) h goes
      (λ on. unwound x ls m (stands_of p ls m (below p (iteration a it v) ls m h)) on)

  -- The fiber ends by the exception, which is raised at its resume.

  program_ends : (u : Unrescued) (out : List ℕ) → Fits p (end_program u out)
  program_ends u out = by u.exits
    where
      by : (b : Bool) → Fits p (if b then Off (Ended out u.status) else Off (Uncaught out u.class u.message))
      by true = tt
      by false = tt

  -- after it was asked for its message, where the program says that
  asked_or_ends : (c : Bool) (e : ObjId) (v : Memory) → MemoryFits p v → AreApart [] v.fibers.others
      → IsException (census v.world.store) e → Fits p (end_or_ask c e v)
  asked_or_ends true e v h apart is =
      let b = bodies p v.lists in
      let a = core_activation v.world (Obj e) in
      let w = with_activation (asking v.world) a in
      let r = report_begins b v.world (fine_world p v.lists v.world h.world) e is in
      let k = keeps_activation b (asking v.world) r.keeps.fine a r.activation in
      iterates p [] (with_world v w) (next_activation v.world) (reporting e) Nil
      (waits_still p v (with_world v w) (kept_world p v h w (keeps_then b v.world (asking v.world) w r.keeps k)) refl []
      (record { memory = h; levels = tt; apart = apart })) (opened_number (asking v.world) a) is tt
  asked_or_ends false e v h apart is = program_ends (unrescued v.world.store e) v.world.out

  module _ (again : Exit → List Level → Memory → State) (n : ℕ)
      (thrown : (x : Exit) (ls : List Level) (m : Memory) → StandsWell p ls m → ExitGoes p (census m.world.store) ls x
      → length m.fibers.others < n → Fits p (again x ls m)) where
    raised_on : (e : ObjId) (v : Memory) (found : Option (Onward (List Level))) → fibers.finish v.fibers ≡ found
        → MemoryFits p v → AreApart [] v.fibers.others → IsException (census v.world.store) e
        → length v.fibers.others < suc n → Fits p (fallen again e found v)
    raised_on e v None same h apart is few = asked_or_ends (is_asked v.world e) e v h apart is
    raised_on e v (Some o) same h apart is few =
        let on = finished p v h apart o same in
        thrown (Raise e) o.kept (in_resumer v o)
        (stands_of p o.kept (in_resumer v o) (resumer_waits p v o h on.0))
        (sort_stays v.world (in_resumer v o).world (marked p v h).extends sort.Exception e is)
        (omega (arith, on.1, few))

    landed : (m : Memory) (s : Landing) → LandingFits p m s → length m.fibers.others < suc n → Fits p (land again s)
    landed m (lands t) h few = h
    landed m (falls (Raise e) v) h few =
        raised_on e v (fibers.finish v.fibers) refl h.memory h.apart h.raises
        (subst (λ (fs : fibers.Fibers (List Level)). length fs.others < suc n) (sym h.fibers) few)
    landed m (falls (Return a v) k) h few = absurd h.raises
    landed m (falls (Break a v) k) h few = absurd h.raises
    landed m (falls (Jump a t) k) h few = absurd h.raises

  thrown_within : (n : ℕ) (x : Exit) (ls : List Level) (m : Memory) → StandsWell p ls m
      → ExitGoes p (census m.world.store) ls x → length m.fibers.others < n → Fits p (throw_within n p x ls m)
  thrown_within zero x ls m h goes few = absurd (omega (arith, few))
  thrown_within (suc n) x ls m h goes few =
      landed (λ y ks k. throw_within n p y ks k) n (thrown_within n) m (unwind p x ls m) (unwound x ls m h goes) few

  pub thrown : (x : Exit) (ls : List Level) (m : Memory) → StandsWell p ls m → ExitGoes p (census m.world.store) ls x
      → Fits p (throw p x ls m)
  unfolding throw
  thrown x ls m h goes = thrown_within (suc (length m.fibers.others)) x ls m h goes (omega arith)
