-- What most instructions end with: a register gets a value, the frame goes on, or an exception is thrown.
use Rattle.std.proofs.Common.{◌≡◌, ℕ, List, ◌∷◌, refl, sym, subst}
use Rattle.rb_value.specs.declared.value.Value.{Value}
use Rattle.rb_value.specs.declared.value.ObjId.{ObjId}
use Rattle.rb_value.specs.declared.exit.Exit.{Exit}
use Rattle.rb_value.specs.declared.exit.Exit.TheVariants.{Raise}
use Rattle.rb_value.specs.declared.kind.Sort.TheVariants as sort
use Rattle.def_core.specs.Sound.{census, IsValue}
use Rattle.rite_code.specs.Code.{Program, IsWhole}
use Rattle.code_verifier.specs.Verified.{IsVerified}
use Rattle.def_calls.specs.World.{World, Answer, Result, gives, raises}
use Rattle.def_machine.specs.State.{Frame, Level, frame, Memory, with_world, write}
use Rattle.def_machine.specs.Unwind.{throw, after_result, after}
use Rattle.def_machine.specs.Entering.{answer_result, answer}
use Rattle.def_machine.specs.Turn.{jump, set, only_result, only}
use Rattle.def_machine.specs.Fits.{IsStart, IsException, RunsWell, Fits}
use Rattle.world_laws.specs.Fine.{Extends, Fine, Keeps}
use Rattle.world_laws.specs.Outcomes.{ResultIs, AnswerIs}
use Rattle.world_laws.proofs.Growing.{value_stays, sort_stays}
use Rattle.machine_laws.specs.Levels.{WaitsWell, StandsWell, ExitGoes}
use Rattle.machine_laws.proofs.Codes.{handler_starts}
use Rattle.machine_laws.proofs.Memories.{later_world, kept_world, runs_still, waits_still}
use Rattle.machine_laws.proofs.Receiving.{moved, written, received}
use Rattle.machine_laws.proofs.Throwing.{stands_of, stands_running, thrown}
use Rattle.machine_laws.proofs.Worlds.{bodies}

pub result_stays : (w v : World) → Extends w v → (r : Result) → ResultIs (census w.store) r
    → ResultIs (census v.store) r
result_stays w v e (gives x) h = value_stays w v e x h
result_stays w v e (raises x) h = sort_stays w v e sort.Exception x h

module _ (p : Program) (whole : IsWhole p) (verified : IsVerified p) where
  -- an exit is thrown
  pub throws : (x : Exit) (ls : List Level) (m : Memory) → StandsWell p ls m → ExitGoes p (census m.world.store) ls x
      → Fits p (throw p x ls m)
  throws = thrown p (λ f x there. handler_starts p whole verified f.body there x f.place)

  pub raised : (e : ObjId) (f : Frame) (ls : List Level) (m : Memory) → RunsWell p (frame f ∷ ls) m
      → IsException (census m.world.store) e → Fits p (throw p (Raise e) (frame f ∷ ls) m)
  raised e f ls m h is = throws (Raise e) (frame f ∷ ls) m (stands_running p (frame f) ls m h) is

  pub jumps : (at : ℕ) (f : Frame) (ls : List Level) (m : Memory) → RunsWell p (frame f ∷ ls) m → IsStart p f.body at
      → Fits p (jump at f ls m)
  jumps at f ls m h start = moved p f ls m at h start

  pub sets : (a : ℕ) (v : Value) (next : ℕ) (f : Frame) (ls : List Level) (m : Memory) → RunsWell p (frame f ∷ ls) m
      → IsStart p f.body next → IsValue (census m.world.store) v → Fits p (set a v next f ls m)
  sets a v next f ls m h start is =
      moved p f ls (write m f a v) next (written p (frame f) ls m f a v h is) start

  -- A frame that goes on with an answer.

  after_by : (r : Result) (a next : ℕ) (f : Frame) (ls : List Level) (m : Memory) → RunsWell p (frame f ∷ ls) m
      → IsStart p f.body next → ResultIs (census m.world.store) r → Fits p (after_result p r a next f ls m)
  after_by (gives v) a next f ls m h start is = sets a v next f ls m h start is
  after_by (raises e) a next f ls m h start is = raised e f ls m h is

  only_by : (r : Result) (next : ℕ) (f : Frame) (ls : List Level) (m : Memory) → RunsWell p (frame f ∷ ls) m
      → IsStart p f.body next → ResultIs (census m.world.store) r → Fits p (only_result p r next f ls m)
  only_by (gives v) next f ls m h start is = jumps next f ls m h start
  only_by (raises e) next f ls m h start is = raised e f ls m h is

  pub in_world : (w : World) (l : Level) (ls : List Level) (m : Memory) → RunsWell p (l ∷ ls) m
      → Keeps (bodies p m.lists) m.world w → RunsWell p (l ∷ ls) (with_world m w)
  in_world w l ls m h k = runs_still p m (with_world m w) (kept_world p m h.memory w k) refl l ls h

  pub waits_later : (w : World) (ls : List Level) (m : Memory) → WaitsWell p ls m → Fine (bodies p m.lists) w
      → Extends m.world w → WaitsWell p ls (with_world m w)
  waits_later w ls m h fine e = waits_still p m (with_world m w) (later_world p m h.memory w fine e) refl ls h

  pub waits_in_world : (w : World) (ls : List Level) (m : Memory) → WaitsWell p ls m
      → Keeps (bodies p m.lists) m.world w → WaitsWell p ls (with_world m w)
  waits_in_world w ls m h k = waits_later w ls m h k.fine k.extends

  pub afters : (r : Answer) (a next : ℕ) (f : Frame) (ls : List Level) (m : Memory) → RunsWell p (frame f ∷ ls) m
      → IsStart p f.body next → AnswerIs (bodies p m.lists) m.world r → Fits p (after p r a next f ls m)
  afters r a next f ls m h start is =
      after_by r.result a next f ls (with_world m r.world) (in_world r.world (frame f) ls m h is.keeps) start is.result

  pub onlies : (r : Answer) (next : ℕ) (f : Frame) (ls : List Level) (m : Memory) → RunsWell p (frame f ∷ ls) m
      → IsStart p f.body next → AnswerIs (bodies p m.lists) m.world r → Fits p (only p r next f ls m)
  onlies r next f ls m h start is =
      only_by r.result next f ls (with_world m r.world) (in_world r.world (frame f) ls m h is.keeps) start is.result

  -- what fails doesn't go on
  failing : (r : Result) (e : ObjId) (a next : ℕ) (f : Frame) (ls : List Level) (m : Memory) → r ≡ raises e
      → RunsWell p (frame f ∷ ls) m → ResultIs (census m.world.store) r → Fits p (after_result p r a next f ls m)
  failing r e a next f ls m same h is =
      subst (λ (x : Result). Fits p (after_result p x a next f ls m)) (sym same)
      (raised e f ls m h (subst (ResultIs (census m.world.store)) same is))

  pub fails_after : (r : Answer) (e : ObjId) (a next : ℕ) (f : Frame) (ls : List Level) (m : Memory)
      → r.result ≡ raises e → RunsWell p (frame f ∷ ls) m → AnswerIs (bodies p m.lists) m.world r
      → Fits p (after p r a next f ls m)
  fails_after r e a next f ls m same h is =
      failing r.result e a next f ls (with_world m r.world) same (in_world r.world (frame f) ls m h is.keeps) is.result

  -- Levels that wait for an answer.

  answered_by : (r : Result) (ls : List Level) (m : Memory) → WaitsWell p ls m → ResultIs (census m.world.store) r
      → Fits p (answer_result p r ls m)
  answered_by (gives v) ls m h is = received p v ls m h is
  answered_by (raises e) ls m h is = throws (Raise e) ls m (stands_of p ls m h) is

  pub answered : (r : Answer) (ls : List Level) (m : Memory) → WaitsWell p ls m
      → AnswerIs (bodies p m.lists) m.world r → Fits p (answer p r ls m)
  answered r ls m h is =
      answered_by r.result ls (with_world m r.world) (waits_in_world r.world ls m h is.keeps) is.result
