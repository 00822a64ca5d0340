-- Calls of methods and Procs.
use Rattle.std.specs.Prelude.{◌≡◌, ℕ, List, [], ◌∷◌, drop, Bool, false, Option, Some, None, Result, Ok, Err}
use Rattle.std.specs.declared.alloc.AllocError.{AllocError}
use Rattle.rb_value.specs.declared.value.Value.{Value}
use Rattle.rb_value.specs.declared.value.ObjId.{ObjId}
use Rattle.rb_value.specs.declared.value.SymId.{SymId}
use Rattle.rb_value.specs.declared.core_class.CoreClass.TheVariants as class
use Rattle.def_core.specs.declared.cause.Cause.{Cause}
use Rattle.def_core.specs.declared.cause.Cause.TheVariants as cause
use Rattle.def_core.specs.Changes.{intern, Interned}
use Rattle.def_calls.specs.Views.{a_proc, a_fiber}
use Rattle.rb_store.specs.Held.{Held}
use Rattle.core_calls.specs.Checks.{Named, name_in}
use Rattle.core_calls.specs.Passing.{args_of}
use Rattle.core_calls.specs.declared.beat.Beat.{Beat}
use Rattle.core_calls.specs.declared.beat.Passed.TheVariants.{One}
use Rattle.def_plans.specs.Plan.{Plan, Planned, fails, sends, calls, resumes, yields, gives, refuses, wanted}
use Rattle.core_iter.specs.declared.iteration.Iteration.{Iteration}
use Rattle.core_iter.specs.declared.iteration.Iteration.TheVariants as state
use Rattle.core_iter.specs.Stage.{Stage, own}

-- a method is called by a name of the language, which is a symbol then

abbrev pub sends_by : Held → Stage → Value → List Value → Option ObjId → Interned → Planned Stage
sends_by held then recv args block named = record {
  plan = sends then recv named.symbol args block false;
  held = record held { store = named.store };
}

abbrev pub send_named : Held → Stage → Value → List ℕ → List Value → Option ObjId → Planned Stage
send_named held then recv name args block = sends_by held then recv args block (intern held.store name)

-- a value is asked for what a method without arguments gives
abbrev pub ask : Held → Stage → Value → List ℕ → Planned Stage
ask held then recv name = send_named held then recv name [] None

-- Calls of a block that is called again and again.

abbrev pub call_beat : Held → Stage → Beat → Planned Stage
call_beat held then b = record { plan = calls then b.callee (args_of b.passed) None; held = held }

abbrev pub with_one : ObjId → Value → Beat
with_one p v = record { callee = p; passed = One v }

abbrev pub call_with : Held → Stage → ObjId → Value → Planned Stage
call_with held then p v = call_beat held then (with_one p v)

-- the call that comes next, where one does, with the state and the heap that are left
pub record Beaten (S : Type 0) : Type 0 where
  pub beat : Option Beat
  pub state : S
  pub held : Held

-- the call is that, and so is what is left; memory may run out
abbrev pub IsBeat : {S : Type 0} → Beaten S → Result (Option Beat) AllocError → S → Held → Type 0
IsBeat b (Ok beat) state held = b ≡ record { beat = beat; state = state; held = held }
IsBeat b (Err e) state held = Unit {0}

-- the iteration makes that call and goes on then, or ends with a value

abbrev pub beat_or : Held → Stage → Value → Option Beat → Planned Stage
beat_or held then ending (Some b) = call_beat held then b
beat_or held then ending None = gives held ending

abbrev pub goes_on : {S : Type 0} → (S → Iteration) → Value → Beaten S → Planned Stage
goes_on as_state ending b = beat_or b.held (own (as_state b.state)) ending b.beat

-- `loop`
abbrev pub looped : Held → ObjId → Planned Stage
looped held p = record { plan = calls (own (state.Looping p)) p [] None; held = held }

-- `send` and `public_send`, and the Proc that sends the name which it keeps: the other arguments are handed on

abbrev pub sent : Value → List Value → Option ObjId → Bool → Result SymId Cause → Plan Stage
sent recv args block public (Ok name) = sends (own state.Handing) recv name (drop 1 args) block public
sent recv args block public (Err c) = fails c

abbrev pub SendsBy : Value → List Value → Option ObjId → Bool → Named → Planned Stage → Type 0
SendsBy recv args block public named p =
    (p.plan ≡ sent recv args block public named.name) × (p.held.store ≡ named.store)

abbrev pub Sends : Held → Value → Value → List Value → Option ObjId → Bool → Planned Stage → Type 0
Sends held recv name args block public p = SendsBy recv args block public (name_in held.store name) p

-- `call` of a Proc
abbrev pub call : Held → Value → List Value → Option ObjId → Planned Stage
call held recv args block = wanted held class.Proc recv (a_proc held.store.objects recv)
    (λ p. record { plan = calls (own state.Handing) p args block; held = held })

-- `resume` of a fiber, and `yield` within it

abbrev pub resume : Held → Value → List Value → Planned Stage
resume held recv args = wanted held class.Fiber recv (a_fiber held.store.objects recv)
    (λ f. record { plan = resumes (own state.Handing) f args; held = held })

abbrev pub yields_all : Held → List Value → Planned Stage
yields_all held args = record { plan = yields (own state.Handing) args; held = held }

-- a block is wanted and none is given
abbrev pub blockless : Held → Planned Stage
blockless held = refuses held cause.NoBlockGiven
