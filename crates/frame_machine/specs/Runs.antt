-- Runs of a machine: its turns, what goes out and comes in between them, and how it stands then.
use Rattle.std.specs.declared.alloc.Global.{Global}
use Rattle.std.specs.Prelude.{◌≡◌, ◌≤◌, ℕ, ◌+◌, ◌-◌, ◌^◌, min, List, [], ◌++◌, Vec, Bool, true, false, not, ◌&&◌, Option}
use Rattle.rb_base.specs.Outside.{with_more}
use Rattle.rb_value.specs.declared.value.Value.TheVariants.{Nil, Obj}
use Rattle.rb_value.specs.declared.core_class.CoreClass.TheVariants as class
use Rattle.rb_value.specs.declared.kind.Kind.TheVariants as kind
use Rattle.def_core.specs.declared.cause.Cause.TheVariants as cause
use Rattle.def_core.specs.Store.{core, next_number}
use Rattle.vm_acts.specs.Parts.answering.{Given, Gives}
use Rattle.vm_acts.specs.Parts.below.{Held}
use Rattle.vm_acts.specs.Parts.below.made as made
use Rattle.vm_acts.specs.Parts.{Flow}
use Rattle.vm_acts.specs.Parts.flow.{Stays, Wakes, Ends}
use Rattle.vm_acts.specs.Parts.{Loaded}
use Rattle.vm_acts.specs.Parts.below.frames.{Frame}
use Rattle.vm_acts.specs.Parts.beside.{Beside, of}
use Rattle.vm_acts.specs.Parts.calling.{Fails}
use Rattle.vm_acts.specs.Parts.leaving.{HandedOut, handed_of}
use Rattle.vm_acts.specs.Parts.step as step
use Rattle.vm_acts.specs.Parts.beside.{with_heap}
use Rattle.vm_acts.specs.Ends.{End}
use Rattle.frame_machine.specs.declared.machine.Machine.{Machine}
use Rattle.frame_machine.specs.declared.machine.Standing.{Standing}
use Rattle.frame_machine.specs.declared.machine.Standing.TheVariants as stands
use Rattle.frame_machine.specs.declared.reading.Line.{Line}
use Rattle.frame_machine.specs.declared.reading.Line.TheVariants as line
use Rattle.frame_machine.specs.declared.running.At.{At}
use Rattle.frame_machine.specs.declared.running.At.TheVariants.{Hand, Waiting}
use Rattle.vm_iterations.specs.Reporting.{reports}
use Rattle.frame_machine.specs.Turns.{Stand, stand, Turns, WantsIn, flow_at}

-- What is given for a line: a String with it, nil at the end of the input, or an exception.

abbrev pub GivenFor : Line → Held → Given → Held → Type 0
GivenFor (line.Text text) h given after = (given ≡ Gives (Obj (next_number h.store)))
    × (after ≡ made.with_new h (core class.String) (kind.String text.items))
GivenFor line.End h given after = (given ≡ Gives Nil) × (after ≡ h)
GivenFor line.TooLong h given after = Fails h cause.StringTooLong given after

pub record GivesLine (h : Held) (given : Given) (after : Held) : Type 0 where
  pub text : Line
  pub is : GivenFor text h given after

-- the iteration that reads has it
pub record Reads (c : Loaded) (b : Beside) (flow : Flow) (after : Beside) : Type 0 where
  pub given : Given
  pub heap : Held
  pub is : GivesLine b.heap given heap
  pub handed : HandedOut c.code (with_heap b heap) (handed_of given) flow after

-- From a stand, with so many turns that are left, to another: what was written, and how many are left then.
pub data Runs (c : Loaded) (from : Stand) (budget : ℕ) : List ℕ → ℕ → Stand → Type 0 where
  none : Runs c from budget [] budget from
  goes : (out : List ℕ) (left rest : ℕ) (s t : Stand) → Runs c from budget out left s → Turns c s left rest t
      → Runs c from budget out rest t
  writes : (out : List ℕ) (left rest : ℕ) (s : Stand) (bytes : Vec ℕ Global) (g : Frame) (b : Beside)
      → Runs c from budget out left s → WantsIn c s left rest (step.Writes bytes) g b
      → Runs c from budget (out ++ bytes.items) rest (stand Wakes g b)
  reads : (out : List ℕ) (left rest : ℕ) (s : Stand) (g : Frame) (b after : Beside) (flow : Flow)
      → Runs c from budget out left s → WantsIn c s left rest step.Reads g b → Reads c b flow after
      → Runs c from budget out rest (stand flow g after)
  -- an exception that nothing rescued is asked for its message
  asks : (out : List ℕ) (left : ℕ) (g : Frame) (b : Beside) → Runs c from budget out left (stand Ends g b)
      → (reports b b.ending).0 ≡ true → Runs c from budget out left (stand Wakes g (reports b b.ending).1)

-- How a machine stands.

abbrev pub stand_at : Machine → At → Stand
stand_at m at = stand (flow_at at) m.hot (of m.parts)

-- before its first turn
abbrev pub IsNew : Machine → Type 0
IsNew m = (m.standing ≡ stands.At Hand) × (m.turns ≡ 0)

-- where the program has ended, but for names that are symbols then
abbrev pub StandsAs : Standing → Stand → Machine → Type 0
StandsAs (stands.At at) s n = s ≡ stand_at n at
StandsAs (stands.Over e) s n = (s ≡ stand Ends n.hot s.beside) × (of n.parts ≡ with_heap s.beside n.parts.heap)
StandsAs stands.Stopped s n = ⊥

-- What a run from a level comes to: what it wrote has gone out.
pub record Goes (m : Machine) (at : At) (budget left : ℕ) (standing : Standing) (n : Machine)
    (before after : Option (List ℕ)) : Type 0 where
  pub out : List ℕ
  pub reached : Stand
  pub runs : Runs m.code (stand_at m at) budget out left reached
  pub taken : after ≡ with_more before out
  pub code : n.code ≡ m.code
  pub stands : StandsAs standing reached n

-- where a level runs still, no turn is left
abbrev pub Spends : Standing → ℕ → Type 0
Spends s left = (at : At) → s ≡ stands.At at → left ≡ 0

-- A run makes all its turns, or as many as the end needs, and counts them, up to a number's limit.
pub record RunsFor (m : Machine) (at : At) (budget : ℕ) (n : Machine) (before after : Option (List ℕ)) : Type 0 where
  pub left : ℕ
  pub goes : Goes m at budget left n.standing n before after
  pub spends : Spends n.standing left
  pub turns : n.turns ≡ min (m.turns + (budget - left)) (2 ^ 64 - 1)

-- The program ends, or an exception is asked for its message, once.

abbrev pub EndsAs : Bool → End → Standing → Machine → Machine → Type 0
EndsAs true e s m n = (s ≡ stands.At Waiting) × (of n.parts ≡ (reports (of m.parts) e).1)
EndsAs false e s m n = (told : End) × ((s ≡ stands.Over told) × (of n.parts ≡ with_heap (of m.parts) n.parts.heap))

abbrev pub is_asked : Machine → End → Bool
is_asked m e = not m.reported && (reports (of m.parts) e).0

-- the message is asked for once
abbrev pub parts_if : Bool → Beside → Beside → Beside
parts_if true b after = b
parts_if false b after = after

abbrev pub Asks : End → Machine → Machine → Type 0
Asks e m n = (n.code ≡ m.code)
    × ((n.hot ≡ m.hot) × (of n.parts ≡ parts_if m.reported (of m.parts) (reports (of m.parts) e).1))

abbrev pub EndsSo : End → Standing → Machine → Machine → Type 0
EndsSo e s m n = (n.code ≡ m.code) × ((n.hot ≡ m.hot) × EndsAs (is_asked m e) e s m n)

abbrev pub StandsBy : Flow → Standing → Machine → Machine → Type 0
StandsBy Stays s m n = (s ≡ stands.At Hand) × (n ≡ m)
StandsBy Wakes s m n = (s ≡ stands.At Waiting) × (n ≡ m)
StandsBy Ends s m n = EndsSo m.parts.end s m n

-- A line is read.

-- nothing changes but what was read ahead and the heap
abbrev pub ReadsAlone : Machine → Machine → Type 0
ReadsAlone m n = (n.code ≡ m.code) × ((n.hot ≡ m.hot) × (of n.parts ≡ with_heap (of m.parts) n.parts.heap))

pub record ReadsSo (s : Standing) (m n : Machine) : Type 0 where
  pub flow : Flow
  pub between : Machine
  pub code : between.code ≡ m.code
  pub hot : between.hot ≡ m.hot
  pub reads : Reads m.code (of m.parts) flow (of between.parts)
  pub stands : StandsBy flow s between n
