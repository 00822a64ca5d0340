-- What each outcome of a form, an instruction, a call or an iteration is in a fine world.
use Rattle.std.specs.Prelude.{◌≡◌, ◌⊎◌, ℕ, List, []}
use Rattle.rb_value.specs.declared.procs.ProcContents.{ProcContents}
use Rattle.def_core.specs.declared.bound.Bound.{Bound}
use Rattle.def_core.specs.declared.bound.Bound.TheVariants as bound
use Rattle.def_core.specs.declared.found.Found.{Found}
use Rattle.def_core.specs.Store.{Done}
use Rattle.def_core.specs.Bind.{Binding}
use Rattle.def_core.specs.Sound.{Census, census, Proc, Fiber, Array, Is, IsSymbol, IsValue, IsFound, IsOutcome, OptionIs, AllAre, SoundProc}
use Rattle.class_model.specs.Given.{IsClass, GivesClass}
use Rattle.rb_raise.specs.Causes.{SoundCause}
use Rattle.run_values.specs.Raisable.{IsRaisable}
use Rattle.def_calls.specs.World.{World, Activation, core_method, Result, gives, raises, Answer, with_store, with_activation}
use Rattle.def_calls.specs.Views.{Callable, by_body, by_row}
use Rattle.def_calls.specs.Values.{Splatted}
use Rattle.def_calls.specs.Plans.{Iteration, begun, handing, putting, putting_text, printing, printing_text, inspecting, inspecting_text, raising, looping, visiting, counting, initializing, messaging, telling, telling_text, reporting, reported, Plan, Planned}
use Rattle.def_calls.specs.Plans as plan
use Rattle.def_calls.specs.Calls.{Opening, Entry, answers, enters, begins, Sending, by_name, by_bare_name, to_proc, to_super, BlockArgument, no_block, block_of, not_a_block}
use Rattle.def_calls.specs.Fibers as fibers
use Rattle.world_laws.specs.Fine.{Bodies, IsException, MethodIs, ActivationIs, Keeps}

-- Answers.

-- the value is of the store, or the exception is one of it
abbrev pub ResultIs : Census → Result → Type 0
ResultIs k (gives v) = IsValue k v
ResultIs k (raises e) = IsException k e

pub record AnswerIs (b : Bodies) (w : World) (a : Answer) : Type 0 where
  pub keeps : Keeps b w a.world
  pub result : ResultIs (census a.world.store) a.result

-- the value is a class or module
abbrev pub GivesSpace : Census → Result → Type 0
GivesSpace k (gives v) = IsClass k v
GivesSpace k (raises e) = IsException k e

-- An outcome of the store, whatever the rest of the world is: it can be raised.
pub record DoneIs (b : Bodies) (w : World) (d : Done) : Type 0 where
  pub keeps : Keeps b w (with_store w d.store)
  pub outcome : IsOutcome (census d.store) d.outcome
  pub raisable : IsRaisable d.outcome

-- what defines a class or module gives one
pub record DefinesIs (b : Bodies) (w : World) (d : Done) : Type 0 where
  pub keeps : Keeps b w (with_store w d.store)
  pub outcome : GivesClass (census d.store) d.outcome
  pub raisable : IsRaisable d.outcome

pub record SplattedIs (b : Bodies) (w : World) (s : Splatted) : Type 0 where
  pub keeps : Keeps b w (with_store w s.store)
  pub values : AllAre (IsValue (census s.store)) s.values

-- Parameters.

abbrev pub BoundIs : Census → Bound → Type 0
BoundIs k (bound.Values vs filled) = AllAre (IsValue k) vs
BoundIs k (bound.Wrong given) = Unit {0}

pub record BindingIs (b : Bodies) (w : World) (x : Binding) : Type 0 where
  pub keeps : Keeps b w (with_store w x.store)
  pub bound : BoundIs (census x.store) x.bound

-- Methods and Procs.

-- what a search finds, with the body of a method
pub record FoundIs (b : Bodies) (w : World) (f : Found) : Type 0 where
  pub found : IsFound (census w.store) f
  pub method : MethodIs b w f.method

-- what a Proc runs: a body, or a core method with a kept value
abbrev pub CallableIs : Bodies → World → Callable → Type 0
CallableIs b w (by_body c) = SoundProc (census w.store) c × b.ProcIs w c
CallableIs b w (by_row r v) = IsValue (census w.store) v

-- what a call calls is there
abbrev pub SendingIs : Census → Sending → Type 0
SendingIs k (by_name s) = IsSymbol k s
SendingIs k (by_bare_name s) = IsSymbol k s
SendingIs k to_proc = Unit {0}
SendingIs k to_super = Unit {0}

-- Entries.

-- a body with its scopes is that of a method, which has none around it, or of a Proc
abbrev pub OpensBody : Bodies → World → ℕ → List ℕ → ℕ → Type 0
OpensBody b w body scopes classes = (b.BodyIs w body classes × (scopes ≡ []))
    ⊎ ((c : ProcContents) × b.ProcIs w c × (c.code ≡ body) × (c.scopes ≡ scopes) × (c.classes ≡ classes))

-- an activation that is opened is right as one of the world that has it
abbrev pub OpensIn : World → Activation → Type 0
OpensIn w a = ActivationIs (with_activation w a) a

pub record OpeningIs (b : Bodies) (w : World) (o : Opening) : Type 0 where
  pub body : OpensBody b w o.body o.scopes o.activation.classes
  pub activation : OpensIn w o.activation
  pub arguments : AllAre (IsValue (census w.store)) o.arguments
  pub block : OptionIs (Is (census w.store) Proc) o.block

-- what an iteration keeps is of the store
abbrev pub StateIs : Census → Iteration → Type 0
StateIs k (begun row recv args block) = IsValue k recv × AllAre (IsValue k) args × OptionIs (Is k Proc) block
StateIs k handing = Unit {0}
StateIs k (putting vs) = AllAre (IsValue k) vs
StateIs k (putting_text vs) = AllAre (IsValue k) vs
StateIs k (printing vs) = AllAre (IsValue k) vs
StateIs k (printing_text vs) = AllAre (IsValue k) vs
StateIs k (inspecting vs us) = AllAre (IsValue k) vs × AllAre (IsValue k) us
StateIs k (inspecting_text vs us) = AllAre (IsValue k) vs × AllAre (IsValue k) us
StateIs k raising = Unit {0}
StateIs k (looping p) = Is k Proc p
StateIs k (visiting a i p) = Is k Array a × Is k Proc p
StateIs k (counting z i p) = Is k Proc p
StateIs k (initializing v) = IsValue k v
StateIs k (messaging v) = IsValue k v
StateIs k (telling v) = IsValue k v
StateIs k (telling_text v) = IsValue k v
StateIs k (reporting e) = IsException k e
StateIs k (reported e) = IsException k e

pub record EntersIs (b : Bodies) (w : World) (o : Opening) (v : World) : Type 0 where
  pub keeps : Keeps b w v
  pub opening : OpeningIs b v o

pub record BeginsIs (b : Bodies) (w : World) (it : Iteration) (a : Activation) (v : World) : Type 0 where
  pub keeps : Keeps b w v
  pub state : StateIs (census v.store) it
  pub activation : OpensIn v a
  pub core : a.runs ≡ core_method

abbrev pub EntryIs : Bodies → World → Entry → Type 0
EntryIs b w (answers a) = AnswerIs b w a
EntryIs b w (enters o v) = EntersIs b w o v
EntryIs b w (begins it a v) = BeginsIs b w it a v

abbrev pub BlockArgumentIs : Bodies → World → BlockArgument → Type 0
BlockArgumentIs b w no_block = Unit {0}
BlockArgumentIs b w (block_of p v) = Keeps b w v × Is (census v.store) Proc p
BlockArgumentIs b w not_a_block = Unit {0}

-- Plans of iterations.

abbrev pub PlanIs : Census → Plan → Type 0
PlanIs k (plan.finishes v) = IsValue k v
PlanIs k (plan.fails c) = SoundCause k c
PlanIs k (plan.raises e) = IsException k e
PlanIs k (plan.sends it recv name args block public) = StateIs k it × IsValue k recv × IsSymbol k name
    × AllAre (IsValue k) args × OptionIs (Is k Proc) block
PlanIs k (plan.calls it p args block) = StateIs k it × Is k Proc p × AllAre (IsValue k) args
    × OptionIs (Is k Proc) block
PlanIs k (plan.writes it bytes) = StateIs k it
PlanIs k (plan.reads it) = StateIs k it
PlanIs k (plan.resumes it f args) = StateIs k it × Is k Fiber f × AllAre (IsValue k) args
PlanIs k (plan.yields it args) = StateIs k it × AllAre (IsValue k) args

pub record PlannedIs (b : Bodies) (w : World) (p : Planned) : Type 0 where
  pub keeps : Keeps b w (with_store w p.store)
  pub plan : PlanIs (census p.store) p.plan

-- Fibers, whatever each keeps.

abbrev pub NameIs : Census → fibers.Name → Type 0
NameIs k fibers.root = Unit {0}
NameIs k (fibers.object f) = Is k Fiber f

pub record FiberIs {K : Type 0} (k : Census) (P : K → Type 0) (f : fibers.Fiber K) : Type 0 where
  pub name : NameIs k f.name
  pub resumer : OptionIs (NameIs k) f.resumer
  pub kept : P f.kept

pub record FibersAre {K : Type 0} (k : Census) (P : K → Type 0) (fs : fibers.Fibers K) : Type 0 where
  pub running : NameIs k fs.running
  pub resumer : OptionIs (NameIs k) fs.resumer
  pub others : AllAre (FiberIs k P) fs.others

pub record OnwardIs {K : Type 0} (k : Census) (P : K → Type 0) (o : fibers.Onward K) : Type 0 where
  pub kept : P o.kept
  pub fibers : FibersAre k P o.fibers

abbrev pub ResumedIs : {K : Type 0} → Census → (K → Type 0) → fibers.Resumed K → Type 0
ResumedIs k P (fibers.refused c) = SoundCause k c
ResumedIs k P (fibers.begins p fs) = Is k Proc p × FibersAre k P fs
ResumedIs k P (fibers.continues o) = OnwardIs k P o
