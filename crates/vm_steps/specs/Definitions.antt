-- Classes, modules and methods, and what `defined?` tells.
use Rattle.std.specs.Prelude.{◌≡◌, ℕ, ◌+◌, nat_eq, nat_lt, codes, Bool, Option, Some, None, is_some, if◌then◌else◌}
use Rattle.std.specs.Map.{lookup}
use Rattle.rb_value.specs.declared.value.Value.{Value}
use Rattle.rb_value.specs.declared.value.ObjId.{ObjId}
use Rattle.rb_value.specs.declared.value.SymId.{SymId}
use Rattle.rb_value.specs.declared.core_class.CoreClass.TheVariants as classes
use Rattle.def_core.specs.declared.bound.BindKind.TheVariants as bind
use Rattle.def_core.specs.declared.cause.Cause.TheVariants as cause
use Rattle.def_core.specs.Store.{core}
use Rattle.vm_parts.specs.declared.entering.Entered.{Entered}
use Rattle.vm_parts.specs.declared.flow.Flow.{Flow}
use Rattle.vm_parts.specs.declared.flow.Flow.TheVariants.{Stays}
use Rattle.vm_parts.specs.declared.loaded.Loaded.{Loaded}
use Rattle.vm_parts.specs.Answering.{Given, Follows, Gets, AnswersBy, on_space}
use Rattle.vm_parts.specs.Answering.definitions as definitions
use Rattle.vm_parts.specs.Below.{Held}
use Rattle.vm_parts.specs.Below.frames.{Frame}
use Rattle.vm_parts.specs.Below.frames.calls.{Activation}
use Rattle.vm_parts.specs.Below.frames.calls.activations as activations
use Rattle.vm_parts.specs.Below.frames.levels.{waiting_in}
use Rattle.vm_parts.specs.Below.frames.opening as opening
use Rattle.vm_parts.specs.Below.operands as operands
use Rattle.vm_parts.specs.Below.world.{World, Answer}
use Rattle.vm_parts.specs.Beside.{Beside, value_at}
use Rattle.vm_parts.specs.Calling.{When, caller_waits}
use Rattle.vm_parts.specs.Entering as entering
use Rattle.vm_steps.specs.Answering.{with_heap, DoneBy, Fails, refuses}

abbrev pub running : Beside → Activation
running b = opening.activation_in b.seen

-- the class or module that a value is
abbrev pub space_in : Held → Value → Option ObjId
space_in h v = definitions.space_in h.store.objects (operands.own h.store v)

-- OCLASS
abbrev pub core_class : ℕ → ObjId
core_class b = if nat_eq b 0 then core classes.Object else core classes.StandardError

-- CLASS, MODULE, SCLASS

abbrev pub class_opened : Held → Value → SymId → Value → World → Answer
class_opened h scope name parent = operands.with_symbol name
    (λ w. definitions.open_class w (operands.own h.store scope) name (operands.own h.store parent))

abbrev pub module_opened : Held → Value → SymId → World → Answer
module_opened h scope name = operands.with_symbol name
    (λ w. definitions.open_module w (operands.own h.store scope) name)

abbrev pub singleton : Held → Value → World → Answer
singleton h v = λ w. definitions.singleton_class w (operands.own h.store v)

-- EXEC

abbrev pub space_entered : ℕ → Entered
space_entered body = record { body = body; outer = None; block = None; binds = bind.Method }

abbrev pub space_activation : Beside → ObjId → ℕ → Activation
space_activation b space classes = activations.space_running (running b) space classes

-- with that heap, and the caller waiting
abbrev pub waiting : Beside → Frame → ℕ → Held → Beside
waiting b f a h = with_heap (caller_waits b f a) h

-- the body of a class or module: which list of classes is around its text, and what the heap is, is not told
pub record EntersSpace (c : Loaded) (b : Beside) (f : Frame) (a body : ℕ) (space : ObjId) (flow : Flow) (g : Frame)
    (after : Beside) : Type 0 where
  pub classes : ℕ
  pub heap : Held
  pub flows : flow ≡ Stays
  pub frame : g ≡ entering.frame_of (waiting b f a heap).seen (waiting_in f a) (b.activations + 1)
      (entering.registers c body) (space_activation b space classes) (space_entered body) (opening.no_arguments b.seen)
  pub entered : after ≡ entering.body_opened (waiting b f a heap) (b.activations + 1) (entering.registers c body)
      (space_activation b space classes)

abbrev pub EntersObject : Loaded → Beside → Frame → ℕ → ℕ → ObjId → Flow → Frame → Beside → Type 0
EntersObject c b f a body space flow g after = When (entering.is_full b) (Fails c b f cause.StackTooDeep a flow g after)
    (EntersSpace c b f a body space flow g after)

abbrev pub ExecutesIn : Option ObjId → Loaded → Beside → Frame → ℕ → ℕ → Flow → Frame → Beside → Type 0
ExecutesIn None c b f a body flow g after = AnswersBy c b f (refuses (codes "EXEC")) a flow g after
ExecutesIn (Some space) c b f a body flow g after = EntersObject c b f a body space flow g after

abbrev pub Executes : Loaded → Beside → Frame → ℕ → ℕ → Flow → Frame → Beside → Type 0
Executes c b f a body flow g after = ExecutesIn (space_in b.heap (value_at b f a)) c b f a body flow g after

-- DEF, ALIAS, UNDEF, TCLASS: which class is the innermost around the text is not told

abbrev pub method_defined : Beside → Value → SymId → ℕ → World → Answer
method_defined b v name body = on_space (space_in b.heap v) (codes "DEF")
    (λ class. operands.with_space class (operands.with_symbol name
    (λ w. definitions.define_method w class name body (running b).classes)))

abbrev pub aliased : ObjId → SymId → SymId → World → Answer
aliased class new old = operands.with_space class (operands.with_symbol new (operands.with_symbol old
    (λ w. definitions.alias_method w class new old)))

abbrev pub undefined : ObjId → SymId → World → Answer
undefined class name = operands.with_space class (operands.with_symbol name
    (λ w. definitions.undefine_method w class name))

pub record Aliases (c : Loaded) (b : Beside) (f : Frame) (new old : SymId) (flow : Flow) (g : Frame) (after : Beside)
    : Type 0 where
  pub space : ObjId
  pub done : DoneBy c b f (aliased space new old) flow g after

pub record Undefines (c : Loaded) (b : Beside) (f : Frame) (name : SymId) (flow : Flow) (g : Frame) (after : Beside)
    : Type 0 where
  pub space : ObjId
  pub done : DoneBy c b f (undefined space name) flow g after

-- DEFINED, by its second operand: what is told of a constant alone is not said here

abbrev pub is_set : Beside → SymId → Bool
is_set b name = is_some (lookup (nat_eq name.0) b.globals)

abbrev pub global_told : Beside → SymId → World → Answer
global_told b name = λ w. definitions.text_if w (codes "global-variable") (is_set b name)

abbrev pub told_of_name : Beside → Frame → ℕ → ℕ → SymId → World → Answer
told_of_name b f a kind name = let self = operands.own b.heap.store (value_at b f 0) in
    let v = operands.own b.heap.store (value_at b f a) in
    if nat_eq kind 0 then (λ w. definitions.instance_variable_told w self name)
    else (if nat_eq kind 1 then global_told b name
    else (if nat_eq kind 3 then (λ w. definitions.constant_in_told w v name)
    else (if nat_eq kind 4 then (λ w. definitions.method_told w self self name)
    else (λ w. definitions.method_told w self v name))))

abbrev pub TellsName : Beside → Frame → ℕ → ℕ → SymId → Given → Held → Type 0
TellsName b f a kind name given heap = When (nat_eq kind 2) (Unit {0})
    (Follows (told_of_name b f a kind name) b.heap given heap)

abbrev pub yield_told : Beside → World → Answer
yield_told b = λ w. definitions.text_if w (codes "yield") (is_some (running b).block)

abbrev pub super_told : Beside → World → Answer
super_told b = λ w. definitions.text_if w (codes "super")
    (is_some (definitions.super_of w (operands.own b.heap.store (running b).receiver) (running b).owner
    (running b).name))

abbrev pub TellsKind : Beside → Frame → ℕ → ℕ → SymId → Given → Held → Type 0
TellsKind b f a kind name given heap = When (nat_lt kind 6) (TellsName b f a kind name given heap)
    (Follows (if nat_eq kind 6 then yield_told b else super_told b) b.heap given heap)

abbrev pub Tells : Loaded → Beside → Frame → ℕ → ℕ → SymId → Flow → Frame → Beside → Type 0
Tells c b f a kind name flow g after = Gets c b f (TellsKind b f a kind name) a flow g after
