-- When a state is one that verified code can be in: each number in it is of what it has to be.
use Rattle.std.specs.Prelude.{◌≡◌, ◌<◌, ◌≤◌, ◌⊎◌, ℕ, zero, suc, ◌+◌, List, [], ◌∷◌, length, slice_get, codes, nat_eq, if◌then◌else◌, Option, Some, None, true}
use Rattle.rb_value.specs.declared.value.Value.{Value}
use Rattle.rb_value.specs.declared.value.ObjId.{ObjId}
use Rattle.rb_value.specs.declared.method.Method.{Method}
use Rattle.rb_value.specs.declared.method.Method.TheVariants as method
use Rattle.rb_value.specs.declared.method.MethodEntry.{MethodEntry}
use Rattle.rb_value.specs.declared.procs.ProcContents.{ProcContents}
use Rattle.rb_value.specs.declared.kind.Kind.{Kind}
use Rattle.rb_value.specs.declared.kind.Kind.TheVariants as kind
use Rattle.rb_value.specs.declared.exit.Exit.{Exit}
use Rattle.rb_value.specs.declared.exit.Exit.TheVariants.{Raise, Return, Break, Jump}
use Rattle.rb_value.specs.declared.exit.Slot.{Slot}
use Rattle.rb_value.specs.declared.exit.Slot.TheVariants.{V, E}
use Rattle.rb_value.specs.declared.kind.Sort.TheVariants as sort
use Rattle.rb_value.specs.Object.{Object}
use Rattle.def_core.specs.Store.{Store}
use Rattle.def_core.specs.Sound.{Census, census, Sound, ClassOrModule, Proc, Fiber, Array, Is, IsSymbol, IsValue, OptionIs, AllAre}
use Rattle.rite_code.specs.Code.{Program}
use Rattle.code_outline.specs.Layout.{layout, is_start}
use Rattle.code_outline.specs.Makers.{outer}
use Rattle.def_calls.specs.World.{World, Activation, Enclosing, Runs, main_program, method_body, block_body, lambda_body, class_body, core_method}
use Rattle.def_calls.specs.Views.{object_in}
use Rattle.def_calls.specs.Plans.{Iteration, begun, handing, putting, putting_text, printing, printing_text, inspecting, inspecting_text, raising, looping, visiting, counting, initializing, messaging, telling, telling_text, reporting, reported}
use Rattle.def_calls.specs.Fibers as fibers
use Rattle.def_machine.specs.State.{Registers, Frame, Level, frame, iteration, Memory, State, On, Off, Stuck, body_at, list_at, all_symbols}
use Rattle.def_machine.specs.Entering.{first_of}
use Rattle.def_machine.specs.Turn.{lists_around, fetch, shape_by}

-- Lists of registers.

abbrev pub IsBelow : ℕ → ℕ → Type 0
IsBelow n k = k < n

-- A list is that of a body where it has the body's length and the list around it is that of the body around; a body
-- that reaches no other has no list around. Each has a greater number than the one around it.
abbrev pub ListFits : ℕ → Program → List Registers → Option ℕ → Option ℕ → Type 0
ListFits most p ls None None = Unit {0}
ListFits most p ls None (Some k) = ⊥
ListFits most p ls (Some n) None = ⊥
ListFits zero p ls (Some n) (Some k) = ⊥
ListFits (suc most) p ls (Some n) (Some k) = (n < length ls) × (k < length p.bodies)
    × (length (list_at ls n).slots ≡ (body_at p k).registers) × OptionIs (IsBelow n) (list_at ls n).outer
    × ListFits most p ls (list_at ls n).outer (outer p k)

-- the list of body k
abbrev pub IsListOf : Program → List Registers → Option ℕ → Option ℕ → Type 0
IsListOf p ls n k = ListFits (length ls) p ls n k

-- the place is the start of an instruction of the body
abbrev pub IsStart : Program → ℕ → ℕ → Type 0
IsStart p k at = is_start (layout p.version (body_at p k).code) at ≡ true

-- Exits.

abbrev pub activation_of : Level → ℕ
activation_of (frame f) = f.activation
activation_of (iteration a it v) = a

-- the activation is one of these levels
abbrev pub IsUnderWay : List Level → ℕ → Type 0
IsUnderWay [] a = ⊥
IsUnderWay (l ∷ ls) a = (a ≡ activation_of l) ⊎ IsUnderWay ls a

abbrev pub IsException : Census → ObjId → Type 0
IsException k e = slice_get k.sorts e.0 ≡ Some sort.Exception

-- an exit that came to a frame over these levels leads to it or to one of them
abbrev pub ExitFits : Program → Census → Frame → List Level → Exit → Type 0
ExitFits p k f ls (Raise e) = IsException k e
ExitFits p k f ls (Return a v) = IsUnderWay (frame f ∷ ls) a × IsValue k v
ExitFits p k f ls (Break a v) = IsUnderWay (frame f ∷ ls) a × IsValue k v
ExitFits p k f ls (Jump a t) = (a ≡ f.activation) × IsStart p f.body t

-- what a register holds is of the store
abbrev pub SlotFits : Census → Slot → Type 0
SlotFits k (V v) = IsValue k v
SlotFits k (E (Raise e)) = IsException k e
SlotFits k (E (Return a v)) = IsValue k v
SlotFits k (E (Break a v)) = IsValue k v
SlotFits k (E (Jump a t)) = Unit {0}

abbrev pub RegistersFit : Census → Registers → Type 0
RegistersFit k r = AllAre (SlotFits k) r.slots

-- the exits that the registers of a frame keep
abbrev pub KeptFits : Program → Census → Frame → List Level → Slot → Type 0
KeptFits p k f ls (V v) = Unit {0}
KeptFits p k f ls (E x) = ExitFits p k f ls x

-- Frames.

-- the number of an activation
abbrev pub IsActivation : World → ℕ → Type 0
IsActivation w a = (0 < a) × (a ≤ length w.activations)

pub record FrameFits (p : Program) (m : Memory) (f : Frame) (below : List Level) : Type 0 where
  pub activation : IsActivation m.world f.activation
  pub body : f.body < length p.bodies
  pub list : IsListOf p m.lists (Some f.list) (Some f.body)
  pub place : IsStart p f.body f.place
  pub kept : AllAre (KeptFits p (census m.world.store) f below) (list_at m.lists f.list).slots
  pub pending : OptionIs (ExitFits p (census m.world.store) f below) f.pending
  pub arguments : AllAre (IsValue (census m.world.store)) f.arguments
  pub block : OptionIs (Is (census m.world.store) Proc) f.block

-- a frame that waits goes on at an instruction, with its value in a register
pub record FrameWaits (p : Program) (f : Frame) : Type 0 where
  pub after : IsStart p f.body f.after
  pub register : f.waits < (body_at p f.body).registers

-- Iterations: what each keeps is of the store.
abbrev pub StateFits : Census → Iteration → Type 0
StateFits k (begun row recv args block) = IsValue k recv × AllAre (IsValue k) args × OptionIs (Is k Proc) block
StateFits k handing = Unit {0}
StateFits k (putting vs) = AllAre (IsValue k) vs
StateFits k (putting_text vs) = AllAre (IsValue k) vs
StateFits k (printing vs) = AllAre (IsValue k) vs
StateFits k (printing_text vs) = AllAre (IsValue k) vs
StateFits k (inspecting vs us) = AllAre (IsValue k) vs × AllAre (IsValue k) us
StateFits k (inspecting_text vs us) = AllAre (IsValue k) vs × AllAre (IsValue k) us
StateFits k raising = Unit {0}
StateFits k (looping b) = Is k Proc b
StateFits k (visiting a i b) = Is k Array a × Is k Proc b
StateFits k (counting z i b) = Is k Proc b
StateFits k (initializing v) = IsValue k v
StateFits k (messaging v) = IsValue k v
StateFits k (telling v) = IsValue k v
StateFits k (telling_text v) = IsValue k v
StateFits k (reporting e) = IsException k e
StateFits k (reported e) = IsException k e

-- Levels: those below the innermost wait.

abbrev pub LevelFits : Program → Memory → Level → List Level → Type 0
LevelFits p m (frame f) below = FrameFits p m f below
LevelFits p m (iteration a it v) below =
    IsActivation m.world a × StateFits (census m.world.store) it × IsValue (census m.world.store) v

abbrev pub LevelWaits : Program → Level → Type 0
LevelWaits p (frame f) = FrameWaits p f
LevelWaits p (iteration a it v) = Unit {0}

abbrev pub LevelsWait : Program → Memory → List Level → Type 0
LevelsWait p m [] = Unit {0}
LevelsWait p m (l ∷ ls) = LevelFits p m l ls × LevelWaits p l × LevelsWait p m ls

-- a running fiber has a level
abbrev pub LevelsFit : Program → Memory → List Level → Type 0
LevelsFit p m [] = ⊥
LevelsFit p m (l ∷ ls) = LevelFits p m l ls × LevelsWait p m ls

abbrev pub NameFits : Census → fibers.Name → Type 0
NameFits k fibers.root = Unit {0}
NameFits k (fibers.object f) = Is k Fiber f

-- a fiber that waits has a level
pub record FiberFits (p : Program) (m : Memory) (f : fibers.Fiber (List Level)) : Type 0 where
  pub some : 0 < length f.kept
  pub name : NameFits (census m.world.store) f.name
  pub resumer : OptionIs (NameFits (census m.world.store)) f.resumer
  pub levels : LevelsWait p m f.kept

-- Procs and methods in the store: their bodies, and the lists around them.

pub record ProcFits (p : Program) (w : World) (ls : List Registers) (c : ProcContents) : Type 0 where
  pub body : c.code < length p.bodies
  pub shape : c.shape ≡ shape_by (fetch p c.code 0)
  pub around : IsListOf p ls (first_of c.scopes) (outer p c.code)
  pub scopes : c.scopes ≡ lists_around (length ls) ls (first_of c.scopes)
  pub classes : c.classes ≤ length w.enclosing
  pub home : IsActivation w c.home

abbrev pub MethodFits : Program → World → Method → Type 0
MethodFits p w (method.Body b classes) =
    (b < length p.bodies) × (outer p b ≡ None) × (classes ≤ length w.enclosing)
MethodFits p w (method.Core r) = Unit {0}
MethodFits p w (method.Reader n) = Unit {0}
MethodFits p w (method.Writer n) = Unit {0}
MethodFits p w (method.Block b) = Unit {0}
MethodFits p w method.Undefined = Unit {0}

abbrev pub EntryFits : Program → World → ℕ × MethodEntry → Type 0
EntryFits p w e = MethodFits p w e.1.method

abbrev pub KindFits : Program → World → List Registers → Kind → Type 0
KindFits p w ls kind.Plain = Unit {0}
KindFits p w ls (kind.Class c) = AllAre (EntryFits p w) c.methods
KindFits p w ls (kind.String s) = Unit {0}
KindFits p w ls (kind.Array a) = Unit {0}
KindFits p w ls (kind.Hash h) = Unit {0}
KindFits p w ls (kind.Range r) = Unit {0}
KindFits p w ls (kind.Proc c) = ProcFits p w ls c
KindFits p w ls (kind.CoreProc r v) = Unit {0}
KindFits p w ls (kind.Fiber b e) = Unit {0}
KindFits p w ls (kind.Exception e d) = Unit {0}
KindFits p w ls (kind.Enumerator e) = Unit {0}
KindFits p w ls (kind.Yielder b) = Unit {0}

abbrev pub ObjectFits : Program → World → List Registers → Object → Type 0
ObjectFits p w ls o = KindFits p w ls o.kind

-- The world.

-- the body of a class has a class or module as its self
abbrev pub RunFits : Census → Value → Runs → Type 0
RunFits k self main_program = Unit {0}
RunFits k self method_body = Unit {0}
RunFits k self (block_body b) = Is k Proc b
RunFits k self lambda_body = Unit {0}
RunFits k self class_body = OptionIs (Is k ClassOrModule) (object_in self)
RunFits k self core_method = Unit {0}

pub record ActivationFits (w : World) (a : Activation) : Type 0 where
  pub runs : RunFits (census w.store) a.self a.runs
  pub self : IsValue (census w.store) a.self
  pub owner : OptionIs (Is (census w.store) ClassOrModule) a.owner
  pub name : OptionIs (IsSymbol (census w.store)) a.name
  pub home : IsActivation w a.home
  pub classes : a.classes ≤ length w.enclosing
  pub block : OptionIs (Is (census w.store) Proc) a.block

-- the lists of classes from number n on
abbrev pub EnclosingFits : Census → ℕ → List Enclosing → Type 0
EnclosingFits k n [] = Unit {0}
EnclosingFits k n (e ∷ es) = Is k ClassOrModule e.class × (e.around < n) × EnclosingFits k (suc n) es

abbrev pub GlobalFits : Census → ℕ × Value → Type 0
GlobalFits k g = (g.0 < k.symbols) × IsValue k g.1

pub record WorldFits (p : Program) (ls : List Registers) (w : World) : Type 0 where
  pub store : Sound w.store
  pub objects : AllAre (ObjectFits p w ls) w.store.objects
  pub globals : AllAre (GlobalFits (census w.store)) w.globals
  pub enclosing : EnclosingFits (census w.store) 1 w.enclosing
  pub activations : AllAre (ActivationFits w) w.activations

-- The names that code calls by are symbols of the store: those of its bodies, and those of the operators.

abbrev pub IsName : List (List ℕ) → List ℕ → Type 0
IsName symbols name = (n : ℕ) × (slice_get symbols n ≡ Some name)

abbrev pub operators : List (List ℕ)
operators = codes "+" ∷ codes "-" ∷ codes "*" ∷ codes "/" ∷ codes "==" ∷ codes "<" ∷ codes "<=" ∷ codes ">"
    ∷ codes ">=" ∷ []

pub record NamesFit (p : Program) (st : Store) : Type 0 where
  pub symbols : AllAre (IsName st.symbols) (all_symbols p.bodies)
  pub operators : AllAre (IsName st.symbols) operators

-- Each list of registers is that of one frame at most, of all fibers.

abbrev pub holder : ℕ → Level → ℕ
holder n (frame f) = if nat_eq f.list n then 1 else 0
holder n (iteration a it v) = 0

abbrev pub holders : ℕ → List Level → ℕ
holders n [] = 0
holders n (l ∷ ls) = holder n l + holders n ls

abbrev pub waiting_holders : ℕ → List (fibers.Fiber (List Level)) → ℕ
waiting_holders n [] = 0
waiting_holders n (f ∷ fs) = holders n f.kept + waiting_holders n fs

pub record AreApart (ls : List Level) (fs : List (fibers.Fiber (List Level))) : Type 0 where
  pub once : (n : ℕ) → holders n ls + waiting_holders n fs ≤ 1

-- what a state keeps beside the levels of the running fiber
pub record MemoryFits (p : Program) (m : Memory) : Type 0 where
  pub world : WorldFits p m.lists m.world
  pub names : NamesFit p m.world.store
  pub registers : AllAre (RegistersFit (census m.world.store)) m.lists
  pub running : NameFits (census m.world.store) m.fibers.running
  pub resumer : OptionIs (NameFits (census m.world.store)) m.fibers.resumer
  pub waiting : AllAre (FiberFits p m) m.fibers.others

-- the running fiber has levels that fit in such a memory
pub record RunsWell (p : Program) (ls : List Level) (m : Memory) : Type 0 where
  pub memory : MemoryFits p m
  pub levels : LevelsFit p m ls
  pub apart : AreApart ls m.fibers.others

abbrev pub Fits : Program → State → Type 0
Fits p (On levels m) = RunsWell p levels m
Fits p (Off e) = Unit {0}
Fits p (Stuck out) = ⊥
