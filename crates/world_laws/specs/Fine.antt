-- When a world is one that a program comes to: what each number in it has to be, and what every later world keeps.
use Rattle.std.specs.Prelude.{◌≡◌, ◌<◌, ◌≤◌, ◌++◌, ℕ, suc, List, [], ◌∷◌, length, slice_get, Bool, Some}
use Rattle.rb_value.specs.declared.value.Value.{Value}
use Rattle.rb_value.specs.declared.value.ObjId.{ObjId}
use Rattle.rb_value.specs.declared.method.Method.{Method}
use Rattle.rb_value.specs.declared.method.Method.TheVariants as method
use Rattle.rb_value.specs.declared.method.MethodEntry.{MethodEntry}
use Rattle.rb_value.specs.declared.procs.ProcContents.{ProcContents}
use Rattle.rb_value.specs.declared.procs.Sending.{Sending}
use Rattle.rb_value.specs.declared.kind.Kind.{Kind}
use Rattle.rb_value.specs.declared.kind.Kind.TheVariants as kind
use Rattle.rb_value.specs.declared.kind.Sort.{Sort}
use Rattle.rb_value.specs.declared.kind.Sort.TheVariants as sort
use Rattle.rb_value.specs.Object.{Object}
use Rattle.def_core.specs.Sound.{Census, sorts_of, census, Sound, ClassOrModule, Proc, Is, IsSymbol, IsValue, OptionIs, AllAre}
use Rattle.def_calls.specs.World.{World, Activation, Enclosing, Runs, main_program, method_body, block_body, lambda_body, class_body, core_method}
use Rattle.def_calls.specs.Views.{object_in}

-- What is there stays.

-- the first list, and more behind it
pub record Goes {A : Type 0} (xs ys : List A) : Type 0 where
  pub more : List A
  pub same : ys ≡ xs ++ more

-- a later world: each object is of the sort that it was, each symbol has its name, each activation and each list of
-- classes is as it was, and more of all of them may be there
pub record Extends (w v : World) : Type 0 where
  pub sorts : Goes (sorts_of w.store.objects) (sorts_of v.store.objects)
  pub symbols : Goes w.store.symbols v.store.symbols
  pub enclosing : Goes w.enclosing v.enclosing
  pub activations : Goes w.activations v.activations

-- What numbers are of.

-- the object is there and of that sort
abbrev pub HasSort : Census → Sort → ObjId → Type 0
HasSort k s id = slice_get k.sorts id.0 ≡ Some s

abbrev pub IsException : Census → ObjId → Type 0
IsException k e = HasSort k sort.Exception e

-- the number of an activation
abbrev pub IsActivation : World → ℕ → Type 0
IsActivation w a = (0 < a) × (a ≤ length w.activations)

-- the number of a list of classes; 0 is the empty one
abbrev pub IsClasses : World → ℕ → Type 0
IsClasses w n = n ≤ length w.enclosing

-- What the contents of a Proc have to be, and a body with the list of classes around it that is a method. The laws
-- take any two such that hold in later worlds, and say at least that the numbers of the world in them are there.
-- Neither what became of a block literal nor whether it is a lambda may matter.
pub record Bodies : Type 1 where
  pub ProcIs : World → ProcContents → Type 0
  pub BodyIs : World → ℕ → ℕ → Type 0
  pub proc_home : (w : World) (c : ProcContents) → ProcIs w c → IsActivation w c.home
  pub proc_classes : (w : World) (c : ProcContents) → ProcIs w c → IsClasses w c.classes
  pub body_classes : (w : World) (body classes : ℕ) → BodyIs w body classes → IsClasses w classes
  pub proc_stays : (w v : World) (c : ProcContents) → Extends w v → ProcIs w c → ProcIs v c
  pub body_stays : (w v : World) (body classes : ℕ) → Extends w v → BodyIs w body classes → BodyIs v body classes
  pub proc_sent : (w : World) (c : ProcContents) (s : Sending) → ProcIs w c → ProcIs w (record c { sending = s })
  pub proc_lambda : (w : World) (c : ProcContents) (l : Bool) → ProcIs w c → ProcIs w (record c { lambda = l })

-- Objects: bodies of methods, and Procs.

abbrev pub MethodIs : Bodies → World → Method → Type 0
MethodIs b w (method.Body body classes) = b.BodyIs w body classes
MethodIs b w (method.Core r) = Unit {0}
MethodIs b w (method.Reader n) = Unit {0}
MethodIs b w (method.Writer n) = Unit {0}
MethodIs b w (method.Block p) = Unit {0}
MethodIs b w method.Undefined = Unit {0}

abbrev pub EntryHas : Bodies → World → ℕ × MethodEntry → Type 0
EntryHas b w e = MethodIs b w e.1.method

abbrev pub KindIs : Bodies → World → Kind → Type 0
KindIs b w kind.Plain = Unit {0}
KindIs b w (kind.Class c) = AllAre (EntryHas b w) c.methods
KindIs b w (kind.String s) = Unit {0}
KindIs b w (kind.Array a) = Unit {0}
KindIs b w (kind.Hash h) = Unit {0}
KindIs b w (kind.Range r) = Unit {0}
KindIs b w (kind.Proc c) = b.ProcIs w c
KindIs b w (kind.CoreProc r v) = Unit {0}
KindIs b w (kind.Fiber p e) = Unit {0}
KindIs b w (kind.Exception e d) = Unit {0}
KindIs b w (kind.Enumerator e) = Unit {0}
KindIs b w (kind.Yielder p) = Unit {0}

abbrev pub ObjectIs : Bodies → World → Object → Type 0
ObjectIs b w o = KindIs b w o.kind

-- Activations: the body of a class has a class or module as its self.
abbrev pub RunIs : Census → Value → Runs → Type 0
RunIs k self main_program = Unit {0}
RunIs k self method_body = Unit {0}
RunIs k self (block_body p) = Is k Proc p
RunIs k self lambda_body = Unit {0}
RunIs k self class_body = OptionIs (Is k ClassOrModule) (object_in self)
RunIs k self core_method = Unit {0}

pub record ActivationIs (w : World) (a : Activation) : Type 0 where
  pub runs : RunIs (census w.store) a.self a.runs
  pub self : IsValue (census w.store) a.self
  pub owner : OptionIs (Is (census w.store) ClassOrModule) a.owner
  pub name : OptionIs (IsSymbol (census w.store)) a.name
  pub home : IsActivation w a.home
  pub classes : IsClasses w a.classes
  pub block : OptionIs (Is (census w.store) Proc) a.block

-- the lists of classes from number n on: each is around one with a greater number
abbrev pub EnclosingAre : Census → ℕ → List Enclosing → Type 0
EnclosingAre k n [] = Unit {0}
EnclosingAre k n (e ∷ es) = Is k ClassOrModule e.class × (e.around < n) × EnclosingAre k (suc n) es

abbrev pub GlobalIs : Census → ℕ × Value → Type 0
GlobalIs k g = (g.0 < k.symbols) × IsValue k g.1

pub record Fine (b : Bodies) (w : World) : Type 0 where
  pub store : Sound w.store
  pub objects : AllAre (ObjectIs b w) w.store.objects
  pub globals : AllAre (GlobalIs (census w.store)) w.globals
  pub enclosing : EnclosingAre (census w.store) 1 w.enclosing
  pub activations : AllAre (ActivationIs w) w.activations

-- what every outcome leaves: a fine world that extends the one before it, with the output that it had
pub record Keeps (b : Bodies) (w v : World) : Type 0 where
  pub fine : Fine b v
  pub extends : Extends w v
  pub out : v.out ≡ w.out
