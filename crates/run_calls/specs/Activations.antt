-- The activations of bodies: that of a Proc's body, and what is left when one ends.
use Rattle.std.specs.Prelude.{ℕ, Bool, Option, Some, None, if◌then◌else◌}
use Rattle.rb_value.specs.declared.value.Value.{Value}
use Rattle.rb_value.specs.declared.value.Value.TheVariants.{Nil, True, False, Int, Sym, Obj}
use Rattle.rb_value.specs.declared.value.ObjId.{ObjId}
use Rattle.rb_value.specs.declared.value.SymId.{SymId}
use Rattle.rb_value.specs.declared.method.Visibility.TheVariants.{Public}
use Rattle.rb_value.specs.declared.procs.ProcContents.{ProcContents}
use Rattle.def_core.specs.declared.bound.BindKind.{BindKind}
use Rattle.def_core.specs.declared.bound.BindKind.TheVariants as bind
use Rattle.def_core.specs.Store.{Store}
use Rattle.heap.specs.Changes.{with_default}
pub use Rattle.core_iter.specs.Rows.{caught}
use Rattle.run_calls.specs.declared.activation.Activation.{Activation}
use Rattle.run_calls.specs.declared.activation.Runs.{Runs}
use Rattle.run_calls.specs.declared.activation.Runs.TheVariants as runs

-- an activation of no text, whose `self` is nil
abbrev pub outside : Activation
outside = record {
  runs = runs.MainProgram;
  receiver = Nil;
  owner = None;
  name = None;
  home = 0;
  classes = 0;
  block = None;
}

-- the activation of a method's body
abbrev pub method_running : ObjId → ℕ → SymId → Value → Option ObjId → ℕ → Activation
method_running owner classes name receiver block next = record {
  runs = runs.MethodBody;
  receiver = receiver;
  owner = Some owner;
  name = Some name;
  home = next;
  classes = classes;
  block = block;
}

-- that of the body of a class or module, with the list of classes around its text
abbrev pub space_running : Activation → ObjId → ℕ → Activation
space_running caller class classes = record {
  runs = runs.ClassBody;
  receiver = Obj class;
  owner = None;
  name = None;
  home = caller.home;
  classes = classes;
  block = None;
}

-- the activation of a Proc's body: that of a lambda is the home of its returns itself
abbrev pub proc_running : ObjId → ProcContents → ℕ → Activation
proc_running id c next = record {
  runs = if c.lambda then runs.LambdaBody else runs.BlockBody id;
  receiver = c.receiver;
  owner = c.owner;
  name = c.name;
  home = if c.lambda then next else c.home;
  classes = c.classes;
  block = c.block;
}

-- how the arguments of a Proc are bound
abbrev pub proc_binds : Bool → BindKind
proc_binds lambda = if lambda then bind.Lambda else bind.Proc

-- after the body of a class or module its next methods are public

abbrev pub space_closed : Store → Value → Store
space_closed st Nil = st
space_closed st True = st
space_closed st False = st
space_closed st (Int n) = st
space_closed st (Sym s) = st
space_closed st (Obj k) = with_default st k Public

abbrev pub closed_by : Runs → Store → Value → Store
closed_by runs.MainProgram st self = st
closed_by runs.MethodBody st self = st
closed_by (runs.BlockBody b) st self = st
closed_by runs.LambdaBody st self = st
closed_by runs.ClassBody st self = space_closed st self

-- an activation ends
abbrev pub closed : Store → Activation → Store
closed st a = closed_by a.runs st a.receiver
