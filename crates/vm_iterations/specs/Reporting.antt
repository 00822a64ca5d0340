-- Whether a program says what the message of an exception is that ended it.
use Rattle.std.specs.Prelude.{ℕ, ◌+◌, List, codes, Bool, true, false, not, ◌&&◌, is_none, Option, Some, None, if◌then◌else◌}
use Rattle.rb_value.specs.declared.value.Value.{Value}
use Rattle.rb_value.specs.declared.value.Value.TheVariants.{Nil, Obj}
use Rattle.rb_value.specs.declared.value.ObjId.{ObjId}
use Rattle.rb_value.specs.declared.core_class.CoreClass.TheVariants as class
use Rattle.rb_value.specs.declared.method.Method.{Method}
use Rattle.rb_value.specs.declared.method.Method.TheVariants as method
use Rattle.def_core.specs.declared.found.Found.{Found}
use Rattle.def_core.specs.Changes.{intern}
use Rattle.def_core.specs.Classes.{plain_class_of}
use Rattle.def_core.specs.Find.{same_value}
use Rattle.def_core.specs.Store.{core}
use Rattle.vm_parts.specs.Below.frames.calls.iteration as state
use Rattle.vm_parts.specs.Below.{Held}
use Rattle.vm_parts.specs.Below.operands as operands
use Rattle.vm_parts.specs.Below.views as views
use Rattle.vm_parts.specs.Beside.{Beside, with_heap}
use Rattle.vm_parts.specs.Finding.{found_for}
use Rattle.vm_parts.specs.declared.flow.End.{End}
use Rattle.vm_parts.specs.declared.flow.End.TheVariants as end
use Rattle.vm_iterations.specs.Beginning.{message_in}
use Rattle.vm_iterations.specs.Following.{waiting, waits}

-- a name is a symbol then
abbrev pub named : Held → List ℕ → Held
named h name = record h { store = (intern h.store name).store }

-- whether the program wrote the method of a value by a name

abbrev pub is_written_by : Method → Bool
is_written_by (method.Core r) = false
is_written_by method.Undefined = false
is_written_by _ = true

abbrev pub is_written_in : Option Found → Bool
is_written_in None = false
is_written_in (Some f) = is_written_by f.method

abbrev pub is_written : Held → Value → List ℕ → Bool
is_written h v name = is_written_in (found_for (named h name).store v (intern h.store name).symbol)

-- whether an exception was made with a message that is no String

abbrev pub is_no_text : Held → Value → Bool
is_no_text h v = not (same_value v Nil) && is_none (views.string_of (views.kind_in h.store.objects v))

abbrev pub has_other_message : Held → ObjId → Bool
has_other_message h e = is_no_text h (message_in h e)

-- one that ends the program with a status isn't asked
abbrev pub exits : Held → ObjId → Bool
exits h e = operands.is_in_chain h.store (plain_class_of h.store.objects (operands.own h.store (Obj e)))
    (core class.SystemExit)

-- what is told, and the heap that is left, where names are symbols

abbrev pub asked_for_text : Held → ObjId → Bool × Held
asked_for_text h e = (is_written h (Obj e) (codes "to_s"), named h (codes "to_s"))

abbrev pub asked_by_name : Held → ObjId → Bool × Held
asked_by_name h e = if is_written h (Obj e) (codes "message") then (true, named h (codes "message"))
    else asked_for_text (named h (codes "message")) e

abbrev pub says : Held → ObjId → Bool × Held
says h e = if exits h e then (false, h) else (if has_other_message h e then (true, h) else asked_by_name h e)

-- an iteration asks for it then

abbrev pub asks : Beside → ObjId → Beside
asks b e = record (waits b (waiting (b.activations + 1) (state.Reporting e))) { activations = b.activations + 1 }

abbrev pub asks_if : Bool → Beside → ObjId → Beside
asks_if true b e = asks b e
asks_if false b e = b

abbrev pub reported : Bool × Held → Beside → ObjId → Bool × Beside
reported told b e = (told.0, asks_if told.0 (with_heap b told.1) e)

abbrev pub reports : Beside → End → Bool × Beside
reports b (end.Ended n) = (false, b)
reports b (end.Uncaught e) = reported (says b.heap e) b e
