-- The methods by the segments of their classes and their names.
use Rattle.std.specs.Prelude.{ℕ, List, [], ◌∷◌, codes, nat_eq, if◌then◌else◌}
use Rattle.rows_object.specs.declared.row.ObjectRow.{ObjectRow}
use Rattle.rows_object.specs.declared.row.ObjectRow.TheVariants as row

unfoldable pub object_rows : List (List ℕ × ObjectRow)
object_rows =
    (codes "initialize", row.Initialize) ∷
    (codes "method_missing", row.MethodMissing) ∷
    (codes "to_s", row.ToText) ∷
    (codes "inspect", row.ToText) ∷
    (codes "==", row.Same) ∷
    (codes "equal?", row.Same) ∷
    (codes "!", row.Negation) ∷
    (codes "<=>", row.Order) ∷
    (codes "class", row.ClassOf) ∷
    (codes "singleton_class", row.SingletonClass) ∷
    (codes "extend", row.Extend) ∷
    (codes "is_a?", row.IsA) ∷
    (codes "kind_of?", row.IsA) ∷
    (codes "instance_of?", row.IsInstance) ∷
    (codes "nil?", row.IsNil) ∷
    (codes "respond_to?", row.RespondsTo) ∷
    (codes "dup", row.Copy) ∷
    (codes "clone", row.Copy) ∷
    (codes "freeze", row.Itself) ∷
    (codes "instance_variable_get", row.Variable) ∷
    (codes "instance_variable_set", row.SetVariable) ∷
    (codes "instance_variables", row.Variables) ∷
    (codes "to_enum", row.ToEnumerator) ∷
    (codes "enum_for", row.ToEnumerator) ∷
    []

unfoldable pub kernel_rows : List (List ℕ × ObjectRow)
kernel_rows =
    (codes "exit", row.Exit) ∷
    (codes "proc", row.BlockAsProc) ∷
    (codes "lambda", row.BlockAsLambda) ∷
    (codes "Integer", row.ToInteger) ∷
    []

unfoldable pub string_rows : List (List ℕ × ObjectRow)
string_rows =
    (codes "initialize", row.InitializeString) ∷
    []

unfoldable pub symbol_rows : List (List ℕ × ObjectRow)
symbol_rows =
    (codes "to_proc", row.SymbolAsProc) ∷
    []

unfoldable pub proc_rows : List (List ℕ × ObjectRow)
proc_rows =
    (codes "arity", row.Arity) ∷
    (codes "lambda?", row.IsLambda) ∷
    (codes "to_proc", row.Itself) ∷
    []

unfoldable pub proc_class_rows : List (List ℕ × ObjectRow)
proc_class_rows =
    (codes "new", row.BlockAsProc) ∷
    []

unfoldable pub fiber_rows : List (List ℕ × ObjectRow)
fiber_rows =
    (codes "alive?", row.IsAlive) ∷
    []

unfoldable pub fiber_class_rows : List (List ℕ × ObjectRow)
fiber_class_rows =
    (codes "new", row.NewFiber) ∷
    []

unfoldable pub enumerator_class_rows : List (List ℕ × ObjectRow)
enumerator_class_rows =
    (codes "new", row.NewEnumerator) ∷
    []

unfoldable pub exception_rows : List (List ℕ × ObjectRow)
exception_rows =
    (codes "initialize", row.InitializeException) ∷
    (codes "to_s", row.MessageText) ∷
    []

unfoldable pub system_exit_rows : List (List ℕ × ObjectRow)
system_exit_rows =
    (codes "status", row.ExitStatus) ∷
    []

unfoldable pub stop_iteration_rows : List (List ℕ × ObjectRow)
stop_iteration_rows =
    (codes "result", row.StopResult) ∷
    []

unfoldable pub name_error_rows : List (List ℕ × ObjectRow)
name_error_rows =
    (codes "name", row.ErrorName) ∷
    []

-- those of a segment
abbrev pub rows : ℕ → List (List ℕ × ObjectRow)
rows s = if nat_eq s 0 then object_rows
    else (if nat_eq s 2 then kernel_rows
    else (if nat_eq s 22 then string_rows
    else (if nat_eq s 24 then symbol_rows
    else (if nat_eq s 32 then proc_rows
    else (if nat_eq s 33 then proc_class_rows
    else (if nat_eq s 34 then fiber_rows
    else (if nat_eq s 35 then fiber_class_rows
    else (if nat_eq s 37 then enumerator_class_rows
    else (if nat_eq s 40 then exception_rows
    else (if nat_eq s 46 then system_exit_rows
    else (if nat_eq s 60 then stop_iteration_rows
    else (if nat_eq s 64 then name_error_rows
    else ([])))))))))))))
