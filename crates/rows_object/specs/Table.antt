-- What each of the methods takes, and what it gives and leaves: first the arguments are counted, then a block is missed,
-- then the receiver and the arguments are looked at, left to right.
use Rattle.std.specs.Prelude.{ℕ, List, length, get_or, Bool, true, false, not, ◌&&◌, if◌then◌else◌, Option, Some, None, is_some}
use Rattle.rb_value.specs.declared.value.Value.{Value}
use Rattle.rb_value.specs.declared.value.Value.TheVariants.{Nil, Obj}
use Rattle.rb_value.specs.declared.value.ObjId.{ObjId}
use Rattle.rb_value.specs.Value.{truth, is_true}
use Rattle.def_core.specs.declared.cause.Cause.{Cause}
use Rattle.def_core.specs.declared.cause.Cause.TheVariants as cause
use Rattle.def_calls.specs.Definitions as definitions
use Rattle.def_calls.specs.World.{World, Answer, give, give_in}
use Rattle.core_calls.specs.Checks.{miscounted}
use Rattle.heap.specs.Copies.{copied, copy_of}
use Rattle.heap.specs.Operands.{own}
use Rattle.rows_object.specs.declared.row.ObjectRow.{ObjectRow}
use Rattle.rows_object.specs.declared.row.ObjectRow.TheVariants as row
use Rattle.rows_object.specs.Follows.{by_store, raise}
use Rattle.rows_object.specs.Enumerators as enumerators
use Rattle.rows_object.specs.Exceptions as exceptions
use Rattle.rows_object.specs.Numbers as numbers
use Rattle.rows_object.specs.Procs as procs
use Rattle.rows_object.specs.Rows as rows
use Rattle.rows_object.specs.Variables as variables

-- How many arguments each takes, at least and at most.
abbrev pub counts : ObjectRow → ℕ × Option ℕ
counts row.Initialize = (0, Some 0)
counts row.MethodMissing = (1, None)
counts row.ToText = (0, Some 0)
counts row.Same = (1, Some 1)
counts row.Negation = (0, Some 0)
counts row.Order = (1, Some 1)
counts row.ClassOf = (0, Some 0)
counts row.SingletonClass = (0, Some 0)
counts row.Extend = (1, Some 1)
counts row.IsA = (1, Some 1)
counts row.IsInstance = (1, Some 1)
counts row.IsNil = (0, Some 0)
counts row.RespondsTo = (1, Some 1)
counts row.Copy = (0, Some 0)
counts row.Itself = (0, Some 0)
counts row.Variable = (1, Some 1)
counts row.SetVariable = (2, Some 2)
counts row.Variables = (0, Some 0)
counts row.ToEnumerator = (0, None)
counts row.Exit = (0, Some 1)
counts row.BlockAsProc = (0, Some 0)
counts row.BlockAsLambda = (0, Some 0)
counts row.ToInteger = (1, Some 1)
counts row.Arity = (0, Some 0)
counts row.IsLambda = (0, Some 0)
counts row.SymbolAsProc = (0, Some 0)
counts row.InitializeString = (0, Some 1)
counts row.InitializeException = (0, Some 1)
counts row.MessageText = (0, Some 0)
counts row.ErrorName = (0, Some 0)
counts row.ExitStatus = (0, Some 0)
counts row.StopResult = (0, Some 0)
counts row.NewFiber = (0, Some 0)
counts row.IsAlive = (0, Some 0)
counts row.NewEnumerator = (0, Some 0)

abbrev pub wants_block : ObjectRow → Bool
wants_block row.Initialize = false
wants_block row.MethodMissing = false
wants_block row.ToText = false
wants_block row.Same = false
wants_block row.Negation = false
wants_block row.Order = false
wants_block row.ClassOf = false
wants_block row.SingletonClass = false
wants_block row.Extend = false
wants_block row.IsA = false
wants_block row.IsInstance = false
wants_block row.IsNil = false
wants_block row.RespondsTo = false
wants_block row.Copy = false
wants_block row.Itself = false
wants_block row.Variable = false
wants_block row.SetVariable = false
wants_block row.Variables = false
wants_block row.ToEnumerator = false
wants_block row.Exit = false
wants_block row.BlockAsProc = true
wants_block row.BlockAsLambda = true
wants_block row.ToInteger = false
wants_block row.Arity = false
wants_block row.IsLambda = false
wants_block row.SymbolAsProc = false
wants_block row.InitializeString = false
wants_block row.InitializeException = false
wants_block row.MessageText = false
wants_block row.ErrorName = false
wants_block row.ExitStatus = false
wants_block row.StopResult = false
wants_block row.NewFiber = true
wants_block row.IsAlive = false
wants_block row.NewEnumerator = true

-- What each gives.

abbrev pub first : List Value → Value
first args = get_or args 0 Nil

abbrev pub second : List Value → Value
second args = get_or args 1 Nil

abbrev pub giving : Value → World → Answer
giving v w = give w v

-- what a block becomes
abbrev pub of_block : ObjectRow → Value → ObjId → World → Answer
of_block row.Initialize v block = giving (Obj block)
of_block row.MethodMissing v block = giving (Obj block)
of_block row.ToText v block = giving (Obj block)
of_block row.Same v block = giving (Obj block)
of_block row.Negation v block = giving (Obj block)
of_block row.Order v block = giving (Obj block)
of_block row.ClassOf v block = giving (Obj block)
of_block row.SingletonClass v block = giving (Obj block)
of_block row.Extend v block = giving (Obj block)
of_block row.IsA v block = giving (Obj block)
of_block row.IsInstance v block = giving (Obj block)
of_block row.IsNil v block = giving (Obj block)
of_block row.RespondsTo v block = giving (Obj block)
of_block row.Copy v block = giving (Obj block)
of_block row.Itself v block = giving (Obj block)
of_block row.Variable v block = giving (Obj block)
of_block row.SetVariable v block = giving (Obj block)
of_block row.Variables v block = giving (Obj block)
of_block row.ToEnumerator v block = giving (Obj block)
of_block row.Exit v block = giving (Obj block)
of_block row.BlockAsProc v block = giving (Obj block)
of_block row.BlockAsLambda v block = by_store (procs.as_lambda block)
of_block row.ToInteger v block = giving (Obj block)
of_block row.Arity v block = giving (Obj block)
of_block row.IsLambda v block = giving (Obj block)
of_block row.SymbolAsProc v block = giving (Obj block)
of_block row.InitializeString v block = giving (Obj block)
of_block row.InitializeException v block = giving (Obj block)
of_block row.MessageText v block = giving (Obj block)
of_block row.ErrorName v block = giving (Obj block)
of_block row.ExitStatus v block = giving (Obj block)
of_block row.StopResult v block = giving (Obj block)
of_block row.NewFiber v block = by_store (procs.new_fiber v block)
of_block row.IsAlive v block = giving (Obj block)
of_block row.NewEnumerator v block = enumerators.of_block v block

abbrev pub of_any_block : ObjectRow → Value → Option ObjId → World → Answer
of_any_block row v None = giving Nil
of_any_block row v (Some block) = of_block row v block

-- methods of exceptions, fibers, Procs, Strings and Symbols, and those that take a block
abbrev pub of_sort : ObjectRow → Value → List Value → Option ObjId → World → Answer
of_sort row.Initialize v args block = of_any_block row.Initialize v block
of_sort row.MethodMissing v args block = of_any_block row.MethodMissing v block
of_sort row.ToText v args block = of_any_block row.ToText v block
of_sort row.Same v args block = of_any_block row.Same v block
of_sort row.Negation v args block = of_any_block row.Negation v block
of_sort row.Order v args block = of_any_block row.Order v block
of_sort row.ClassOf v args block = of_any_block row.ClassOf v block
of_sort row.SingletonClass v args block = of_any_block row.SingletonClass v block
of_sort row.Extend v args block = of_any_block row.Extend v block
of_sort row.IsA v args block = of_any_block row.IsA v block
of_sort row.IsInstance v args block = of_any_block row.IsInstance v block
of_sort row.IsNil v args block = of_any_block row.IsNil v block
of_sort row.RespondsTo v args block = of_any_block row.RespondsTo v block
of_sort row.Copy v args block = of_any_block row.Copy v block
of_sort row.Itself v args block = of_any_block row.Itself v block
of_sort row.Variable v args block = of_any_block row.Variable v block
of_sort row.SetVariable v args block = of_any_block row.SetVariable v block
of_sort row.Variables v args block = of_any_block row.Variables v block
of_sort row.ToEnumerator v args block = of_any_block row.ToEnumerator v block
of_sort row.Exit v args block = of_any_block row.Exit v block
of_sort row.BlockAsProc v args block = of_any_block row.BlockAsProc v block
of_sort row.BlockAsLambda v args block = of_any_block row.BlockAsLambda v block
of_sort row.ToInteger v args block = of_any_block row.ToInteger v block
of_sort row.Arity v args block = by_store (procs.arity v)
of_sort row.IsLambda v args block = by_store (rows.is_lambda v)
of_sort row.SymbolAsProc v args block = by_store (procs.symbol_as_proc v)
of_sort row.InitializeString v args block = by_store (procs.initialize_string v args)
of_sort row.InitializeException v args block = by_store (exceptions.initialize v (first args))
of_sort row.MessageText v args block = by_store (exceptions.message_text v)
of_sort row.ErrorName v args block = by_store (exceptions.detail v)
of_sort row.ExitStatus v args block = by_store (exceptions.status v)
of_sort row.StopResult v args block = by_store (exceptions.detail v)
of_sort row.NewFiber v args block = of_any_block row.NewFiber v block
of_sort row.IsAlive v args block = by_store (rows.is_alive v)
of_sort row.NewEnumerator v args block = of_any_block row.NewEnumerator v block

abbrev pub counted : ObjectRow → Value → List Value → Option ObjId → World → Answer
counted row.Initialize v args block = giving Nil
counted row.MethodMissing v args block = rows.method_missing v (first args)
counted row.ToText v args block = by_store (rows.text v)
counted row.Same v args block = giving (rows.same v (first args))
counted row.Negation v args block = giving (truth (not (is_true v)))
counted row.Order v args block = giving (rows.order v (first args))
counted row.ClassOf v args block = λ w. give w (rows.class_of_object w.store v)
counted row.SingletonClass v args block = λ w. definitions.singleton_class w (own w.store v)
counted row.Extend v args block = rows.extend v (first args)
counted row.IsA v args block = by_store (rows.is_a v (first args))
counted row.IsInstance v args block = by_store (rows.is_instance v (first args))
counted row.IsNil v args block = giving (rows.same v Nil)
counted row.RespondsTo v args block = rows.responds_to v (first args)
counted row.Copy v args block = λ w. give_in w (copied w.store v) (copy_of w.store v)
counted row.Itself v args block = giving v
counted row.Variable v args block = variables.get v (first args)
counted row.SetVariable v args block = variables.set v (first args) (second args)
counted row.Variables v args block = variables.names v
counted row.ToEnumerator v args block = enumerators.of_call v args
counted row.Exit v args block = by_store (rows.exit args)
counted row.BlockAsProc v args block = of_sort row.BlockAsProc v args block
counted row.BlockAsLambda v args block = of_sort row.BlockAsLambda v args block
counted row.ToInteger v args block = numbers.to_integer (first args)
counted row.Arity v args block = of_sort row.Arity v args block
counted row.IsLambda v args block = of_sort row.IsLambda v args block
counted row.SymbolAsProc v args block = of_sort row.SymbolAsProc v args block
counted row.InitializeString v args block = of_sort row.InitializeString v args block
counted row.InitializeException v args block = of_sort row.InitializeException v args block
counted row.MessageText v args block = of_sort row.MessageText v args block
counted row.ErrorName v args block = of_sort row.ErrorName v args block
counted row.ExitStatus v args block = of_sort row.ExitStatus v args block
counted row.StopResult v args block = of_sort row.StopResult v args block
counted row.NewFiber v args block = of_sort row.NewFiber v args block
counted row.IsAlive v args block = of_sort row.IsAlive v args block
counted row.NewEnumerator v args block = of_sort row.NewEnumerator v args block

abbrev pub unless_refused : ObjectRow → Value → List Value → Option ObjId → Option Cause → World → Answer
unless_refused row v args block (Some c) = raise c
unless_refused row v args block None = if wants_block row && not (is_some block) then raise cause.NoBlockGiven
    else counted row v args block

abbrev pub called : ObjectRow → Value → List Value → Option ObjId → World → Answer
called row v args block =
    unless_refused row v args block (miscounted (length args) (counts row).0 (counts row).1)
