-- What each method takes, gives, leaves and is refused by.
use Rattle.std.specs.Prelude.{◌≡◌, ℕ, pos, List, [], length, reverse, get_or, nat_eq, Option, Some, None, Result, Ok, Err}
use Rattle.rb_value.specs.declared.value.Value.{Value}
use Rattle.rb_value.specs.declared.value.Value.TheVariants.{Nil, Int, Obj}
use Rattle.rb_value.specs.declared.value.ObjId.{ObjId}
use Rattle.rb_value.specs.Value.{truth}
use Rattle.rb_value.specs.declared.core_class.CoreClass.TheVariants as class
use Rattle.def_core.specs.declared.cause.Cause.{Cause}
use Rattle.def_calls.specs.Views.{an_array}
use Rattle.rb_store.specs.Held.{Held}
use Rattle.heap.specs.Changes as heap
use Rattle.core_calls.specs.Checks.{miscounted}
use Rattle.rows_items.specs.Told.{and_then}
use Rattle.rows_items.specs.Checks.{refusal}
use Rattle.rows_items.specs.Made.{given, made}
use Rattle.rows_items.specs.Outcome.{Outcome, gives, refuses, outcome_of}
use Rattle.rows_items.specs.Sorting.{Sorts}
use Rattle.rows_array.specs.declared.rows.ArrayRow.{ArrayRow}
use Rattle.rows_array.specs.declared.rows.ArrayRow.TheVariants as row
use Rattle.rows_array.specs.Lists.{present}
use Rattle.rows_array.specs.Read as read
use Rattle.rows_array.specs.Changed as changed

-- at least and at most how many arguments each takes
abbrev pub arity : ArrayRow → ℕ × Option ℕ
arity row.Element = (1, Some 2)
arity row.SetElement = (2, Some 3)
arity row.At = (1, Some 1)
arity row.ValuesAt = (0, None)
arity row.Last = (0, Some 1)
arity row.Push = (0, None)
arity row.Append = (1, Some 1)
arity row.Pop = (0, Some 1)
arity row.Shift = (0, Some 1)
arity row.Unshift = (0, None)
arity row.Insert = (2, None)
arity row.Concat = (0, None)
arity row.Plus = (1, Some 1)
arity row.Length = (0, Some 0)
arity row.IsEmpty = (0, Some 0)
arity row.DeleteAt = (1, Some 1)
arity row.Reverse = (0, Some 0)
arity row.ReverseInPlace = (0, Some 0)
arity row.SortInPlace = (0, Some 0)
arity row.Rotate = (0, Some 1)
arity row.Flatten = (0, Some 0)
arity row.Compact = (0, Some 0)
arity row.Transpose = (0, Some 0)
arity row.Fill = (1, Some 1)
arity row.Clear = (0, Some 0)
arity row.Replace = (1, Some 1)

abbrev pub elements : Held → ObjId → List Value
elements held id = changed.elements held id

-- what those that only read give

abbrev pub size : Held → ObjId → Value
size held id = Int (pos (length (elements held id)))

abbrev pub is_empty : Held → ObjId → Value
is_empty held id = truth (nat_eq (length (elements held id)) 0)

abbrev pub at : Held → ObjId → Value → Result (Value × Held) Cause
at held id index = and_then (read.at held.store id index) (given held)

-- what those leave that give the Array when they have changed it

abbrev pub first : List Value → Value
first args = get_or args 0 Nil

abbrev pub left : ArrayRow → Held → ObjId → List Value → Result Held Cause
left row.Push held id args = Ok (heap.appended held id args)
left row.Append held id args = Ok (heap.pushed held id (first args))
left row.Unshift held id args = Ok (changed.unshifted_all held id args)
left row.Insert held id args = changed.insert held id args
left row.Concat held id args = changed.concat held id args
left row.ReverseInPlace held id args = Ok (changed.turned held id)
left row.Fill held id args = Ok (changed.filled held id (first args))
left row.Clear held id args = Ok (heap.with_elements held id [])
left row.Replace held id args = changed.replace held id (first args)
left _ held id args = Ok held

abbrev pub itself : ObjId → Result Held Cause → Result (Value × Held) Cause
itself id (Ok held) = Ok (Obj id, held)
itself id (Err c) = Err c

-- `sort!`: the elements in order, or why they have none

abbrev pub replaced : Held → ObjId → Result (List Value) Cause → Outcome
replaced held id (Ok vs) = gives (heap.with_elements held id vs) (Obj id)
replaced held id (Err c) = refuses held c

pub record SortsInPlace (held : Held) (id : ObjId) (o : Outcome) : Type 0 where
  pub told : Result (List Value) Cause
  pub sorts : Sorts held.store (elements held id) told
  pub is : o ≡ replaced held id told

-- what each comes to, where it takes so many arguments

abbrev pub Comes : Held → Result (Value × Held) Cause → Outcome → Type 0
Comes held defined o = outcome_of held defined ≡ o

abbrev pub Changes : ArrayRow → Held → ObjId → List Value → Outcome → Type 0
Changes r held id args o = Comes held (itself id (left r held id args)) o

abbrev pub Answers : ArrayRow → Held → ObjId → List Value → Outcome → Type 0
Answers row.Element held id args o = Comes held (read.element held id args) o
Answers row.SetElement held id args o = Comes held (changed.set_element held id args) o
Answers row.At held id args o = Comes held (at held id (first args)) o
Answers row.ValuesAt held id args o = Comes held (read.values_at held id args) o
Answers row.Last held id args o = Comes held (read.last held id args) o
Answers row.Push held id args o = Changes row.Push held id args o
Answers row.Append held id args o = Changes row.Append held id args o
Answers row.Pop held id args o = Comes held (changed.pop held id args) o
Answers row.Shift held id args o = Comes held (changed.shift held id args) o
Answers row.Unshift held id args o = Changes row.Unshift held id args o
Answers row.Insert held id args o = Changes row.Insert held id args o
Answers row.Concat held id args o = Changes row.Concat held id args o
Answers row.Plus held id args o = Comes held (read.plus held id (first args)) o
Answers row.Length held id args o = Comes held (given held (size held id)) o
Answers row.IsEmpty held id args o = Comes held (given held (is_empty held id)) o
Answers row.DeleteAt held id args o = Comes held (changed.delete_at held id (first args)) o
Answers row.Reverse held id args o = Comes held (made held (reverse (elements held id))) o
Answers row.ReverseInPlace held id args o = Changes row.ReverseInPlace held id args o
Answers row.SortInPlace held id args o = SortsInPlace held id o
Answers row.Rotate held id args o = Comes held (read.rotate held id args) o
Answers row.Flatten held id args o = Comes held (read.flatten held id) o
Answers row.Compact held id args o = Comes held (made held (present (elements held id))) o
Answers row.Transpose held id args o = Comes held (read.transpose held id) o
Answers row.Fill held id args o = Changes row.Fill held id args o
Answers row.Clear held id args o = Changes row.Clear held id args o
Answers row.Replace held id args o = Changes row.Replace held id args o

abbrev pub AnswersBy : ArrayRow → Held → Value → List Value → Option ObjId → Outcome → Type 0
AnswersBy r held recv args None o = o ≡ refuses held (refusal held.store class.Array recv)
AnswersBy r held recv args (Some id) o = Answers r held id args o

abbrev pub OnArray : ArrayRow → Held → Value → List Value → Outcome → Type 0
OnArray r held recv args o = AnswersBy r held recv args (an_array held.store.objects recv) o

abbrev pub CallsBy : ArrayRow → Held → Value → List Value → Option Cause → Outcome → Type 0
CallsBy r held recv args (Some c) o = o ≡ refuses held c
CallsBy r held recv args None o = OnArray r held recv args o

-- what a call comes to: the arguments are counted, then the receiver has to be an Array
abbrev pub Calls : ArrayRow → Held → Value → List Value → Outcome → Type 0
Calls r held recv args o = CallsBy r held recv args (miscounted (length args) (arity r).0 (arity r).1) o
