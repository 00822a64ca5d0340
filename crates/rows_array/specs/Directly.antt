-- What is done straight on, without a call: nothing is given of any other method, receiver or arguments.
use Rattle.std.specs.Prelude.{ℤ, pos, negsuc, List, [], ◌∷◌, length, nat_lt, if◌then◌else◌, Option, Some, None}
use Rattle.rb_value.specs.declared.value.Value.{Value}
use Rattle.rb_value.specs.declared.value.Value.TheVariants.{Int}
use Rattle.rb_value.specs.declared.value.ObjId.{ObjId}
use Rattle.def_calls.specs.Views.{an_array, integer_in}
use Rattle.def_calls.specs.Values.{element_at}
use Rattle.rb_store.specs.Held.{Held}
use Rattle.heap.specs.Changes as heap
use Rattle.rows_array.specs.declared.rows.ArrayRow.{ArrayRow}
use Rattle.rows_array.specs.declared.rows.ArrayRow.TheVariants as row
use Rattle.rows_array.specs.Changed.{elements}

-- a value in the place of the element at an index that counts from the front, where there is one
abbrev pub put_in_place : Held → ObjId → ℤ → Value → Option Value × Held
put_in_place held id (pos n) v = if nat_lt n (length (elements held id))
    then (Some v, heap.with_element held id n v) else (None, held)
put_in_place held id (negsuc n) v = (None, held)

abbrev pub element_by : Held → ObjId → Option ℤ → Option Value × Held
element_by held id None = (None, held)
element_by held id (Some i) = (Some (element_at (elements held id) i), held)

abbrev pub put_by : Held → ObjId → Option ℤ → Value → Option Value × Held
put_by held id None v = (None, held)
put_by held id (Some i) v = put_in_place held id i v

abbrev pub element : Held → ObjId → List Value → Option Value × Held
element held id [] = (None, held)
element held id (i ∷ []) = element_by held id (integer_in i)
element held id (i ∷ v ∷ rest) = (None, held)

abbrev pub set_element : Held → ObjId → List Value → Option Value × Held
set_element held id [] = (None, held)
set_element held id (i ∷ []) = (None, held)
set_element held id (i ∷ v ∷ []) = put_by held id (integer_in i) v
set_element held id (i ∷ v ∷ w ∷ rest) = (None, held)

abbrev pub count : Held → ObjId → List Value → Option Value × Held
count held id [] = (Some (Int (pos (length (elements held id)))), held)
count held id (v ∷ rest) = (None, held)

abbrev pub append : Held → ObjId → Value → List Value → Option Value × Held
append held id recv [] = (None, held)
append held id recv (v ∷ []) = (Some recv, heap.pushed held id v)
append held id recv (v ∷ w ∷ rest) = (None, held)

abbrev pub directly : ArrayRow → Held → ObjId → Value → List Value → Option Value × Held
directly row.Element held id recv args = element held id args
directly row.SetElement held id recv args = set_element held id args
directly row.Length held id recv args = count held id args
directly row.Append held id recv args = append held id recv args
directly row.At held id recv args = (None, held)
directly row.ValuesAt held id recv args = (None, held)
directly row.Last held id recv args = (None, held)
directly row.Push held id recv args = (None, held)
directly row.Pop held id recv args = (None, held)
directly row.Shift held id recv args = (None, held)
directly row.Unshift held id recv args = (None, held)
directly row.Insert held id recv args = (None, held)
directly row.Concat held id recv args = (None, held)
directly row.Plus held id recv args = (None, held)
directly row.IsEmpty held id recv args = (None, held)
directly row.DeleteAt held id recv args = (None, held)
directly row.Reverse held id recv args = (None, held)
directly row.ReverseInPlace held id recv args = (None, held)
directly row.SortInPlace held id recv args = (None, held)
directly row.Rotate held id recv args = (None, held)
directly row.Flatten held id recv args = (None, held)
directly row.Compact held id recv args = (None, held)
directly row.Transpose held id recv args = (None, held)
directly row.Fill held id recv args = (None, held)
directly row.Clear held id recv args = (None, held)
directly row.Replace held id recv args = (None, held)

abbrev pub directly_at : ArrayRow → Held → Option ObjId → Value → List Value → Option Value × Held
directly_at row held None recv args = (None, held)
directly_at row held (Some id) recv args = directly row held id recv args

abbrev pub given : ArrayRow → Held → Value → List Value → Option Value × Held
given row held recv args = directly_at row held (an_array held.store.objects recv) recv args
