-- `each`, `each_index`, `map!` and `delete_if` of an Array (ISO/IEC 30170:2012, 15.2.12), whose length is read anew each
-- time.
use Rattle.std.specs.Prelude.{ℕ, pos, ◌-◌, ◌^◌, min, List, ◌++◌, take, drop, length, slice_get, nat_lt, true, if◌then◌else◌, Option, Some, None}
use Rattle.rb_value.specs.declared.value.Value.{Value}
use Rattle.rb_value.specs.declared.value.Value.TheVariants.{Int, Obj}
use Rattle.rb_value.specs.declared.value.ObjId.{ObjId}
use Rattle.rb_value.specs.declared.core_class.CoreClass.TheVariants as class
use Rattle.rb_value.specs.Value.{is_true}
use Rattle.def_core.specs.Store.{Store}
use Rattle.def_core.specs.Parts.{elements_at}
use Rattle.def_calls.specs.Views.{an_array}
use Rattle.rb_store.specs.Held.{Held, one_more}
use Rattle.heap.specs.Changes.{with_element, with_elements}
use Rattle.def_plans.specs.Plan.{Planned, gives, wanted}
use Rattle.run_rows.specs.declared.row.VisitRow.{VisitRow}
use Rattle.run_rows.specs.declared.row.VisitRow.TheVariants as row
use Rattle.core_iter.specs.declared.iteration.Iteration.TheVariants as state
use Rattle.core_iter.specs.declared.visiting.Visit.{Visit}
use Rattle.core_iter.specs.Sending.{Beaten, with_one, call_with, goes_on}
use Rattle.core_iter.specs.Stage.{Stage, own}

abbrev pub passed : Visit → Visit
passed w = record w { place = one_more w.place }

-- the element at the place
abbrev pub element : Store → Visit → Option Value
element st w = slice_get (elements_at st.objects w.array) w.place

abbrev pub beat_by : Held → Visit → Option Value → Beaten Visit
beat_by held w None = record { beat = None; state = w; held = held }
beat_by held w (Some v) = record { beat = Some (with_one w.block v); state = passed w; held = held }

-- `each`: the block is called with the element; at the end the Array is given

abbrev pub element_beat : Held → Visit → Beaten Visit
element_beat held w = beat_by held w (element held.store w)

abbrev pub visit_next : Held → Visit → Planned Stage
visit_next held w = goes_on state.Visiting (Obj w.array) (element_beat held w)

-- `each_index`: with the number of the place, as an Integer, of which none is greater than the greatest

abbrev pub place_of : Store → Visit → Option Value
place_of st w = if nat_lt w.place (length (elements_at st.objects w.array))
    then Some (Int (pos (min w.place (2 ^ 63 - 1)))) else None

abbrev pub index_beat : Held → Visit → Beaten Visit
index_beat held w = beat_by held w (place_of held.store w)

abbrev pub index_next : Held → Visit → Planned Stage
index_next held w = goes_on state.Indexing (Obj w.array) (index_beat held w)

-- `map!`: the answer takes the place of the element

abbrev pub replace_at : Held → Visit → Option Value → Planned Stage
replace_at held w None = gives held (Obj w.array)
replace_at held w (Some v) = call_with held (own (state.Replacing w)) w.block v

abbrev pub replace_next : Held → Visit → Planned Stage
replace_next held w = replace_at held w (element held.store w)

abbrev pub replaced : Held → Visit → Value → Held
replaced held w answer = with_element held w.array w.place answer

abbrev pub replace_then : Held → Visit → Value → Planned Stage
replace_then held w answer = replace_next (replaced held w answer) (passed w)

-- in place only where there is an element behind

abbrev pub replace_by : Held → Visit → Value → Option Value → Beaten Visit
replace_by held w answer None = record { beat = None; state = w; held = held }
replace_by held w answer (Some v) =
    record { beat = Some (with_one w.block v); state = passed w; held = replaced held w answer }

abbrev pub replace_beat : Held → Visit → Value → Beaten Visit
replace_beat held w answer = replace_by held w answer (element held.store (passed w))

-- `delete_if`: the element goes where the answer is true

abbrev pub delete_at : Held → Visit → Option Value → Planned Stage
delete_at held w None = gives held (Obj w.array)
delete_at held w (Some v) = call_with held (own (state.Deleting w)) w.block v

abbrev pub delete_next : Held → Visit → Planned Stage
delete_next held w = delete_at held w (element held.store w)

-- the elements before a place and behind it
abbrev pub without : ℕ → List Value → List Value
without n vs = take n vs ++ drop (one_more n) vs

abbrev pub deleted : Held → ObjId → ℕ → Held
deleted held a n = if nat_lt n (length (elements_at held.store.objects a))
    then with_elements held a (without n (elements_at held.store.objects a)) else held

abbrev pub delete_then : Held → Visit → Value → Planned Stage
delete_then held w answer = if is_true answer then delete_next (deleted held w.array w.place) w
    else delete_next held (passed w)

-- how each of them begins
abbrev pub begun : VisitRow → Held → Visit → Planned Stage
begun row.EachIndex held w = index_next held w
begun row.MapInPlace held w = replace_next held w
begun row.DeleteElements held w = delete_next held w
begun _ held w = visit_next held w

abbrev pub begin : VisitRow → Held → Value → ObjId → Planned Stage
begin r held recv block = wanted held class.Array recv (an_array held.store.objects recv)
    (λ a. begun r held (record { array = a; place = 0; block = block }))
