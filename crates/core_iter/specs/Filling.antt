-- `initialize` of an Array and of a Hash (ISO/IEC 30170:2012, 15.2.12, 15.2.13).
use Rattle.std.specs.Prelude.{ℕ, ◌-◌, ◌^◌, min, ℤ, pos, negsuc, List, [], ◌∷◌, get_or, slice_get, nat_lt, nat_le, if◌then◌else◌, Option, Some, None, Result, Ok, Err}
use Rattle.rb_value.specs.declared.value.Value.{Value}
use Rattle.rb_value.specs.declared.value.Value.TheVariants.{Nil, Int, Obj}
use Rattle.rb_value.specs.declared.value.ObjId.{ObjId}
use Rattle.rb_value.specs.declared.core_class.CoreClass.TheVariants as class
use Rattle.def_core.specs.declared.cause.Cause.{Cause}
use Rattle.def_core.specs.declared.cause.Cause.TheVariants as cause
use Rattle.def_core.specs.Store.{Store}
use Rattle.def_calls.specs.Views.{an_array, a_hash}
use Rattle.rb_store.specs.Held.{Held, one_more}
use Rattle.heap.specs.Changes.{pushed, with_elements, with_absent}
use Rattle.core_calls.specs.Checks.{integer}
use Rattle.def_plans.specs.Plan.{Planned, gives, refuses, wanted}
use Rattle.iter_items.specs.Checks.{and_then}
use Rattle.iter_items.specs.Sources.{repeated}
use Rattle.core_iter.specs.declared.iteration.Iteration.TheVariants as state
use Rattle.core_iter.specs.declared.filling.Filling.{Filling}
use Rattle.core_iter.specs.Sending.{Beaten, with_one, goes_on}
use Rattle.core_iter.specs.Stage.{Stage}

-- the block is called with the next place, where one is left
abbrev pub place_beat : Held → Filling → Beaten Filling
place_beat held f = if nat_le f.count f.place then record { beat = None; state = f; held = held } else record {
  beat = Some (with_one f.block (Int (pos (min f.place (2 ^ 63 - 1)))));
  state = record f { place = one_more f.place };
  held = held;
}

abbrev pub fill_next : Held → Filling → Planned Stage
fill_next held f = goes_on state.Filling (Obj f.array) (place_beat held f)

-- what it gives stands behind the elements

abbrev pub fill_then : Held → Filling → Value → Planned Stage
fill_then held f answer = fill_next (pushed held f.array answer) f

abbrev pub fill_beat : Held → Filling → Value → Beaten Filling
fill_beat held f answer = if nat_le f.count f.place then record { beat = None; state = f; held = held }
    else place_beat (pushed held f.array answer) f

-- so many times a value
abbrev pub copies : ℕ → Value → List Value
copies n v = repeated n (v ∷ [])

abbrev pub filled : Held → ObjId → ℕ → Value → Planned Stage
filled held a n v = gives (with_elements held a (copies n v)) (Obj a)

-- how many elements it shall have, at most 2^24
abbrev pub size_of : ℤ → Result ℕ Cause
size_of (pos n) = if nat_lt (2 ^ 24) n then Err cause.ArrayTooBig else Ok n
size_of (negsuc n) = Err cause.NegativeCount

abbrev pub size_in : Store → Value → Result ℕ Cause
size_in st v = and_then (integer st v) size_of

abbrev pub sized : Held → ObjId → List Value → Option ObjId → Result ℕ Cause → Planned Stage
sized held a args block (Err c) = refuses held c
sized held a args (Some p) (Ok n) =
    fill_next (with_elements held a []) (record { array = a; place = 0; count = n; block = p })
sized held a args None (Ok n) = filled held a n (get_or args 1 Nil)

abbrev pub array_by : Held → ObjId → List Value → Option ObjId → Option Value → Planned Stage
array_by held a args block None = filled held a 0 Nil
array_by held a args block (Some size) = sized held a args block (size_in held.store size)

abbrev pub begin_array : Held → Value → List Value → Option ObjId → Planned Stage
begin_array held recv args block = wanted held class.Array recv (an_array held.store.objects recv)
    (λ a. array_by held a args block (slice_get args 0))

-- what an absent key of a Hash gives
abbrev pub begin_hash : Held → Value → List Value → Option ObjId → Planned Stage
begin_hash held recv args block = wanted held class.Hash recv (a_hash held.store.objects recv)
    (λ h. gives (with_absent held h (get_or args 0 Nil) block) recv)
