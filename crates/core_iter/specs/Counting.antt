-- `times`, `upto`, `downto` and `step` of an Integer, `each` and `step` of a Range (ISO/IEC 30170:2012, 15.2.8, 15.2.14):
-- numbers up to a limit, one after another.
use Rattle.std.specs.Prelude.{◌^◌, ℤ, pos, negsuc, ◌+ℤ◌, ◌-ℤ◌, int_lt, List, [], ◌∷◌, get_or, nat_lt, Bool, true, false, if◌then◌else◌, Option, Some, None, Result, Ok, Err}
use Rattle.rb_value.specs.declared.value.Value.{Value}
use Rattle.rb_value.specs.declared.value.Value.TheVariants.{Nil, Int, Obj}
use Rattle.rb_value.specs.declared.value.ObjId.{ObjId}
use Rattle.rb_value.specs.declared.kind.Kind.TheVariants as kind
use Rattle.rb_value.specs.declared.kind.RangeContents.{RangeContents}
use Rattle.rb_value.specs.declared.core_class.CoreClass.TheVariants as class
use Rattle.rb_integer.specs.Exact.{fits}
use Rattle.def_core.specs.declared.cause.Cause.{Cause}
use Rattle.def_core.specs.declared.cause.Cause.TheVariants as cause
use Rattle.def_core.specs.Store.{Store, core, next_number}
use Rattle.def_calls.specs.Views.{kind_in}
use Rattle.rb_store.specs.Held.{Held}
use Rattle.heap.specs.Made.{with_new}
use Rattle.heap.specs.Reading.{range_in}
use Rattle.core_calls.specs.Checks.{integer}
use Rattle.def_plans.specs.Plan.{Planned, refuses, wanted}
use Rattle.iter_items.specs.Checks.{and_then}
use Rattle.iter_items.specs.Sources.{first_end, last_end, are_bytes, Made}
use Rattle.run_rows.specs.declared.row.VisitRow.{VisitRow}
use Rattle.run_rows.specs.declared.row.VisitRow.TheVariants as row
use Rattle.core_iter.specs.declared.iteration.Iteration.TheVariants as state
use Rattle.core_iter.specs.declared.counting.Count.{Count}
use Rattle.core_iter.specs.Sending.{Beaten, with_one, goes_on}
use Rattle.core_iter.specs.Stage.{Stage}

-- a number, where it is one of 64 bits
abbrev pub within : ℤ → Option ℤ
within z = if fits z then Some z else None

-- a number, or a new String of the byte that it is

abbrev pub byte_shown : Held → ℤ → Made
byte_shown held (pos n) = if nat_lt n 256 then record {
  value = Obj (next_number held.store);
  held = with_new held (core class.String) (kind.String (n ∷ []));
} else record { value = Nil; held = held }
byte_shown held (negsuc n) = record { value = Nil; held = held }

abbrev pub shown : Held → ℤ → Bool → Made
shown held z true = byte_shown held z
shown held z false = record { value = Int z; held = held }

-- the next number, where it doesn't pass the last one

abbrev pub is_past : Count → ℤ → Bool
is_past c z = if int_lt (pos 0) c.by then int_lt c.last z else int_lt z c.last

abbrev pub due_by : Count → Option ℤ → Option ℤ
due_by c None = None
due_by c (Some z) = if is_past c z then None else Some z

abbrev pub due : Count → Option ℤ
due c = due_by c c.next

-- the block is called with it, and the number behind comes next, where it is one of 64 bits

abbrev pub beat_of : Count → ℤ → Made → Beaten Count
beat_of c z m =
    record { beat = Some (with_one c.block m.value); state = record c { next = within (z +ℤ c.by) }; held = m.held }

abbrev pub beat_by : Held → Count → Option ℤ → Beaten Count
beat_by held c None = record { beat = None; state = c; held = held }
beat_by held c (Some z) = beat_of c z (shown held z c.of_bytes)

abbrev pub count_beat : Held → Count → Beaten Count
count_beat held c = beat_by held c (due c)

abbrev pub count_next : Held → Count → Planned Stage
count_next held c = goes_on state.Counting c.gives (count_beat held c)

-- what is counted, or why nothing is
abbrev pub count_or : Held → Result Count Cause → Planned Stage
count_or held (Ok c) = count_next held c
count_or held (Err c) = refuses held c

-- the numbers of an Integer

abbrev pub from_to : Value → ObjId → ℤ → ℤ → ℤ → Count
from_to recv block first last by =
    record { next = Some first; last = last; by = by; of_bytes = false; block = block; gives = recv }

abbrev pub by_steps : Value → ObjId → ℤ → ℤ → ℤ → Result Count Cause
by_steps recv block first last (pos n) =
    if nat_lt 0 n then Ok (from_to recv block first last (pos n)) else Err cause.NegativeCount
by_steps recv block first last (negsuc n) = Ok (from_to recv block first last (negsuc n))

-- one less, but for the least
abbrev pub one_less : ℤ → ℤ
one_less z = if fits (z -ℤ pos 1) then z -ℤ pos 1 else z

abbrev pub integers_of : VisitRow → Store → Value → List Value → ObjId → ℤ → Result Count Cause
integers_of row.Upto st recv args block z =
    and_then (integer st (get_or args 0 Nil)) (λ last. Ok (from_to recv block z last (pos 1)))
integers_of row.Downto st recv args block z =
    and_then (integer st (get_or args 0 Nil)) (λ last. Ok (from_to recv block z last (negsuc 0)))
integers_of row.Step st recv args block z = and_then (integer st (get_or args 0 Nil))
    (λ last. and_then (integer st (get_or args 1 Nil)) (λ by. by_steps recv block z last by))
integers_of _ st recv args block z = Ok (from_to recv block (pos 0) (one_less z) (pos 1))

abbrev pub integers : VisitRow → Store → Value → List Value → ObjId → Result Count Cause
integers r st recv args block = and_then (integer st recv) (λ z. integers_of r st recv args block z)

abbrev pub begin_integers : VisitRow → Held → Value → List Value → ObjId → Planned Stage
begin_integers r held recv args block = count_or held (integers r held.store recv args block)

-- the numbers of a Range, by steps; one without its end ends before it, and where nothing is before it there are none

abbrev pub up_to_end : RangeContents → Value → ObjId → ℤ → Count
up_to_end r recv block by = record {
  next = Some (first_end r.ends);
  last = last_end r.ends;
  by = by;
  of_bytes = are_bytes r.ends;
  block = block;
  gives = recv;
}

abbrev pub before_end : Count → Option ℤ → Count
before_end c (Some last) = record c { last = last }
before_end c None = record c { next = None }

abbrev pub numbers_of : RangeContents → Value → ObjId → ℤ → Count
numbers_of r recv block by = if r.exclusive
    then before_end (up_to_end r recv block by) (within (last_end r.ends -ℤ pos 1)) else up_to_end r recv block by

abbrev pub of_range : Held → Value → (RangeContents → Planned Stage) → Planned Stage
of_range held recv further = wanted held class.Range recv (range_in (kind_in held.store.objects recv)) further

abbrev pub begin_range : Held → Value → ObjId → Planned Stage
begin_range held recv block = of_range held recv (λ r. count_next held (numbers_of r recv block (pos 1)))

abbrev pub range_by : Held → RangeContents → Value → ObjId → Result ℤ Cause → Planned Stage
range_by held r recv block (Err c) = refuses held c
range_by held r recv block (Ok by) = if int_lt (pos 0) by then count_next held (numbers_of r recv block by)
    else refuses held cause.NegativeCount

abbrev pub begin_range_step : Held → Value → List Value → ObjId → Planned Stage
begin_range_step held recv args block =
    of_range held recv (λ r. range_by held r recv block (integer held.store (get_or args 0 Nil)))
