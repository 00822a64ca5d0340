-- `puts`, `print` and `p` (ISO/IEC 30170:2012, 15.3.1; `p` is an addition).
use Rattle.std.specs.Prelude.{ℕ, ◌-◌, List, [], ◌∷◌, ◌++◌, length, slice_get, codes, nat_eq, Bool, false, if◌then◌else◌, Option, Some, None}
use Rattle.rb_value.specs.declared.value.Value.{Value}
use Rattle.rb_value.specs.declared.value.Value.TheVariants.{Nil}
use Rattle.def_core.specs.declared.cause.Cause.TheVariants as cause
use Rattle.def_core.specs.Store.{Store}
use Rattle.def_calls.specs.Values.{text_of_value}
use Rattle.rb_store.specs.Held.{Held, one_more}
use Rattle.heap.specs.Operands.{own as own_value}
use Rattle.heap.specs.Made.{array_given, with_array}
use Rattle.core_calls.specs.Flat.{flattened}
use Rattle.core_calls.specs.declared.flattening.Empty.TheVariants.{Vanishes}
use Rattle.def_plans.specs.Plan.{Planned, writes, gives, refuses}
use Rattle.core_iter.specs.declared.iteration.Iteration.{Iteration}
use Rattle.core_iter.specs.declared.iteration.Iteration.TheVariants as state
use Rattle.core_iter.specs.declared.iteration.Rest.{Rest}
use Rattle.core_iter.specs.Sending.{ask}
use Rattle.core_iter.specs.Stage.{Stage, own}

-- the first value that is left, which is passed

abbrev pub first : Rest → Option Value
first r = slice_get r.values r.place

abbrev pub passed_by : Rest → Option Value → Rest
passed_by r None = r
passed_by r (Some v) = record r { place = one_more r.place }

abbrev pub passed : Rest → Rest
passed r = passed_by r (first r)

abbrev pub all_of : List Value → Rest
all_of vs = record { values = vs; place = 0 }

abbrev pub writing : Held → Iteration → List ℕ → Planned Stage
writing held stage bytes = record { plan = writes (own stage) bytes; held = held }

abbrev pub bytes_of : Store → Value → List ℕ
bytes_of st v = text_of_value st (own_value st v)

-- `puts`: nil is an empty line, and any other value is asked for its text, which ends with one newline

abbrev pub newline : ℕ
newline = 10

abbrev pub empty_line : Held → Rest → Planned Stage
empty_line held r = writing held (state.Putting r) (newline ∷ [])

abbrev pub put_value : Held → Rest → Value → Planned Stage
put_value held r Nil = empty_line held r
put_value held r v = ask held (own (state.PuttingText r)) v (codes "to_s")

abbrev pub put_by : Held → Rest → Option Value → Planned Stage
put_by held r None = gives held Nil
put_by held r (Some v) = put_value held (record r { place = one_more r.place }) v

abbrev pub put_next : Held → Rest → Planned Stage
put_next held r = put_by held r (first r)

-- whether a line is whole by its last byte

abbrev pub is_newline : Option ℕ → Bool
is_newline None = false
is_newline (Some b) = nat_eq b newline

abbrev pub line : List ℕ → List ℕ
line bytes = if is_newline (slice_get bytes (length bytes - 1)) then bytes else bytes ++ newline ∷ []

abbrev pub put_text : Held → Rest → Value → Planned Stage
put_text held r v = writing held (state.Putting r) (line (bytes_of held.store v))

-- `print`

abbrev pub print_by : Held → Rest → Option Value → Planned Stage
print_by held r None = gives held Nil
print_by held r (Some v) =
    ask held (own (state.PrintingText (record r { place = one_more r.place }))) v (codes "to_s")

abbrev pub print_next : Held → Rest → Planned Stage
print_next held r = print_by held r (first r)

abbrev pub print_text : Held → Rest → Value → Planned Stage
print_text held r v = writing held (state.Printing r) (bytes_of held.store v)

-- `p`: nil, the argument, or an Array of the arguments is given

abbrev pub give_all : Held → List Value → Planned Stage
give_all held [] = gives held Nil
give_all held (v ∷ []) = gives held v
give_all held (v ∷ u ∷ vs) = gives (with_array held (v ∷ u ∷ vs)) (array_given held.store (v ∷ u ∷ vs))

abbrev pub inspect_by : Held → Rest → Option Value → Planned Stage
inspect_by held r None = give_all held r.values
inspect_by held r (Some v) =
    ask held (own (state.InspectingText (record r { place = one_more r.place }))) v (codes "inspect")

abbrev pub inspect_next : Held → Rest → Planned Stage
inspect_next held r = inspect_by held r (first r)

abbrev pub inspect_text : Held → Rest → Value → Planned Stage
inspect_text held r v = writing held (state.Inspecting r) (bytes_of held.store v ++ newline ∷ [])

-- `puts` of the elements of its arguments; without arguments an empty line is written

abbrev pub put_each : Held → Option (List Value) → Planned Stage
put_each held None = refuses held cause.StackTooDeep
put_each held (Some vs) = put_next held (all_of vs)

abbrev pub put_all : Held → List Value → Planned Stage
put_all held [] = empty_line held (all_of [])
put_all held (v ∷ vs) = put_each held (flattened Vanishes held.store (v ∷ vs))
