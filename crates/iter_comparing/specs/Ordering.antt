-- Comparable (ISO/IEC 30170:2012, 15.3.3): what its methods give by the program's own `<=>`.
use Rattle.std.specs.Prelude.{ℕ, ℤ, pos, int_lt, int_le, ◌&&◌, List, [], ◌∷◌, get_or, codes, Bool, true, false, if◌then◌else◌, Option, Some, None}
use Rattle.rb_value.specs.declared.value.Value.{Value}
use Rattle.rb_value.specs.declared.value.Value.TheVariants.{Nil, True, False, Int, Sym, Obj}
use Rattle.rb_value.specs.Value.{truth}
use Rattle.rb_value.specs.contracts.value.ValuePartialEq.TheImpl as derived
use Rattle.def_core.specs.declared.cause.Cause.{Cause}
use Rattle.def_core.specs.declared.cause.Cause.TheVariants as cause
use Rattle.def_core.specs.Classes.{plain_class_of}
use Rattle.rb_store.specs.Held.{Held}
use Rattle.heap.specs.Operands.{own}
use Rattle.def_plans.specs.Plan.{Planned, gives, refuses, sends_named}
use Rattle.iter_comparing.specs.declared.row.OrderRow.{OrderRow}
use Rattle.iter_comparing.specs.declared.row.OrderRow.TheVariants as row
use Rattle.iter_comparing.specs.declared.ordering.Order.{Order}
use Rattle.iter_comparing.specs.Stage.{Stage, orders}

-- whether two values are the same one
abbrev pub same_value : Value → Value → Bool
same_value = derived.ghosts.eq

-- how many arguments a method takes
abbrev pub arguments : OrderRow → ℕ
arguments row.Less = 1
arguments row.AtMost = 1
arguments row.Greater = 1
arguments row.AtLeast = 1
arguments row.Equal = 1
arguments row.Between = 2
arguments row.Clamp = 2

-- the receiver is asked how it stands to the first value, or to the second
abbrev pub other : Order → Value
other o = if o.at_second then o.second else o.first

abbrev pub ask : Held → Order → Planned Stage
ask held o = sends_named held (orders o) o.receiver (codes "<=>") (other o ∷ [])

-- What the sign of an answer comes to; nothing where the second value is asked for next.

abbrev pub is_below : ℤ → Bool
is_below z = int_lt z (pos 0)

abbrev pub is_above : ℤ → Bool
is_above z = int_lt (pos 0) z

-- from the first value up to the second
abbrev pub between : Bool → ℤ → Option Value
between true z = Some (truth (int_le z (pos 0)))
between false z = if is_below z then Some False else None

-- the first value where the receiver is below it, the second where it is above that
abbrev pub clamped : Bool → ℤ → Order → Option Value
clamped true z o = Some (if is_above z then o.second else o.receiver)
clamped false z o = if is_below z then Some o.first else None

abbrev pub told_by : OrderRow → ℤ → Order → Option Value
told_by row.Less z o = Some (truth (is_below z))
told_by row.AtMost z o = Some (truth (int_le z (pos 0)))
told_by row.Greater z o = Some (truth (is_above z))
told_by row.AtLeast z o = Some (truth (int_le (pos 0) z))
told_by row.Equal z o = Some (truth (int_le z (pos 0) && int_le (pos 0) z))
told_by row.Between z o = between o.at_second z
told_by row.Clamp z o = clamped o.at_second z o

abbrev pub told : Order → ℤ → Option Value
told o z = told_by o.row z o

abbrev pub decided : Held → Order → Option Value → Planned Stage
decided held o (Some v) = gives held v
decided held o None = ask held (record o { at_second = true })

-- an answer that is no Integer: a value isn't equal then, and can't be compared
abbrev pub incomparable : Held → Order → Planned Stage
incomparable held o = refuses held (cause.Incomparable (plain_class_of held.store.objects (own held.store o.receiver))
    (plain_class_of held.store.objects (own held.store (other o))))

abbrev pub refused_by : OrderRow → Held → Order → Planned Stage
refused_by row.Less held o = incomparable held o
refused_by row.AtMost held o = incomparable held o
refused_by row.Greater held o = incomparable held o
refused_by row.AtLeast held o = incomparable held o
refused_by row.Equal held o = gives held False
refused_by row.Between held o = incomparable held o
refused_by row.Clamp held o = incomparable held o

abbrev pub answered : Held → Order → Value → Planned Stage
answered held o Nil = refused_by o.row held o
answered held o True = refused_by o.row held o
answered held o False = refused_by o.row held o
answered held o (Int z) = decided held o (told o z)
answered held o (Sym s) = refused_by o.row held o
answered held o (Obj id) = refused_by o.row held o

-- A method begins with the first value; a value is equal to itself without a call.

abbrev pub order : OrderRow → Value → List Value → Order
order r recv args =
    record { row = r; receiver = recv; first = get_or args 0 Nil; second = get_or args 1 Nil; at_second = false }

abbrev pub is_itself : OrderRow → Value → Value → Bool
is_itself row.Less v w = false
is_itself row.AtMost v w = false
is_itself row.Greater v w = false
is_itself row.AtLeast v w = false
is_itself row.Equal v w = same_value v w
is_itself row.Between v w = false
is_itself row.Clamp v w = false

abbrev pub begun : Held → OrderRow → Value → List Value → Planned Stage
begun held r recv args = if is_itself r recv (get_or args 0 Nil) then gives held True
    else ask held (order r recv args)
