-- The first plan of each row of Enumerators and Yielders, and the next with the answer to the one before.
use Rattle.std.specs.Prelude.{ℕ, List, length, Bool, true, false, Option, Some, None}
use Rattle.rb_value.specs.declared.value.Value.{Value}
use Rattle.rb_value.specs.declared.value.Value.TheVariants.{Nil}
use Rattle.rb_value.specs.declared.value.ObjId.{ObjId}
use Rattle.rb_value.specs.Object.{Object}
use Rattle.rb_value.specs.declared.core_class.CoreClass.TheVariants as class
use Rattle.def_core.specs.declared.cause.Cause.{Cause}
use Rattle.def_core.specs.declared.cause.Cause.TheVariants as cause
use Rattle.def_calls.specs.Checks.{with_block}
use Rattle.def_calls.specs.Views.{kind_in, if_there}
use Rattle.rb_store.specs.Held.{Held}
use Rattle.heap.specs.Reading.{contents_in}
use Rattle.core_calls.specs.Checks.{miscounted}
use Rattle.def_plans.specs.Plan.{Planned, gives, refuses, unless, wanted}
use Rattle.iter_enumerators.specs.declared.row.EnumeratorRow.{EnumeratorRow}
use Rattle.iter_enumerators.specs.declared.row.EnumeratorRow.TheVariants as row
use Rattle.iter_enumerators.specs.declared.state.EnumeratorState.{EnumeratorState}
use Rattle.iter_enumerators.specs.declared.state.EnumeratorState.TheVariants as state
use Rattle.iter_enumerators.specs.Items.{next_item, take_item, rewind, end}
use Rattle.iter_enumerators.specs.Sources.{run, enumerate, put}

-- why a row can't take so many arguments
abbrev pub refused : EnumeratorRow → ℕ → Option Cause
refused row.Next n = miscounted n 0 (Some 0)
refused row.Peek n = miscounted n 0 (Some 0)
refused row.Rewind n = miscounted n 0 (Some 0)
refused row.Each n = miscounted n 0 (Some 0)
refused row.Put n = miscounted n 1 (Some 1)
refused row.Yield n = None
refused row.Enumerate n = None

-- an Enumerator that a value is
abbrev pub an_enumerator : List Object → Value → Option ObjId
an_enumerator objects v = if_there (contents_in (kind_in objects v)) v

abbrev pub of_enumerator : Held → Value → (ObjId → Planned EnumeratorState) → Planned EnumeratorState
of_enumerator held v = wanted held class.Enumerator v (an_enumerator held.store.objects v)

-- `each`
abbrev pub each : Held → Option ObjId → ObjId → Planned EnumeratorState
each held block e = with_block (refuses held) block (λ p. run held state.Hands e p)

-- a method of an Enumerator; those of a Yielder give nil
abbrev pub of_it : EnumeratorRow → Held → Option ObjId → ObjId → Planned EnumeratorState
of_it row.Next held block e = next_item held e true
of_it row.Peek held block e = next_item held e false
of_it row.Rewind held block e = rewind held e
of_it row.Each held block e = each held block e
of_it row.Enumerate held block e = enumerate held e
of_it row.Put held block e = gives held Nil
of_it row.Yield held block e = gives held Nil

abbrev pub counted : EnumeratorRow → Held → Value → List Value → Option ObjId → Planned EnumeratorState
counted row.Next held recv args block = of_enumerator held recv (of_it row.Next held block)
counted row.Peek held recv args block = of_enumerator held recv (of_it row.Peek held block)
counted row.Rewind held recv args block = of_enumerator held recv (of_it row.Rewind held block)
counted row.Each held recv args block = of_enumerator held recv (of_it row.Each held block)
counted row.Enumerate held recv args block = of_enumerator held recv (of_it row.Enumerate held block)
counted row.Put held recv args block = put held (state.Gives recv) recv args
counted row.Yield held recv args block = put held state.Hands recv args

abbrev pub start : EnumeratorRow → Held → Value → List Value → Option ObjId → Planned EnumeratorState
start row held recv args block = unless held (refused row (length args)) (counted row held recv args block)

abbrev pub next : Held → EnumeratorState → Value → Planned EnumeratorState
next held (state.Waits e fiber leaves) v = take_item held e fiber leaves v
next held (state.Runs e fiber) v = end held e fiber v
next held state.Hands v = gives held v
next held (state.Gives w) v = gives held w
