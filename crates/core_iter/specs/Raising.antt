-- `raise` (ISO/IEC 30170:2012, 15.3.1).
use Rattle.std.specs.Prelude.{◌≡◌, List, [], ◌∷◌, codes, Option, Some, None}
use Rattle.rb_value.specs.declared.value.Value.{Value}
use Rattle.rb_value.specs.declared.value.Value.TheVariants.{Nil}
use Rattle.rb_value.specs.declared.value.ObjId.{ObjId}
use Rattle.rb_value.specs.declared.kind.Sort.{Sort}
use Rattle.rb_value.specs.declared.kind.Sort.TheVariants as sort
use Rattle.rb_value.specs.declared.core_class.CoreClass.TheVariants as class
use Rattle.def_core.specs.declared.cause.Cause.TheVariants as cause
use Rattle.def_core.specs.Store.{core, next_number}
use Rattle.def_calls.specs.Views.{an_exception}
use Rattle.rb_store.specs.Held.{Held}
use Rattle.heap.specs.Changes.{with_message}
use Rattle.heap.specs.Copies.{copy_left, copy_of}
use Rattle.heap.specs.Made.{with_exception}
use Rattle.heap.specs.Reading.{sort_of_value}
use Rattle.def_plans.specs.Plan.{Planned, raises, refuses}
use Rattle.core_iter.specs.declared.iteration.Iteration.TheVariants as state
use Rattle.core_iter.specs.Sending.{send_named}
use Rattle.core_iter.specs.Stage.{Stage, own}

abbrev pub raising : Held → ObjId → Planned Stage
raising held e = record { plan = raises e; held = held }

-- an exception, such as a class made
abbrev pub made_by : Held → Option ObjId → Planned Stage
made_by held (Some e) = raising held e
made_by held None = refuses held cause.NotException

abbrev pub made : Held → Value → Planned Stage
made held v = made_by held (an_exception held.store.objects v)

-- a RuntimeError with that message
abbrev pub text : Held → Value → Planned Stage
text held v = raising (with_exception held (core class.RuntimeError) v Nil) (next_number held.store)

-- a copy of an exception with another message

abbrev pub again_by : Held → Option ObjId → Value → Planned Stage
again_by held (Some e) message = raising (with_message held e message) e
again_by held None message = refuses held cause.NotException

abbrev pub again : Held → Value → Value → Planned Stage
again held v message = again_by (copy_left held v)
    (an_exception (copy_left held v).store.objects (copy_of held.store v)) message

-- An exception, or a String.
abbrev pub Object : Held → Value → Option Sort → List Value → Planned Stage → Type 0
Object held v (Some sort.Exception) [] p = p ≡ made held v
Object held v (Some sort.Exception) (m ∷ []) p = p ≡ again held v m
Object held v (Some sort.Exception) (m ∷ d ∷ more) p = p ≡ refuses held cause.NotException
Object held v (Some sort.String) [] p = p ≡ text held v
Object held v (Some sort.String) (m ∷ more) p = p ≡ refuses held cause.NotException
Object held v s more p = p ≡ refuses held cause.NotException

-- a class makes the exception by its `new`, with the message that follows

abbrev pub new : Held → Value → List Value → Planned Stage
new held v more = send_named held (own state.Raising) v (codes "new") more None

abbrev pub First : Held → Value → Option Sort → List Value → Planned Stage → Type 0
First held v (Some sort.Class) more p = p ≡ new held v more
First held v (Some sort.Singleton) more p = p ≡ new held v more
First held v s more p = Object held v s more p

-- without arguments a RuntimeError is raised
abbrev pub Raises : Held → List Value → Planned Stage → Type 0
Raises held [] p = p ≡ refuses held cause.Unhandled
Raises held (v ∷ more) p = First held v (sort_of_value held.store v) more p
