-- `message` and `inspect` of exceptions (ISO/IEC 30170:2012, 15.2.22), and the message of one that nothing rescued.
use Rattle.std.specs.Prelude.{ℕ, List, codes, Bool, false, if◌then◌else◌, Option, Some, None}
use Rattle.rb_value.specs.declared.value.Value.{Value}
use Rattle.rb_value.specs.declared.value.Value.TheVariants.{Nil, Obj}
use Rattle.rb_value.specs.declared.value.ObjId.{ObjId}
use Rattle.rb_value.specs.declared.kind.Kind.TheVariants as kind
use Rattle.rb_value.specs.declared.core_class.CoreClass.TheVariants as class
use Rattle.def_core.specs.Store.{Store, core, next_number, object_at}
use Rattle.def_calls.specs.Views.{an_exception, message_of, kind_in, string_of}
use Rattle.rb_store.specs.Held.{Held}
use Rattle.heap.specs.Changes.{with_message}
use Rattle.heap.specs.Made.{with_new}
use Rattle.def_plans.specs.Plan.{Planned, raises, gives, wanted}
use Rattle.run_rows.specs.Calls.{inspection}
use Rattle.iter_items.specs.Driving.{same_value}
use Rattle.core_iter.specs.declared.iteration.Iteration.TheVariants as state
use Rattle.core_iter.specs.Sending.{ask}
use Rattle.core_iter.specs.Stage.{Stage, own}

-- an exception is asked for its `to_s`
abbrev pub ask_message : Held → Stage → Value → Planned Stage
ask_message held stage v = wanted held class.Exception v (an_exception held.store.objects v)
    (λ e. ask held stage v (codes "to_s"))

-- the object that an exception was made with, where it is no String

abbrev pub unless_text : Value → Option (List ℕ) → Option Value
unless_text v None = Some v
unless_text v (Some text) = None

abbrev pub other_in : Store → Value → Option Value
other_in st (Obj o) = unless_text (Obj o) (string_of (kind_in st.objects (Obj o)))
other_in st v = None

abbrev pub other_of : Store → Option ObjId → Option Value
other_of st None = None
other_of st (Some e) = other_in st (message_of (object_at st.objects e).kind)

abbrev pub other_object : Store → Value → Option Value
other_object st v = other_of st (an_exception st.objects v)

-- `message`: such an object, which `to_s` of the exception gave, is asked for its `to_s`

abbrev pub then_by : Value → Option Value → Stage
then_by v (Some o) = own (state.Messaging v)
then_by v None = own state.Handing

abbrev pub begin_message : Held → Value → Planned Stage
begin_message held v = ask_message held (then_by v (other_object held.store v)) v

abbrev pub is_it : Option Value → Value → Bool
is_it None v = false
is_it (Some o) v = same_value o v

abbrev pub give_message : Held → Value → Value → Planned Stage
give_message held e v = if is_it (other_object held.store e) v then ask held (own state.Handing) v (codes "to_s")
    else gives held v

-- `inspect`: a new String of its class and its message; such an object is asked for its `to_s` first

abbrev pub told : Held → Value → Value → Planned Stage
told held e v = gives (with_new held (core class.String) (kind.String (inspection held.store e v)))
    (Obj (next_number held.store))

abbrev pub tell : Held → Value → Value → Planned Stage
tell held e v = if is_it (other_object held.store e) v
    then ask held (own (state.TellingText e)) v (codes "to_s") else told held e v

-- one that nothing rescued is asked for its message, and is raised again with that; one that gave no String has none

abbrev pub report : Held → ObjId → Planned Stage
report held e = ask held (own (state.Reported e)) (Obj e) (codes "message")

abbrev pub reported_by : Value → Option (List ℕ) → Value
reported_by v None = Nil
reported_by v (Some text) = v

abbrev pub reported : Held → ObjId → Value → Planned Stage
reported held e v = record {
  plan = raises e;
  held = with_message held e (reported_by v (string_of (kind_in held.store.objects v)));
}
