-- `index` and `include?` of an Array (ISO/IEC 30170:2012, 15.2.12): the first element that is
-- equal.
use Rattle.std.specs.Prelude.{ℕ, ℤ, pos, ◌-◌, ◌^◌, min, slice_get, Bool, true, false, if◌then◌else◌, Option, Some, None}
use Rattle.rb_value.specs.declared.value.Value.{Value}
use Rattle.rb_value.specs.declared.value.Value.TheVariants.{Nil, True, False, Int}
use Rattle.rb_value.specs.Value.{is_true}
use Rattle.def_core.specs.Store.{Store}
use Rattle.def_core.specs.Parts.{elements_at}
use Rattle.rb_store.specs.Held.{one_more}
use Rattle.iter_comparing.specs.declared.searching.Search.{Search}
use Rattle.iter_comparing.specs.declared.questions.Question.{Question}
use Rattle.iter_comparing.specs.declared.questions.Question.TheVariants.{Ends}
use Rattle.iter_comparing.specs.Questions.{Heard, goes_on, ends_with, compare}

-- there is none
abbrev pub nowhere : Bool → Value
nowhere true = Nil
nowhere false = False

abbrev pub question_at : Search → Option Value → Question
question_at w (Some v) = compare v w.wanted
question_at w None = Ends (nowhere w.indexed)

-- the length is read anew each time
abbrev pub question : Store → Search → Question
question st w = question_at w (slice_get (elements_at st.objects w.array) w.place)

-- a place as an Integer, of which none is greater than the greatest
abbrev pub found_at : Bool → ℕ → Value
found_at true n = Int (pos (min n (2 ^ 63 - 1)))
found_at false n = True

abbrev pub heard : Search → Value → Heard Search
heard w v = if is_true v then ends_with w (found_at w.indexed w.place)
    else goes_on (record w { place = one_more w.place })
