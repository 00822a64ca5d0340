-- `==` and `<=>` of Arrays (ISO/IEC 30170:2012, 15.2.12): the first pair of elements that is different decides,
-- and else the lengths do.
use Rattle.std.specs.Prelude.{ℕ, ℤ, pos, negsuc, List, length, slice_get, nat_eq, nat_lt, not, Bool, true, false, ◌&&◌, if◌then◌else◌, Option, Some, None}
use Rattle.rb_value.specs.declared.value.Value.{Value}
use Rattle.rb_value.specs.declared.value.Value.TheVariants.{False, Int}
use Rattle.rb_value.specs.Value.{truth, is_true}
use Rattle.def_core.specs.Store.{Store}
use Rattle.def_core.specs.Parts.{elements_at}
use Rattle.rb_store.specs.Held.{one_more}
use Rattle.iter_comparing.specs.declared.pairing.Pairing.{Pairing}
use Rattle.iter_comparing.specs.declared.questions.Question.{Question}
use Rattle.iter_comparing.specs.declared.questions.Question.TheVariants.{Ends}
use Rattle.iter_comparing.specs.Questions.{Heard, goes_on, ends_with, compare}
use Rattle.iter_comparing.specs.Ordering.{same_value}

-- how a number stands to another
abbrev pub order : ℕ → ℕ → Value
order n m = if nat_lt n m then Int (negsuc 0) else (if nat_eq n m then Int (pos 0) else Int (pos 1))

-- what lists of these lengths come to where no pair was different
abbrev pub at_end : Bool → ℕ → ℕ → Value
at_end true n m = order n m
at_end false n m = truth (nat_eq n m)

abbrev pub pair : Bool → ℕ → ℕ → Option Value → Option Value → Question
pair ordered n m None u = Ends (at_end ordered n m)
pair ordered n m (Some v) None = Ends (at_end ordered n m)
pair ordered n m (Some v) (Some u) = compare v u

-- Arrays of different lengths aren't equal
abbrev pub question_of : Bool → ℕ → List Value → List Value → Question
question_of ordered place vs us = if not ordered && not (nat_eq (length vs) (length us)) then Ends False
    else pair ordered (length vs) (length us) (slice_get vs place) (slice_get us place)

abbrev pub question : Store → Pairing → Question
question st w = question_of w.ordered w.place (elements_at st.objects w.left) (elements_at st.objects w.right)

abbrev pub is_same : Bool → Value → Bool
is_same true v = same_value v (Int (pos 0))
is_same false v = is_true v

abbrev pub difference : Bool → Value → Value
difference true v = v
difference false v = False

abbrev pub heard : Pairing → Value → Heard Pairing
heard w v = if is_same w.ordered v then goes_on (record w { place = one_more w.place })
    else ends_with w (difference w.ordered v)
