-- `delete` of an Array (an addition): the elements that aren't equal stay, and the last of the others is given.
use Rattle.std.specs.Prelude.{ℕ, List, [], ◌∷◌, ◌++◌, slice_get, if◌then◌else◌, Option, Some, None}
use Rattle.rb_value.specs.declared.value.Value.{Value}
use Rattle.rb_value.specs.declared.value.Value.TheVariants.{Nil}
use Rattle.rb_value.specs.Value.{is_true}
use Rattle.def_core.specs.Parts.{elements_at}
use Rattle.rb_store.specs.Held.{Held, one_more}
use Rattle.heap.specs.Changes.{with_elements}
use Rattle.iter_comparing.specs.declared.removing.Removing.{Removing}
use Rattle.iter_comparing.specs.declared.questions.Question.TheVariants.{Ends}
use Rattle.iter_comparing.specs.Questions.{Asked, Heard, asked, goes_on, compare}

-- at the end the elements are those that stay; where none was equal, all stays
abbrev pub ended : Held → Removing → Option Value → Asked Removing
ended held w (Some v) = asked (with_elements held w.array w.kept) (record w { kept = [] }) (Ends v)
ended held w None = asked held w (Ends Nil)

abbrev pub question_at : Held → Removing → Option Value → Asked Removing
question_at held w (Some v) = asked held (record w { asked = v }) (compare v w.wanted)
question_at held w None = ended held w w.taken

abbrev pub question : Held → Removing → Asked Removing
question held w = question_at held w (slice_get (elements_at held.store.objects w.array) w.place)

abbrev pub heard : Removing → Value → Removing
heard w v = if is_true v then record w { taken = Some w.asked; place = one_more w.place }
    else record w { kept = w.kept ++ w.asked ∷ []; place = one_more w.place }
