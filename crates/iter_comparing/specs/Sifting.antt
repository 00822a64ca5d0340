-- `-`, `&` and `|` of Arrays (ISO/IEC 30170:2012, 15.2.12): which values stay, by whether others are equal to them.
use Rattle.std.specs.Prelude.{ℕ, List, [], ◌∷◌, ◌++◌, drop, slice_get, Bool, true, false, ◌||◌, if◌then◌else◌, Option, Some, None}
use Rattle.rb_value.specs.declared.value.Value.{Value}
use Rattle.rb_value.specs.Value.{is_true}
use Rattle.rb_store.specs.Held.{Held, one_more}
use Rattle.heap.specs.Made.{array_given, with_array}
use Rattle.iter_comparing.specs.declared.sifting.Sieve.{Sieve}
use Rattle.iter_comparing.specs.declared.sifting.Sieve.TheVariants as sieve
use Rattle.iter_comparing.specs.declared.sifting.Sifting.{Sifting}
use Rattle.iter_comparing.specs.declared.questions.Question.TheVariants.{Ends}
use Rattle.iter_comparing.specs.Questions.{Asked, asked, compare}

abbrev pub is_difference : Sieve → Bool
is_difference sieve.Difference = true
is_difference sieve.Intersection = false
is_difference sieve.Union = false

abbrev pub is_union : Sieve → Bool
is_union sieve.Difference = false
is_union sieve.Intersection = false
is_union sieve.Union = true

-- a value that isn't among those is kept, or one that isn't among the others is dropped where both have to have it
abbrev pub keeps_missed : Sifting → Bool
keeps_missed w = w.among_kept || is_difference w.sieve

-- the next of those among which a value is looked for: the values that stayed, or the others
abbrev pub candidate : Sifting → Option Value
candidate w = if w.among_kept then slice_get w.kept w.asked else slice_get w.others w.asked

-- the next value, which is first looked for among the others, but for a union
abbrev pub passed : Sifting → Sifting
passed w = record w { place = one_more w.place; asked = 0; among_kept = is_union w.sieve }

abbrev pub missed : Sifting → Value → Sifting
missed w v = passed (if keeps_missed w then record w { kept = w.kept ++ v ∷ [] } else w)

-- at the end those that stayed are a new Array
abbrev pub ended : Held → Sifting → Asked Sifting
ended held w = asked (with_array held w.kept) (record w { kept = [] }) (Ends (array_given held.store w.kept))

abbrev pub sifted_by : Held → Sifting → Value → Option Value → Asked Sifting → Asked Sifting
sifted_by held w v (Some c) further = asked held w (compare c v)
sifted_by held w v None further = further

abbrev pub sifted : Held → Sifting → List Value → Asked Sifting
sifted held w [] = ended held w
sifted held w (v ∷ vs) = sifted_by held w v (candidate w) (sifted held (missed w v) vs)

abbrev pub question : Held → Sifting → Asked Sifting
question held w = sifted held w (drop w.place w.values)

-- a value that is among the others, and has to be, is then looked for among those that stayed
abbrev pub found : Sifting → Sifting
found w = if keeps_missed w then passed w else record w { asked = 0; among_kept = true }

abbrev pub heard : Sifting → Value → Sifting
heard w v = if is_true v then found w else record w { asked = one_more w.asked }
