-- `==`, `value?` and `key` of a Hash (ISO/IEC 30170:2012, 15.2.13).
use Rattle.std.specs.Prelude.{ℕ, List, map, slice_get, Bool, true, false, if◌then◌else◌, Option, Some, None}
use Rattle.rb_value.specs.declared.value.Value.{Value}
use Rattle.rb_value.specs.declared.value.Value.TheVariants.{Nil, True, False}
use Rattle.rb_value.specs.declared.value.ObjId.{ObjId}
use Rattle.rb_value.specs.declared.key.Key.{Key}
use Rattle.rb_value.specs.declared.hash.HashItem.{HashItem}
use Rattle.rb_value.specs.Value.{is_true}
use Rattle.def_core.specs.declared.cause.Cause.TheVariants as cause
use Rattle.def_core.specs.Store.{Store}
use Rattle.def_core.specs.Parts.{hash_at, pair_of}
use Rattle.def_calls.specs.Values.{key_of}
use Rattle.rb_store.specs.Held.{one_more}
use Rattle.heap.specs.Operands.{own}
use Rattle.iter_comparing.specs.declared.equating.Equating.{Equating}
use Rattle.iter_comparing.specs.declared.equating.KeySearch.{KeySearch}
use Rattle.iter_comparing.specs.declared.questions.Question.{Question}
use Rattle.iter_comparing.specs.declared.questions.Question.TheVariants.{Ends, Fails}
use Rattle.iter_comparing.specs.Questions.{Heard, goes_on, ends_with, compare}

abbrev pub pairs : Store → ObjId → List (Key × HashItem)
pairs st id = (hash_at st.objects id).pairs

-- what is shown as the key of each pair, and its value
abbrev pub items : List (Key × HashItem) → List HashItem
items ps = map (λ p. p.1) ps

-- Hashes with as many pairs are equal where each value is equal to that under the same key of the other.

abbrev pub beside : Value → Option HashItem → Question
beside v (Some item) = compare v item.value
beside v None = Ends False

abbrev pub under : Store → ObjId → Value → Option Key → Question
under st other v None = Fails cause.StackTooDeep
under st other v (Some key) = beside v (pair_of st.objects other key)

abbrev pub pair_beside : Store → ObjId → Option HashItem → Question
pair_beside st other None = Ends True
pair_beside st other (Some pair) = under st other pair.value (key_of st.objects (own st pair.shown))

abbrev pub equal_question : Store → Equating → Question
equal_question st w = pair_beside st w.other (slice_get w.pairs w.place)

abbrev pub equal_heard : Equating → Value → Heard Equating
equal_heard w v = if is_true v then goes_on (record w { place = one_more w.place }) else ends_with w False

-- The first pair whose value is equal: its key, or that there is one.

abbrev pub nowhere : Bool → Value
nowhere true = Nil
nowhere false = False

abbrev pub search_at : KeySearch → Option HashItem → Question
search_at w (Some pair) = compare pair.value w.wanted
search_at w None = Ends (nowhere w.keyed)

abbrev pub search_question : KeySearch → Question
search_question w = search_at w (slice_get w.pairs w.place)

abbrev pub key_in : Option HashItem → Value
key_in (Some pair) = pair.shown
key_in None = Nil

abbrev pub found : KeySearch → Bool → Value
found w true = key_in (slice_get w.pairs w.place)
found w false = True

abbrev pub search_heard : KeySearch → Value → Heard KeySearch
search_heard w v = if is_true v then ends_with w (found w w.keyed)
    else goes_on (record w { place = one_more w.place })
