-- What the methods of Hash give and leave.
use Rattle.std.specs.Prelude.{ℕ, pos, ◌^◌, List, [], ◌∷◌, map, length, nat_lt, Bool, if◌then◌else◌, Option, Some, None, is_some, option_map, unwrap_or, Result, Ok, Err}
use Rattle.std.specs.Option.{ok_or}
use Rattle.rb_value.specs.declared.value.Value.{Value}
use Rattle.rb_value.specs.declared.value.Value.TheVariants.{Nil, Int, Obj}
use Rattle.rb_value.specs.declared.value.ObjId.{ObjId}
use Rattle.rb_value.specs.declared.key.Key.{Key}
use Rattle.rb_value.specs.declared.hash.HashItem.{HashItem}
use Rattle.rb_value.specs.declared.core_class.CoreClass.TheVariants as class
use Rattle.def_core.specs.declared.cause.Cause.{Cause}
use Rattle.def_core.specs.Store.{Store}
use Rattle.def_core.specs.Parts.{hash_at, pair_of}
use Rattle.def_calls.specs.Views as views
use Rattle.rb_store.specs.Held.{Held}
use Rattle.heap.specs.Changes as heap
use Rattle.rows_items.specs.Told.{and_then}
use Rattle.rows_items.specs.Checks.{refusal}
use Rattle.rows_items.specs.Keyed.{key_in, put}
use Rattle.rows_items.specs.Made.{made}

abbrev pub hash_of : Store → Value → Result ObjId Cause
hash_of st v = ok_or (views.a_hash st.objects v) (refusal st class.Hash v)

abbrev pub pairs : Store → ObjId → List (Key × HashItem)
pairs st id = (hash_at st.objects id).pairs

-- what is shown as the keys, and the values, in the order of the pairs
abbrev pub shown_keys : List (Key × HashItem) → List Value
shown_keys ps = map (λ p. p.1.shown) ps

abbrev pub values : List (Key × HashItem) → List Value
values ps = map (λ p. p.1.value) ps

-- the value of what stands under a key; nil where nothing does
abbrev pub value_or_nil : Option HashItem → Value
value_or_nil found = unwrap_or (option_map (λ i. i.value) found) Nil

-- `key?` and its kin
abbrev pub has_key : Store → ObjId → Value → Result Bool Cause
has_key st id key = and_then (key_in st key) (λ own. Ok (is_some (pair_of st.objects id own)))

-- `[]=` and `store`, which give the value
abbrev pub store : Held → ObjId → Value → Value → Result (Value × Held) Cause
store held id key v = and_then (put held id key v) (λ after. Ok (v, after))

-- `delete`, which gives the value
abbrev pub delete : Held → ObjId → Value → Result (Value × Held) Cause
delete held id key = and_then (key_in held.store key)
    (λ own. Ok (value_or_nil (pair_of held.store.objects id own), heap.without_key held id own))

-- `length` and `size`
abbrev pub count_value : ℕ → Value
count_value n = if nat_lt n (2 ^ 63) then Int (pos n) else Nil

-- `keys` and `values`
abbrev pub key_array : Held → ObjId → Result (Value × Held) Cause
key_array held id = made held (shown_keys (pairs held.store id))

abbrev pub value_array : Held → ObjId → Result (Value × Held) Cause
value_array held id = made held (values (pairs held.store id))
