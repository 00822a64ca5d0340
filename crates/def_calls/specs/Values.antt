-- What forms and instructions do with values alone: variables of objects, elements, splats, texts and Hashes.
use Rattle.std.specs.Prelude.{ℕ, ℤ, pos, negsuc, zero, suc, ◌+◌, ◌-◌, max, List, [], ◌∷◌, ◌++◌, take, drop, length, map, get_or, nat_lt, codes, Bool, if◌then◌else◌, Option, Some, None, unwrap_or}
use Rattle.std.specs.Fmt.{signed_decimal}
use Rattle.rb_value.specs.declared.value.Value.{Value}
use Rattle.rb_value.specs.declared.value.Value.TheVariants.{Nil, True, False, Int, Sym, Obj}
use Rattle.rb_value.specs.declared.value.ObjId.{ObjId}
use Rattle.rb_value.specs.declared.value.SymId.{SymId}
use Rattle.rb_value.specs.declared.key.KeyPart.{KeyPart}
use Rattle.rb_value.specs.declared.key.KeyPart.TheVariants as part
use Rattle.rb_value.specs.declared.key.Key.{Key}
use Rattle.rb_value.specs.declared.key.Key.TheVariants as key
use Rattle.rb_value.specs.Object.{Object}
use Rattle.rb_value.specs.declared.variables.Variable.{Variable}
use Rattle.rb_value.specs.Variables.{variable_of}
use Rattle.rb_value.specs.declared.hash.HashContents.{HashContents}
use Rattle.rb_value.specs.declared.hash.HashItem.{HashItem}
use Rattle.rb_value.specs.declared.core_class.CoreClass.TheVariants as class
use Rattle.def_core.specs.declared.cause.Cause.TheVariants as cause
use Rattle.def_core.specs.Store.{Store, core, name_at, next_number, object_at, same_object, with_object}
use Rattle.def_core.specs.Classes.{plain_class_of}
use Rattle.def_core.specs.Bind.{elements_in}
use Rattle.def_core.specs.Changes.{intern, Interned}
use Rattle.def_core.specs.Texts.{class_name}
use Rattle.def_core.specs.Parts.{with_objects, with_variable, with_more, with_text, text_at, pair_of, with_pair as put_pair}
use Rattle.rb_integer.specs.declared.ends.Bounds.{Bounds}
use Rattle.rb_integer.specs.declared.ends.Bounds.TheVariants.{Integers, Bytes}
use Rattle.rb_integer.specs.declared.ends.Ends.{Ends}
use Rattle.rb_integer.specs.declared.ends.Item.{Item}
use Rattle.rb_integer.specs.Ends as ends
use Rattle.def_rows.specs.Answers.{items_object, text_object, numbered, with_texts, finish}
use Rattle.def_rows.specs.RangeRows.{range_of, items, integers_of, texts_of, item_of, kept_ends, made}
use Rattle.def_calls.specs.World.{World, Answer, answer, give, give_in, make, fail, with_store}
use Rattle.def_calls.specs.Views.{object_in, present, kind_in, string_of, hash_of}

-- an instruction, by its name, meets a value that it isn't made for
abbrev pub wrong_in : World → Interned → Answer
wrong_in w named = fail (with_store w named.store) (cause.WrongValue named.symbol)

unfoldable pub wrong_value : World → List ℕ → Answer
wrong_value w instruction = wrong_in w (intern w.store instruction)

-- Instance variables (11.5.4.6): one that was never set is nil, and only objects have them.

abbrev pub variables_by : List Object → Option ObjId → List Variable
variables_by objects None = []
variables_by objects (Some id) = (object_at objects id).variables

abbrev pub variables_of : List Object → Value → List Variable
variables_of objects v = variables_by objects (object_in v)

unfoldable pub instance_variable : World → Value → SymId → Value
instance_variable w self name = unwrap_or (variable_of (variables_of w.store.objects self) name) Nil

abbrev pub set_variable_of : World → SymId → Value → Option ObjId → Answer
set_variable_of w name v None = fail w cause.NoVariable
set_variable_of w name v (Some id) =
    give_in w (with_objects w.store (with_variable w.store.objects id name v)) v

unfoldable pub set_instance_variable : World → Value → SymId → Value → Answer
set_instance_variable w self name v = set_variable_of w name v (object_in self)

-- Elements, for multiple assignment (11.4.2.4): a value that is no Array counts as an Array of itself.

abbrev pub elements_or_itself : World → Value → List Value
elements_or_itself w v = unwrap_or (elements_in w.store.objects v) (v ∷ [])

-- from the end where the place is negative; nil outside
abbrev pub element_at : List Value → ℤ → Value
element_at vs (pos n) = get_or vs n Nil
element_at vs (negsuc n) = if nat_lt n (length vs) then get_or vs (length vs - 1 - n) Nil else Nil

unfoldable pub element : World → Value → ℤ → Answer
element w v k = give w (element_at (elements_or_itself w v) k)

unfoldable pub elements_between : World → Value → ℕ → ℕ → Answer
elements_between w v from post =
    let vs = elements_or_itself w v in make w (items_object (drop from (take (length vs - post) vs)))

unfoldable pub last_elements : World → Value → ℕ → ℕ → Answer
last_elements w v from count =
    let vs = elements_or_itself w v in make w (items_object (drop (max from (length vs - count)) vs))

-- Splats (11.3.2): the elements of an Array, those of a Range, the pairs of a Hash, nothing for nil.

pub record Splatted : Type 0 where
  pub values : List Value
  pub store : Store

-- each pair is a new Array
abbrev pub pairs_of : List (Key × HashItem) → Store → Splatted
pairs_of [] st = record { values = []; store = st }
pairs_of (p ∷ ps) st =
    let rest = pairs_of ps (with_object st (items_object (p.1.shown ∷ p.1.value ∷ []))) in
    record { values = Obj (next_number st) ∷ rest.values; store = rest.store }

abbrev pub itself_or_none : Option Value → List Value
itself_or_none None = []
itself_or_none (Some v) = v ∷ []

abbrev pub splat_hash : Store → Value → Option HashContents → Splatted
splat_hash st v None = record { values = itself_or_none (present v); store = st }
splat_hash st v (Some h) = pairs_of h.pairs st

-- the items of a Range, where those of bytes are new Strings
abbrev pub splat_items : Store → Bounds → List Item → Splatted
splat_items st (Integers a b) found = record { values = map Int (integers_of found); store = st }
splat_items st (Bytes a b) found = record {
  values = numbered (length st.objects) (length found);
  store = with_texts st (texts_of found);
}

abbrev pub splat_range : Store → Value → Option Ends → Splatted
splat_range st v None = splat_hash st v (hash_of (kind_in st.objects v))
splat_range st v (Some e) = splat_items st e.bounds (items e.bounds (ends.count e.bounds e.is_exclusive))

abbrev pub splat_array : Store → Value → Option (List Value) → Splatted
splat_array st v None = splat_range st v (range_of st.objects v)
splat_array st v (Some vs) = record { values = vs; store = st }

unfoldable pub splat : Store → Value → Splatted
splat st v = splat_array st v (elements_in st.objects v)

-- an Array with further elements
abbrev pub pushed : Store → ObjId → List Value → Store
pushed st id vs = with_objects st (with_more st.objects id vs)

abbrev pub push_splat : Splatted → ObjId → Store
push_splat s id = pushed s.store id s.values

-- Interpolation (8.7.6.3): a value that isn't a String stands as its class.

abbrev pub text_or_class : Store → Value → Option (List ℕ) → List ℕ
text_or_class st v None = codes "#<" ++ class_name st (plain_class_of st.objects v) ++ codes ">"
text_or_class st v (Some bytes) = bytes

unfoldable pub text_of_value : Store → Value → List ℕ
text_of_value st v = text_or_class st v (string_of (kind_in st.objects v))

-- a value as it stands in the text of an exception
abbrev pub shown : Store → Value → List ℕ
shown st Nil = text_of_value st Nil
shown st True = codes "true"
shown st False = codes "false"
shown st (Int z) = signed_decimal z
shown st (Sym s) = name_at st s
shown st (Obj id) = text_of_value st (Obj id)

-- a String with further bytes
abbrev pub appended : Store → ObjId → List ℕ → Store
appended st id more = with_objects st (with_text st.objects id (text_at st.objects id ++ more))

abbrev pub intern_bytes : World → Option (List ℕ) → Answer
intern_bytes w None = wrong_value w (codes "INTERN")
intern_bytes w (Some bytes) = let named = intern w.store bytes in give_in w named.store (Sym named.symbol)

abbrev pub make_symbol : World → Value → Answer
make_symbol w v = intern_bytes w (string_of (kind_in w.store.objects v))

-- Ranges (11.5.5.3)
unfoldable pub make_range : World → Value → Value → Bool → Answer
make_range w a b exclusive =
    answer w (finish w.store Nil (made (core class.Range) exclusive
    (kept_ends (item_of w.store.objects a) (item_of w.store.objects b))))

-- Hashes (11.5.5.2 and 15.2.13): Strings are keys by their bytes and Arrays by their elements, down to 10,000 levels.

abbrev pub joined : Option (List KeyPart) → Option (List KeyPart) → Option (List KeyPart)
joined None rest = None
joined (Some ps) None = None
joined (Some ps) (Some qs) = Some (ps ++ qs)

abbrev pub all_parts : (Value → Option (List KeyPart)) → List Value → Option (List KeyPart)
all_parts parts [] = Some []
all_parts parts (v ∷ vs) = joined (parts v) (all_parts parts vs)

abbrev pub text_part : Value → Option (List ℕ) → Option (List KeyPart)
text_part v None = Some (part.Plain v ∷ [])
text_part v (Some bytes) = Some (part.Text bytes ∷ [])

abbrev pub array_part : List Object → Value → (Value → Option (List KeyPart)) → Option (List Value)
    → Option (List KeyPart)
array_part objects v parts None = text_part v (string_of (kind_in objects v))
array_part objects v parts (Some vs) = joined (Some (part.Array (length vs) ∷ [])) (all_parts parts vs)

unfoldable pub parts_of : ℕ → List Object → Value → Option (List KeyPart)
parts_of zero objects v = array_part objects v (λ u. None) (elements_in objects v)
parts_of (suc n) objects v = array_part objects v (λ u. parts_of n objects u) (elements_in objects v)

abbrev pub key_of_parts : Option (List KeyPart) → Option Key
key_of_parts None = None
key_of_parts (Some ps) = Some (key.Array ps)

abbrev pub key_by : List Object → Value → Option (List Value) → Option (List ℕ) → Option Key
key_by objects v None None = Some (key.Plain v)
key_by objects v None (Some bytes) = Some (key.Text bytes)
key_by objects v (Some vs) bytes = key_of_parts (all_parts (λ u. parts_of 9998 objects u) vs)

unfoldable pub key_of : List Object → Value → Option Key
key_of objects v = key_by objects v (elements_in objects v) (string_of (kind_in objects v))

-- what is shown as a new key: a copy of a String, whose later changes are none of the key
abbrev pub copied_text : Store → Value → Option (List ℕ) → Value × Store
copied_text st k None = (k, st)
copied_text st k (Some bytes) =
    if same_object (plain_class_of st.objects k) (core class.String)
    then (Obj (next_number st), with_object st (text_object bytes)) else (k, st)

abbrev pub shown_as : Store → Value → Option HashItem → Value × Store
shown_as st k None = copied_text st k (string_of (kind_in st.objects k))
shown_as st k (Some item) = (k, st)

abbrev pub put_shown : World → ObjId → Value → Key → Value × Store → Answer
put_shown w id v found s = give_in w (with_objects s.1 (put_pair s.1.objects id found s.0 v)) (Obj id)

abbrev pub put_by_key : World → ObjId → Value → Value → Option Key → Answer
put_by_key w id k v None = fail w cause.StackTooDeep
put_by_key w id k v (Some found) = put_shown w id v found (shown_as w.store k (pair_of w.store.objects id found))

-- the Hash with one pair more; a key that is there keeps its place and what is shown
abbrev pub with_pair : World → ObjId → Value → Value → Answer
with_pair w id k v = put_by_key w id k v (key_of w.store.objects k)
