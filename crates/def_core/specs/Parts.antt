-- What each change of one part of an object does to the objects of a store.
use Rattle.std.specs.Prelude.{ℕ, ◌-◌, List, [], ◌∷◌, ◌++◌, length, take, drop, slice_set, Option, Some}
use Rattle.rb_value.specs.declared.value.Value.{Value}
use Rattle.rb_value.specs.declared.value.ObjId.{ObjId}
use Rattle.rb_value.specs.declared.value.SymId.{SymId}
use Rattle.rb_value.specs.declared.key.Key.{Key}
use Rattle.rb_value.specs.declared.hash.HashItem.{HashItem}
use Rattle.rb_value.specs.declared.hash.HashContents.{HashContents}
use Rattle.rb_value.specs.declared.kind.Kind.{Kind}
use Rattle.rb_value.specs.declared.kind.Kind.TheVariants as kind
use Rattle.rb_value.specs.Object.{Object}
use Rattle.rb_value.specs.Hash as hash
use Rattle.rb_value.specs.Variables as variables
pub use Rattle.rb_value.specs.Contents.{elements_in, bytes_in, no_pairs, hash_in, sent, ended}
use Rattle.def_core.specs.Store.{Store, object_at, set_object}

-- the store with other objects
abbrev pub with_objects : Store → List Object → Store
with_objects st objects = record st { objects = objects }

-- an object with other contents
abbrev pub with_kind : List Object → ObjId → Kind → List Object
with_kind objects id k = set_object objects id (record (object_at objects id) { kind = k })

-- Instance variables.

abbrev pub variable_of : List Object → ObjId → SymId → Option Value
variable_of objects id name = variables.variable_of (object_at objects id).variables name

abbrev pub with_variable : List Object → ObjId → SymId → Value → List Object
with_variable objects id name v = set_object objects id
    (record (object_at objects id) { variables = variables.with_variable (object_at objects id).variables name v })

-- Elements of Arrays. What is no Array has none.

abbrev pub elements_at : List Object → ObjId → List Value
elements_at objects id = elements_in (object_at objects id).kind

abbrev pub with_elements : List Object → ObjId → List Value → List Object
with_elements objects id xs = with_kind objects id (kind.Array xs)

abbrev pub with_element : List Object → ObjId → ℕ → Value → List Object
with_element objects id n v = with_elements objects id (slice_set (elements_at objects id) n v)

abbrev pub with_more : List Object → ObjId → List Value → List Object
with_more objects id xs = with_elements objects id (elements_at objects id ++ xs)

abbrev pub without_last : List Object → ObjId → List Object
without_last objects id =
    with_elements objects id (take (length (elements_at objects id) - 1) (elements_at objects id))

abbrev pub without_first : List Object → ObjId → List Object
without_first objects id = with_elements objects id (drop 1 (elements_at objects id))

-- Bytes of Strings. What is no String has none.

abbrev pub text_at : List Object → ObjId → List ℕ
text_at objects id = bytes_in (object_at objects id).kind

abbrev pub with_text : List Object → ObjId → List ℕ → List Object
with_text objects id bytes = with_kind objects id (kind.String bytes)

-- Pairs of Hashes. What is no Hash has none.

abbrev pub hash_at : List Object → ObjId → HashContents
hash_at objects id = hash_in (object_at objects id).kind

abbrev pub with_hash : List Object → ObjId → HashContents → List Object
with_hash objects id h = with_kind objects id (kind.Hash h)

abbrev pub pair_of : List Object → ObjId → Key → Option HashItem
pair_of objects id key = hash.item_of (hash_at objects id).pairs key

abbrev pub with_pair : List Object → ObjId → Key → Value → Value → List Object
with_pair objects id key shown v = with_hash objects id
    (record (hash_at objects id) { pairs = hash.with_pair (hash_at objects id).pairs key shown v })

abbrev pub without_key : List Object → ObjId → Key → List Object
without_key objects id key = with_hash objects id
    (record (hash_at objects id) { pairs = hash.without_key (hash_at objects id).pairs key })

abbrev pub without_first_pair : List Object → ObjId → List Object
without_first_pair objects id = with_hash objects id
    (record (hash_at objects id) { pairs = drop 1 (hash_at objects id).pairs })

abbrev pub with_absent : List Object → ObjId → Value → Option ObjId → List Object
with_absent objects id default block = with_hash objects id
    (record (hash_at objects id) { default = default; block = block })

-- Procs and fibers. Another object stays as it is.

abbrev pub with_sent : List Object → ObjId → Option ℕ → List Object
with_sent objects id a = with_kind objects id (sent (object_at objects id).kind a)

abbrev pub with_ended : List Object → ObjId → List Object
with_ended objects id = with_kind objects id (ended (object_at objects id).kind)

-- an object with a new singleton class after the others
abbrev pub with_singleton_class : List Object → ObjId → Object → List Object
with_singleton_class objects id class =
    set_object objects id (record (object_at objects id) { singleton = Some (record { 0 = length objects }) })
    ++ class ∷ []
