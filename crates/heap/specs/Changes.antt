-- What the calls that change one object leave. An object of another sort than is wanted stays as it is.
use Rattle.std.specs.Prelude.{ℕ, length, List, [], ◌∷◌, ◌++◌, Bool, true, nat_lt, ◌&&◌, if◌then◌else◌, Option, Some, None, is_some}
use Rattle.rb_value.specs.declared.value.Value.{Value}
use Rattle.rb_value.specs.declared.value.ObjId.{ObjId}
use Rattle.rb_value.specs.declared.key.Key.{Key}
use Rattle.rb_value.specs.declared.hash.HashContents.{HashContents}
use Rattle.rb_value.specs.declared.kind.Kind.TheVariants as kind
use Rattle.rb_value.specs.declared.value.SymId.{SymId}
use Rattle.rb_value.specs.declared.method.Method.{Method}
use Rattle.rb_value.specs.declared.method.Visibility.{Visibility}
use Rattle.rb_value.specs.Object.{Object}
use Rattle.def_core.specs.Store.{Store, object_at, sort_at}
use Rattle.def_core.specs.Changes as defined
use Rattle.def_core.specs.Classes.{class_at, with_class}
use Rattle.def_core.specs.Sound.{has_object}
use Rattle.def_core.specs.Parts as parts
use Rattle.rb_value.specs.MethodTable.{without_entry}
use Rattle.def_calls.specs.Values.{key_of}
use Rattle.def_calls.specs.Views.{message_of, detail_of}
use Rattle.rb_store.specs.Held.{Held}
use Rattle.rb_value.specs.declared.kind.EnumeratorSource.{EnumeratorSource}
use Rattle.heap.specs.declared.enumerators.Cursor.{Cursor}
use Rattle.heap.specs.Reading.{source_in}
use Rattle.heap.specs.Operands.{own, own_block, own_fiber, own_result, own_source, own_method, has_all, has_symbol, has_space, is_array, is_string, is_hash, is_fiber, is_exception}

abbrev pub with_objects : Held → List Object → Held
with_objects held objects = record held { store = parts.with_objects held.store objects }

abbrev pub where_array : Held → ObjId → List Object → Held
where_array held id objects =
    if is_array (sort_at held.store.objects id) then with_objects held objects else held

abbrev pub where_string : Held → ObjId → List Object → Held
where_string held id objects =
    if is_string (sort_at held.store.objects id) then with_objects held objects else held

abbrev pub where_hash : Held → ObjId → List Object → Held
where_hash held id objects =
    if is_hash (sort_at held.store.objects id) then with_objects held objects else held

abbrev pub where_exception : Held → ObjId → List Object → Held
where_exception held id objects =
    if is_exception (sort_at held.store.objects id) then with_objects held objects else held

-- Arrays.

abbrev pub pushed : Held → ObjId → Value → Held
pushed held id v = where_array held id (parts.with_more held.store.objects id (own held.store v ∷ []))

abbrev pub appended : Held → ObjId → List Value → Held
appended held id vs = if has_all held.store vs then where_array held id (parts.with_more held.store.objects id vs) else held

abbrev pub popped : Held → ObjId → Held
popped held id = where_array held id (parts.without_last held.store.objects id)

abbrev pub shifted : Held → ObjId → Held
shifted held id = where_array held id (parts.without_first held.store.objects id)

abbrev pub unshifted : Held → ObjId → Value → Held
unshifted held id v = where_array held id (parts.with_elements held.store.objects id
    (own held.store v ∷ parts.elements_at held.store.objects id))

-- a place where there is no element stays without one
abbrev pub with_element : Held → ObjId → ℕ → Value → Held
with_element held id place v = if nat_lt place (length (parts.elements_at held.store.objects id))
    then with_objects held (parts.with_element held.store.objects id place (own held.store v)) else held

abbrev pub with_elements : Held → ObjId → List Value → Held
with_elements held id vs = if has_all held.store vs then where_array held id (parts.with_elements held.store.objects id vs)
    else held

-- Strings.

abbrev pub with_more_bytes : Held → ObjId → List ℕ → Held
with_more_bytes held id bytes = where_string held id
    (parts.with_text held.store.objects id (parts.text_at held.store.objects id ++ bytes))

abbrev pub with_bytes : Held → ObjId → List ℕ → Held
with_bytes held id bytes = where_string held id (parts.with_text held.store.objects id bytes)

-- Hashes.

abbrev pub put_under : Held → ObjId → Option Key → Value → Value → Held
put_under held id None shown v = held
put_under held id (Some key) shown v = with_objects held (parts.with_pair held.store.objects id key shown v)

-- Arrays that are nested too deep are no key, and change nothing
abbrev pub with_pair : Held → ObjId → Value → Value → Held
with_pair held id shown v = if is_hash (sort_at held.store.objects id)
    then put_under held id (key_of held.store.objects (own held.store shown)) (own held.store shown) (own held.store v)
    else held

abbrev pub can_put : Held → ObjId → Value → Bool
can_put held id shown = if is_hash (sort_at held.store.objects id)
    then is_some (key_of held.store.objects (own held.store shown)) else true

-- without pairs, and with what it gives for an absent key
abbrev pub emptied : Store → HashContents → HashContents
emptied st h = record { pairs = []; default = own st h.default; block = own_block st h.block }

abbrev pub without_pairs : Held → ObjId → Held
without_pairs held id = where_hash held id
    (parts.with_hash held.store.objects id (emptied held.store (parts.hash_at held.store.objects id)))

abbrev pub without_key : Held → ObjId → Key → Held
without_key held id key = where_hash held id (parts.without_key held.store.objects id key)

abbrev pub with_absent : Held → ObjId → Value → Option ObjId → Held
with_absent held id default block = where_hash held id
    (parts.with_absent held.store.objects id (own held.store default) (own_block held.store block))

-- Procs, fibers and exceptions.

abbrev pub with_sent : Held → ObjId → Option ℕ → Held
with_sent held id activation = if has_object held.store.objects id
    then with_objects held (parts.with_sent held.store.objects id activation) else held

abbrev pub with_ended : Held → ObjId → Held
with_ended held id = if is_fiber (sort_at held.store.objects id)
    then with_objects held (parts.with_ended held.store.objects id) else held

abbrev pub with_message : Held → ObjId → Value → Held
with_message held id message = where_exception held id (parts.with_kind held.store.objects id
    (kind.Exception (own held.store message) (own held.store (detail_of (object_at held.store.objects id).kind))))

abbrev pub with_detail : Held → ObjId → Value → Held
with_detail held id detail = where_exception held id (parts.with_kind held.store.objects id
    (kind.Exception (own held.store (message_of (object_at held.store.objects id).kind)) (own held.store detail)))

-- Enumerators. One whose Array of items is none, or that is no Enumerator, stays as it is.

abbrev pub put_cursor : Held → ObjId → Cursor → Option EnumeratorSource → Held
put_cursor held id cursor None = held
put_cursor held id cursor (Some source) = if is_array (sort_at held.store.objects cursor.items)
    then with_objects held (parts.with_kind held.store.objects id (kind.Enumerator (record {
      source = source;
      fiber = own_fiber held.store cursor.fiber;
      items = cursor.items;
      position = cursor.position;
      result = own_result held.store cursor.result;
    })))
    else held

abbrev pub own_source_of : Store → Option EnumeratorSource → Option EnumeratorSource
own_source_of st None = None
own_source_of st (Some source) = own_source st source

abbrev pub with_cursor : Held → ObjId → Cursor → Held
with_cursor held id cursor =
    put_cursor held id cursor (own_source_of held.store (source_in (object_at held.store.objects id).kind))

-- Methods of classes and modules.

abbrev pub put_method : Store → ObjId → SymId → Option Method → Visibility → Store
put_method st class name None visibility = st
put_method st class name (Some m) visibility = defined.with_method st class name m visibility

-- where the store lacks the class, the name or what the method names, all stays
abbrev pub with_method : Store → ObjId → SymId → Method → Visibility → Store
with_method st class name m visibility = if has_space st class && has_symbol st name
    then put_method st class name (own_method st m) visibility else st

abbrev pub with_default : Store → ObjId → Visibility → Store
with_default st class visibility = if has_space st class
    then parts.with_objects st (defined.with_default st.objects class visibility) else st

abbrev pub without_method : Store → ObjId → SymId → Store
without_method st class name = if has_space st class
    then parts.with_objects st (with_class st.objects class (record (class_at st.objects class)
    { methods = without_entry (class_at st.objects class).methods name }))
    else st
