-- What changes do to a store, whatever the count of its changes.
use Rattle.std.proofs.Common.{◌≡◌, ℕ, List, Bool, true, false, refl, if◌then◌else◌}
use Rattle.std.specs.Prelude.{Option, Some, None}
use Rattle.rb_value.specs.declared.value.Value.{Value}
use Rattle.rb_value.specs.declared.value.ObjId.{ObjId}
use Rattle.rb_value.specs.declared.kind.EnumeratorSource.{EnumeratorSource}
use Rattle.rb_value.specs.Object.{Object}
use Rattle.def_core.specs.Store.{Store, object_at, next_number, sort_at}
use Rattle.def_core.specs.Parts as parts
use Rattle.rb_store.specs.Held.{Held}
use Rattle.heap.specs.Changes as changes
use Rattle.heap.specs.Made as made
use Rattle.heap.specs.Operands.{is_exception, is_string, own_class, own_source}
use Rattle.rows_object.specs.Answered.{holding}

changed_if : (held : Held) (b : Bool) (objects : List Object)
    → (if b then changes.with_objects held objects else held).store
    ≡ (if b then changes.with_objects (holding held.store) objects else holding held.store).store
changed_if held true objects = refl
changed_if held false objects = refl

pub message_of_store : (held : Held) (id : ObjId) (v : Value)
    → (changes.with_message held id v).store ≡ (changes.with_message (holding held.store) id v).store
message_of_store held id v = changed_if held (is_exception (sort_at held.store.objects id)) _

pub bytes_of_store : (held : Held) (id : ObjId) (bytes : List ℕ)
    → (changes.with_bytes held id bytes).store ≡ (changes.with_bytes (holding held.store) id bytes).store
bytes_of_store held id bytes = changed_if held (is_string (sort_at held.store.objects id)) _

enumerator_by_store : (held : Held) (of items : ObjId) (source : Option EnumeratorSource)
    → (made.enumerator_by held of items source).store ≡ (made.enumerator_by (holding held.store) of items source).store
enumerator_by_store held of items None = refl
enumerator_by_store held of items (Some source) = refl

pub enumerator_of_store : (held : Held) (of : ObjId) (source : EnumeratorSource)
    → (made.with_enumerator held of source).store ≡ (made.with_enumerator (holding held.store) of source).store
enumerator_of_store held of source = enumerator_by_store (made.with_items held)
    (own_class (made.with_items held).store of) (next_number held.store) (own_source (made.with_items held).store source)

number_by_store : (held : Held) (items : ObjId) (source : Option EnumeratorSource)
    → made.number_by held items source ≡ made.number_by (holding held.store) items source
number_by_store held items None = refl
number_by_store held items (Some source) = refl

pub enumerator_number_of_store : (held : Held) (source : EnumeratorSource)
    → made.enumerator_number held source ≡ made.enumerator_number (holding held.store) source
enumerator_number_of_store held source = number_by_store (made.with_items held) (next_number held.store)
    (own_source (made.with_items held).store source)
