-- What the calls that make an object give and leave: the new object has the next number.
use Rattle.std.specs.Prelude.{ℕ, List, [], Bool, false, if◌then◌else◌, Option, Some, None}
use Rattle.rb_value.specs.declared.value.Value.{Value}
use Rattle.rb_value.specs.declared.value.Value.TheVariants.{Nil, Obj}
use Rattle.rb_value.specs.declared.value.ObjId.{ObjId}
use Rattle.rb_value.specs.declared.kind.Kind.{Kind}
use Rattle.rb_value.specs.declared.kind.Kind.TheVariants as kind
use Rattle.rb_value.specs.declared.kind.ClassForm.TheVariants as form
use Rattle.rb_value.specs.declared.kind.RangeContents.{RangeContents}
use Rattle.rb_value.specs.declared.kind.EnumeratorSource.{EnumeratorSource}
use Rattle.rb_value.specs.declared.procs.ProcContents.{ProcContents}
use Rattle.rb_value.specs.declared.core_class.CoreClass.TheVariants as class
use Rattle.def_core.specs.Store.{Store, core, fresh, object_at, next_number, with_object}
use Rattle.def_core.specs.Classes.{empty_class}
use Rattle.def_core.specs.Parts.{no_pairs}
use Rattle.rb_store.specs.Held.{Held}
use Rattle.heap.specs.declared.making.Blank.{Blank}
use Rattle.heap.specs.declared.making.Blank.TheVariants as blank
use Rattle.heap.specs.Reading.{proc_in}
use Rattle.heap.specs.Operands.{own, own_class, own_proc, own_source, has_all, has_proc}

-- a new object of a class
abbrev pub with_new : Held → ObjId → Kind → Held
with_new held of k = record held { store = with_object held.store (fresh of k) }

-- an Array, where the store has all of its elements; else nil
abbrev pub array_given : Store → List Value → Value
array_given st vs = if has_all st vs then Obj (next_number st) else Nil

abbrev pub with_array : Held → List Value → Held
with_array held vs = if has_all held.store vs then with_new held (core class.Array) (kind.Array vs) else held

-- an object of a class with nothing in it
abbrev pub blank_kind : Blank → Kind
blank_kind blank.Plain = kind.Plain
blank_kind blank.String = kind.String []
blank_kind blank.Array = kind.Array []
blank_kind blank.Hash = kind.Hash no_pairs
blank_kind blank.Exception = kind.Exception Nil Nil

abbrev pub with_blank : Held → ObjId → Blank → Held
with_blank held of b = with_new held (own_class held.store of) (blank_kind b)

abbrev pub with_range : Held → ObjId → RangeContents → Held
with_range held of r = with_new held (own_class held.store of) (kind.Range r)

abbrev pub with_exception : Held → ObjId → Value → Value → Held
with_exception held of message detail =
    with_new held (own_class held.store of) (kind.Exception (own held.store message) (own held.store detail))

-- Procs
abbrev pub with_proc : Held → ProcContents → Held
with_proc held p = with_new held (core class.Proc) (kind.Proc (own_proc held.store p))

-- the Proc with the body of another, as a lambda or not, where that has a body
abbrev pub copied : Held → Option ProcContents → Bool → Held
copied held None lambda = held
copied held (Some p) lambda = with_proc held (record p { lambda = lambda })

abbrev pub with_proc_copy : Held → ObjId → Bool → Held
with_proc_copy held id lambda = copied held (proc_in (object_at held.store.objects id).kind) lambda

abbrev pub number_of : Store → Option ProcContents → Option ObjId
number_of st None = None
number_of st (Some p) = Some (next_number st)

abbrev pub copy_number : Store → ObjId → Option ObjId
copy_number st id = number_of st (proc_in (object_at st.objects id).kind)

abbrev pub with_core_proc : Held → ℕ → Value → Held
with_core_proc held row kept = with_new held (core class.Proc) (kind.CoreProc row (own held.store kept))

-- what runs or calls a Proc, where there is that Proc
abbrev pub number_for : Store → ObjId → Option ObjId
number_for st p = if has_proc st p then Some (next_number st) else None

abbrev pub with_fiber : Held → ObjId → ObjId → Held
with_fiber held of p =
    if has_proc held.store p then with_new held (own_class held.store of) (kind.Fiber p false) else held

abbrev pub with_yielder : Held → ObjId → Held
with_yielder held p = if has_proc held.store p then with_new held (core class.Yielder) (kind.Yielder p) else held

-- classes and modules without names
abbrev pub with_class_under : Held → ObjId → Held
with_class_under held superclass =
    with_new held (core class.Class) (kind.Class (empty_class form.Class (Some (own_class held.store superclass))))

abbrev pub with_root : Held → Held
with_root held = with_new held (core class.Class) (kind.Class (empty_class form.Class None))

abbrev pub with_module : Held → Held
with_module held = with_new held (core class.Module) (kind.Class (empty_class form.Module None))

-- Enumerators. The Array of the items is new, too, and alone where the source names what the store hasn't.

abbrev pub with_items : Held → Held
with_items held = with_new held (core class.Array) (kind.Array [])

abbrev pub enumerator_by : Held → ObjId → ObjId → Option EnumeratorSource → Held
enumerator_by held of items None = held
enumerator_by held of items (Some source) = with_new held of (kind.Enumerator (record {
  source = source;
  fiber = None;
  items = items;
  position = 0;
  result = None;
}))

abbrev pub number_by : Held → ObjId → Option EnumeratorSource → ObjId
number_by held items None = items
number_by held items (Some source) = next_number held.store

abbrev pub with_enumerator : Held → ObjId → EnumeratorSource → Held
with_enumerator held of source = enumerator_by (with_items held) (own_class (with_items held).store of)
    (next_number held.store) (own_source (with_items held).store source)

abbrev pub enumerator_number : Held → EnumeratorSource → ObjId
enumerator_number held source =
    number_by (with_items held) (next_number held.store) (own_source (with_items held).store source)
