-- What is read of the contents of an object; nothing where they are of another sort.
use Rattle.std.specs.Prelude.{ℕ, if◌then◌else◌, Option, Some, None}
use Rattle.rb_value.specs.declared.value.Value.{Value}
use Rattle.rb_value.specs.declared.value.Value.TheVariants.{Nil, True, False, Int, Sym, Obj}
use Rattle.rb_value.specs.declared.value.ObjId.{ObjId}
use Rattle.rb_value.specs.declared.kind.RangeContents.{RangeContents}
use Rattle.rb_value.specs.declared.kind.EnumeratorSource.{EnumeratorSource}
use Rattle.rb_value.specs.declared.kind.EnumeratorContents.{EnumeratorContents}
use Rattle.rb_value.specs.declared.kind.Kind.{Kind}
use Rattle.rb_value.specs.declared.kind.Kind.TheVariants as kind
use Rattle.rb_value.specs.declared.kind.Sort.{Sort}
pub use Rattle.rb_value.specs.Contents.{proc_in}
use Rattle.def_core.specs.Store.{Store, object_at, sort_at}
use Rattle.def_core.specs.Sound.{has_object}
use Rattle.heap.specs.declared.enumerators.Cursor.{Cursor}
use Rattle.heap.specs.Operands.{own}

-- the sort of the object that a value is
abbrev pub sort_of_value : Store → Value → Option Sort
sort_of_value st Nil = None
sort_of_value st True = None
sort_of_value st False = None
sort_of_value st (Int n) = None
sort_of_value st (Sym name) = None
sort_of_value st (Obj id) = if has_object st.objects id then Some (sort_at st.objects id) else None

-- what an Enumerator holds
abbrev pub contents_in : Kind → Option EnumeratorContents
contents_in kind.Plain = None
contents_in (kind.Class c) = None
contents_in (kind.String s) = None
contents_in (kind.Array a) = None
contents_in (kind.Hash h) = None
contents_in (kind.Range r) = None
contents_in (kind.Proc p) = None
contents_in (kind.CoreProc r k) = None
contents_in (kind.Fiber b e) = None
contents_in (kind.Exception m d) = None
contents_in (kind.Enumerator e) = Some e
contents_in (kind.Yielder b) = None

abbrev pub source_of : Option EnumeratorContents → Option EnumeratorSource
source_of None = None
source_of (Some e) = Some e.source

abbrev pub source_in : Kind → Option EnumeratorSource
source_in k = source_of (contents_in k)

abbrev pub cursor_of : Option EnumeratorContents → Option Cursor
cursor_of None = None
cursor_of (Some e) = Some (record { fiber = e.fiber; items = e.items; position = e.position; result = e.result })

abbrev pub cursor_in : Kind → Option Cursor
cursor_in k = cursor_of (contents_in k)

-- the ends of a Range
abbrev pub range_in : Kind → Option RangeContents
range_in kind.Plain = None
range_in (kind.Class c) = None
range_in (kind.String s) = None
range_in (kind.Array a) = None
range_in (kind.Hash h) = None
range_in (kind.Range r) = Some r
range_in (kind.Proc p) = None
range_in (kind.CoreProc r k) = None
range_in (kind.Fiber b e) = None
range_in (kind.Exception m d) = None
range_in (kind.Enumerator e) = None
range_in (kind.Yielder b) = None

-- the row that a call of a Proc without a body enters, and the value that it keeps
abbrev pub core_proc_in : Store → Kind → Option (ℕ × Value)
core_proc_in st kind.Plain = None
core_proc_in st (kind.Class c) = None
core_proc_in st (kind.String s) = None
core_proc_in st (kind.Array a) = None
core_proc_in st (kind.Hash h) = None
core_proc_in st (kind.Range r) = None
core_proc_in st (kind.Proc p) = None
core_proc_in st (kind.CoreProc r k) = Some (r, own st k)
core_proc_in st (kind.Fiber b e) = None
core_proc_in st (kind.Exception m d) = None
core_proc_in st (kind.Enumerator e) = None
core_proc_in st (kind.Yielder b) = None

-- the Proc that a Yielder gives its items to
abbrev pub yielder_in : Kind → Option ObjId
yielder_in kind.Plain = None
yielder_in (kind.Class c) = None
yielder_in (kind.String s) = None
yielder_in (kind.Array a) = None
yielder_in (kind.Hash h) = None
yielder_in (kind.Range r) = None
yielder_in (kind.Proc p) = None
yielder_in (kind.CoreProc r k) = None
yielder_in (kind.Fiber b e) = None
yielder_in (kind.Exception m d) = None
yielder_in (kind.Enumerator e) = None
yielder_in (kind.Yielder b) = Some b
