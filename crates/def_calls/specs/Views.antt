-- What a value is, for those that want one sort of object.
use Rattle.std.specs.Prelude.{ℕ, ℤ, List, Bool, Option, Some, None, unwrap_or}
use Rattle.rb_value.specs.declared.value.Value.{Value}
use Rattle.rb_value.specs.declared.value.Value.TheVariants.{Nil, True, False, Int, Sym, Obj}
use Rattle.rb_value.specs.declared.value.ObjId.{ObjId}
use Rattle.rb_value.specs.declared.value.SymId.{SymId}
use Rattle.rb_value.specs.Object.{Object}
use Rattle.rb_value.specs.declared.hash.HashContents.{HashContents}
use Rattle.rb_value.specs.declared.procs.ProcContents.{ProcContents}
use Rattle.rb_value.specs.declared.kind.Kind.{Kind}
use Rattle.rb_value.specs.declared.kind.Kind.TheVariants as kind
use Rattle.def_core.specs.Store.{object_at}
use Rattle.def_core.specs.Bind.{elements_in}

abbrev pub object_in : Value → Option ObjId
object_in Nil = None
object_in True = None
object_in False = None
object_in (Int n) = None
object_in (Sym s) = None
object_in (Obj id) = Some id

abbrev pub integer_in : Value → Option ℤ
integer_in Nil = None
integer_in True = None
integer_in False = None
integer_in (Int n) = Some n
integer_in (Sym s) = None
integer_in (Obj id) = None

abbrev pub symbol_in : Value → Option SymId
symbol_in Nil = None
symbol_in True = None
symbol_in False = None
symbol_in (Int n) = None
symbol_in (Sym s) = Some s
symbol_in (Obj id) = None

-- what isn't nil
abbrev pub present : Value → Option Value
present Nil = None
present True = Some True
present False = Some False
present (Int n) = Some (Int n)
present (Sym s) = Some (Sym s)
present (Obj id) = Some (Obj id)

-- what a value holds, where it is an object
abbrev pub kind_by : List Object → Option ObjId → Kind
kind_by objects None = kind.Plain
kind_by objects (Some id) = (object_at objects id).kind

abbrev pub kind_in : List Object → Value → Kind
kind_in objects v = kind_by objects (object_in v)

-- a Proc: one with a body of code, or one whose call enters a row of the core methods with a kept value
pub data Callable : Type 0 where
  by_body : ProcContents → Callable
  by_row : ℕ → Value → Callable

-- the bytes of a String
abbrev pub string_of : Kind → Option (List ℕ)
string_of kind.Plain = None
string_of (kind.Class c) = None
string_of (kind.String s) = Some s
string_of (kind.Array a) = None
string_of (kind.Hash h) = None
string_of (kind.Range r) = None
string_of (kind.Proc p) = None
string_of (kind.CoreProc r v) = None
string_of (kind.Fiber b e) = None
string_of (kind.Exception m d) = None
string_of (kind.Enumerator e) = None
string_of (kind.Yielder b) = None

-- the contents of a Hash
abbrev pub hash_of : Kind → Option HashContents
hash_of kind.Plain = None
hash_of (kind.Class c) = None
hash_of (kind.String s) = None
hash_of (kind.Array a) = None
hash_of (kind.Hash h) = Some h
hash_of (kind.Range r) = None
hash_of (kind.Proc p) = None
hash_of (kind.CoreProc r v) = None
hash_of (kind.Fiber b e) = None
hash_of (kind.Exception m d) = None
hash_of (kind.Enumerator e) = None
hash_of (kind.Yielder b) = None

-- a Proc
abbrev pub callable_of : Kind → Option Callable
callable_of kind.Plain = None
callable_of (kind.Class c) = None
callable_of (kind.String s) = None
callable_of (kind.Array a) = None
callable_of (kind.Hash h) = None
callable_of (kind.Range r) = None
callable_of (kind.Proc p) = Some (by_body p)
callable_of (kind.CoreProc r v) = Some (by_row r v)
callable_of (kind.Fiber b e) = None
callable_of (kind.Exception m d) = None
callable_of (kind.Enumerator e) = None
callable_of (kind.Yielder b) = None

-- the message of an exception, and its status, name or result
abbrev pub exception_of : Kind → Option (Value × Value)
exception_of kind.Plain = None
exception_of (kind.Class c) = None
exception_of (kind.String s) = None
exception_of (kind.Array a) = None
exception_of (kind.Hash h) = None
exception_of (kind.Range r) = None
exception_of (kind.Proc p) = None
exception_of (kind.CoreProc r v) = None
exception_of (kind.Fiber b e) = None
exception_of (kind.Exception m d) = Some (m, d)
exception_of (kind.Enumerator e) = None
exception_of (kind.Yielder b) = None

abbrev pub message_of : Kind → Value
message_of k = (unwrap_or (exception_of k) (Nil, Nil)).0

abbrev pub detail_of : Kind → Value
detail_of k = (unwrap_or (exception_of k) (Nil, Nil)).1

-- the Proc that a fiber runs, and whether the fiber has ended
abbrev pub fiber_of : Kind → Option (ObjId × Bool)
fiber_of kind.Plain = None
fiber_of (kind.Class c) = None
fiber_of (kind.String s) = None
fiber_of (kind.Array a) = None
fiber_of (kind.Hash h) = None
fiber_of (kind.Range r) = None
fiber_of (kind.Proc p) = None
fiber_of (kind.CoreProc r v) = None
fiber_of (kind.Fiber b e) = Some (b, e)
fiber_of (kind.Exception m d) = None
fiber_of (kind.Enumerator e) = None
fiber_of (kind.Yielder b) = None

-- The object that a value is, where it is of that sort.

abbrev pub if_there : {A : Type 0} → Option A → Value → Option ObjId
if_there None v = None
if_there (Some x) v = object_in v

abbrev pub an_array : List Object → Value → Option ObjId
an_array objects v = if_there (elements_in objects v) v

abbrev pub a_string : List Object → Value → Option ObjId
a_string objects v = if_there (string_of (kind_in objects v)) v

abbrev pub a_hash : List Object → Value → Option ObjId
a_hash objects v = if_there (hash_of (kind_in objects v)) v

abbrev pub a_proc : List Object → Value → Option ObjId
a_proc objects v = if_there (callable_of (kind_in objects v)) v

abbrev pub a_fiber : List Object → Value → Option ObjId
a_fiber objects v = if_there (fiber_of (kind_in objects v)) v

abbrev pub an_exception : List Object → Value → Option ObjId
an_exception objects v = if_there (exception_of (kind_in objects v)) v
