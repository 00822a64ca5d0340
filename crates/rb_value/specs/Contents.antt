-- What an object holds, taken out of it by what it is, and changed in one part.
use Rattle.std.specs.Prelude.{ℕ, List, [], true, Option, Some, None}
use Rattle.rb_value.specs.declared.value.Value.{Value}
use Rattle.rb_value.specs.declared.value.Value.TheVariants.{Nil}
use Rattle.rb_value.specs.declared.value.ObjId.{ObjId}
use Rattle.rb_value.specs.declared.method.Visibility.TheVariants.{Public}
use Rattle.rb_value.specs.declared.hash.HashContents.{HashContents}
use Rattle.rb_value.specs.declared.procs.ProcContents.{ProcContents}
use Rattle.rb_value.specs.declared.kind.ClassContents.{ClassContents}
use Rattle.rb_value.specs.declared.kind.ClassForm.{ClassForm}
use Rattle.rb_value.specs.declared.kind.ClassForm.TheVariants as form
use Rattle.rb_value.specs.declared.kind.Kind.{Kind}
use Rattle.rb_value.specs.declared.kind.Kind.TheVariants as kind
use Rattle.rb_value.specs.Sending.{sent_to}

-- Classes and modules. The contents of any other object are those of a module without anything.

-- a class without a name, modules, constants and methods
abbrev pub empty_class : ClassForm → Option ObjId → ClassContents
empty_class f superclass = record {
  form = f;
  name = None;
  superclass = superclass;
  included = [];
  constants = [];
  visibility = Public;
  methods = [];
}

abbrev pub contents_of : Kind → ClassContents
contents_of kind.Plain = empty_class form.Module None
contents_of (kind.Class c) = c
contents_of (kind.String s) = empty_class form.Module None
contents_of (kind.Array a) = empty_class form.Module None
contents_of (kind.Hash h) = empty_class form.Module None
contents_of (kind.Range r) = empty_class form.Module None
contents_of (kind.Proc p) = empty_class form.Module None
contents_of (kind.CoreProc r k) = empty_class form.Module None
contents_of (kind.Fiber b e) = empty_class form.Module None
contents_of (kind.Exception m d) = empty_class form.Module None
contents_of (kind.Enumerator e) = empty_class form.Module None
contents_of (kind.Yielder b) = empty_class form.Module None

-- Elements of Arrays. What is no Array has none.

abbrev pub elements_in : Kind → List Value
elements_in kind.Plain = []
elements_in (kind.Class c) = []
elements_in (kind.String s) = []
elements_in (kind.Array a) = a
elements_in (kind.Hash h) = []
elements_in (kind.Range r) = []
elements_in (kind.Proc p) = []
elements_in (kind.CoreProc r k) = []
elements_in (kind.Fiber b e) = []
elements_in (kind.Exception m d) = []
elements_in (kind.Enumerator e) = []
elements_in (kind.Yielder b) = []

-- Bytes of Strings. What is no String has none.

abbrev pub bytes_in : Kind → List ℕ
bytes_in kind.Plain = []
bytes_in (kind.Class c) = []
bytes_in (kind.String s) = s
bytes_in (kind.Array a) = []
bytes_in (kind.Hash h) = []
bytes_in (kind.Range r) = []
bytes_in (kind.Proc p) = []
bytes_in (kind.CoreProc r k) = []
bytes_in (kind.Fiber b e) = []
bytes_in (kind.Exception m d) = []
bytes_in (kind.Enumerator e) = []
bytes_in (kind.Yielder b) = []

-- Pairs of Hashes. What is no Hash has none.

abbrev pub no_pairs : HashContents
no_pairs = record { pairs = []; default = Nil; block = None }

abbrev pub hash_in : Kind → HashContents
hash_in kind.Plain = no_pairs
hash_in (kind.Class c) = no_pairs
hash_in (kind.String s) = no_pairs
hash_in (kind.Array a) = no_pairs
hash_in (kind.Hash h) = h
hash_in (kind.Range r) = no_pairs
hash_in (kind.Proc p) = no_pairs
hash_in (kind.CoreProc r k) = no_pairs
hash_in (kind.Fiber b e) = no_pairs
hash_in (kind.Exception m d) = no_pairs
hash_in (kind.Enumerator e) = no_pairs
hash_in (kind.Yielder b) = no_pairs

-- Procs with a body.

abbrev pub proc_in : Kind → Option ProcContents
proc_in kind.Plain = None
proc_in (kind.Class c) = None
proc_in (kind.String s) = None
proc_in (kind.Array a) = None
proc_in (kind.Hash h) = None
proc_in (kind.Range r) = None
proc_in (kind.Proc p) = Some p
proc_in (kind.CoreProc r k) = None
proc_in (kind.Fiber b e) = None
proc_in (kind.Exception m d) = None
proc_in (kind.Enumerator e) = None
proc_in (kind.Yielder b) = None

-- Procs and fibers. Another object stays as it is.

abbrev pub sent : Kind → Option ℕ → Kind
sent kind.Plain a = kind.Plain
sent (kind.Class c) a = kind.Class c
sent (kind.String s) a = kind.String s
sent (kind.Array xs) a = kind.Array xs
sent (kind.Hash h) a = kind.Hash h
sent (kind.Range r) a = kind.Range r
sent (kind.Proc p) a = kind.Proc (record p { sending = sent_to p.sending a })
sent (kind.CoreProc r k) a = kind.CoreProc r k
sent (kind.Fiber b e) a = kind.Fiber b e
sent (kind.Exception m d) a = kind.Exception m d
sent (kind.Enumerator e) a = kind.Enumerator e
sent (kind.Yielder b) a = kind.Yielder b

abbrev pub ended : Kind → Kind
ended kind.Plain = kind.Plain
ended (kind.Class c) = kind.Class c
ended (kind.String s) = kind.String s
ended (kind.Array xs) = kind.Array xs
ended (kind.Hash h) = kind.Hash h
ended (kind.Range r) = kind.Range r
ended (kind.Proc p) = kind.Proc p
ended (kind.CoreProc r k) = kind.CoreProc r k
ended (kind.Fiber b e) = kind.Fiber b true
ended (kind.Exception m d) = kind.Exception m d
ended (kind.Enumerator e) = kind.Enumerator e
ended (kind.Yielder b) = kind.Yielder b
