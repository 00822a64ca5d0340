-- What an object holds in the least room, as what it holds, its singleton class and its variables.
use Rattle.std.specs.Prelude.{List, [], ◌∷◌, Bool, true, false, Option, None}
use Rattle.rb_value.specs.declared.value.ObjId.{ObjId}
use Rattle.rb_value.specs.declared.variables.Variable.{Variable}
use Rattle.rb_value.specs.declared.kind.Kind.{Kind}
use Rattle.rb_value.specs.declared.kind.Kind.TheVariants as kind
use Rattle.rb_value.specs.declared.held.Held.{Held}
use Rattle.rb_value.specs.declared.held.Held.TheVariants as held
use Rattle.rb_value.specs.Object.{Object}

abbrev pub kind_of : Held → Kind
kind_of held.Plain = kind.Plain
kind_of (held.Varied v) = kind.Plain
kind_of (held.Class c) = kind.Class c
kind_of (held.String s) = kind.String s
kind_of held.Empty = kind.Array []
kind_of (held.One v) = kind.Array (v ∷ [])
kind_of (held.Two a) = kind.Array a
kind_of (held.Array a) = kind.Array a
kind_of (held.Hash h) = kind.Hash h
kind_of (held.Range r) = kind.Range r
kind_of (held.Proc p) = kind.Proc p
kind_of (held.CoreProc r k) = kind.CoreProc r k
kind_of (held.Fiber b e) = kind.Fiber b e
kind_of (held.Exception m d) = kind.Exception m d
kind_of (held.Enumerator e) = kind.Enumerator e
kind_of (held.Yielder b) = kind.Yielder b
kind_of (held.Rich r) = r.kind

abbrev pub singleton_of : Held → Option ObjId
singleton_of held.Plain = None
singleton_of (held.Varied v) = None
singleton_of (held.Class c) = None
singleton_of (held.String s) = None
singleton_of held.Empty = None
singleton_of (held.One v) = None
singleton_of (held.Two a) = None
singleton_of (held.Array a) = None
singleton_of (held.Hash h) = None
singleton_of (held.Range r) = None
singleton_of (held.Proc p) = None
singleton_of (held.CoreProc r k) = None
singleton_of (held.Fiber b e) = None
singleton_of (held.Exception m d) = None
singleton_of (held.Enumerator e) = None
singleton_of (held.Yielder b) = None
singleton_of (held.Rich r) = r.singleton

abbrev pub variables_of : Held → List Variable
variables_of held.Plain = []
variables_of (held.Varied v) = v
variables_of (held.Class c) = []
variables_of (held.String s) = []
variables_of held.Empty = []
variables_of (held.One v) = []
variables_of (held.Two a) = []
variables_of (held.Array a) = []
variables_of (held.Hash h) = []
variables_of (held.Range r) = []
variables_of (held.Proc p) = []
variables_of (held.CoreProc r k) = []
variables_of (held.Fiber b e) = []
variables_of (held.Exception m d) = []
variables_of (held.Enumerator e) = []
variables_of (held.Yielder b) = []
variables_of (held.Rich r) = r.variables

-- whether what it holds stands apart
abbrev pub is_rich : Held → Bool
is_rich held.Plain = false
is_rich (held.Varied v) = false
is_rich (held.Class c) = false
is_rich (held.String s) = false
is_rich held.Empty = false
is_rich (held.One v) = false
is_rich (held.Two a) = false
is_rich (held.Array a) = false
is_rich (held.Hash h) = false
is_rich (held.Range r) = false
is_rich (held.Proc p) = false
is_rich (held.CoreProc r k) = false
is_rich (held.Fiber b e) = false
is_rich (held.Exception m d) = false
is_rich (held.Enumerator e) = false
is_rich (held.Yielder b) = false
is_rich (held.Rich r) = true

-- whether it is an Array of which all elements stand within
abbrev pub is_few : Held → Bool
is_few held.Plain = false
is_few (held.Varied v) = false
is_few (held.Class c) = false
is_few (held.String s) = false
is_few held.Empty = true
is_few (held.One v) = true
is_few (held.Two a) = true
is_few (held.Array a) = false
is_few (held.Hash h) = false
is_few (held.Range r) = false
is_few (held.Proc p) = false
is_few (held.CoreProc r k) = false
is_few (held.Fiber b e) = false
is_few (held.Exception m d) = false
is_few (held.Enumerator e) = false
is_few (held.Yielder b) = false
is_few (held.Rich r) = false

abbrev pub seen : ObjId → Held → Object
seen class h = record {
  class = class;
  singleton = singleton_of h;
  variables = variables_of h;
  kind = kind_of h;
}
