-- What a new object of a class holds.
use Rattle.std.specs.Prelude.{List, [], ◌∷◌, Bool, false, codes, ◌||◌, if◌then◌else◌, Option, Some, None}
use Rattle.std.specs.List.{list_any}
use Rattle.rb_value.specs.declared.value.Value.{Value}
use Rattle.rb_value.specs.declared.value.Value.TheVariants.{Obj}
use Rattle.rb_value.specs.declared.value.ObjId.{ObjId}
use Rattle.rb_value.specs.declared.core_class.CoreClass.{CoreClass}
use Rattle.rb_value.specs.declared.core_class.CoreClass.TheVariants as class
use Rattle.rb_value.specs.declared.kind.Kind.TheVariants as kind
use Rattle.rb_value.specs.declared.kind.ClassForm.TheVariants as form
use Rattle.rb_value.specs.declared.kind.Sort.{Sort}
use Rattle.def_core.specs.declared.cause.Cause.TheVariants as cause
use Rattle.def_core.specs.Store.{Store, core, fresh}
use Rattle.def_core.specs.Classes.{empty_class, plain_class_of}
use Rattle.def_core.specs.Changes.{Interned, intern, is_class_sort}
use Rattle.def_calls.specs.Definitions.{space_in}
use Rattle.def_calls.specs.World.{World, Answer, make, with_store}
use Rattle.heap.specs.declared.making.Blank.{Blank}
use Rattle.heap.specs.declared.making.Blank.TheVariants as blank
use Rattle.heap.specs.Made.{blank_kind}
use Rattle.heap.specs.Operands.{is_in_chain, own, own_class}
use Rattle.heap.specs.Reading.{sort_of_value}
use Rattle.rows_object.specs.Follows.{raise}

-- whether a class is one of these core classes or below one
abbrev pub is_below_any : Store → ObjId → List CoreClass → Bool
is_below_any st c among = list_any (λ k. is_in_chain st c (core k)) among

-- the classes of whose values the language makes all itself, and those whose objects are made by a `new` of their own
abbrev pub without_new : List CoreClass
without_new = class.Numeric ∷ class.NilClass ∷ class.TrueClass ∷ class.FalseClass ∷ class.Symbol ∷ []

abbrev pub without_allocate : List CoreClass
without_allocate = class.Module ∷ class.Proc ∷ class.Fiber ∷ class.Range ∷ class.Enumerator ∷ class.Yielder ∷ []

-- none where a program makes no object of the class without a value
abbrev pub blank_of : Store → ObjId → Option Blank
blank_of st c =
    if is_in_chain st c (core class.Exception) then Some blank.Exception
    else if is_in_chain st c (core class.Array) then Some blank.Array
    else if is_in_chain st c (core class.String) then Some blank.String
    else if is_in_chain st c (core class.Hash) then Some blank.Hash
    else if is_below_any st c without_new || is_below_any st c without_allocate then None
    else Some blank.Plain

-- `allocate`, which isn't there of a class without such objects

abbrev pub no_allocate : ObjId → World → Interned → Answer
no_allocate c w named = raise
    (cause.UndefinedMethod named.symbol (plain_class_of named.store.objects (own named.store (Obj c))))
    (with_store w named.store)

abbrev pub allocate_by : ObjId → Option Blank → World → Answer
allocate_by c (Some b) w = make w (fresh (own_class w.store c) (blank_kind b))
allocate_by c None w = no_allocate c w (intern w.store (codes "allocate"))

abbrev pub allocate : ObjId → World → Answer
allocate c w = allocate_by c (blank_of w.store c) w

-- `new` of Class: a class without a name under the one that is given, and under Object where none is

abbrev pub is_class : Option Sort → Bool
is_class None = false
is_class (Some s) = is_class_sort s

abbrev pub class_in : Store → Value → Option ObjId
class_in st v = if is_class (sort_of_value st v) then space_in st.objects (own st v) else None

abbrev pub superclass_in : Store → List Value → Option ObjId
superclass_in st [] = Some (core class.Object)
superclass_in st (v ∷ vs) = class_in st v

abbrev pub class_under : Option ObjId → World → Answer
class_under (Some c) w =
    make w (fresh (core class.Class) (kind.Class (empty_class form.Class (Some (own_class w.store c)))))
class_under None w = raise cause.SuperclassNotClass w

abbrev pub new_class : List Value → World → Answer
new_class args w = class_under (superclass_in w.store args) w

-- `new` of Module: a module without a name
abbrev pub new_module : World → Answer
new_module w = make w (fresh (core class.Module) (kind.Class (empty_class form.Module None)))
