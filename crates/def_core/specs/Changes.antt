-- What the calls that define classes, modules and methods do to a store (ISO/IEC 30170:2012, 13.1 to 13.4).
use Rattle.std.specs.Prelude.{ℕ, ◌+◌, List, [], ◌∷◌, ◌++◌, Bool, true, false, not, ◌&&◌, filter, length, nat_eq, codes, if◌then◌else◌, Option, Some, None, is_some, unwrap_or}
use Rattle.std.specs.List.{position}
use Rattle.std.specs.Map.{lookup}
use Rattle.std.specs.Str.{bytes_eq}
use Rattle.indexmap.specs.IndexMap.{insert_entry}
use Rattle.rb_value.specs.declared.value.Value.{Value}
use Rattle.rb_value.specs.declared.value.Value.TheVariants.{Nil, True, False, Int, Sym, Obj}
use Rattle.rb_value.specs.declared.value.ObjId.{ObjId}
use Rattle.rb_value.specs.declared.value.SymId.{SymId}
use Rattle.rb_value.specs.declared.method.Visibility.{Visibility}
use Rattle.rb_value.specs.declared.method.Visibility.TheVariants.{Public, Private, Protected}
use Rattle.rb_value.specs.declared.method.Method.{Method}
use Rattle.rb_value.specs.declared.outcome.Outcome.TheVariants as outcome
use Rattle.rb_value.specs.Object.{Object}
use Rattle.rb_value.specs.declared.kind.ClassContents.{ClassContents}
use Rattle.rb_value.specs.declared.kind.ClassForm.{ClassForm}
use Rattle.rb_value.specs.declared.kind.ClassForm.TheVariants as form
use Rattle.rb_value.specs.declared.kind.Kind.{Kind}
use Rattle.rb_value.specs.declared.kind.Kind.TheVariants as kind
use Rattle.rb_value.specs.declared.kind.Sort.{Sort}
use Rattle.rb_value.specs.declared.kind.Sort.TheVariants as sort
use Rattle.rb_value.specs.declared.core_class.CoreClass.{CoreClass}
use Rattle.rb_value.specs.declared.core_class.CoreClass.TheVariants as class
use Rattle.rb_value.specs.MethodTable.{with_entry}
use Rattle.def_core.specs.declared.cause.Cause.{Cause}
use Rattle.def_core.specs.declared.cause.Cause.TheVariants as cause
use Rattle.def_core.specs.declared.found.Found.{Found}
use Rattle.def_core.specs.Store.{Store, Done, core, fresh, object_at, sort_at, set_object, same_object, object_number, symbol_number, next_number, with_object, name_at}
use Rattle.def_core.specs.Classes.{empty_class, class_at, with_class, chain, is_member, lineage, singletons_from, plain_class_of}
use Rattle.def_core.specs.Find.{find}
use Rattle.def_core.specs.Texts as texts

-- the call gives a value, with this store
abbrev pub gives : Value → Store → Done
gives v st = record { outcome = outcome.Value v; store = st }

-- the call raises, and the text is a new String
unfoldable pub fails : Store → Cause → Done
fails st c = record {
  outcome = outcome.Raise (record { class = texts.class_of c; message = next_number st; detail = texts.detail_of c });
  store = with_object st (fresh (core class.String) (kind.String (texts.text_of st c)));
}

-- a name as a symbol, which is added where it isn't there
pub record Interned : Type 0 where
  pub symbol : SymId
  pub store : Store

abbrev pub intern_at : Store → List ℕ → Option ℕ → Interned
intern_at st name (Some i) = record { symbol = symbol_number i; store = st }
intern_at st name None = record {
  symbol = symbol_number (length st.symbols);
  store =
      record st { symbols = st.symbols ++ name ∷ [] };
}

unfoldable pub intern : Store → List ℕ → Interned
intern st name = intern_at st name (position (bytes_eq name) st.symbols)

-- Singleton classes.

-- a new singleton class of an object, under the superclass
abbrev pub attach : List Object → ObjId → ObjId → List Object
attach objects id superclass =
    set_object objects id (record (object_at objects id) { singleton = Some (object_number (length objects)) })
    ++ fresh (core class.Class) (kind.Class (empty_class form.Singleton (Some superclass))) ∷ []

-- the superclass of the singleton class of a class: that of its superclass, and Class where it has none
abbrev pub above_class : List Object → Option ObjId → ObjId
above_class objects None = core class.Class
above_class objects (Some p) = unwrap_or (object_at objects p).singleton (core class.Class)

-- the superclass of the singleton class of an object that is no class is its class
abbrev pub above : List Object → ObjId → Sort → ObjId
above objects id sort.Class = above_class objects (class_at objects id).superclass
above objects id sort.Singleton = above_class objects (class_at objects id).superclass
above objects id sort.Module = (object_at objects id).class
above objects id sort.Plain = (object_at objects id).class
above objects id sort.String = (object_at objects id).class
above objects id sort.Array = (object_at objects id).class
above objects id sort.Hash = (object_at objects id).class
above objects id sort.Range = (object_at objects id).class
above objects id sort.Proc = (object_at objects id).class
above objects id sort.Fiber = (object_at objects id).class
above objects id sort.Exception = (object_at objects id).class
above objects id sort.Enumerator = (object_at objects id).class
above objects id sort.Yielder = (object_at objects id).class

-- makes the singleton classes of these objects, the last first
unfoldable pub make_all : List Object → List ObjId → List Object
make_all objects [] = objects
make_all objects (id ∷ ids) = let made = make_all objects ids in attach made id (above made id (sort_at made id))

-- the object, and where it is a class its superclasses, that have no singleton class
unfoldable pub missing : List Object → ObjId → List ObjId
missing objects id = filter (λ k. not (is_some (object_at objects k).singleton))
    (singletons_from objects id (sort_at objects id))

unfoldable pub with_singleton : List Object → ObjId → List Object
with_singleton objects id = make_all objects (missing objects id)

abbrev pub give_singleton : Store → ObjId → List Object → Done
give_singleton st id objects = gives (Obj (unwrap_or (object_at objects id).singleton id))
    (record st { objects = objects })

unfoldable pub singleton : Store → Value → Done
singleton st Nil = fails st cause.NoSingleton
singleton st True = fails st cause.NoSingleton
singleton st False = fails st cause.NoSingleton
singleton st (Int n) = fails st cause.NoSingleton
singleton st (Sym s) = fails st cause.NoSingleton
singleton st (Obj id) = give_singleton st id (with_singleton st.objects id)

-- Included modules.

-- the members of the module's chain that aren't in the class's
abbrev pub new_members : List Object → ObjId → ObjId → List ObjId
new_members objects c m = filter (λ k. not (is_member (chain objects c) k)) (chain objects m)

unfoldable pub with_included : List Object → ObjId → ObjId → List Object
with_included objects c m = with_class objects c
    (record (class_at objects c) { included = new_members objects c m ++ (class_at objects c).included })

abbrev pub is_module_sort : Sort → Bool
is_module_sort sort.Module = true
is_module_sort sort.Class = false
is_module_sort sort.Singleton = false
is_module_sort sort.Plain = false
is_module_sort sort.String = false
is_module_sort sort.Array = false
is_module_sort sort.Hash = false
is_module_sort sort.Range = false
is_module_sort sort.Proc = false
is_module_sort sort.Fiber = false
is_module_sort sort.Exception = false
is_module_sort sort.Enumerator = false
is_module_sort sort.Yielder = false

abbrev pub is_class_sort : Sort → Bool
is_class_sort sort.Module = false
is_class_sort sort.Class = true
is_class_sort sort.Singleton = false
is_class_sort sort.Plain = false
is_class_sort sort.String = false
is_class_sort sort.Array = false
is_class_sort sort.Hash = false
is_class_sort sort.Range = false
is_class_sort sort.Proc = false
is_class_sort sort.Fiber = false
is_class_sort sort.Exception = false
is_class_sort sort.Enumerator = false
is_class_sort sort.Yielder = false

-- the number of a value that is an object for which the test holds of its sort
abbrev pub object_of_sort : (Sort → Bool) → List Object → Value → Option ObjId
object_of_sort test objects Nil = None
object_of_sort test objects True = None
object_of_sort test objects False = None
object_of_sort test objects (Int n) = None
object_of_sort test objects (Sym s) = None
object_of_sort test objects (Obj id) = if test (sort_at objects id) then Some id else None

abbrev pub include_if : Store → ObjId → Value → Option ObjId → Done
include_if st c v None = fails st (cause.Expected (core class.Module) (plain_class_of st.objects v))
include_if st c v (Some m) = gives (Obj c) (record st { objects = with_included st.objects c m })

unfoldable pub include : Store → ObjId → Value → Done
include st c v = include_if st c v (object_of_sort is_module_sort st.objects v)

-- Methods.

-- `initialize` is always private
abbrev pub visibility_for : Store → SymId → Visibility → Visibility
visibility_for st name v = if bytes_eq (name_at st name) (codes "initialize") then Private else v

unfoldable pub with_method : Store → ObjId → SymId → Method → Visibility → Store
with_method st c name m v =
    record st {
      objects = with_class st.objects c
          (record (class_at st.objects c) {
            methods =
                with_entry (class_at st.objects c).methods name (record { method = m; visibility = visibility_for st name v });
          });
    }

-- a method that is found gets an entry of its own
abbrev pub set_visibility_of : Store → ObjId → SymId → Visibility → Option Found → Done
set_visibility_of st c name v None = fails st (cause.UndefinedInClass name c)
set_visibility_of st c name v (Some f) = gives Nil (with_method st c name f.method v)

unfoldable pub set_visibility : Store → ObjId → SymId → Visibility → Done
set_visibility st c name v = set_visibility_of st c name v (find st.objects c name)

unfoldable pub with_default : List Object → ObjId → Visibility → List Object
with_default objects c v = with_class objects c (record (class_at objects c) { visibility = v })

-- Classes and modules with names.

abbrev pub constant_in : List (ℕ × Value) → SymId → Option Value
constant_in constants name = lookup (nat_eq name.0) constants

-- the name of a class or module of that name in the scope
abbrev pub full_name : Store → ObjId → SymId → Interned
full_name st scope name =
    if same_object scope (core class.Object)
    then (record { symbol = name; store = st })
    else intern st (texts.class_name st scope ++ codes "::" ++ name_at st name)

-- a constant of the scope: one that is there keeps its place, and a new one goes last
abbrev pub with_constant : List Object → ObjId → SymId → Value → List Object
with_constant objects scope name v = with_class objects scope
    (record (class_at objects scope) {
      constants = insert_entry nat_eq (class_at objects scope).constants name.0 v;
    })

-- a new class or module as a constant of the scope
abbrev pub make_named : Interned → ObjId → SymId → CoreClass → ClassForm → Option ObjId → Done
make_named named scope name class f superclass =
    let made = with_object named.store (fresh (core class)
    (kind.Class (record (empty_class f superclass) { name = Some named.symbol }))) in
    let id = next_number named.store in
    gives (Obj id) (record made { objects = with_constant made.objects scope name (Obj id) })

-- whether the parent that is given is the superclass; none is given by nil
abbrev pub parent_agrees : Option ObjId → Option ObjId → Bool
parent_agrees None superclass = true
parent_agrees (Some p) None = false
parent_agrees (Some p) (Some s) = same_object p s

abbrev pub reopen_class : Store → SymId → Option ObjId → Option ObjId → Done
reopen_class st name parent None = fails st (cause.NotClass name)
reopen_class st name parent (Some c) = if parent_agrees parent (class_at st.objects c).superclass then gives (Obj c) st
    else fails st (cause.SuperclassMismatch name)

abbrev pub define_class_by : Store → ObjId → SymId → Option ObjId → Option Value → Done
define_class_by st scope name parent None = make_named (full_name st scope name) scope name class.Class form.Class
    (Some (unwrap_or parent (core class.Object)))
define_class_by st scope name parent (Some v) = reopen_class st name parent (object_of_sort is_class_sort st.objects v)

abbrev pub define_class_under : Store → ObjId → SymId → Option ObjId → Done
define_class_under st scope name None = fails st cause.SuperclassNotClass
define_class_under st scope name (Some p) = define_class_by st scope name (Some p)
    (constant_in (class_at st.objects scope).constants name)

-- a class of that name in the scope: the one that is there, or a new one
unfoldable pub define_class : Store → ObjId → SymId → Value → Done
define_class st scope name Nil = define_class_by st scope name None
    (constant_in (class_at st.objects scope).constants name)
define_class st scope name True = fails st cause.SuperclassNotClass
define_class st scope name False = fails st cause.SuperclassNotClass
define_class st scope name (Int n) = fails st cause.SuperclassNotClass
define_class st scope name (Sym s) = fails st cause.SuperclassNotClass
define_class st scope name (Obj id) = define_class_under st scope name
    (object_of_sort is_class_sort st.objects (Obj id))

abbrev pub reopen_module : Store → SymId → Option ObjId → Done
reopen_module st name None = fails st (cause.NotModule name)
reopen_module st name (Some m) = gives (Obj m) st

abbrev pub define_module_by : Store → ObjId → SymId → Option Value → Done
define_module_by st scope name None = make_named (full_name st scope name) scope name class.Module form.Module None
define_module_by st scope name (Some v) = reopen_module st name (object_of_sort is_module_sort st.objects v)

-- a module of that name in the scope: the one that is there, or a new one
unfoldable pub define_module : Store → ObjId → SymId → Done
define_module st scope name = define_module_by st scope name (constant_in (class_at st.objects scope).constants name)
