-- Classes and modules, and the chain that a look-up goes through (ISO/IEC 30170:2012, 13.1 to 13.4).
use Rattle.std.specs.Prelude.{ℕ, suc, zero, List, [], ◌∷◌, ◌++◌, Bool, true, false, not, filter, length, nat_eq, Option, Some, None}
use Rattle.std.specs.List.{list_any}
use Rattle.rb_value.specs.declared.value.Value.{Value}
use Rattle.rb_value.specs.declared.value.Value.TheVariants.{Nil, True, False, Int, Sym, Obj}
use Rattle.rb_value.specs.declared.value.ObjId.{ObjId}
use Rattle.rb_value.specs.Object.{Object}
use Rattle.rb_value.specs.declared.kind.ClassContents.{ClassContents}
use Rattle.rb_value.specs.declared.kind.ClassForm.{ClassForm}
use Rattle.rb_value.specs.declared.kind.ClassForm.TheVariants as form
use Rattle.rb_value.specs.declared.kind.Kind.TheVariants as kind
use Rattle.rb_value.specs.declared.kind.Sort.{Sort}
use Rattle.rb_value.specs.declared.kind.Sort.TheVariants as sort
use Rattle.rb_value.specs.declared.core_class.CoreClass.TheVariants as class
pub use Rattle.rb_value.specs.Contents.{empty_class, contents_of}
use Rattle.def_core.specs.Store.{core, object_at, set_object, sort_at, object_number, fresh, same_object}

abbrev pub class_at : List Object → ObjId → ClassContents
class_at objects c = contents_of (object_at objects c).kind

-- the class or module with other contents
abbrev pub with_class : List Object → ObjId → ClassContents → List Object
with_class objects c contents = set_object objects c (record (object_at objects c) { kind = kind.Class contents })

-- A class with the modules that it includes, then its superclass with its modules, and so on. The number bounds
-- how many classes are passed. A superclass has a smaller number than its class, so one more than the number of
-- the class is enough.
unfoldable pub chain_within : ℕ → List Object → Option ObjId → List ObjId
chain_within zero objects c = []
chain_within (suc n) objects None = []
chain_within (suc n) objects (Some c) = c ∷ (class_at objects c).included
    ++ chain_within n objects (class_at objects c).superclass

unfoldable pub chain : List Object → ObjId → List ObjId
chain objects c = chain_within (suc c.0) objects (Some c)

-- the class and its superclasses, bounded as the chain is
unfoldable pub lineage_within : ℕ → List Object → Option ObjId → List ObjId
lineage_within zero objects c = []
lineage_within (suc n) objects None = []
lineage_within (suc n) objects (Some c) = c ∷ lineage_within n objects (class_at objects c).superclass

unfoldable pub lineage : List Object → ObjId → List ObjId
lineage objects c = lineage_within (suc c.0) objects (Some c)

abbrev pub is_member : List ObjId → ObjId → Bool
is_member ids c = list_any (same_object c) ids

abbrev pub is_singleton : ClassForm → Bool
is_singleton form.Class = false
is_singleton form.Singleton = true
is_singleton form.Module = false

-- what the method `ancestors` gives: the chain without singleton classes
unfoldable pub ancestors : List Object → ObjId → List ObjId
ancestors objects c = filter (λ k. not (is_singleton (class_at objects k).form)) (chain objects c)

-- the first singleton class of these, or the other class
unfoldable pub nearest_singleton : List Object → List ObjId → ObjId → ObjId
nearest_singleton objects [] other = other
nearest_singleton objects (c ∷ cs) other = singleton_or (object_at objects c).singleton
    (nearest_singleton objects cs other)
  where
    singleton_or : Option ObjId → ObjId → ObjId
    singleton_or None rest = rest
    singleton_or (Some s) rest = s

-- the classes in which the look-up of an object's methods may begin: those of a class object are inherited
abbrev pub singletons_from : List Object → ObjId → Sort → List ObjId
singletons_from objects id sort.Class = lineage objects id
singletons_from objects id sort.Singleton = lineage objects id
singletons_from objects id sort.Module = id ∷ []
singletons_from objects id sort.Plain = id ∷ []
singletons_from objects id sort.String = id ∷ []
singletons_from objects id sort.Array = id ∷ []
singletons_from objects id sort.Hash = id ∷ []
singletons_from objects id sort.Range = id ∷ []
singletons_from objects id sort.Proc = id ∷ []
singletons_from objects id sort.Fiber = id ∷ []
singletons_from objects id sort.Exception = id ∷ []
singletons_from objects id sort.Enumerator = id ∷ []
singletons_from objects id sort.Yielder = id ∷ []

-- where the look-up of a value's methods begins
unfoldable pub class_of : List Object → Value → ObjId
class_of objects Nil = core class.NilClass
class_of objects True = core class.TrueClass
class_of objects False = core class.FalseClass
class_of objects (Int n) = core class.Integer
class_of objects (Sym s) = core class.Symbol
class_of objects (Obj id) = nearest_singleton objects (singletons_from objects id (sort_at objects id))
    (object_at objects id).class

-- the class of a value without its singleton class
abbrev pub plain_class_of : List Object → Value → ObjId
plain_class_of objects Nil = core class.NilClass
plain_class_of objects True = core class.TrueClass
plain_class_of objects False = core class.FalseClass
plain_class_of objects (Int n) = core class.Integer
plain_class_of objects (Sym s) = core class.Symbol
plain_class_of objects (Obj id) = (object_at objects id).class
