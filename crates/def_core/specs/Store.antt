-- A store: its objects by their numbers, and the names of its symbols by theirs.
use Rattle.std.specs.Prelude.{ℕ, List, [], ◌∷◌, ◌++◌, Bool, false, ◌&&◌, nat_eq, length, get_or, slice_set, Option, Some, None}
use Rattle.rb_value.specs.declared.value.Value.{Value}
use Rattle.rb_value.specs.declared.value.Value.TheVariants.{Nil, True, False, Int, Sym, Obj}
use Rattle.rb_value.specs.declared.value.ObjId.{ObjId}
use Rattle.rb_value.specs.declared.value.SymId.{SymId}
use Rattle.rb_value.specs.Object.{Object}
use Rattle.rb_value.specs.declared.kind.Kind.{Kind}
use Rattle.rb_value.specs.declared.kind.Kind.TheVariants as kind
use Rattle.rb_value.specs.declared.kind.Sort.{Sort}
use Rattle.rb_value.specs.declared.core_class.CoreClass.{CoreClass}
use Rattle.rb_value.specs.declared.outcome.Outcome.{Outcome}
use Rattle.rb_value.specs.CoreClass.{number_of}
use Rattle.rb_value.specs.Sort.{sort_of}

pub record Store : Type 0 where
  pub objects : List Object
  pub symbols : List (List ℕ)

-- what a call that may change the store gives, with the store after it
pub record Done : Type 0 where
  pub outcome : Outcome
  pub store : Store

abbrev pub object_number : ℕ → ObjId
object_number n = record { 0 = n }

abbrev pub symbol_number : ℕ → SymId
symbol_number n = record { 0 = n }

-- the object of a core class
abbrev pub core : CoreClass → ObjId
core c = object_number (number_of c)

-- an object with a class and contents alone
abbrev pub fresh : ObjId → Kind → Object
fresh class kind = record { class = class; singleton = None; variables = []; kind = kind }

-- what stands in for an object that isn't there
abbrev pub absent : Object
absent = fresh (object_number 0) kind.Plain

-- the object of that number
abbrev pub object_at : List Object → ObjId → Object
object_at objects id = get_or objects id.0 absent

abbrev pub sort_at : List Object → ObjId → Sort
sort_at objects id = sort_of (object_at objects id).kind

-- the number of the next object
abbrev pub next_number : Store → ObjId
next_number st = object_number (length st.objects)

abbrev pub with_object : Store → Object → Store
with_object st o = record st { objects = st.objects ++ o ∷ [] }

-- an object in the place of another
abbrev pub set_object : List Object → ObjId → Object → List Object
set_object objects id o = slice_set objects id.0 o

abbrev pub same_object : ObjId → ObjId → Bool
same_object a b = nat_eq a.0 b.0

-- the name of a symbol
abbrev pub name_at : Store → SymId → List ℕ
name_at st s = get_or st.symbols s.0 []
