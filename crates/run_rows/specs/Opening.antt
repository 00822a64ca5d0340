-- The store in which a program starts: that of the core classes with the rows of the table, and the methods of all
-- segments beyond it.
use Rattle.std.specs.Prelude.{◌≡◌, ℕ, zero, suc, ◌+◌, ◌*◌, ◌/◌, ◌%◌, ◌-◌, ◌^◌, min, List, [], ◌∷◌, map, length, codes, nat_eq, false, if◌then◌else◌}
use Rattle.rb_value.specs.declared.value.Value.{Value}
use Rattle.rb_value.specs.declared.value.Value.TheVariants.{Nil, True, False, Int, Sym, Obj}
use Rattle.rb_value.specs.declared.value.ObjId.{ObjId}
use Rattle.rb_value.specs.declared.value.SymId.{SymId}
use Rattle.rb_value.specs.declared.method.Method.TheVariants.{Core}
use Rattle.rb_value.specs.declared.method.Visibility.TheVariants.{Public}
use Rattle.rb_value.specs.declared.core_class.CoreClass.{CoreClass}
use Rattle.rb_value.specs.declared.core_class.CoreClass.TheVariants as class
use Rattle.def_core.specs.Store.{Store, core, object_number}
use Rattle.def_core.specs.Changes.{Interned, intern}
use Rattle.def_calls.specs.Definitions.{singleton_class, undefine_method}
use Rattle.def_calls.specs.World as world
use Rattle.def_calls.specs.World.{World, Answer}
use Rattle.run_values.specs.declared.given.Given.{Given}
use Rattle.run_values.specs.Answers.{result_of}
use Rattle.heap.specs.Changes.{with_method, without_method}
use Rattle.heap.specs.Operands.{own, with_space, with_symbol}
use Rattle.row_table.specs.Names as table
use Rattle.row_table.specs.Segments.{of_class}
use Rattle.rb_store.specs.Opening as store
use Rattle.run_rows.specs.Named.{beyond, hidden}

-- a world with this store and nothing else
abbrev pub alone : Store → World
alone st = record {
  store = st;
  globals = [];
  enclosing = [];
  activations = [];
  input = [];
  out = [];
  asked = false;
}

-- Singleton classes.

-- a class of this store
pub record Held : Type 0 where
  pub class : ObjId
  pub store : Store

abbrev pub Holds : Held → ObjId → Store → Type 0
Holds h class st = h ≡ record { class = class; store = st }

abbrev pub object_or : ObjId → Value → ObjId
object_or class (Obj own) = own
object_or class Nil = class
object_or class True = class
object_or class False = class
object_or class (Int n) = class
object_or class (Sym s) = class

abbrev pub class_or : ObjId → world.Result → ObjId
class_or class (world.gives v) = object_or class v
class_or class (world.raises e) = class

abbrev pub given_or : ObjId → Given → ObjId
given_or class g = class_or class (result_of g)

abbrev pub held_by : ObjId → Answer → Held
held_by class a = record { class = class_or class a.result; store = a.world.store }

-- that of an object, which is made where it isn't there
abbrev pub own_class : Store → ObjId → Held
own_class st class = held_by class (singleton_class (alone st) (own st (Obj class)))

-- Kernel holds the methods that every object has, so that what Object itself is given comes before them
abbrev pub home : ℕ → ℕ
home s = if nat_eq s (of_class class.Object) then of_class class.Kernel else s

-- the class or module that has the methods of a segment, where the number is odd the singleton class of the object
abbrev pub holder : Store → ℕ → Held
holder st s = if nat_eq (s % 2) 0 then record { class = object_number (home s / 2); store = st }
    else own_class st (object_number (s / 2))

-- Methods of a class, one after another, by their numbers.

pub record Numbered : Type 0 where
  pub store : Store
  pub number : ℕ

abbrev pub at : Store → ℕ → Numbered
at st n = record { store = st; number = n }

-- no number is greater than the last
abbrev pub as_number : ℕ → ℕ
as_number n = min n (2 ^ 16 - 1)

abbrev pub with_name : ObjId → ℕ → Interned → Numbered
with_name class n named = record {
  store = with_method named.store class named.symbol (Core n) Public;
  number = as_number (n + 1);
}

abbrev pub with_next : ObjId → Numbered → List ℕ → Numbered
with_next class to name = with_name class to.number (intern to.store name)

unfoldable pub with_names : ObjId → Numbered → List (List ℕ) → Numbered
with_names class to [] = to
with_names class to (name ∷ names) = with_names class (with_next class to name) names

abbrev pub names_of : {A : Type 0} → List (List ℕ × A) → List (List ℕ)
names_of methods = map (λ m. m.0) methods

-- the methods of a segment beyond the table come behind those of the table

abbrev pub first_number : ℕ → ℕ
first_number s = as_number (s * 256 + length (table.names s))

abbrev pub with_all : Held → ℕ → List (List ℕ) → Store
with_all h n names = (with_names h.class (at h.store n) names).store

-- a segment without methods makes no class
abbrev pub with_segment : Store → ℕ → Store
with_segment st s = if nat_eq (length (beyond s)) 0 then st
    else with_all (holder st s) (first_number s) (names_of (beyond s))

-- the first segments, so many
unfoldable pub with_segments : Store → ℕ → Store
with_segments st zero = st
with_segments st (suc s) = with_segment (with_segments st s) s

-- Methods that classes don't have.

abbrev pub undefined_in : Held → SymId → Store
undefined_in h name =
    (with_space h.class (with_symbol name (λ w. undefine_method w h.class name)) (alone h.store)).world.store

unfoldable pub undefined_by : Store → SymId → List CoreClass → Store
undefined_by st name [] = st
undefined_by st name (c ∷ cs) = undefined_by (undefined_in (own_class st (core c)) name) name cs

abbrev pub undefined_named : Interned → List CoreClass → Store
undefined_named named classes = undefined_by named.store named.symbol classes

-- the search for a method of these class objects ends with nothing
abbrev pub without : Store → List ℕ → List CoreClass → Store
without st name classes = undefined_named (intern st name) classes

-- `new` of String itself is taken away, so that of Class is found, which calls `initialize`

abbrev pub removed : ObjId → Interned → Store
removed class named = without_method named.store class named.symbol

abbrev pub without_new : Held → Store
without_new h = removed h.class (intern h.store (codes "new"))

abbrev pub with_strings : Store → Store
with_strings st = without_new (own_class st (core class.String))

-- All of it.

-- the segment of the main object's own methods, the next after those of the classes and the hidden one
abbrev pub main : ℕ
main = suc hidden

unfoldable pub have_no_new : List CoreClass
have_no_new = class.Numeric ∷ class.Integer ∷ class.NilClass ∷ class.TrueClass ∷ class.FalseClass ∷ class.Symbol ∷ []

unfoldable pub have_no_allocate : List CoreClass
have_no_allocate = class.Class ∷ class.Module ∷ class.Proc ∷ class.Fiber ∷ class.Range ∷ class.Enumerator ∷ class.Yielder ∷ []

abbrev pub with_methods : Store
with_methods = with_strings (with_segment (with_segments store.opening hidden) main)

unfoldable pub opening : Store
opening = without (without (without with_methods (codes "new") have_no_new) (codes "allocate") have_no_new)
    (codes "allocate") have_no_allocate
