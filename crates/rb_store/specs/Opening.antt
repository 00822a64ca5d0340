-- The store at the start (ISO/IEC 30170:2012, 15): the core classes and modules by their numbers, then the main
-- object, with the core methods.
use Rattle.std.specs.Prelude.{◌≡◌, ℕ, ◌+◌, ◌*◌, ◌/◌, ◌^◌, ◌<◌, true, List, [], ◌∷◌, ◌++◌, map, nat_eq, length, codes, Option, Some, None, if◌then◌else◌}
use Rattle.indexmap.specs.IndexMap.{insert_entry}
use Rattle.rb_value.specs.declared.value.Value.{Value}
use Rattle.rb_value.specs.declared.value.Value.TheVariants.{Obj}
use Rattle.rb_value.specs.declared.value.ObjId.{ObjId}
use Rattle.rb_value.specs.declared.method.Visibility.TheVariants.{Public}
use Rattle.rb_value.specs.declared.method.Method.TheVariants as method
use Rattle.rb_value.specs.Object.{Object}
use Rattle.rb_value.specs.declared.kind.ClassContents.{ClassContents}
use Rattle.rb_value.specs.declared.kind.ClassForm.TheVariants as form
use Rattle.rb_value.specs.declared.kind.Kind.TheVariants as kind
use Rattle.rb_value.specs.declared.core_class.CoreClass.{CoreClass}
use Rattle.rb_value.specs.declared.core_class.CoreClass.TheVariants as class
use Rattle.rb_value.specs.CoreClass as table
pub use Rattle.rb_value.specs.CoreClass.{core_classes}
use Rattle.def_core.specs.Store.{Store, core, fresh, object_number, symbol_number, sort_at}
use Rattle.def_core.specs.Classes.{empty_class}
use Rattle.def_core.specs.Changes.{intern, with_method, Interned}
use Rattle.def_core.specs.Sound.{plays, ClassOrModule}
use Rattle.row_table.specs.Segments.{of_class_object, segments}
use Rattle.row_table.specs.Names.{names}

-- One constant more: the class, where the symbol of its name has its number. Enumerator::Yielder has none here.
abbrev pub with_constant_for : List (ℕ × Value) → CoreClass → List (ℕ × Value)
with_constant_for constants c =
    if nat_eq (table.number_of c) 19 then constants
    else insert_entry nat_eq constants (table.number_of c) (Obj (core c))

-- the constants of these classes after others
abbrev pub with_constants_for : List (ℕ × Value) → List CoreClass → List (ℕ × Value)
with_constants_for constants [] = constants
with_constants_for constants (c ∷ cs) = with_constants_for (with_constant_for constants c) cs

-- the constants of Object
unfoldable pub object_constants : List (ℕ × Value)
object_constants = with_constants_for [] core_classes

abbrev pub constants_of : CoreClass → List (ℕ × Value)
constants_of c =
    if nat_eq (table.number_of c) 0 then object_constants
    else (if nat_eq (table.number_of c) 18 then (38, Obj (core class.Yielder)) ∷ [] else [])

-- Object includes Kernel
abbrev pub included_in : CoreClass → List ObjId
included_in c = if nat_eq (table.number_of c) 0 then core class.Kernel ∷ [] else []

abbrev pub object_of : Option CoreClass → Option ObjId
object_of None = None
object_of (Some c) = Some (core c)

abbrev pub superclass_of : CoreClass → Option ObjId
superclass_of c = object_of (table.superclass_of c)

unfoldable pub core_contents : CoreClass → ClassContents
core_contents c = record {
  form = if table.is_module c then form.Module else form.Class;
  name = Some (symbol_number (table.number_of c));
  superclass = superclass_of c;
  included = included_in c;
  constants = constants_of c;
  visibility = Public;
  methods = [];
}

-- the singleton classes of Range and String, which have methods of their own, and that of their superclass Object
abbrev pub object_singleton : ObjId
object_singleton = object_number 39

abbrev pub range_singleton : ObjId
range_singleton = object_number 40

abbrev pub string_singleton : ObjId
string_singleton = object_number 41

abbrev pub singleton_of : CoreClass → Option ObjId
singleton_of c =
    if nat_eq (table.number_of c) 0 then Some object_singleton
    else (if nat_eq (table.number_of c) 15 then Some range_singleton
    else (if nat_eq (table.number_of c) 11 then Some string_singleton else None))

abbrev pub singleton_object : ObjId → Object
singleton_object superclass = fresh (core class.Class) (kind.Class (empty_class form.Singleton (Some superclass)))

unfoldable pub core_object : CoreClass → Object
core_object c = record {
  class = if table.is_module c then core class.Module else core class.Class;
  singleton = singleton_of c;
  variables = [];
  kind = kind.Class (core_contents c);
}

-- what stands behind the core classes and modules: the main object and the singleton classes
abbrev pub others : List Object
others = fresh (core class.Object) kind.Plain ∷ singleton_object (core class.Class) ∷ singleton_object object_singleton
    ∷ singleton_object object_singleton ∷ []

-- the classes, modules and the main object, without methods and symbols
unfoldable pub nameless : Store
nameless = record { objects = map core_object core_classes ++ others; symbols = [] }

unfoldable pub with_names : Store → List (List ℕ) → Store
with_names st [] = st
with_names st (name ∷ names) = with_names (intern st name).store names

-- the names of the core classes are all different, so their symbols have the numbers of the classes, and the name
-- `Yielder` has the next
unfoldable pub bare : Store
bare = (intern (with_names nameless (map table.name_of core_classes)) (codes "Yielder")).store

-- the main object
abbrev pub main_object : ObjId
main_object = object_number 38

-- the core methods of a class, whose rows have the numbers from n on
abbrev pub with_row : ObjId → ℕ → Interned → Store
with_row c n named = with_method named.store c named.symbol (method.Core n) Public

unfoldable pub with_rows : Store → ObjId → ℕ → List (List ℕ) → Store
with_rows st c n [] = st
with_rows st c n (name ∷ names) = with_rows (with_row c n (intern st name)) c (n + 1) names

-- whose own methods stand in a segment of the table: the class, or the singleton class of the class object
abbrev pub holder : ℕ → ObjId
holder s = if nat_eq s (of_class_object class.Range) then range_singleton
    else (if nat_eq s (of_class_object class.String) then string_singleton else object_number (s / 2))

-- a class or module holds the methods of the segment, and its rows have numbers
pub record IsHeld (objects : List Object) (s : ℕ) : Type 0 where
  pub there : (holder s).0 < length objects
  pub is_class : plays ClassOrModule (sort_at objects (holder s)) ≡ true
  pub rows : s * 256 + length (names s) < 2 ^ 16

-- the methods of a segment, whose rows have its number times 256 and their places
abbrev pub with_segment : Store → ℕ → Store
with_segment st s = with_rows st (holder s) (s * 256) (names s)

unfoldable pub with_segments : Store → List ℕ → Store
with_segments st [] = st
with_segments st (s ∷ ss) = with_segments (with_segment st s) ss

-- the rows of the table
unfoldable pub opening : Store
opening = with_segments bare segments
