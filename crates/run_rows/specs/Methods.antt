-- The methods that classes have at the start, by the segments.
use Rattle.std.specs.Prelude.{ℕ, zero, suc, ◌+◌, ◌*◌, ◌/◌, ◌%◌, List, [], ◌∷◌, ◌++◌, map, codes, nat_eq, Bool, true, false, ◌&&◌, ◌||◌, Option, Some, None, if◌then◌else◌}
use Rattle.std.specs.List.{list_any}
use Rattle.rb_value.specs.declared.value.ObjId.{ObjId}
use Rattle.rb_value.specs.declared.method.Method.{Method}
use Rattle.rb_value.specs.declared.method.Method.TheVariants.{Undefined}
use Rattle.rb_value.specs.declared.method.MethodEntry.{MethodEntry}
use Rattle.rb_value.specs.declared.core_class.CoreClass.{CoreClass}
use Rattle.rb_value.specs.declared.core_class.CoreClass.TheVariants as class
use Rattle.rb_value.specs.Object.{Object}
use Rattle.def_core.specs.Store.{Store, object_at, object_number, same_object}
use Rattle.def_core.specs.Classes.{class_at, contents_of}
use Rattle.row_table.specs.Segments.{of_class, of_class_object}
use Rattle.rb_store.specs.Methods.{named, with_rows_from}
use Rattle.run_rows.specs.Named.{methods, hidden}
use Rattle.run_rows.specs.Opening.{names_of, have_no_allocate, main}

-- those of all classes and class objects, and that of the main object's own methods

unfoldable pub numbers_from : ℕ → ℕ → List ℕ
numbers_from s zero = []
numbers_from s (suc n) = s ∷ numbers_from (s + 1) n

abbrev pub segments : List ℕ
segments = numbers_from 0 hidden ++ main ∷ []

-- What a store has for them.

-- the class or module, where the number is odd the singleton class, if there is one
abbrev pub holder : Store → ℕ → Option ObjId
holder st s = if nat_eq (s % 2) 0 then Some (object_number (s / 2))
    else (object_at st.objects (object_number (s / 2))).singleton

abbrev pub methods_in : Store → Option ObjId → List (ℕ × MethodEntry)
methods_in st None = []
methods_in st (Some class) = (class_at st.objects class).methods

-- the names of their methods, and what each is
unfoldable pub had : Store → List ℕ → List (List (List ℕ × Method))
had st [] = []
had st (s ∷ ss) = map (named st) (methods_in st (holder st s)) ∷ had st ss

-- All other objects have none.

abbrev pub is_held_by : ObjId → Option ObjId → Bool
is_held_by id None = false
is_held_by id (Some class) = same_object id class

abbrev pub holds_any : Store → List ℕ → ObjId → Bool
holds_any st ss id = list_any (λ s. is_held_by id (holder st s)) ss

abbrev pub has_none : List (ℕ × MethodEntry) → Bool
has_none [] = true
has_none (e ∷ es) = false

-- of the objects with the numbers from n on, each holds methods of one of these segments or has none
unfoldable pub others_have_none : Store → List ℕ → ℕ → List Object → Bool
others_have_none st ss n [] = true
others_have_none st ss n (o ∷ os) =
    (holds_any st ss (object_number n) || has_none (contents_of o.kind).methods) && others_have_none st ss (n + 1) os

-- What they are.

abbrev pub is_of : List CoreClass → ℕ → Bool
is_of classes s = list_any (λ c. nat_eq s (of_class_object c)) classes

-- where the search for `new` and `allocate` ends; that of Integer ends at Numeric, above it
unfoldable pub without_both : List CoreClass
without_both = class.Numeric ∷ class.NilClass ∷ class.TrueClass ∷ class.FalseClass ∷ class.Symbol ∷ []

abbrev pub undefined : ℕ → List (List ℕ × Method)
undefined s = if is_of without_both s then (codes "new", Undefined) ∷ (codes "allocate", Undefined) ∷ []
    else (if is_of have_no_allocate s then (codes "allocate", Undefined) ∷ [] else [])

-- String itself has no `new` of its own: that of Class is found
abbrev pub rows_of : ℕ → List (List ℕ)
rows_of s = if nat_eq s (of_class_object class.String) then [] else names_of (methods s)

-- the rows of the segment under their names, whose numbers are 256 times the segment and their places
abbrev pub rows_told : ℕ → List (List ℕ × Method)
rows_told s = with_rows_from (s * 256) (rows_of s)

-- Object itself has none: those of its segment stand in Kernel, before Kernel's own
abbrev pub held : ℕ → List (List ℕ × Method)
held s = if nat_eq s (of_class class.Object) then []
    else (if nat_eq s (of_class class.Kernel) then rows_told (of_class class.Object) ++ rows_told s else rows_told s)

abbrev pub told : ℕ → List (List ℕ × Method)
told s = held s ++ undefined s
