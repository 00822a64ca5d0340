-- Constants: where they are looked up, and how they are set (ISO/IEC 30170:2012, 11.5.4.2, 11.5.4.3 and
-- 11.4.2.2).
use Rattle.std.specs.Prelude.{ℕ, List, [], ◌∷◌, ◌++◌, Bool, not, filter, if◌then◌else◌, Option, Some, None}
use Rattle.rb_value.specs.declared.value.Value.{Value}
use Rattle.rb_value.specs.declared.value.ObjId.{ObjId}
use Rattle.rb_value.specs.declared.value.SymId.{SymId}
use Rattle.rb_value.specs.Object.{Object}
use Rattle.rb_value.specs.declared.kind.Sort.{Sort}
use Rattle.rb_value.specs.declared.core_class.CoreClass.TheVariants as class
use Rattle.def_core.specs.declared.cause.Cause.TheVariants as cause
use Rattle.def_core.specs.Store.{Store, core, same_object}
use Rattle.def_core.specs.Classes.{class_at, with_class, ancestors}
use Rattle.def_core.specs.Changes.{Interned, constant_in, full_name, object_of_sort, with_constant}
use Rattle.def_core.specs.Parts.{with_objects}
use Rattle.def_core.specs.Sound.{plays, ClassOrModule}
use Rattle.def_calls.specs.World.{World, Answer, give, give_in, fail, class_around, classes_around}

abbrev pub option_or : {A : Type 0} → Option A → Option A → Option A
option_or None other = other
option_or (Some x) other = Some x

-- the first of these classes that has the constant
abbrev pub first_constant : List Object → List ObjId → SymId → Option Value
first_constant objects [] name = None
first_constant objects (c ∷ cs) name = option_or (constant_in (class_at objects c).constants name)
    (first_constant objects cs name)

-- the classes whose bodies enclose the text, Object not among them, the ancestors of the innermost, and Object
unfoldable pub constant_path : World → ℕ → List ObjId
constant_path w classes = filter (λ c. not (same_object c (core class.Object))) (classes_around w classes)
    ++ ancestors w.store.objects (class_around w classes) ++ core class.Object ∷ []

unfoldable pub find_constant : World → ℕ → SymId → Option Value
find_constant w classes name = first_constant w.store.objects (constant_path w classes) name

-- what is told of the scope of a constant that isn't found: nothing of Object
abbrev pub scope_told : ObjId → Option ObjId
scope_told scope = if same_object scope (core class.Object) then None else Some scope

abbrev pub constant_or_fail : World → ObjId → SymId → Option Value → Answer
constant_or_fail w scope name None = fail w (cause.UninitializedConstant (scope_told scope) name)
constant_or_fail w scope name (Some v) = give w v

-- one that isn't found is told as one of the innermost class
unfoldable pub get_constant : World → ℕ → SymId → Answer
get_constant w classes name = constant_or_fail w (class_around w classes) name (find_constant w classes name)

-- a constant of a class or module and its ancestors
unfoldable pub constant_within : World → ObjId → SymId → Option Value
constant_within w c name = first_constant w.store.objects (ancestors w.store.objects c) name

abbrev pub get_constant_in : World → ObjId → SymId → Answer
get_constant_in w c name = constant_or_fail w c name (constant_within w c name)

-- Setting.

abbrev pub is_space_sort : Sort → Bool
is_space_sort s = plays ClassOrModule s

-- a class or module without a name takes that of the constant, after the name of the scope
abbrev pub name_class : ObjId → Interned → Store
name_class c named = record named.store {
  objects = with_class named.store.objects c
      (record (class_at named.store.objects c) { name = Some named.symbol });
}

abbrev pub name_if_nameless : Store → ObjId → SymId → ObjId → Option SymId → Store
name_if_nameless st scope name c None = name_class c (full_name st scope name)
name_if_nameless st scope name c (Some s) = st

abbrev pub with_name_of : Store → ObjId → SymId → Option ObjId → Store
with_name_of st scope name None = st
with_name_of st scope name (Some c) = name_if_nameless st scope name c (class_at st.objects c).name

abbrev pub with_constant_value : Store → ObjId → SymId → Value → Store
with_constant_value st scope name v = with_objects st (with_constant st.objects scope name v)

unfoldable pub set_constant_in : World → ObjId → SymId → Value → Answer
set_constant_in w scope name v =
    give_in w (with_constant_value (with_name_of w.store scope name (object_of_sort is_space_sort w.store.objects v))
    scope name v) v

-- the constant of the innermost class
abbrev pub set_constant : World → ℕ → SymId → Value → Answer
set_constant w classes name v = set_constant_in w (class_around w classes) name v
