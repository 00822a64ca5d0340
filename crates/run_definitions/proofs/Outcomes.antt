-- What the calls that define classes and modules raise can be raised.
use Rattle.std.proofs.Common.{Bool, true, false, if◌then◌else◌}
use Rattle.std.specs.Prelude.{Option, Some, None}
use Rattle.rb_value.specs.declared.value.Value.{Value}
use Rattle.rb_value.specs.declared.value.Value.TheVariants.{Nil, True, False, Int, Sym, Obj}
use Rattle.rb_value.specs.declared.value.ObjId.{ObjId}
use Rattle.rb_value.specs.declared.value.SymId.{SymId}
use Rattle.def_core.specs.declared.cause.Cause.TheVariants as cause
use Rattle.def_core.specs.Store.{Store}
use Rattle.def_core.specs.Classes.{class_at}
use Rattle.def_core.specs.Changes as defined
use Rattle.run_values.specs.Raisable.{IsRaisable}
use Rattle.run_values.proofs.Causes.{fails_raisable}

reopened : (st : Store) (name : SymId) (parent : Option ObjId) (c : ObjId) (b : Bool)
    → IsRaisable (if b then defined.gives (Obj c) st else defined.fails st (cause.SuperclassMismatch name)).outcome
reopened st name parent c true = tt
reopened st name parent c false = fails_raisable st (cause.SuperclassMismatch name)

reopen_class : (st : Store) (name : SymId) (parent c : Option ObjId)
    → IsRaisable (defined.reopen_class st name parent c).outcome
reopen_class st name parent None = fails_raisable st (cause.NotClass name)
reopen_class st name parent (Some c) =
    reopened st name parent c (defined.parent_agrees parent (class_at st.objects c).superclass)

class_by : (st : Store) (scope : ObjId) (name : SymId) (parent : Option ObjId) (there : Option Value)
    → IsRaisable (defined.define_class_by st scope name parent there).outcome
class_by st scope name parent None = tt
class_by st scope name parent (Some v) =
    reopen_class st name parent (defined.object_of_sort defined.is_class_sort st.objects v)

class_under : (st : Store) (scope : ObjId) (name : SymId) (parent : Option ObjId)
    → IsRaisable (defined.define_class_under st scope name parent).outcome
class_under st scope name None = fails_raisable st cause.SuperclassNotClass
class_under st scope name (Some p) =
    class_by st scope name (Some p) (defined.constant_in (class_at st.objects scope).constants name)

pub class_raisable : (st : Store) (scope : ObjId) (name : SymId) (parent : Value)
    → IsRaisable (defined.define_class st scope name parent).outcome
unfolding defined.define_class
class_raisable st scope name Nil =
    class_by st scope name None (defined.constant_in (class_at st.objects scope).constants name)
class_raisable st scope name True = fails_raisable st cause.SuperclassNotClass
class_raisable st scope name False = fails_raisable st cause.SuperclassNotClass
class_raisable st scope name (Int n) = fails_raisable st cause.SuperclassNotClass
class_raisable st scope name (Sym s) = fails_raisable st cause.SuperclassNotClass
class_raisable st scope name (Obj id) =
    class_under st scope name (defined.object_of_sort defined.is_class_sort st.objects (Obj id))

reopen_module : (st : Store) (name : SymId) (m : Option ObjId) → IsRaisable (defined.reopen_module st name m).outcome
reopen_module st name None = fails_raisable st (cause.NotModule name)
reopen_module st name (Some m) = tt

module_by : (st : Store) (scope : ObjId) (name : SymId) (there : Option Value)
    → IsRaisable (defined.define_module_by st scope name there).outcome
module_by st scope name None = tt
module_by st scope name (Some v) =
    reopen_module st name (defined.object_of_sort defined.is_module_sort st.objects v)

pub module_raisable : (st : Store) (scope : ObjId) (name : SymId)
    → IsRaisable (defined.define_module st scope name).outcome
unfolding defined.define_module
module_raisable st scope name =
    module_by st scope name (defined.constant_in (class_at st.objects scope).constants name)

pub singleton_raisable : (st : Store) (v : Value) → IsRaisable (defined.singleton st v).outcome
unfolding defined.singleton
singleton_raisable st Nil = fails_raisable st cause.NoSingleton
singleton_raisable st True = fails_raisable st cause.NoSingleton
singleton_raisable st False = fails_raisable st cause.NoSingleton
singleton_raisable st (Int n) = fails_raisable st cause.NoSingleton
singleton_raisable st (Sym s) = fails_raisable st cause.NoSingleton
singleton_raisable st (Obj id) = tt
