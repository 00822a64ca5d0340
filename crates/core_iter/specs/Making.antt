-- `new` of a class (ISO/IEC 30170:2012, 15.2.3): an object of the class's kind, then its method `initialize`.
use Rattle.std.specs.Prelude.{ℕ, zero, suc, List, codes, nat_lt, if◌then◌else◌, Option, Some, None}
use Rattle.rb_value.specs.declared.value.Value.{Value}
use Rattle.rb_value.specs.declared.value.Value.TheVariants.{Obj}
use Rattle.rb_value.specs.declared.value.ObjId.{ObjId}
use Rattle.rb_value.specs.declared.kind.Sort.{Sort}
use Rattle.rb_value.specs.declared.kind.Sort.TheVariants as sort
use Rattle.rb_value.specs.declared.core_class.CoreClass.TheVariants as class
use Rattle.def_core.specs.declared.cause.Cause.TheVariants as cause
use Rattle.def_core.specs.Changes.{intern, Interned}
use Rattle.def_core.specs.Classes.{class_at, plain_class_of}
use Rattle.def_core.specs.Store.{Store, core, next_number, same_object}
use Rattle.rb_store.specs.Held.{Held}
use Rattle.heap.specs.declared.making.Blank.{Blank}
use Rattle.heap.specs.declared.making.Blank.TheVariants as blank
use Rattle.heap.specs.Made.{with_blank}
use Rattle.heap.specs.Operands.{own as own_value}
use Rattle.heap.specs.Reading.{sort_of_value}
use Rattle.run_rows.specs.Calls.{blank_of}
use Rattle.def_plans.specs.Plan.{Planned, refuses, expected}
use Rattle.core_iter.specs.declared.iteration.Iteration.TheVariants as state
use Rattle.core_iter.specs.Sending.{send_named}
use Rattle.core_iter.specs.Stage.{Stage, own}

-- the classes that a store has from its start, and how many above one are looked through for the nearest of them
abbrev pub core_count : ℕ
core_count = 38

abbrev pub near : ℕ
near = 64

-- that nearest one; the class itself where none is near

abbrev pub above_by : ObjId → Option ObjId → (ObjId → ObjId) → ObjId
above_by c None further = c
above_by c (Some up) further = further up

unfoldable pub core_from : ℕ → Store → ObjId → ObjId → ObjId
core_from zero st c at = c
core_from (suc n) st c at = if nat_lt at.0 core_count then at
    else above_by c (class_at st.objects at).superclass (core_from n st c)

abbrev pub core_above : Store → ObjId → ObjId
core_above st c = core_from near st c c

-- what a new object holds; a direct object of Object holds nothing
abbrev pub blank_by : Store → ObjId → Option Blank
blank_by st c = if same_object c (core class.Object) then Some blank.Plain else blank_of st c

abbrev pub blank_for : Store → ObjId → Option Blank
blank_for st c = blank_by st (core_above st c)

-- where there is no `new` the class has no such method
abbrev pub without_new : Held → Value → Interned → Planned Stage
without_new held recv named = refuses (record held { store = named.store })
    (cause.UndefinedMethod named.symbol (plain_class_of named.store.objects (own_value named.store recv)))

abbrev pub no_new : Held → Value → Planned Stage
no_new held recv = without_new held recv (intern held.store (codes "new"))

abbrev pub made : Held → Value → List Value → Option ObjId → Planned Stage
made held v args block = send_named held (own (state.Giving v)) v (codes "initialize") args block

abbrev pub new_by : Held → ObjId → List Value → Option ObjId → Option Blank → Planned Stage
new_by held c args block (Some b) = made (with_blank held c b) (Obj (next_number held.store)) args block
new_by held c args block None = no_new held (Obj c)

abbrev pub of_sort : Held → ObjId → List Value → Option ObjId → Option Sort → Planned Stage
of_sort held c args block (Some sort.Class) = new_by held c args block (blank_for held.store c)
of_sort held c args block s = refuses held (expected held class.Class (Obj c))

abbrev pub new : Held → Value → List Value → Option ObjId → Planned Stage
new held (Obj c) args block = of_sort held c args block (sort_of_value held.store (Obj c))
new held v args block = refuses held (expected held class.Class v)
