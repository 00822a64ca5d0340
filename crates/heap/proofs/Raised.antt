-- What these calls fail by can be raised.
use Rattle.std.specs.Prelude.{ℕ, List, Option, Some, None}
use Rattle.rb_value.specs.declared.value.Value.{Value}
use Rattle.rb_value.specs.declared.value.ObjId.{ObjId}
use Rattle.rb_value.specs.declared.value.SymId.{SymId}
use Rattle.rb_value.specs.declared.method.Visibility.{Visibility}
use Rattle.rb_value.specs.declared.core_class.CoreClass.TheVariants as class
use Rattle.def_core.specs.declared.cause.Cause.TheVariants as cause
use Rattle.def_core.specs.declared.found.Found.{Found}
use Rattle.def_core.specs.Store.{Store, core}
use Rattle.def_core.specs.Classes.{plain_class_of}
use Rattle.def_core.specs.Find.{find}
use Rattle.def_core.specs.Changes as defined
use Rattle.row_table.specs.declared.line.Line.{Line}
use Rattle.row_table.specs.RowTable.{line_at}
use Rattle.def_rows.specs.Answers.{called, answer_of}
use Rattle.def_rows.specs.Checking.{check}
use Rattle.def_rows.specs.Rows.{prim, by_line, gives}
use Rattle.run_values.specs.Raisable.{IsRaisable}
use Rattle.run_values.proofs.Causes.{fails_raisable}
use Rattle.run_values.proofs.Finishing.{finish_raisable}

visibility_by : (st : Store) (c : ObjId) (name : SymId) (v : Visibility) (f : Option Found)
    → IsRaisable (defined.set_visibility_of st c name v f).outcome
visibility_by st c name v None = fails_raisable st (cause.UndefinedInClass name c)
visibility_by st c name v (Some f) = tt

pub visibility_raisable : (st : Store) (c : ObjId) (name : SymId) (v : Visibility)
    → IsRaisable (defined.set_visibility st c name v).outcome
unfolding defined.set_visibility
visibility_raisable st c name v = visibility_by st c name v (find st.objects c name)

include_by : (st : Store) (c : ObjId) (v : Value) (m : Option ObjId) → IsRaisable (defined.include_if st c v m).outcome
include_by st c v None = fails_raisable st (cause.Expected (core class.Module) (plain_class_of st.objects v))
include_by st c v (Some m) = tt

pub include_raisable : (st : Store) (c : ObjId) (v : Value) → IsRaisable (defined.include st c v).outcome
unfolding defined.include
include_raisable st c v = include_by st c v (defined.object_of_sort defined.is_module_sort st.objects v)

line_raisable : (l : Option Line) (recv : Value) (args : List Value) (block : Option ObjId) (st : Store)
    → IsRaisable (by_line l recv args block st).outcome
unfolding called
line_raisable None recv args block st = tt
line_raisable (Some line) recv args block st = finish_raisable st recv
    (answer_of (check line.signature st.objects recv args block) (gives line.row st recv args))

pub row_raisable : (row : ℕ) (recv : Value) (args : List Value) (block : Option ObjId) (st : Store)
    → IsRaisable (prim row recv args block st).outcome
unfolding prim
row_raisable row recv args block st = line_raisable (line_at row) recv args block st
