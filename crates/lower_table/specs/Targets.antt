-- What each target without trees reads and stores, for an abbreviated assignment.
use Rattle.rb_syntax.specs.declared.core_form.DefinedKind.TheVariants as kind
use Rattle.parser_tree.specs.declared.operator.AssignmentOperator.{AssignmentOperator}
use Rattle.ir_core.specs.CoreForm as form
use Rattle.ir_core.specs.CoreForm.{CoreForm, there, no_items}
use Rattle.ir_core.specs.Forms.{asks_form, send_form}
use Rattle.ir_builder.specs.Forms.{local_number}
use Rattle.lower_table.specs.Lowering.{attribute_store, guarded, operated}
use Rattle.lower_table.specs.declared.target.Target.{Target}
use Rattle.lower_table.specs.declared.target.Target.TheVariants as target

abbrev pub read_form : Target → CoreForm
read_form (target.Local x) = form.local (form.named x.now)
read_form (target.InstanceVariable x) = form.ivar x.now
read_form (target.GlobalVariable x) = form.gvar x.now
read_form (target.Constant x) = form.constant x.now
read_form (target.ScopedConstant d x) = form.in_constant (local_number d) x.now
read_form (target.Attribute d x) = send_form (local_number d) x.now no_items

-- the same where it may be absent
abbrev pub guarded_form : Target → CoreForm
guarded_form (target.Constant x) = guarded (asks_form kind.Constant x.now) (form.constant x.now)
guarded_form (target.ScopedConstant d x) =
    guarded (form.defined kind.Constant x.now (there (local_number d))) (form.in_constant (local_number d) x.now)
guarded_form t = read_form t

abbrev pub store_form : Target → CoreForm → CoreForm
store_form (target.Local x) v = form.set_local (form.named x.now) v
store_form (target.InstanceVariable x) v = form.set_ivar x.now v
store_form (target.GlobalVariable x) v = form.set_gvar x.now v
store_form (target.Constant x) v = form.set_constant x.now v
store_form (target.ScopedConstant d x) v = form.set_in_constant (local_number d) x.now v
store_form (target.Attribute d x) v = form.seq (attribute_store d x.now v)

abbrev pub operated_form : Target → AssignmentOperator → CoreForm → CoreForm
operated_form t o v = operated o (read_form t) (guarded_form t) (store_form t) v
