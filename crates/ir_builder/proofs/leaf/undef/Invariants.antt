use Rattle.std.proofs.Common.{◌≡◌, map, take}
use Rattle.ir_core.specs.View.{core_view}
use Rattle.ir_core.specs.CoreForm as form
use Rattle.ir_builder.proofs.leaf.undef.Given as goal

abbrev pub invariant-loop-name : goal.invariant-loop-name
invariant-loop-name l = map core_view l.statements.items ≡ map form.undef_form (take l.name-index l.names)
