-- The forms of a jump, and of two forms of which the second is done or not.
use Rattle.ir_core.specs.CoreForm as form
use Rattle.ir_core.specs.CoreForm.{CoreForm}
use Rattle.ir_core.specs.Forms.{rescued}
use Rattle.lower_table.specs.declared.jumps.Jump.{Jump}
use Rattle.lower_table.specs.declared.jumps.Jump.TheVariants as jump
use Rattle.lower_table.specs.declared.operators.Joined.{Joined}
use Rattle.lower_table.specs.declared.operators.Joined.TheVariants as joined

abbrev pub jump_form : Jump → CoreForm → CoreForm
jump_form jump.Return f = form.return_form f
jump_form jump.Break f = form.break_form f
jump_form jump.Next f = form.next_form f

abbrev pub joined_form : Joined → CoreForm → CoreForm → CoreForm
joined_form joined.And f g = form.and_form f g
joined_form joined.Or f g = form.or_form f g
joined_form joined.Rescue f g = rescued f g
