use Rattle.std.specs.Prelude.{codes}
use Rattle.vm_parts.specs.Beside.{of}
use Rattle.vm_steps.specs.Definitions.{is_set}
use Rattle.vm_steps.proofs.Telling.{told_if}
use Rattle.vm_steps.proofs.definitions.tell_global.Goals as goal

pub returns-clause-told : goal.returns-clause-told
returns-clause-told c = told_if c.args.parts.now.heap c.tell.new.self c.tell.result (codes "global-variable")
    c.is_set-is_set.result (is_set (of c.args.parts.now) c.args.name) c.is_set-is_set.ensures c.tell.ensures.answers.answer
