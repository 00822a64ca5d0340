use Rattle.std.proofs.Common.{subst}
use Rattle.file_maker.specs.Making.{IsMade}
use Rattle.rb_exec.proofs.InMemory.{ran}
use Rattle.rb_exec.proofs.in_memory.play_text.Goals as goal

pub returns-in-Ok-File : goal.returns-in-Ok-File
returns-in-Ok-File c = ran c.args.text.now c.in-Ok-File._bytes c.in-Ok-File.code c.run_alone.result c.run_alone.ensures
    (subst (IsMade c.args.text.now) c.in-Ok-File.field-0-is c.in-Ok-File.ensures.made)
