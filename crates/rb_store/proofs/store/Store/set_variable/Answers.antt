use Rattle.std.proofs.Common.{arith}
use Rattle.std.proofs.lemmas.Grind.{common_steps}
use Rattle.def_core.specs.Parts as parts
use Rattle.rb_store.proofs.Kept.{keeps_if, keeps_variable}
use Rattle.rb_store.proofs.store.Store.set_variable.Goals as goal

pub returns-clause-keeps : goal.returns-clause-keeps
returns-clause-keeps c = λ sound name value. keeps_if c.set_variable.result c.args.self.now _
    (parts.with_variable c.args.self.now.store.objects c.args.id c.args.name c.args.value) sound
    (grind (arith, common_steps)) (grind (arith, common_steps))
    (keeps_variable c.args.self.now _ sound c.args.id c.requires c.args.name c.args.value name value)
