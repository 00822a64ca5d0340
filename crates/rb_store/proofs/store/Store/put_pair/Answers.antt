use Rattle.std.proofs.Common.{arith}
use Rattle.std.proofs.lemmas.Grind.{common_steps}
use Rattle.def_core.specs.Parts as parts
use Rattle.rb_store.proofs.Kept.{keeps_if, keeps_pair}
use Rattle.rb_store.proofs.store.Store.put_pair.Goals as goal

pub returns-clause-keeps : goal.returns-clause-keeps
returns-clause-keeps c = λ sound key shown value. keeps_if c.put_pair.result c.args.self.now _
    (parts.with_pair c.args.self.now.store.objects c.args.id c.args.key c.args.shown c.args.value) sound
    (grind (arith, common_steps)) (grind (arith, common_steps))
    (keeps_pair c.args.self.now _ sound c.args.id c.requires.there c.args.key c.args.shown c.args.value
    c.requires.hash key shown value)
