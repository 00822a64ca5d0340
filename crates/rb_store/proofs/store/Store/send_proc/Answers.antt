use Rattle.std.proofs.Common.{arith}
use Rattle.std.proofs.lemmas.Grind.{common_steps}
use Rattle.rb_store.proofs.Kept.{keeps_sent}
use Rattle.rb_store.proofs.store.Store.send_proc.Goals as goal

pub returns-clause-keeps : goal.returns-clause-keeps
returns-clause-keeps c = λ sound. keeps_sent c.args.self.now _ sound c.args.id c.requires c.args.activation
    (grind (arith, common_steps))
