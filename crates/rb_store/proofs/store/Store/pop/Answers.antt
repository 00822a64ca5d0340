use Rattle.std.proofs.Common.{arith}
use Rattle.std.proofs.lemmas.Grind.{common_steps}
use Rattle.rb_store.proofs.Kept.{keeps_but_last}
use Rattle.rb_store.proofs.store.Store.pop.Goals as goal

pub returns-clause-keeps : goal.returns-clause-keeps
returns-clause-keeps c = λ sound. keeps_but_last c.args.self.now _ sound c.args.id c.requires.there c.requires.array
    (grind (arith, common_steps))
