use Rattle.std.proofs.Common.{arith}
use Rattle.std.proofs.lemmas.Grind.{common_steps}
use Rattle.rb_store.proofs.Kept.{keeps_but_pair}
use Rattle.rb_store.proofs.store.Store.remove_pair.Goals as goal

pub returns-clause-keeps : goal.returns-clause-keeps
returns-clause-keeps c = λ sound. keeps_but_pair c.args.self.now _ sound c.args.id c.requires.there c.args.key.now
    c.requires.hash (grind (arith, common_steps))
