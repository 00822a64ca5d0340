use Rattle.std.proofs.Common.{arith}
use Rattle.std.proofs.lemmas.Grind.{common_steps}
use Rattle.rb_store.proofs.Kept.{keeps_absent}
use Rattle.rb_store.proofs.store.Store.set_absent.Goals as goal

pub returns-clause-keeps : goal.returns-clause-keeps
returns-clause-keeps c = λ sound value block. keeps_absent c.args.self.now _ sound c.args.id c.requires.there
    c.args.default c.args.block c.requires.hash value block (grind (arith, common_steps))
