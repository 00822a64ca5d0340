use Rattle.std.proofs.Common.{arith}
use Rattle.std.proofs.lemmas.Grind.{common_steps}
use Rattle.rb_store.proofs.Kept.{keeps_ended}
use Rattle.rb_store.proofs.store.Store.end_fiber.Goals as goal

pub returns-clause-keeps : goal.returns-clause-keeps
returns-clause-keeps c = λ sound. keeps_ended c.args.self.now _ sound c.args.id c.requires.there
    (grind (arith, common_steps))
