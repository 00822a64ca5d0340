use Rattle.std.proofs.Common.{arith}
use Rattle.std.proofs.lemmas.Grind.{common_steps}
use Rattle.rb_store.proofs.Kept.{keeps_elements}
use Rattle.rb_store.proofs.store.Store.replace_elements.Goals as goal

pub returns-clause-keeps : goal.returns-clause-keeps
returns-clause-keeps c = λ sound all. keeps_elements c.args.self.now _ sound c.args.id c.requires.there c.args.elements
    c.requires.array all (grind (arith, common_steps))
