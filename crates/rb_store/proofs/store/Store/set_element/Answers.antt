use Rattle.std.proofs.Common.{arith}
use Rattle.std.proofs.lemmas.Grind.{common_steps}
use Rattle.rb_store.proofs.Kept.{keeps_element}
use Rattle.rb_store.proofs.store.Store.set_element.Goals as goal

pub returns-clause-keeps : goal.returns-clause-keeps
returns-clause-keeps c = λ sound right. keeps_element c.args.self.now _ sound c.args.id c.requires.there c.args.place
    c.args.value c.requires.array right (grind (arith, common_steps))
