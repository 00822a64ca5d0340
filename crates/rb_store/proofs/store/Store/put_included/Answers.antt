use Rattle.std.proofs.Common.{arith}
use Rattle.std.proofs.lemmas.Grind.{common_steps}
use Rattle.rb_store.proofs.Counted.{counted_more}
use Rattle.rb_store.proofs.KeptClasses.{keeps_included}
use Rattle.rb_store.proofs.store.Store.put_included.Goals as goal

pub returns-clause-keeps : goal.returns-clause-keeps
returns-clause-keeps c = λ sound all. keeps_included c.args.self.now _ sound c.args.class c.requires.there
    c.requires.is_class c.args.included all (counted_more c.args.self.now _ (grind (arith, common_steps))
    (grind (arith, common_steps))) (grind (arith, common_steps))
