use Rattle.std.proofs.Common.{arith, refl}
use Rattle.std.proofs.lemmas.Grind.{common_steps}
use Rattle.def_core.specs.Changes.{with_method}
use Rattle.rb_store.proofs.Counted.{counted_more, unchanged}
use Rattle.rb_store.proofs.Keeping.{keeps_itself}
use Rattle.rb_store.proofs.KeptClasses.{keeps_method}
use Rattle.rb_store.proofs.store.Store.put_method.Goals as goal

pub returns-clause-keeps : goal.returns-clause-keeps
unfolding with_method
returns-clause-keeps c = λ sound right. keeps_method c.args.self.now _ sound c.args.class c.requires.there
    c.requires.is_class c.args.name c.args.method c.args.visibility c.requires.name right
    (counted_more c.args.self.now _ (grind (arith, common_steps)) (grind (arith, common_steps)))
    (grind (arith, common_steps))

pub returns-in_err-put_method-clause-counted : goal.returns-in_err-put_method-clause-counted
returns-in_err-put_method-clause-counted c = unchanged c.args.self.now _ (grind (arith, common_steps))
    (grind (arith, common_steps))

pub returns-in_err-put_method-clause-keeps : goal.returns-in_err-put_method-clause-keeps
returns-in_err-put_method-clause-keeps c = λ sound right. keeps_itself c.args.self.now _ sound
    (grind (arith, common_steps))
