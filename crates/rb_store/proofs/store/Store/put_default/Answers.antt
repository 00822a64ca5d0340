use Rattle.std.proofs.Common.{arith}
use Rattle.std.proofs.lemmas.Grind.{common_steps}
use Rattle.def_core.specs.Changes.{with_default}
use Rattle.rb_store.proofs.Counted.{default_counted}
use Rattle.rb_store.proofs.KeptClasses.{keeps_default}
use Rattle.rb_store.proofs.store.Store.put_default.Goals as goal

pub returns-clause-store : goal.returns-clause-store
unfolding with_default
returns-clause-store c = grind (arith, common_steps)

pub returns-clause-counted : goal.returns-clause-counted
returns-clause-counted c = default_counted c.args.self.now _ c.args.class c.args.visibility c.requires.there
    c.requires.is_class (returns-clause-store c) (grind (arith, common_steps))

pub returns-clause-keeps : goal.returns-clause-keeps
returns-clause-keeps c = λ sound. keeps_default c.args.self.now _ sound c.args.class c.requires.there
    c.requires.is_class c.args.visibility (returns-clause-counted c) (returns-clause-store c)
