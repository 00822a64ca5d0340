use Rattle.std.proofs.Common.{rules, arith}
use Rattle.rb_store.proofs.Counted.{set_counted}
use Rattle.rb_store.proofs.KeptClasses.{keeps_other}
use Rattle.rb_store.proofs.store.Store.set.Goals as goal

pub returns-clause-counted : goal.returns-clause-counted
returns-clause-counted c = rw (← c.self.view_is)
    (set_counted _ _ c.args.id c.args.object (omega arith) (search rules) (search rules) (search rules))

pub returns-clause-keeps : goal.returns-clause-keeps
returns-clause-keeps c = λ sound right. keeps_other c.args.self.now _ c.args.id c.args.object sound c.requires.there
    c.requires.sort right (returns-clause-counted c) (search rules)
