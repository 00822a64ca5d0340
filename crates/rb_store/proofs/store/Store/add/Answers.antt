use Rattle.std.proofs.Common.{rules, refl}
use Rattle.rb_store.proofs.Keeping.{keeps_added, keeps_itself}
use Rattle.rb_store.proofs.Counted.{added_counted}
use Rattle.rb_store.proofs.store.Store.add.Goals as goal

pub returns-clause-counted : goal.returns-clause-counted
returns-clause-counted c = rw (← c.self.view_is) (added_counted _ _ c.args.object (search rules) refl)

pub returns-clause-keeps : goal.returns-clause-keeps
returns-clause-keeps c = λ sound right. keeps_added c.args.self.now _ c.args.object sound right (search rules)
    (search rules)

pub returns-in_err-push-clause-keeps : goal.returns-in_err-push-clause-keeps
returns-in_err-push-clause-keeps c = λ sound right. keeps_itself c.args.self.now _ sound (search rules)
