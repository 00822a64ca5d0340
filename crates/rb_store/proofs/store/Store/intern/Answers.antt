use Rattle.std.proofs.Common.{rules, refl}
use Rattle.rb_store.proofs.Keeping.{keeps_itself}
use Rattle.rb_store.proofs.KeptClasses.{keeps_interned}
use Rattle.def_core.specs.Changes.{intern}
use Rattle.rb_store.proofs.store.Store.intern.Goals as goal

pub returns-in-Some-clause-symbol : goal.returns-in-Some-clause-symbol
unfolding intern
returns-in-Some-clause-symbol c = rw (← c.self.view_is, ← c.in-Some.ensures.place) refl

pub returns-in-Some-clause-ok : goal.returns-in-Some-clause-ok
unfolding intern
returns-in-Some-clause-ok c = rw (← c.self.view_is, ← c.in-Some.ensures.place) refl

pub returns-in_ok-push-in-None-clause-symbol : goal.returns-in_ok-push-in-None-clause-symbol
unfolding intern
returns-in_ok-push-in-None-clause-symbol c = rw (← c.self.view_is, ← c.in-None.ensures.place, c.len.ensures) refl

pub returns-in_ok-push-in-None-clause-ok : goal.returns-in_ok-push-in-None-clause-ok
unfolding intern
returns-in_ok-push-in-None-clause-ok c = rw (
  ← c.self.view_is,
  ← c.in-None.ensures.place,
  c.in_ok-push-in-None.ensures.ok,
) refl

pub returns-in-Some-clause-keeps : goal.returns-in-Some-clause-keeps
returns-in-Some-clause-keeps c = λ sound. keeps_interned c.args.self.now _ c.args.name.now sound
    (returns-in-Some-clause-ok c) (search rules)

pub returns-in_ok-push-in-None-clause-keeps : goal.returns-in_ok-push-in-None-clause-keeps
returns-in_ok-push-in-None-clause-keeps c = λ sound. keeps_interned c.args.self.now _ c.args.name.now sound
    (returns-in_ok-push-in-None-clause-ok c) (search rules)

pub returns-in_err-push-in-None-clause-keeps : goal.returns-in_err-push-in-None-clause-keeps
returns-in_err-push-in-None-clause-keeps c = λ sound. keeps_itself c.args.self.now _ sound (search rules)
