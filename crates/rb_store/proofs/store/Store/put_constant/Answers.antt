use Rattle.std.proofs.Common.{arith}
use Rattle.std.proofs.lemmas.Grind.{common_steps}
use Rattle.rb_store.proofs.Counted.{constant_counted, unchanged}
use Rattle.rb_store.proofs.Keeping.{keeps_itself}
use Rattle.rb_store.proofs.KeptClasses.{keeps_constant}
use Rattle.rb_store.proofs.store.Store.put_constant.Goals as goal

pub returns-clause-counted : goal.returns-clause-counted
returns-clause-counted c = constant_counted c.args.self.now _ c.args.class c.args.name c.args.value c.requires.there
    c.requires.is_class (grind (arith, common_steps)) (grind (arith, common_steps))

pub returns-clause-keeps : goal.returns-clause-keeps
returns-clause-keeps c = λ sound name value. keeps_constant c.args.self.now _ sound c.args.class c.requires.there
    c.requires.is_class c.args.name c.args.value name value (returns-clause-counted c) (grind (arith, common_steps))

pub returns-in_err-put_constant-clause-counted : goal.returns-in_err-put_constant-clause-counted
returns-in_err-put_constant-clause-counted c = unchanged c.args.self.now _ (grind (arith, common_steps))
    (grind (arith, common_steps))

pub returns-in_err-put_constant-clause-keeps : goal.returns-in_err-put_constant-clause-keeps
returns-in_err-put_constant-clause-keeps c =
    λ sound name value. keeps_itself c.args.self.now _ sound (grind (arith, common_steps))
