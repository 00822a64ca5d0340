use Rattle.std.proofs.Common.{arith, refl}
use Rattle.std.proofs.lemmas.Grind.{common_steps}
use Rattle.def_core.proofs.Good.{good_within}
use Rattle.rb_store.proofs.Attached.{attached}
use Rattle.rb_store.proofs.Counted.{singleton_counted, unchanged}
use Rattle.rb_store.proofs.Keeping.{keeps_itself}
use Rattle.rb_store.proofs.KeptClasses.{keeps_singleton}
use Rattle.rb_store.proofs.store.Store.add_singleton.Goals as goal

pub returns-in-Ok-clause-counted : goal.returns-in-Ok-clause-counted
returns-in-Ok-clause-counted c =
    let within = good_within c.args.self.now.store c.args.id c.requires in
    singleton_counted c.args.self.now _ c.args.id c.args.class c.requires
    (grind (arith, common_steps, attached, within)) (grind (arith, common_steps, attached, within))

pub returns-in-Ok-clause-keeps : goal.returns-in-Ok-clause-keeps
returns-in-Ok-clause-keeps c =
    let within = good_within c.args.self.now.store c.args.id c.requires in
    λ sound is right. keeps_singleton c.args.self.now _ c.args.id c.args.class sound
    c.requires is right (returns-in-Ok-clause-counted c) (grind (arith, common_steps, attached, within))
