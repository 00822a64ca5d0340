use Rattle.std.proofs.Common.{rules, ◌++◌, ap}
use Rattle.rb_store.specs.Held.{Held}
use Rattle.rb_store.proofs.Keeping.{keeps_itself, keeps_all}
use Rattle.rb_store.proofs.Kept.{keeps_if}
use Rattle.rb_store.proofs.store.Store.add_all.Goals as goal

pub returns-clause-keeps : goal.returns-clause-keeps
returns-clause-keeps c = keeps_if c.append.result c.args.self.now _ (c.args.self.now.store.objects ++ c.args.objects)
    c.requires.sound (search rules) (search rules)
    (λ e. keeps_all c.args.self.now _ c.args.objects c.requires.sound c.requires.objects (ap (λ (h : Held). h.store) e)
    (ap (λ (h : Held). h.changes) e))
