use Rattle.std.proofs.Common.{arith, [], ◌∷◌}
use Rattle.std.proofs.lemmas.Grind.{common_steps}
use Rattle.def_core.specs.Parts as parts
use Rattle.rb_store.proofs.Kept.{keeps_if, keeps_more}
use Rattle.rb_store.proofs.store.Store.push.Goals as goal

pub returns-clause-keeps : goal.returns-clause-keeps
returns-clause-keeps c = λ sound right. keeps_if c.push_item.result c.args.self.now _
    (parts.with_more c.args.self.now.store.objects c.args.id (c.args.value ∷ [])) sound (grind (arith, common_steps))
    (grind (arith, common_steps))
    (keeps_more c.args.self.now _ sound c.args.id c.requires.there (c.args.value ∷ []) c.requires.array (right, tt))
