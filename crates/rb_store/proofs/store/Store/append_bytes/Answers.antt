use Rattle.std.proofs.Common.{arith, ◌++◌}
use Rattle.std.proofs.lemmas.Grind.{common_steps}
use Rattle.def_core.specs.Parts as parts
use Rattle.rb_store.proofs.Kept.{keeps_if, keeps_text}
use Rattle.rb_store.proofs.store.Store.append_bytes.Goals as goal

pub returns-clause-keeps : goal.returns-clause-keeps
returns-clause-keeps c = λ sound. keeps_if c.append_text.result c.args.self.now _
    (parts.with_text c.args.self.now.store.objects c.args.id
    (parts.text_at c.args.self.now.store.objects c.args.id ++ c.args.more.now)) sound (grind (arith, common_steps))
    (grind (arith, common_steps))
    (keeps_text c.args.self.now _ sound c.args.id c.requires.there
    (parts.text_at c.args.self.now.store.objects c.args.id ++ c.args.more.now) c.requires.string)
