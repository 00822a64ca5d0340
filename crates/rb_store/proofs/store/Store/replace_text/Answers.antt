use Rattle.std.proofs.Common.{arith}
use Rattle.std.proofs.lemmas.Grind.{common_steps}
use Rattle.rb_store.proofs.Kept.{keeps_text}
use Rattle.rb_store.proofs.store.Store.replace_text.Goals as goal

pub returns-clause-keeps : goal.returns-clause-keeps
returns-clause-keeps c = λ sound. keeps_text c.args.self.now _ sound c.args.id c.requires.there c.args.bytes
    c.requires.string (grind (arith, common_steps))
