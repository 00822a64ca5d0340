use Rattle.std.proofs.Common.{arith}
use Rattle.std.proofs.lemmas.Grind.{common_steps}
use Rattle.rb_store.proofs.Kept.{keeps_kind}
use Rattle.rb_store.proofs.store.Store.put_kind.Goals as goal

pub returns-clause-keeps : goal.returns-clause-keeps
returns-clause-keeps c = λ sound right. keeps_kind c.args.self.now _ sound c.args.id c.requires.there c.args.kind
    c.requires.sort c.requires.other right (grind (arith, common_steps))
