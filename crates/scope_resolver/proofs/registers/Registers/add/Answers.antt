use Rattle.scope_resolver.proofs.Named.{kept, added}
use Rattle.scope_resolver.proofs.registers.Registers.add.Goals as goal

pub returns-then-contains_key : goal.returns-then-contains_key
returns-then-contains_key c = kept c.args.name.now c.args.register c.self.inside.named.entries c.args.self.now
    c.self.view_is c.contains_key.result c.contains_key.ensures c.if-contains_key.true

pub returns : goal.returns
returns c = added c.args.name c.args.register c.self.inside.named.entries c.insert.new.self.entries c.args.self.now
    c.self.view_is c.contains_key.result c.contains_key.ensures c.if-contains_key.false c.in_ok-insert.ensures.entries
