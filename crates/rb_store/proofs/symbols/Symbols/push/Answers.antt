use Rattle.rb_store.proofs.Names.{pushed}
use Rattle.rb_store.proofs.symbols.Symbols.push.Goals as goal

pub returns-clause-ok : goal.returns-clause-ok
returns-clause-ok c = rw (← c.self.view_is) (pushed (λ k. k.items) c.self.inside.names.keys c.insert.new.self.keys
    c.in_ok-from_slice.field-0 c.args.name.now c.in_ok-from_slice.ensures.items (rw c.self.view_is c.requires)
    c.in_ok-insert.ensures.keys)
