use Rattle.std.proofs.Common.{sym, ◌∙◌}
use Rattle.std.specs.Str.{bytes_eq}
use Rattle.rb_store.proofs.Names.{position-map}
use Rattle.rb_store.proofs.symbols.Symbols.place_of.Goals as goal

pub returns-clause-place : goal.returns-clause-place
returns-clause-place c = rw (← c.self.view_is)
    (c.get_index_of.ensures.index ∙ sym (position-map (λ name. name.items) (bytes_eq c.args.name.now)
    c.self.inside.names.keys))
