use Rattle.parser_ahead.proofs.Counting.{variables_behind}
use Rattle.parser_ahead.proofs.names.Names.locals_from.Goals as goal

pub returns : goal.returns
returns c = rw (
  ← c.self.view_is,
  ← variables_behind c.args.mark c.self.inside.kept.items,
  ← c.deref.ensures.value,
) c.locals_behind.ensures
