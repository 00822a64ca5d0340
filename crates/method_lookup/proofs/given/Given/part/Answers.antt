use Rattle.method_lookup.proofs.Ranges.{part_is}
use Rattle.method_lookup.proofs.given.Given.part.Goals as goal

pub returns : goal.returns
returns c = part_is c.args.self.now.values.now c.args.from c.args.to _ _ c.min-end.ensures c.min.ensures
