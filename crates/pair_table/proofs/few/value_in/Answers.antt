use Rattle.std.proofs.Common.{sym}
use Rattle.pair_table.proofs.Places.{value_there, no_value}
use Rattle.pair_table.proofs.few.value_in.Goals as goal

pub returns-in-Some : goal.returns-in-Some
returns-in-Some g c =
    sym (value_there (g.K.PartialEq.eq c.args.key.now) c.args.pairs.now c.in-Some.place c.index-pairs-place.result (sym c.in-Some.ensures.place))

pub returns-in-None : goal.returns-in-None
returns-in-None g c = sym (no_value (g.K.PartialEq.eq c.args.key.now) c.args.pairs.now (sym c.in-None.ensures.place))
