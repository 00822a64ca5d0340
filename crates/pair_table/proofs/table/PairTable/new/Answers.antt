use Rattle.pair_table.proofs.Apart.{none_apart}
use Rattle.pair_table.proofs.table.PairTable.new.Goals as goal

pub invariant_of-result : goal.invariant_of-result
invariant_of-result g c = none_apart g.K.PartialEq.eq c.new.result.items c.new.ensures.items
