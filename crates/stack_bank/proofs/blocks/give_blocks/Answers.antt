use Rattle.std.proofs.Common.{arith}
use Rattle.stack_bank.proofs.Tables.{drops_none, drops_step, last_live}
use Rattle.stack_bank.proofs.blocks.give_blocks.Goals as goal

pub give-requires : goal.give-requires
give-requires c = last_live _ _ _ _ _ _ _ c.in-Some.ensures.items c.give.invariant.drops

pub give-preserved-in-Some : goal.give-preserved-in-Some
give-preserved-in-Some c = record {
  drops = rw c.give-in-Some.ensures.given (drops_step _ _ _ _ _ _ c.in-Some.ensures.items c.give.invariant.drops);
  enough = omega (arith, c.in-Some.ensures.cases);
}
