use Rattle.std.proofs.Common.{arith}
use Rattle.stack_bank.proofs.Tables.{adds_none, adds_step}
use Rattle.stack_bank.proofs.blocks.lease_blocks.Goals as goal

pub loop-i-init : goal.loop-i-init
loop-i-init c = record {
  adds = adds_none _ _ c.requires.holds;
  spare = omega arith;
  room = omega arith;
}

pub loop-i-preserved : goal.loop-i-preserved
loop-i-preserved c = record {
  adds = rw c.push_reserved.ensures.items (adds_step _ _ _ _ _ _ _ c.loop-i.invariant.adds
      c.lease_reserved-block.ensures);
  spare = omega (arith, c.lease_reserved-block.ensures.spare);
  room = omega arith;
}
