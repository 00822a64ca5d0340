use Rattle.std.proofs.Common.{sym}
use Rattle.slot_pool.proofs.Leasing.{length-blocks_of}
use Rattle.slot_pool.proofs.pool.SlotPool.blocks.Goals as goal

pub returns-clause-all : goal.returns-clause-all
returns-clause-all g c = rw (← c.self.view_is) (sym (length-blocks_of _ _ _))
