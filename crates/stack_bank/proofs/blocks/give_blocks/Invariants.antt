use Rattle.std.proofs.Common.{◌≡◌, ◌-◌, ◌+◌, ◌≤◌, length}
use Rattle.stack_bank.specs.Inside.{Drops}
use Rattle.stack_bank.proofs.blocks.give_blocks.Given as goal

-- the blocks that are left are the first ones
abbrev pub invariant-give : goal.invariant-give
invariant-give l = record {
  drops : Drops l.initial.pool.blocks l.pool.blocks l.initial.blocks.items l.blocks.items (length l.blocks.items);
  enough : l.keep ≤ length l.blocks.items;
}

abbrev pub decreases-give : goal.decreases-give
decreases-give l = length l.blocks.items
