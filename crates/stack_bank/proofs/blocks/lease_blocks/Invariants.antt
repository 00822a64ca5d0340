use Rattle.std.proofs.Common.{◌≡◌, ◌-◌, ◌+◌, ◌≤◌}
use Rattle.std.specs.Vec.{vec_capacity, vec_len}
use Rattle.stack_bank.specs.Inside.{Adds}
use Rattle.stack_bank.proofs.blocks.lease_blocks.Given as goal

-- so many blocks are leased, and there is room for the rest
abbrev pub invariant-loop-i : goal.invariant-loop-i
invariant-loop-i l = record {
  adds : Adds l.initial.pool.blocks l.pool.blocks l.initial.blocks.items l.blocks.items l._i;
  spare : l.n ≤ l.pool.spare + l._i;
  room : vec_len l.blocks + l.n ≤ vec_capacity l.blocks + l._i;
}
