use Rattle.std.proofs.Common.{◌≡◌, ◌+◌, arith, ap}
use Rattle.stack_bank.proofs.Slots.{stack_grown}
use Rattle.stack_bank.proofs.blocks.grow_stack.Goals as goal

pub returns-clause-ok : goal.returns-clause-ok
returns-clause-ok c =
    let added = rw c.in_ok-length.ensures.ok_part at c.checked_add.ensures in
    let sum : c.in_ok-length.length ≡ c.args.stack.now.length + c.args.n = added.1 in
    stack_grown _ _ _ _ _ _ _ _ _ _ _ _ (ap (λ p. p.blocks) c.in_ok-reserve.ensures.ok) c.in_ok-reserve-2.ensures.items
    sum c.requires.sized (omega arith) c.clear_rest.ensures c.lease_blocks.ensures added.0
