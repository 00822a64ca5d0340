use Rattle.std.proofs.Common.{length, ap, sym, ◌∙◌}
use Rattle.stack_bank.proofs.Slots.{length-slots_of}
use Rattle.stack_bank.proofs.Calls.{the_stack}
use Rattle.stack_bank.proofs.bank.StackBank.len.Goals as goal

pub returns : goal.returns
returns c =
    let live = rw (← c.self.view_is) at c.requires in
    let s = the_stack _ _ c.args.id.0 c.index.result.now c.self.invariant live c.index.ensures in
    rw (← c.self.view_is) (sym (length-slots_of c.self.inside.pool.blocks c.index.result.now.blocks.items
    c.index.result.now.length) ∙ sym (ap length s.slots))
