use Rattle.std.proofs.Common.{◌≡◌, ◌+◌, ◌-◌, ◌/◌, ◌%◌, ◌<◌, ◌≤◌, length, map, arith, refl, ap, sym, ◌∙◌}
use Rattle.std.proofs.lemmas.List.{map-set}
use Rattle.stack_bank.specs.Inside.{held}
use Rattle.stack_bank.proofs.Calls.{the_stack, in_stack, block_live, slot_read}
use Rattle.stack_bank.proofs.bank.StackBank.get.Goals as goal

pub index-requires : goal.index-requires
index-requires c =
    let live = rw (← c.self.view_is) at c.requires.live in
    let s = the_stack _ _ c.args.id.0 c.index-stack.result.now c.self.invariant live c.index-stack.ensures in
    let within = in_stack _ _ c.args.id.0 c.args.i _ s (rw (← c.self.view_is) at c.requires.within) in
    omega (arith, s.sized, within)

pub read-requires-clause-live : goal.read-requires-clause-live
read-requires-clause-live c =
    let live = rw (← c.self.view_is) at c.requires.live in
    let s = the_stack _ _ c.args.id.0 c.index-stack.result.now c.self.invariant live c.index-stack.ensures in
    let within = in_stack _ _ c.args.id.0 c.args.i _ s (rw (← c.self.view_is) at c.requires.within) in
    block_live _ _ (c.args.i / 64) c.index.result.now s.holds (omega (arith, s.sized, within)) c.index.ensures

pub returns : goal.returns
returns c =
    let live = rw (← c.self.view_is) at c.requires.live in
    let s = the_stack _ _ c.args.id.0 c.index-stack.result.now c.self.invariant live c.index-stack.ensures in
    let within = in_stack _ _ c.args.id.0 c.args.i _ s (rw (← c.self.view_is) at c.requires.within) in
    rw (← c.self.view_is) (slot_read _ _ c.args.id.0 c.args.i c.index.result.now _ c.read.result s within
    c.index.ensures c.read.ensures)
