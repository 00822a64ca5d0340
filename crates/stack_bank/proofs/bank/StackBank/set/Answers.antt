use Rattle.std.proofs.Common.{◌≡◌, ◌+◌, ◌-◌, ◌/◌, ◌%◌, ◌<◌, ◌≤◌, length, map, arith, refl, ap, sym, ◌∙◌}
use Rattle.std.proofs.lemmas.List.{map-set}
use Rattle.stack_bank.specs.Inside.{held}
use Rattle.stack_bank.proofs.Calls.{the_place, the_stack, in_stack, block_live, sets_slot}
use Rattle.stack_bank.proofs.bank.StackBank.set.Goals as goal

pub index-block-requires : goal.index-block-requires
index-block-requires c =
    let live = rw (← c.self.view_is) at c.requires.live in
    let s = the_stack _ _ c.args.id.0 c.index.result.now c.self.invariant live c.index.ensures in
    let within = in_stack _ _ c.args.id.0 c.args.i _ s (rw (← c.self.view_is) at c.requires.within) in
    omega (arith, s.sized, within)

pub write-requires-clause-live : goal.write-requires-clause-live
write-requires-clause-live c =
    let live = rw (← c.self.view_is) at c.requires.live in
    let s = the_stack _ _ c.args.id.0 c.index.result.now c.self.invariant live c.index.ensures in
    let within = in_stack _ _ c.args.id.0 c.args.i _ s (rw (← c.self.view_is) at c.requires.within) in
    block_live _ _ (c.args.i / 64) c.index-block.result.now s.holds (omega (arith, s.sized, within))
    c.index-block.ensures

pub invariant_of-self : goal.invariant_of-self
invariant_of-self c =
    let live = rw (← c.self.view_is) at c.requires.live in
    let at = the_place _ _ c.args.id.0 c.index.result.now live c.index.ensures in
    let s = the_stack _ _ c.args.id.0 c.index.result.now c.self.invariant live c.index.ensures in
    let within = in_stack _ _ c.args.id.0 c.args.i _ s (rw (← c.self.view_is) at c.requires.within) in
    rw c.write.ensures (sets_slot _ _ c.args.id.0 c.args.i c.index-block.result.now _ c.args.v c.self.invariant at s
    within c.index-block.ensures).sound

pub returns : goal.returns
returns c =
    let live = rw (← c.self.view_is) at c.requires.live in
    let at = the_place _ _ c.args.id.0 c.index.result.now live c.index.ensures in
    let s = the_stack _ _ c.args.id.0 c.index.result.now c.self.invariant live c.index.ensures in
    let within = in_stack _ _ c.args.id.0 c.args.i _ s (rw (← c.self.view_is) at c.requires.within) in
    rw (c.write.ensures, ← c.self.view_is) (sets_slot _ _ c.args.id.0 c.args.i c.index-block.result.now _ c.args.v
    c.self.invariant at s within c.index-block.ensures).seen_as
