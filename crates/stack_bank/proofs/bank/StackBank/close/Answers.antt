use Rattle.std.proofs.Common.{◌≡◌, ◌+◌, ◌-◌, ◌/◌, ◌%◌, ◌<◌, ◌≤◌, length, map, arith, refl, ap, sym, ◌∙◌}
use Rattle.std.proofs.lemmas.List.{map-set}
use Rattle.stack_bank.specs.Inside.{held}
use Rattle.stack_bank.proofs.Calls.{the_place, the_stack, closes}
use Rattle.stack_bank.proofs.bank.StackBank.close.Goals as goal

pub give_blocks-requires-clause-holds : goal.give_blocks-requires-clause-holds
give_blocks-requires-clause-holds c =
    let live = rw (← c.self.view_is) at c.requires in
    (the_stack _ _ c.args.id.0 c.index_mut-stack.result.now c.self.invariant live c.index_mut-stack.ensures.value).holds

pub invariant_of-self : goal.invariant_of-self
invariant_of-self c =
    let live = rw (← c.self.view_is) at c.requires in
    let at = the_place _ _ c.args.id.0 c.index_mut-stack.result.now live c.index_mut-stack.ensures.value in
    rw (map-set held) (closes _ _ _ c.args.id.0 _ _ c.self.invariant at c.give_blocks.ensures).sound

pub returns : goal.returns
returns c =
    let live = rw (← c.self.view_is) at c.requires in
    let at = the_place _ _ c.args.id.0 c.index_mut-stack.result.now live c.index_mut-stack.ensures.value in
    rw (map-set held, ← c.self.view_is) (closes _ _ _ c.args.id.0 _ _ c.self.invariant at c.give_blocks.ensures).seen_as
