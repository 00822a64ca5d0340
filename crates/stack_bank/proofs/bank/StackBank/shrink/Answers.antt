use Rattle.std.proofs.Common.{◌≡◌, ◌+◌, ◌-◌, ◌/◌, ◌%◌, ◌<◌, ◌≤◌, length, map, arith, refl, ap, sym, ◌∙◌}
use Rattle.std.proofs.lemmas.List.{map-set}
use Rattle.stack_bank.specs.Inside.{held}
use Rattle.stack_bank.proofs.Calls.{the_place, the_stack, up_to_stack, shrinks}
use Rattle.stack_bank.proofs.bank.StackBank.shrink.Goals as goal

pub overflow_sub-length : goal.overflow_sub-length
overflow_sub-length c =
    let live = rw (← c.self.view_is) at c.requires.live in
    let s = the_stack _ _ c.args.id.0 c.index_mut-stack.result.now c.self.invariant live c.index_mut-stack.ensures.value
    in
    up_to_stack _ _ c.args.id.0 c.args.n _ s (rw (← c.self.view_is) at c.requires.within)

pub give_blocks-requires-clause-holds : goal.give_blocks-requires-clause-holds
give_blocks-requires-clause-holds c =
    let live = rw (← c.self.view_is) at c.requires.live in
    (the_stack _ _ c.args.id.0 c.index_mut-stack.result.now c.self.invariant live c.index_mut-stack.ensures.value).holds

pub give_blocks-requires-clause-within : goal.give_blocks-requires-clause-within
give_blocks-requires-clause-within c =
    let live = rw (← c.self.view_is) at c.requires.live in
    let s = the_stack _ _ c.args.id.0 c.index_mut-stack.result.now c.self.invariant live c.index_mut-stack.ensures.value
    in
    omega (arith, s.sized)

pub invariant_of-self : goal.invariant_of-self
invariant_of-self c =
    let live = rw (← c.self.view_is) at c.requires.live in
    let at = the_place _ _ c.args.id.0 c.index_mut-stack.result.now live c.index_mut-stack.ensures.value in
    let s = the_stack _ _ c.args.id.0 c.index_mut-stack.result.now c.self.invariant live c.index_mut-stack.ensures.value
    in
    let within = up_to_stack _ _ c.args.id.0 c.args.n _ s (rw (← c.self.view_is) at c.requires.within) in
    rw (map-set held) (shrinks _ _ _ c.args.id.0 c.args.n _ _ _ c.self.invariant at s within c.div_ceil.ensures
    c.give_blocks.ensures).sound

pub returns : goal.returns
returns c =
    let live = rw (← c.self.view_is) at c.requires.live in
    let at = the_place _ _ c.args.id.0 c.index_mut-stack.result.now live c.index_mut-stack.ensures.value in
    let s = the_stack _ _ c.args.id.0 c.index_mut-stack.result.now c.self.invariant live c.index_mut-stack.ensures.value
    in
    let within = up_to_stack _ _ c.args.id.0 c.args.n _ s (rw (← c.self.view_is) at c.requires.within) in
    rw (map-set held, ← c.self.view_is) (shrinks _ _ _ c.args.id.0 c.args.n _ _ _ c.self.invariant at s within
    c.div_ceil.ensures c.give_blocks.ensures).seen_as
