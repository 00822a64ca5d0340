use Rattle.std.proofs.Common.{◌≡◌, ◌+◌, ◌-◌, ◌/◌, ◌%◌, ◌<◌, ◌≤◌, length, map, arith, refl, ap, sym, ◌∙◌}
use Rattle.std.proofs.lemmas.List.{map-set}
use Rattle.stack_bank.specs.Inside.{held}
use Rattle.stack_bank.proofs.Calls.{the_place, the_stack, grows_sound, grows_ok, grows_err}
use Rattle.stack_bank.proofs.bank.StackBank.grow.Goals as goal

pub grow_stack-requires-clause-holds : goal.grow_stack-requires-clause-holds
grow_stack-requires-clause-holds c =
    let live = rw (← c.self.view_is) at c.requires in
    (the_stack _ _ c.args.id.0 c.index_mut.result.now c.self.invariant live c.index_mut.ensures.value).holds

pub grow_stack-requires-clause-sized : goal.grow_stack-requires-clause-sized
grow_stack-requires-clause-sized c =
    let live = rw (← c.self.view_is) at c.requires in
    (the_stack _ _ c.args.id.0 c.index_mut.result.now c.self.invariant live c.index_mut.ensures.value).sized

pub invariant_of-self : goal.invariant_of-self
invariant_of-self c =
    let live = rw (← c.self.view_is) at c.requires in
    let at = the_place _ _ c.args.id.0 c.index_mut.result.now live c.index_mut.ensures.value in
    let s = the_stack _ _ c.args.id.0 c.index_mut.result.now c.self.invariant live c.index_mut.ensures.value in
    rw (map-set held) (grows_sound _ _ _ _ c.args.id.0 c.args.n _ _ c.self.invariant at s c.grow_stack.ensures.ok
    c.grow_stack.ensures.err_pool c.grow_stack.ensures.err_stack)

pub returns-clause-ok : goal.returns-clause-ok
returns-clause-ok c =
    let live = rw (← c.self.view_is) at c.requires in
    let at = the_place _ _ c.args.id.0 c.index_mut.result.now live c.index_mut.ensures.value in
    let s = the_stack _ _ c.args.id.0 c.index_mut.result.now c.self.invariant live c.index_mut.ensures.value in
    rw (map-set held, ← c.self.view_is) (grows_ok _ _ _ _ c.args.id.0 c.args.n _ _ c.self.invariant at s
    c.grow_stack.ensures.ok)

pub returns-clause-err : goal.returns-clause-err
returns-clause-err c =
    let live = rw (← c.self.view_is) at c.requires in
    let at = the_place _ _ c.args.id.0 c.index_mut.result.now live c.index_mut.ensures.value in
    rw (map-set held, ← c.self.view_is) (grows_err _ _ _ _ c.args.id.0 _ _ at c.grow_stack.ensures.err_pool
    c.grow_stack.ensures.err_stack)
