use Rattle.std.proofs.Common.{◌≡◌, length, arith}
use Rattle.slot_pool.proofs.Leasing.{leased_again, leased_new, roomier}
use Rattle.slot_pool.proofs.pool.SlotPool.lease_reserved.Goals as goal

pub invariant_of-self : goal.invariant_of-self
invariant_of-self g c =
    rw (c.pop.ensures.capacity, c.fill_part.ensures.capacity)
    (leased_again _ _ _ _ _ _ _ _ c.in-Some.b c.args.fill c.in-Some.ensures.items c.fill_part.ensures.items
    c.self.invariant).sound

pub invariant_of-self-in-None : goal.invariant_of-self-in-None
invariant_of-self-in-None g c =
    let some = rw (← c.self.view_is) at c.requires in
    let none : length c.self.inside.free.items ≡ 0 = omega (arith, c.in-None.ensures.cases) in
    rw c.pop.ensures.capacity (roomier _ _ _ _ _ _ _ c.resize.ensures.capacity
    (leased_new _ _ _ _ _ _ _ _ _ c.args.fill _ c.in-None.ensures.items c.self.inside.slots.ok.0
    (c.resize.ensures.succeeds (omega arith)) c.resize.ensures.items c.self.invariant none some
    (omega arith)).sound)

pub returns-in-Some : goal.returns-in-Some
returns-in-Some g c =
    rw (← c.self.view_is) (leased_again _ _ _ _ _ _ _ _ c.in-Some.b c.args.fill c.in-Some.ensures.items
    c.fill_part.ensures.items c.self.invariant).leases

pub returns-in-None : goal.returns-in-None
returns-in-None g c =
    let some = rw (← c.self.view_is) at c.requires in
    let none : length c.self.inside.free.items ≡ 0 = omega (arith, c.in-None.ensures.cases) in
    rw (← c.self.view_is) (leased_new _ _ _ _ _ _ _ _ _ c.args.fill _ c.in-None.ensures.items c.self.inside.slots.ok.0
    (c.resize.ensures.succeeds (omega arith)) c.resize.ensures.items c.self.invariant none some
    (omega arith)).leases
