use Rattle.slot_pool.proofs.Free.{once_more}
use Rattle.slot_pool.proofs.Leasing.{gives, seen_given}
use Rattle.slot_pool.proofs.pool.SlotPool.give.Goals as goal

pub invariant_of-self : goal.invariant_of-self
invariant_of-self g c =
    let live = rw (← c.self.view_is) at c.requires in
    rw (c.push_reserved.ensures.items, c.push_reserved.ensures.capacity)
    (gives _ _ _ _ _ _ c.args.b.0 c.self.invariant live).sound

pub returns : goal.returns
returns g c =
    let live = rw (← c.self.view_is) at c.requires in
    let gave = gives _ _ _ _ _ _ c.args.b.0 c.self.invariant live in
    record {
      given = rw (← c.self.view_is) (seen_given _ _ _ _ _ _ _ _ c.push_reserved.ensures.items gave);
      once = rw c.push_reserved.ensures.items (once_more c.self.inside.free.items c.args.b.0 gave.was_live);
    }
