use Rattle.std.proofs.Common.{refl, arith}
use Rattle.slot_pool.proofs.Blocks.{place_fits, filled_part}
use Rattle.slot_pool.proofs.pool.SlotPool.fill.Goals as goal

pub overflow_mul-b : goal.overflow_mul-b
overflow_mul-b g c =
    let live = rw (← c.self.view_is) at c.requires.live in
    omega (arith, place_fits _ _ _ _ _ _ c.args.b.0 c.self.invariant live, c.self.invariant.fits)

pub overflow_add-b : goal.overflow_add-b
overflow_add-b g c =
    let live = rw (← c.self.view_is) at c.requires.live in
    omega (arith, place_fits _ _ _ _ _ _ c.args.b.0 c.self.invariant live, c.self.invariant.fits)

pub overflow_mul-b-2 : goal.overflow_mul-b-2
overflow_mul-b-2 g c =
    let live = rw (← c.self.view_is) at c.requires.live in
    omega (arith, place_fits _ _ _ _ _ _ c.args.b.0 c.self.invariant live, c.self.invariant.fits)

pub overflow_add-b-2 : goal.overflow_add-b-2
overflow_add-b-2 g c =
    let live = rw (← c.self.view_is) at c.requires.live in
    omega (arith, place_fits _ _ _ _ _ _ c.args.b.0 c.self.invariant live, c.self.invariant.fits)

pub fill_part-requires-clause-within : goal.fill_part-requires-clause-within
fill_part-requires-clause-within g c =
    let live = rw (← c.self.view_is) at c.requires.live in
    omega (arith, place_fits _ _ _ _ _ _ c.args.b.0 c.self.invariant live, c.self.invariant.whole)

pub invariant_of-self : goal.invariant_of-self
invariant_of-self g c =
    let live = rw (← c.self.view_is) at c.requires.live in
    rw c.fill_part.ensures.capacity (filled_part _ _ _ _ _ _ _ c.args.b.0 c.args.from c.args.to c.args.v
    c.fill_part.ensures.items c.self.invariant live c.requires.order c.requires.within).sound

pub returns : goal.returns
returns g c =
    let live = rw (← c.self.view_is) at c.requires.live in
    let changed = (filled_part _ _ _ _ _ _ _ c.args.b.0 c.args.from c.args.to c.args.v c.fill_part.ensures.items
    c.self.invariant live c.requires.order c.requires.within).blocks in
    rw (← c.self.view_is, changed) refl
