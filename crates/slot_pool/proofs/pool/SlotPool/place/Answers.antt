use Rattle.std.proofs.Common.{◌+◌, ◌*◌, arith}
use Rattle.slot_pool.proofs.Blocks.{place_fits}
use Rattle.slot_pool.proofs.pool.SlotPool.place.Goals as goal

pub overflow_mul-result : goal.overflow_mul-result
overflow_mul-result g c =
    let live = rw (← c.self.view_is) at c.requires.live in
    omega (arith, place_fits _ _ _ _ _ _ c.args.b.0 c.self.invariant live, c.self.invariant.fits)

pub overflow_add-result : goal.overflow_add-result
overflow_add-result g c =
    let live = rw (← c.self.view_is) at c.requires.live in
    omega (arith, place_fits _ _ _ _ _ _ c.args.b.0 c.self.invariant live, c.self.invariant.fits)
