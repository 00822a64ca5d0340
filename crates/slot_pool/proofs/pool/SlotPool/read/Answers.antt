use Rattle.std.proofs.Common.{◌+◌, ◌*◌, arith}
use Rattle.slot_pool.proofs.Blocks.{place_fits, place_within, place_read}
use Rattle.slot_pool.proofs.pool.SlotPool.read.Goals as goal

pub overflow_mul-b : goal.overflow_mul-b
overflow_mul-b g c =
    let live = rw (← c.self.view_is) at c.requires.live in
    omega (arith, place_fits _ _ _ _ _ _ c.args.b.0 c.self.invariant live, c.self.invariant.fits)

pub overflow_add-b : goal.overflow_add-b
overflow_add-b g c =
    let live = rw (← c.self.view_is) at c.requires.live in
    omega (arith, place_fits _ _ _ _ _ _ c.args.b.0 c.self.invariant live, c.self.invariant.fits)

pub index-requires : goal.index-requires
index-requires g c =
    let live = rw (← c.self.view_is) at c.requires.live in
    omega (
      arith,
      place_within _ _ _ _ _ _ c.args.b.0 c.args.i (c.args.b.0 * 64 + c.args.i) c.self.invariant live
          c.requires.within (omega arith),
    )

pub returns : goal.returns
returns g c =
    let live = rw (← c.self.view_is) at c.requires.live in
    rw (← c.self.view_is) (place_read _ _ _ _ _ _ c.args.b.0 c.args.i (c.args.b.0 * 64 + c.args.i) c.index.result.now
    c.self.invariant live c.requires.within (omega arith) c.index.ensures)
