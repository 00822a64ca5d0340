use Rattle.std.proofs.Common.{◌+◌, ◌*◌, refl, arith}
use Rattle.slot_pool.proofs.Blocks.{place_fits, place_within, place_written}
use Rattle.slot_pool.proofs.pool.SlotPool.write.Goals as goal

pub overflow_mul-b : goal.overflow_mul-b
overflow_mul-b g c =
    let live = rw (← c.self.view_is) at c.requires.live in
    omega (arith, place_fits _ _ _ _ _ _ c.args.b.0 c.self.invariant live, c.self.invariant.fits)

pub overflow_add-b : goal.overflow_add-b
overflow_add-b g c =
    let live = rw (← c.self.view_is) at c.requires.live in
    omega (arith, place_fits _ _ _ _ _ _ c.args.b.0 c.self.invariant live, c.self.invariant.fits)

pub index_mut-requires : goal.index_mut-requires
index_mut-requires g c =
    let live = rw (← c.self.view_is) at c.requires.live in
    omega (
      arith,
      place_within _ _ _ _ _ _ c.args.b.0 c.args.i (c.args.b.0 * 64 + c.args.i) c.self.invariant live
          c.requires.within (omega arith),
    )

pub invariant_of-self : goal.invariant_of-self
invariant_of-self g c =
    let live = rw (← c.self.view_is) at c.requires.live in
    (place_written _ _ _ _ _ _ c.args.b.0 c.args.i (c.args.b.0 * 64 + c.args.i) c.args.v c.self.invariant live
    c.requires.within (omega arith)).sound

pub returns : goal.returns
returns g c =
    let live = rw (← c.self.view_is) at c.requires.live in
    let changed = (place_written _ _ _ _ _ _ c.args.b.0 c.args.i (c.args.b.0 * 64 + c.args.i) c.args.v c.self.invariant
    live c.requires.within (omega arith)).blocks in
    rw (← c.self.view_is, changed) refl
