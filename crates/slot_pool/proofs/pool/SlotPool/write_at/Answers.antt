use Rattle.std.proofs.Common.{◌+◌, ◌*◌, ◌/◌, ◌%◌, refl, arith}
use Rattle.slot_pool.proofs.Blocks.{place_within, place_fits, place_written}
use Rattle.slot_pool.proofs.pool.SlotPool.write_at.Goals as goal

pub overflow_add-start : goal.overflow_add-start
overflow_add-start g c =
    let live = rw (← c.self.view_is) at c.requires in
    omega (arith, place_fits _ _ _ _ _ _ ((c.args.start + c.args.i) / 64) c.self.invariant live, c.self.invariant.fits)

pub index_mut-requires : goal.index_mut-requires
index_mut-requires g c =
    let live = rw (← c.self.view_is) at c.requires in
    omega (
      arith,
      place_within _ _ _ _ _ _ ((c.args.start + c.args.i) / 64) ((c.args.start + c.args.i) % 64)
          (c.args.start + c.args.i) c.self.invariant live (omega arith) (omega arith),
    )

pub invariant_of-self : goal.invariant_of-self
invariant_of-self g c =
    let live = rw (← c.self.view_is) at c.requires in
    (place_written _ _ _ _ _ _ ((c.args.start + c.args.i) / 64) ((c.args.start + c.args.i) % 64)
    (c.args.start + c.args.i) c.args.v c.self.invariant live (omega arith) (omega arith)).sound

pub returns : goal.returns
returns g c =
    let live = rw (← c.self.view_is) at c.requires in
    let changed = (place_written _ _ _ _ _ _ ((c.args.start + c.args.i) / 64) ((c.args.start + c.args.i) % 64)
    (c.args.start + c.args.i) c.args.v c.self.invariant live (omega arith) (omega arith)).blocks in
    rw (← c.self.view_is, changed) refl
