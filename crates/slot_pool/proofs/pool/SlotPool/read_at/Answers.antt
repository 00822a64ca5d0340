use Rattle.std.proofs.Common.{◌+◌, ◌*◌, ◌/◌, ◌%◌, refl, arith}
use Rattle.slot_pool.proofs.Blocks.{place_within, place_fits, place_read}
use Rattle.slot_pool.proofs.pool.SlotPool.read_at.Goals as goal

pub overflow_add-start : goal.overflow_add-start
overflow_add-start g c =
    let live = rw (← c.self.view_is) at c.requires in
    omega (arith, place_fits _ _ _ _ _ _ ((c.args.start + c.args.i) / 64) c.self.invariant live, c.self.invariant.fits)

pub index-requires : goal.index-requires
index-requires g c =
    let live = rw (← c.self.view_is) at c.requires in
    omega (
      arith,
      place_within _ _ _ _ _ _ ((c.args.start + c.args.i) / 64) ((c.args.start + c.args.i) % 64)
          (c.args.start + c.args.i) c.self.invariant live (omega arith) (omega arith),
    )

pub returns : goal.returns
returns g c =
    let live = rw (← c.self.view_is) at c.requires in
    rw (← c.self.view_is) (place_read _ _ _ _ _ _ ((c.args.start + c.args.i) / 64) ((c.args.start + c.args.i) % 64)
    (c.args.start + c.args.i) c.index.result.now c.self.invariant live (omega arith) (omega arith) c.index.ensures)
