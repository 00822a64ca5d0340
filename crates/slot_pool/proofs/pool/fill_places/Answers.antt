use Rattle.slot_pool.proofs.Blocks.{fill_next}
use Rattle.slot_pool.proofs.pool.fill_places.Goals as goal

pub loop-place-preserved : goal.loop-place-preserved
loop-place-preserved g c = rw c.loop-place.invariant
    (fill_next c.loop-place.place-index c.args.value c.args.places.now c.loop-place-test.true)
