use Rattle.std.proofs.Common.{◌≡◌, ◌-◌}
use Rattle.rows_hash.specs.Merging.{step_by_step, put_at}
use Rattle.rows_hash.proofs.pairs.put_all.Given as goal

abbrev pub invariant-pairs : goal.invariant-pairs
invariant-pairs l = step_by_step (put_at l.id l.other) l.count 0 l.fn.heap
    ≡ step_by_step (put_at l.id l.other) (l.count - l.place) l.place l.heap
