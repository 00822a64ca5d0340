use Rattle.std.proofs.Common.{◌≡◌, ◌-◌}
use Rattle.rows_hash.specs.Merging.{step_by_step, turned_at}
use Rattle.rows_hash.proofs.pairs.turn_all.Given as goal

abbrev pub invariant-pairs : goal.invariant-pairs
invariant-pairs l = step_by_step (turned_at l.own l.id) l.count 0 l.fn.heap
    ≡ step_by_step (turned_at l.own l.id) (l.count - l.place) l.place l.heap
