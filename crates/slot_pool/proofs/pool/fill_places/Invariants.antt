use Rattle.std.proofs.Common.{◌≡◌, ◌++◌, drop, replicate}
use Rattle.slot_pool.proofs.pool.fill_places.Given as goal

-- the places so far hold the value, the others what they held
abbrev pub invariant-loop-place : goal.invariant-loop-place
invariant-loop-place g l = l.places ≡ replicate l.place-index l.value ++ drop l.place-index l.initial.places
