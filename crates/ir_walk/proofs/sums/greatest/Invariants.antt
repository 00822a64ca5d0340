use Rattle.std.proofs.Common.{◌≡◌, drop}
use Rattle.ir_walk.specs.Width.{greatest_of}
use Rattle.ir_walk.proofs.sums.greatest.Given as goal

abbrev pub invariant-loop-count : goal.invariant-loop-count
invariant-loop-count l = greatest_of 0 l.counts ≡ greatest_of l.most (drop l.count-index l.counts)
