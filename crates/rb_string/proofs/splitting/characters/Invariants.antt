use Rattle.std.proofs.Common.{◌≡◌, ◌+◌, map}
use Rattle.std.specs.List.{range_with_len}
use Rattle.rb_string.specs.Parts.{part}
use Rattle.rb_string.proofs.splitting.characters.Given as goal

abbrev pub invariant-loop-at : goal.invariant-loop-at
invariant-loop-at l = l.list ≡ map (λ k. part k (k + 1)) (range_with_len 0 l.at)
