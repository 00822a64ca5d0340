-- Lines at the beginning of a loop.
use Rattle.std.proofs.Common.{◌≡◌, ◌+◌, arith}
use Rattle.gen_parts.specs.declared.emitter.Spot.{Spot}
use Rattle.gen_parts.specs.Pieces.{behind}

pub third-line : (s : Spot) → (behind (behind (behind s))).line ≡ s.line + 3
unfolding behind
third-line s = omega arith

pub ruleset loop_laws = (third-line)
