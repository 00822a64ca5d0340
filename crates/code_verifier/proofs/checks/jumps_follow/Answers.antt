use Rattle.std.proofs.Common.{arith}
use Rattle.std.proofs.lemmas.Grind.{common_steps}
use Rattle.std.proofs.lemmas.List.{length-map, take-map}
use Rattle.code_verifier.proofs.checks.jumps_follow.Goals as goal

pub returns-in-Some : goal.returns-in-Some
returns-in-Some c = simp (length-map, take-map) (grind (arith, common_steps))
