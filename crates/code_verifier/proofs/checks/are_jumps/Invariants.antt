use Rattle.std.proofs.Common.{◌≡◌, drop, map}
use Rattle.code_outline.specs.Outlined.{seen}
use Rattle.code_verifier.specs.Checks.{are_jumps}
use Rattle.code_verifier.proofs.checks.are_jumps.Given as goal

abbrev pub invariant-loop-standing : goal.invariant-loop-standing
invariant-loop-standing l = are_jumps (map seen (drop l.standing-index l.list)) ≡ are_jumps (map seen l.fn.list)
