use Rattle.std.proofs.Common.{◌≡◌, map, take}
use Rattle.code_outline.specs.Makers.{around}
use Rattle.code_outline.proofs.scoping.outers_of.Given as goal

abbrev pub invariant-loop-maker : goal.invariant-loop-maker
invariant-loop-maker l = l.outers ≡ map around (take l.maker-index l.makers)
