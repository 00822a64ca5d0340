use Rattle.std.proofs.Common.{◌≡◌, length, take, replicate, None}
use Rattle.code_outline.specs.Makers.{made_from}
use Rattle.code_outline.specs.Making.{AreMarked}
use Rattle.code_outline.proofs.makers_of.Given as goal

abbrev pub invariant-loop-number : goal.invariant-loop-number
invariant-loop-number l = record {
  count : length l.makers.items ≡ length l.bodies;
  makers : AreMarked (made_from l.code.version 0 (take l.number l.bodies)) (replicate (length l.bodies) None)
      l.makers.items;
}
