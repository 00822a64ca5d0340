use Rattle.std.proofs.Common.{◌≡◌, drop}
use Rattle.ir_walk.specs.Width.{behind}
use Rattle.ir_walk.proofs.sums.in_order.Given as goal

abbrev pub invariant-loop-part : goal.invariant-loop-part
invariant-loop-part l = behind 0 0 l.parts ≡ behind l.most l.place (drop l.part-index l.parts)
