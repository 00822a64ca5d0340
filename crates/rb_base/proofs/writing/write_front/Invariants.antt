use Rattle.std.proofs.Common.{◌≡◌, ◌-◌, ◌≤◌, length, take}
use Rattle.rb_base.specs.Outside.{with_more}
use Rattle.rb_base.proofs.writing.write_front.Given as goal

abbrev pub invariant-pieces : goal.invariant-pieces
invariant-pieces g l =
    (l.at ≤ length l.bytes)
    × (g.O.Sink.taken l.out ≡ with_more (g.O.Sink.taken l.fn.out) (take l.at l.bytes))
    × (g.O.Sink.faults l.out ≡ g.O.Sink.faults l.fn.out)
    × (length l.bytes ≡ 0 → l.out ≡ l.fn.out)

abbrev pub decreases-pieces : goal.decreases-pieces
decreases-pieces g l = length l.bytes - l.at
