use Rattle.std.proofs.Common.{refl}
use Rattle.std.specs.Prelude.{Some, None}
use Rattle.vm_frames.specs.Seen.{of}
use Rattle.vm_unwind.proofs.Passing.{unwinds_more, thrown_on}
use Rattle.vm_unwind.proofs.unwinding.unwind.Goals as goal

pub levels-preserved : goal.levels-preserved
levels-preserved c = λ landing st s further. c.levels.invariant landing st s (unwinds_more c.args.code.now c.args.exit
    c.levels.heap.store c.at_level-in-levels.new.heap.store (of c.levels.frames) (of c.pop.new.self)
    (of c.at_level-in-levels.new.frames) c.in-Some-pop.next c.in_ok-landing-2.field-0 None c.levels._level
    c.depth-level-end.result landing st s c.levels-test.true c.in-Some-pop.ensures.level c.pop.ensures.line
    c.in_default-2.is c.in_ok-landing-2.ensures further)

pub returns-in-Some-2 : goal.returns-in-Some-2
returns-in-Some-2 c = thrown_on c.args.code.now c.args.exit c.args.heap.now.store c.at_level.new.heap.store
    (of c.args.frames.now) (of c.at_level.new.frames) c.args.level c.in_ok-landing.field-0 c.depth-level-end.result
    c.in-Some-2.landing c.at_level-in-levels.new.heap.store (of c.at_level-in-levels.new.frames)
    c.in_ok-landing.ensures c.in_default.is c.depth-level-end.ensures
    (c.levels.invariant c.in-Some-2.landing c.at_level-in-levels.new.heap.store (of c.at_level-in-levels.new.frames)
    (unwinds_more c.args.code.now c.args.exit c.levels.heap.store c.at_level-in-levels.new.heap.store
    (of c.levels.frames) (of c.pop.new.self) (of c.at_level-in-levels.new.frames) c.in-Some-pop.next
    c.in_ok-landing-2.field-0 (Some c.in-Some-2.landing) c.levels._level c.depth-level-end.result c.in-Some-2.landing
    c.at_level-in-levels.new.heap.store (of c.at_level-in-levels.new.frames) c.levels-test.true
    c.in-Some-pop.ensures.level c.pop.ensures.line c.in-Some-2.is c.in_ok-landing-2.ensures (refl, refl, refl)))
