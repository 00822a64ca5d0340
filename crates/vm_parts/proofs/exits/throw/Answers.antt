use Rattle.std.proofs.Common.{rules, refl}
use Rattle.fiber_switch.specs.Frames.landing as landing
use Rattle.fiber_switch.specs.Frames.seen as seen
use Rattle.vm_parts.specs.Beside as beside
use Rattle.vm_parts.proofs.Throwing.{thrown_more, thrown_from, thrown_on, thrown_out, thrown_past}
use Rattle.vm_parts.proofs.exits.throw.Goals as goal

pub returns-in-Runs : goal.returns-in-Runs
returns-in-Runs c = thrown_from c.args.code.now.code (beside.of c.args.parts.now) c.args.level c.args.exit
    c.saturating_add-rounds.result _ _ (search rules) (c.fibers.invariant _ _ (thrown_more c.args.code.now.code
    (beside.of c.fibers.parts) c.fibers.at c.fibers.exit c.in_ok-level.field-0 (landing.Runs c.in-Runs.level)
    c.unwind.new.heap (seen.of c.unwind.new.frames) c.fibers._fiber c.saturating_add-rounds.result _ _
    c.fibers-test.true c.in-Runs.is c.in_ok-level.ensures (refl, search rules)))

pub returns-in-Gives : goal.returns-in-Gives
returns-in-Gives c = thrown_from c.args.code.now.code (beside.of c.args.parts.now) c.args.level c.args.exit
    c.saturating_add-rounds.result _ _ (search rules) (c.fibers.invariant _ _ (thrown_more c.args.code.now.code
    (beside.of c.fibers.parts) c.fibers.at c.fibers.exit c.in_ok-level.field-0 (landing.Gives c.in-Gives.value)
    c.unwind.new.heap (seen.of c.unwind.new.frames) c.fibers._fiber c.saturating_add-rounds.result _ _
    c.fibers-test.true c.in-Gives.is c.in_ok-level.ensures (c.receive.ensures.flow, c.receive.ensures.received)))

pub returns-in-None-fallen : goal.returns-in-None-fallen
returns-in-None-fallen c = thrown_from c.args.code.now.code (beside.of c.args.parts.now) c.args.level c.args.exit
    c.saturating_add-rounds.result _ _ (search rules) (c.fibers.invariant _ _ (thrown_out c.args.code.now.code
    (beside.of c.fibers.parts) c.fibers.at c.fibers.exit c.in_ok-level.field-0 c.in-Falls.past c.in-Some.exception
    c.unwind.new.heap (seen.of c.unwind.new.frames) (beside.of c.fallen.new.parts) c.fibers._fiber
    c.saturating_add-rounds.result _ _ c.fibers-test.true c.in-Falls.is c.in_ok-level.ensures c.in-Some.ensures
    c.in-None-fallen.ensures.level c.fallen.ensures.fallen c.uncaught.ensures.flow c.uncaught.ensures.ending))

pub returns-in-None : goal.returns-in-None
returns-in-None c = thrown_from c.args.code.now.code (beside.of c.args.parts.now) c.args.level c.args.exit
    c.saturating_add-rounds.result _ _ (search rules) (c.fibers.invariant _ _ (thrown_past c.args.code.now.code
    (beside.of c.fibers.parts) c.fibers.at c.fibers.exit c.in_ok-level.field-0 c.in-Falls.past c.unwind.new.heap
    (seen.of c.unwind.new.frames) c.fibers._fiber c.saturating_add-rounds.result c.fibers-test.true c.in-Falls.is
    c.in_ok-level.ensures c.in-None.ensures))

pub fibers-preserved : goal.fibers-preserved
fibers-preserved c = λ flow end further. c.fibers.invariant flow end (thrown_on c.args.code.now.code
    (beside.of c.fibers.parts) c.fibers.at c.fibers.exit c.in_ok-level.field-0 c.in-Falls.past c.in-Some.exception
    c.in-Some-fallen.next c.unwind.new.heap (seen.of c.unwind.new.frames) (beside.of c.fallen.new.parts)
    c.fibers._fiber c.saturating_add-rounds.result flow end c.fibers-test.true c.in-Falls.is c.in_ok-level.ensures
    c.in-Some.ensures c.in-Some-fallen.ensures.level c.fallen.ensures.fallen further)
