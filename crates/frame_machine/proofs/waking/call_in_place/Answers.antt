use Rattle.vm_acts.specs.Parts.beside.{of}
use Rattle.frame_machine.proofs.Levels.{calls_here, calls_not}
use Rattle.frame_machine.proofs.waking.call_in_place.Goals as goal

pub returns-in_ok-enter_block-in-Some : goal.returns-in_ok-enter_block-in-Some
returns-in_ok-enter_block-in-Some c = calls_here c.args.code.now (of c.args.parts.now) (of c.beat_of.new.parts)
    c.args.hot.now c.enter_block.new.hot (of c.enter_block.new.parts) c.in_ok-beat.field-0 c.in-Some.beat
    c.in_ok-enter_block-in-Some.field-0 c.in_ok-beat.ensures c.in_ok-enter_block-in-Some.ensures c.in-Some.is

pub returns-in-None : goal.returns-in-None
returns-in-None c = calls_not c.args.code.now (of c.args.parts.now) (of c.beat_of.new.parts) c.args.hot.now
    c.in_ok-beat.field-0 c.in_ok-beat.ensures c.in-None.is
