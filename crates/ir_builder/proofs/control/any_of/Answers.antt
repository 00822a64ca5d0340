use Rattle.ir_builder.proofs.Lists.{any_of-turn}
use Rattle.ir_builder.proofs.control.any_of.Goals as goal

pub tests-preserved : goal.tests-preserved
tests-preserved c = any_of-turn _ _ _ _ _ _ _ c.pop-in-tests.ensures.items c.in-Some-pop.is c.in_ok-whole.ensures
    c.tests.invariant
