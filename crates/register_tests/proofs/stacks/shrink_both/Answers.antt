use Rattle.stack_bank.proofs.Staying.{stays_shrunk}
use Rattle.register_tests.proofs.stacks.shrink_both.Goals as goal

pub returns : goal.returns
returns c = λ other live. stays_shrunk _ _ _ _ other c.shrink.ensures live
