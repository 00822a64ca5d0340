use Rattle.stack_bank.proofs.Calls.{opens}
use Rattle.stack_bank.proofs.bank.StackBank.open_stack.Goals as goal

pub invariant_of-self-2 : goal.invariant_of-self-2
invariant_of-self-2 c = opens _ _ _ _ c.in_ok-push.ensures.items c.new.ensures c.self.invariant
