use Rattle.stack_bank.specs.Bank.{IsLive}
use Rattle.register_tests.proofs.stacks.a_hundred_calls_are_those_on_lists.Given as goal

-- the three stacks are live
abbrev pub invariant-loop-step : goal.invariant-loop-step
invariant-loop-step g l = record {
  one : IsLive l.bank l.first.0;
  two : IsLive l.bank l.second.0;
  three : IsLive l.bank l.third.0;
}
