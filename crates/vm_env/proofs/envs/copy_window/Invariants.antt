use Rattle.std.proofs.Common.{◌≡◌, ◌+◌, ◌≤◌, ◌++◌}
use Rattle.std.specs.Vec.{vec_capacity, vec_len}
use Rattle.stack_bank.specs.Bank.{slots}
use Rattle.vm_env.proofs.Windows.{window}
use Rattle.vm_env.proofs.envs.copy_window.Given as goal

-- so many values are copied, and there is room for the rest
abbrev pub invariant-loop-i : goal.invariant-loop-i
invariant-loop-i l = record {
  copied : l.values.items ≡ l.initial.values.items ++ window l.base l.i (slots l.bank l.stack.0);
  room : vec_len l.values + l.size ≤ vec_capacity l.values + l.i;
}
