use Rattle.std.proofs.Common.{◌≡◌, take, replicate}
use Rattle.rb_value.specs.declared.value.Value.TheVariants.{Nil}
use Rattle.vm_frames.proofs.registers.blank.Given as goal

-- the first of them are nil
abbrev pub invariant-registers : goal.invariant-registers
invariant-registers l = take l.register-index l.registers ≡ replicate l.register-index Nil
