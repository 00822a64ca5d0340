-- Bodies within the limits.
use Rattle.std.specs.Prelude.{◌≤◌, length}
use Rattle.rite_code.specs.declared.code.Irep.{Irep}

-- the registers, the tables and the bytes of code of a body
pub record IsCounted (b : Irep) : Type 0 where
  pub registers : b.registers ≤ 65535
  pub locals : b.locals ≤ b.registers
  pub pool : length b.pool ≤ 65535
  pub symbols : length b.symbols ≤ 65535
  pub children : length b.children ≤ 65535
  pub code : length b.code ≤ 4194303
