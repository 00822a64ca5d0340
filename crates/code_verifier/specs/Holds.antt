-- What is known of the parts of verified code.
use Rattle.std.specs.Prelude.{◌≡◌, ◌<◌, ℕ, ◌+◌, List, length, drop, true, false, Some, slice_get, nat_lt, nat_le, ◌&&◌, ◌||◌}
use Rattle.std.specs.List.{list_all}
use Rattle.rite_code.specs.declared.code.Irep.{Irep}
use Rattle.rite_code.specs.declared.code.CatchEntry.{CatchEntry}
use Rattle.rite_code.specs.Code.{Program}
use Rattle.code_outline.specs.Layout.{Standing, layout, end_of}
use Rattle.code_outline.specs.Makers.{made_by, maker_of, use_in}
use Rattle.code_verifier.specs.Needs.{registers_of, symbols_of, entry_of, distance_of, variable_of, leaves, parameters_of}
use Rattle.code_verifier.specs.Checks.{count_holds, entry_holds, child_holds, jump_holds, variable_holds, enter_holds, takes_arguments, place_holds, makes_once, is_used, catch_holds}

-- every check of an instruction
pub record PassesAll (p : Program) (k : ℕ) (b : Irep) (ss : List Standing) (s : Standing) : Type 0 where
  pub count : count_holds s.instruction ≡ true
  pub registers : nat_le (registers_of s.instruction.operation) b.registers ≡ true
  pub entry : entry_holds b.pool (entry_of s.instruction.operation) ≡ true
  pub symbols : list_all (λ i. nat_lt i (length b.symbols)) (symbols_of s.instruction.operation) ≡ true
  pub child : child_holds b (use_in s.instruction.operation) ≡ true
  pub jump : jump_holds ss s.next (distance_of s.instruction.operation) ≡ true
  pub variable : variable_holds p k (variable_of s.instruction.operation) ≡ true
  pub enter : enter_holds (takes_arguments (maker_of p k)) s.at b (drop 1 ss) (parameters_of s.instruction.operation)
      ≡ true
  pub place : place_holds k (maker_of p k) s.instruction.operation ≡ true
  pub child_use : (makes_once p k s.at (made_by k b s) && is_used p k s.at) ≡ true
  pub fall : (leaves s.instruction.operation || nat_lt s.next (length b.code)) ≡ true

-- the next instruction stands after this one
pub record StandsNext (ss : List Standing) (i : ℕ) (s : Standing) : Type 0 where
  pub next : Standing
  pub stands : slice_get ss (i + 1) ≡ Some next
  pub place : next.at ≡ s.next

-- a body whose number is k: its code has an instruction and is read to its end, and where an instruction doesn't
-- leave, the next one stands after it
pub record PassesBody (p : Program) (k : ℕ) (b : Irep) : Type 0 where
  pub instructions : (i : ℕ) (s : Standing) → slice_get (layout p.version b.code) i ≡ Some s
      → PassesAll p k b (layout p.version b.code) s
  pub begun : 0 < length b.code
  pub ended : end_of 0 (layout p.version b.code) ≡ length b.code
  pub goes_on : (i : ℕ) (s : Standing) → slice_get (layout p.version b.code) i ≡ Some s
      → leaves s.instruction.operation ≡ false → StandsNext (layout p.version b.code) i s
  pub catches : (i : ℕ) (e : CatchEntry) → slice_get b.catches i ≡ Some e
      → catch_holds (length b.code) (layout p.version b.code) e ≡ true
