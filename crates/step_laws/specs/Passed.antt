-- How the arguments of a call are passed: one a register, or in an Array where one of them is a splat or where they are more
-- than 253.
use Rattle.std.specs.Prelude.{ℕ, ◌||◌, nat_lt, Bool, true, false, Option}
use Rattle.ir_core.specs.CoreForm.{Name, Local, CoreForm, sym, function, local, Body, Maybe, absent, there, Items}
use Rattle.ir_counts.specs.Tables.{item_count}
use Rattle.ir_walk.specs.Width.{has_splat}
use Rattle.gen_parts.specs.declared.emitter.Spot.{Spot}
use Rattle.gen_parts.specs.Pieces.{Piece, past}
use Rattle.gen_forms.specs.declared.context.Loop.{Loop}
use Rattle.gen_forms.specs.declared.calls.Passing.{Passing}
use Rattle.gen_forms.specs.declared.calls.Passing.TheVariants as passed
use Rattle.gen_forms.specs.Gen.{Context, gather, pass_in_registers, passing, passed_by}
use Rattle.step_laws.specs.Site.{Site, within}

abbrev pub in_array : Items → Bool
in_array is = has_splat is || nat_lt 253 (item_count is)

-- forms that give a value in one transition, in which no Array changes
pub data IsAtOnce : CoreForm → Type 0 where
  a_literal : (f : Body) → IsAtOnce (function f)
  a_local : (x : Local) → IsAtOnce (local x)
  a_symbol : (x : Name) → IsAtOnce (sym x)

-- the block of a call is such a form where the arguments stand in an Array
abbrev pub MayHand : Bool → Maybe → Type 0
MayHand false b = Unit {0}
MayHand true absent = Unit {0}
MayHand true (there e) = IsAtOnce e

-- what is asked of the register of the Array, of items one a register, and of items that are gathered
abbrev pub Passed : Passing → Type 0 → Type 0 → Type 0 → Type 0
Passed (passed.InRegisters n) room items gathered = items
Passed (passed.InArrayOf n) room items gathered = room × items
Passed passed.InArray room items gathered = room × gathered

-- the code of the arguments of a call in register r, and the spot behind it
abbrev pub arguments_code : Context → Spot → ℕ → Items → Piece
arguments_code c s r is =
    passed_by (passing is) (λ d t n. pass_in_registers d t n is) (λ d t n. gather d t n is) c s r

abbrev pub past_arguments : Site → Option Loop → ℕ → Spot → Items → Spot
past_arguments h o r s is = past s (arguments_code (within h o) s r is)
