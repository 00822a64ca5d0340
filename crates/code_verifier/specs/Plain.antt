-- Instructions that ask for no more than registers, symbols and a count of arguments.
use Rattle.std.specs.Prelude.{ℕ, List, [], ◌∷◌, length, Option, Bool, true, false, ◌&&◌, nat_lt, nat_le}
use Rattle.std.specs.List.{list_all}
use Rattle.rite_code.specs.declared.cause.Cause.{Cause}
use Rattle.rite_code.specs.declared.cause.Cause.TheVariants as cause
use Rattle.rite_code.specs.declared.code.Irep.{Irep}
use Rattle.rite_code.specs.declared.operation.Operation.{Operation}
use Rattle.rite_code.specs.declared.operation.Operation.TheVariants as operation
use Rattle.rite_code.specs.Instruction.{Instruction}
use Rattle.code_verifier.specs.Checks.{unless, count_holds}
use Rattle.code_verifier.specs.Needs.{registers_of, symbols_of, count_of}

abbrev pub is_plain : Operation → Bool
is_plain (operation.LoadL a b) = false
is_plain (operation.GetUpVar a b c) = false
is_plain (operation.SetUpVar a b c) = false
is_plain (operation.Jmp by) = false
is_plain (operation.JmpIf a by) = false
is_plain (operation.JmpNot a by) = false
is_plain (operation.JmpUw by) = false
is_plain (operation.Enter q) = false
is_plain (operation.Return a) = false
is_plain (operation.ReturnBlk a) = false
is_plain (operation.Break a) = false
is_plain (operation.String a b) = false
is_plain (operation.Lambda a b) = false
is_plain (operation.Block a b) = false
is_plain (operation.OClass a b) = false
is_plain (operation.Exec a b) = false
is_plain (operation.Def a b c) = false
is_plain (operation.Defined a b c) = false
is_plain operation.Stop = false
is_plain o = true

-- what can be wrong with one of them where it doesn't stand at the start of a body
abbrev pub plain_causes : Irep → ℕ → Instruction → List (Option Cause)
plain_causes b next i =
    unless (count_holds i) cause.Extended
    ∷ unless (nat_le (registers_of i.operation) b.registers) cause.Register
    ∷ unless (list_all (λ n. nat_lt n (length b.symbols)) (symbols_of i.operation)) cause.Symbol
    ∷ unless (nat_lt next (length b.code)) cause.Fall
    ∷ []

-- whether all is there that one of them asks for
abbrev pub passes : Irep → Operation → Bool
passes b o = is_plain o && (nat_le (count_of o) 255 && (list_all (λ n. nat_lt n (length b.symbols)) (symbols_of o)
    && nat_le (registers_of o) b.registers))
