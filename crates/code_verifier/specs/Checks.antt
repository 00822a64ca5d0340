-- Where the checks of the verifier fail, in their order (docs/formats.md).
use Rattle.std.specs.Prelude.{ℕ, ◌+◌, ℤ, pos, negsuc, ◌+ℤ◌, List, [], ◌∷◌, ◌++◌, length, map, take, drop, Option, Some, None, Bool, true, false, not, ◌&&◌, ◌||◌, nat_eq, nat_lt, nat_le, slice_get, if◌then◌else◌}
use Rattle.std.specs.List.{list_all}
use Rattle.rite_code.specs.declared.cause.Cause.{Cause}
use Rattle.rite_code.specs.declared.cause.Cause.TheVariants as cause
use Rattle.rite_code.specs.declared.code.Irep.{Irep}
use Rattle.rite_code.specs.declared.code.PoolItem.{PoolItem}
use Rattle.rite_code.specs.declared.code.PoolItem.TheVariants as pool
use Rattle.rite_code.specs.declared.code.CatchEntry.{CatchEntry}
use Rattle.rite_code.specs.declared.opcode.Opcode.{Opcode}
use Rattle.rite_code.specs.declared.operation.Parameters.{Parameters}
use Rattle.rite_code.specs.declared.operation.Operation.{Operation}
use Rattle.rite_code.specs.declared.operation.Operation.TheVariants as operation
use Rattle.rite_code.specs.Code.{Program}
use Rattle.rite_code.specs.Instruction.{Instruction}
use Rattle.rite_code.specs.Table.{opcode_of, shape_of}
use Rattle.rite_code.specs.Shape.{operand_size}
use Rattle.rite_code.specs.Spelling.{ext, bit}
use Rattle.code_outline.specs.Layout.{Standing, layout, end_of, is_start}
use Rattle.code_outline.specs.Makers.{Made, made_by, maker_of, is_function, scope_out}
use Rattle.code_outline.specs.declared.maker.Maker.{Maker}
use Rattle.code_outline.specs.declared.maker.Purpose.{Purpose}
use Rattle.code_outline.specs.declared.maker.Purpose.TheVariants as purpose
use Rattle.code_verifier.specs.Needs.{registers_of, symbols_of, Entry, integer, text, entry_of, distance_of, Variable, variable_of, count_of, leaves, is_jump, parameters_of}
use Rattle.code_outline.specs.Makers.{use_in}

-- why code isn't verified: the number of the body, the place in its code, and the check
pub record Bad : Type 0 where
  pub irep : ℕ
  pub at : ℕ
  pub cause : Cause

-- the first of several
unfoldable pub first : {A : Type 0} → List (Option A) → Option A
first [] = None
first (None ∷ xs) = first xs
first (Some x ∷ xs) = Some x

-- the cause, where its check doesn't hold
abbrev pub unless : Bool → Cause → Option Cause
unless true c = None
unless false c = Some c

-- ## What no instruction can be read at

-- after EXT: an instruction whose operands pass the end is cut; one that may not be wide is extended
abbrev pub unread_wide : Option Opcode → ℕ → Cause
unread_wide None left = cause.Opcode
unread_wide (Some o) left = if nat_lt left (operand_size true (shape_of o)) then cause.Cut else cause.Extended

abbrev pub unread_extended : List ℕ → Cause
unread_extended [] = cause.Cut
unread_extended (n ∷ rest) = if nat_eq n ext then cause.Extended else unread_wide (opcode_of n) (length rest)

abbrev pub unread_narrow : Option Opcode → Cause
unread_narrow None = cause.Opcode
unread_narrow (Some o) = cause.Cut

-- the cause where no instruction can be read at the front of these bytes
unfoldable pub unread : ℕ → List ℕ → Cause
unread version [] = cause.Cut
unread version (n ∷ rest) = if nat_eq version 2 && nat_eq n ext then unread_extended rest else unread_narrow
    (opcode_of n)

-- ## What an instruction needs

-- a wide count above 255 means nothing
abbrev pub count_holds : Instruction → Bool
count_holds i = nat_le (count_of i.operation) 255

abbrev pub is_integer : Option PoolItem → Bool
is_integer None = false
is_integer (Some (pool.Int n)) = true
is_integer (Some (pool.Text t)) = false

abbrev pub is_text : Option PoolItem → Bool
is_text None = false
is_text (Some (pool.Int n)) = false
is_text (Some (pool.Text t)) = true

abbrev pub entry_holds : List PoolItem → Option Entry → Bool
entry_holds items None = true
entry_holds items (Some (integer i)) = is_integer (slice_get items i)
entry_holds items (Some (text i)) = is_text (slice_get items i)

abbrev pub child_holds : Irep → Option (ℕ × Purpose) → Bool
child_holds b None = true
child_holds b (Some u) = nat_lt u.0 (length b.children)

-- the place that a jump of this distance from the next instruction leads to is the start of one
abbrev pub leads_to_start : List Standing → ℤ → Bool
leads_to_start ss (pos n) = is_start ss n
leads_to_start ss (negsuc n) = false

abbrev pub jump_holds : List Standing → ℕ → Option ℤ → Bool
jump_holds ss next None = true
jump_holds ss next (Some by) = leads_to_start ss (pos next +ℤ by)

-- the register is a parameter or a named local of the body that has the variable
abbrev pub is_local : Option Irep → ℕ → Bool
is_local None r = false
is_local (Some b) r = nat_lt 0 r && nat_lt r b.locals

abbrev pub body_number : Program → Option ℕ → Option Irep
body_number p None = None
body_number p (Some j) = slice_get p.bodies j

abbrev pub variable_holds : Program → ℕ → Option Variable → Bool
variable_holds p k None = true
variable_holds p k (Some v) = is_local (body_number p (scope_out p v.between k)) v.register

-- ## ENTER

-- the bodies that begin with ENTER: those of lambdas, blocks and methods
abbrev pub binds : Purpose → Bool
binds purpose.Lambda = true
binds purpose.Block = true
binds purpose.Method = true
binds purpose.ClassBody = false

abbrev pub takes_arguments : Option Maker → Bool
takes_arguments None = false
takes_arguments (Some m) = binds m.purpose

abbrev pub parameter_count : Parameters → ℕ
parameter_count q = q.required + q.optional + bit q.rest + q.post

-- after ENTER with optional parameters stands a jump for each number of them that may be given
abbrev pub are_jumps : List Standing → Bool
are_jumps ss = list_all (λ s. is_jump s.instruction.operation) ss

abbrev pub jumps_follow : ℕ → List Standing → Bool
jumps_follow n ss = nat_eq n 0 || (nat_le (n + 1) (length ss) && are_jumps (take (n + 1) ss))

abbrev pub parameters_hold : Irep → List Standing → Parameters → Bool
parameters_hold b behind q = nat_le (parameter_count q + 2) b.locals && not q.spare && jumps_follow q.optional behind

-- ENTER stands at the start of a body that takes arguments, and nowhere else
abbrev pub enter_holds : Bool → ℕ → Irep → List Standing → Option Parameters → Bool
enter_holds takes at b behind None = not (takes && nat_eq at 0)
enter_holds takes at b behind (Some q) = takes && nat_eq at 0 && parameters_hold b behind q

-- ## Where an instruction may stand

abbrev pub in_function : Option Maker → Bool
in_function None = false
in_function (Some m) = is_function m.purpose

abbrev pub place_holds : ℕ → Option Maker → Operation → Bool
place_holds k m (operation.ReturnBlk a) = in_function m
place_holds k m (operation.Break a) = in_function m
place_holds k m (operation.OClass a b) = nat_lt b 2
place_holds k m (operation.Defined a b c) = nat_lt b 8
place_holds k m operation.Stop = nat_eq k 0
place_holds k m o = true

-- ## Each child is used once

-- the instruction is the first that uses the child
abbrev pub is_maker : ℕ → ℕ → Option Maker → Bool
is_maker k at None = false
is_maker k at (Some m) = nat_eq m.body k && nat_eq m.at at

abbrev pub makes_once : Program → ℕ → ℕ → List Made → Bool
makes_once p k at [] = true
makes_once p k at (m ∷ ms) = is_maker k at (maker_of p m.child)

abbrev pub has_maker : Option Maker → Bool
has_maker None = false
has_maker (Some m) = true

-- every body but the main program is used, which its first instruction answers for
abbrev pub is_used : Program → ℕ → ℕ → Bool
is_used p k at = nat_eq k 0 || not (nat_eq at 0) || has_maker (maker_of p k)

-- ## All checks of one instruction, in their order

abbrev pub causes : Program → ℕ → Irep → List Standing → Standing → List (Option Cause)
causes p k b ss s =
    let o = s.instruction.operation in
    let m = maker_of p k in
    unless (count_holds s.instruction) cause.Extended
    ∷ unless (nat_le (registers_of o) b.registers) cause.Register
    ∷ unless (entry_holds b.pool (entry_of o)) cause.Pool
    ∷ unless (list_all (λ i. nat_lt i (length b.symbols)) (symbols_of o)) cause.Symbol
    ∷ unless (child_holds b (use_in o)) cause.Child
    ∷ unless (jump_holds ss s.next (distance_of o)) cause.Jump
    ∷ unless (variable_holds p k (variable_of o)) cause.Upvar
    ∷ unless (enter_holds (takes_arguments m) s.at b (drop 1 ss) (parameters_of o)) cause.Enter
    ∷ unless (place_holds k m o) cause.Place
    ∷ unless (makes_once p k s.at (made_by k b s) && is_used p k s.at) cause.Use
    ∷ unless (leaves o || nat_lt s.next (length b.code)) cause.Fall
    ∷ []

unfoldable pub cause_of : Program → ℕ → Irep → List Standing → Standing → Option Cause
cause_of p k b ss s = first (causes p k b ss s)

-- ## All checks of a body

abbrev pub bad : ℕ → ℕ → Option Cause → Option Bad
bad k at None = None
bad k at (Some c) = Some (record { irep = k; at = at; cause = c })

-- the code is read to its end, and has an instruction
abbrev pub read_whole : ℕ → List ℕ → ℕ → Option Cause
read_whole version [] end = Some cause.Cut
read_whole version (n ∷ rest) end = if nat_eq end (length rest + 1) then None else Some
    (unread version (drop end (n ∷ rest)))

abbrev pub catch_holds : ℕ → List Standing → CatchEntry → Bool
catch_holds size ss e = nat_lt e.begin e.end && is_start ss e.begin && is_start ss e.target &&
    (is_start ss e.end || nat_eq e.end size)

-- the failures of some of the instructions, of the place where reading ends, and of catch entries
abbrev pub instructions_bad : Program → ℕ → Irep → List Standing → List Standing → List (Option Bad)
instructions_bad p k b ss some = map (λ s. bad k s.at (cause_of p k b ss s)) some

abbrev pub end_bad : Program → ℕ → Irep → ℕ → Option Bad
end_bad p k b end = bad k end (read_whole p.version b.code end)

abbrev pub catches_bad : ℕ → Irep → List Standing → List CatchEntry → List (Option Bad)
catches_bad k b ss some = map (λ e. bad k e.begin (unless (catch_holds (length b.code) ss e) cause.Catch)) some

unfoldable pub body_bad : Program → ℕ → Irep → Option Bad
body_bad p k b =
    let ss = layout p.version b.code in
    first (instructions_bad p k b ss ss ++ end_bad p k b (end_of 0 ss) ∷ catches_bad k b ss b.catches)

-- ## All bodies

unfoldable pub bodies_bad : Program → ℕ → List Irep → List (Option Bad)
bodies_bad p k [] = []
bodies_bad p k (b ∷ bs) = body_bad p k b ∷ bodies_bad p (k + 1) bs

-- the first failure, if any
unfoldable pub first_bad : Program → Option Bad
first_bad p = first (bodies_bad p 0 p.bodies)
