-- A turn over a list of values is a turn of the machine.
use Rattle.std.proofs.Common.{◌≡◌, ℕ, ◌+◌, pos, List, [], ◌∷◌, ◌++◌, Option, Some, None, Bool, true, false, if◌then◌else◌, get_or, set, refl, ap, sym, ◌∙◌}
use Rattle.std.proofs.Math.ListN.{get_or-map}
use Rattle.std.proofs.lemmas.List.{map-set}
use Rattle.rb_syntax.specs.declared.operator.Operator.{Operator}
use Rattle.rb_syntax.specs.declared.operator.Operator.TheVariants.{Plus, Minus, Times, Equal, Less, LessEqual, Greater, GreaterEqual}
use Rattle.path_value.specs.Value.{is_true}
use Rattle.path_value.specs.declared.value.Value.{Value}
use Rattle.path_value.specs.declared.value.Value.TheVariants.{Nil, True, Int}
use Rattle.rite_code.specs.Code.{Program}
use Rattle.rite_code.specs.declared.operation.Operation.{Operation}
use Rattle.rite_code.specs.declared.operation.Operation.TheVariants.{Move, LoadI, LoadI16, LoadI32, LoadNil, LoadT, Jmp, JmpIf, JmpNot, SSend, Add, Sub, Mul, Eq, Lt, Le, Gt, Ge, Stop}
use Rattle.rite_code.specs.Instruction.{Instruction}
use Rattle.rite_code.specs.Spelling.{decode_wide_at}
use Rattle.path_core.specs.Rows.{Outcome, gives, raises, writes, call, line_of}
use Rattle.path_turns.specs.State.{Slot, value, read, Registers, State, slot_at, value_at, put, body_at, On}
use Rattle.path_turns.specs.Turn.{fetch, target, is_puts, after, operate, call_self, act, turn_by, turn}
use Rattle.path_machine.specs.Course.{Values, value_of, gets_outcome, operated, sent, executed, stepped_by, stepped}
use Rattle.path_machine.specs.Standing.{lists_of, frame_at, memory_of, standing, led_to}
use Rattle.path_machine.proofs.Writes.{IsQuiet, quiet_call}

read_at : (rs : Values) (i : ℕ) → value_at (lists_of rs) 0 i ≡ value_of rs i
unfolding slot_at
read_at rs i = ap read (get_or-map value rs i Nil)

put_at : (rs : Values) (a : ℕ) (v : Value) → put (lists_of rs) 0 a (value v) ≡ lists_of (set rs a v)
unfolding put
put_at rs a v = ap (λ (s : List Slot). record { of = 0; slots = s } ∷ []) (sym (map-set value rs a v))

-- the machine between two instructions, over these lists
abbrev between : ℕ → List Registers → List ℕ → List ℕ → State
between pc ls input out = On (frame_at pc) [] (record { lists = ls; input = input; out = out })

-- register a gets a value
got : (rs : Values) (a next : ℕ) (u v : Value) (input out : List ℕ) → u ≡ v
    → between next (put (lists_of rs) 0 a (value u)) input out ≡ standing next (set rs a v) input out
got rs a next u v input out e =
    ap (λ (ls : List Registers). between next ls input out) (put_at rs a u)
    ∙ ap (λ (w : Value). standing next (set rs a w) input out) e

outcome_as : (r : Outcome) (rs : Values) (a pc next : ℕ) (input out : List ℕ) → IsQuiet r
    → after r a next (frame_at pc) [] (memory_of rs input out) ≡ led_to (gets_outcome rs a r next) input out
outcome_as (gives v) rs a pc next input out h = got rs a next v v input out refl
outcome_as (raises f) rs a pc next input out h = refl
outcome_as (writes bytes) rs a pc next input out h = absurd h

operate_as : (o : Operator) (rs : Values) (a pc next : ℕ) (input out : List ℕ)
    → operate o a next (frame_at pc) [] (memory_of rs input out) ≡ led_to (operated o rs a next) input out
operate_as o rs a pc next input out =
    ap (λ (u : Value). after (call o u (value_at (lists_of rs) 0 (a + 1))) a next (frame_at pc) []
    (memory_of rs input out)) (read_at rs a)
    ∙ (ap (λ (v : Value). after (call o (value_of rs a) v) a next (frame_at pc) [] (memory_of rs input out))
    (read_at rs (a + 1))
    ∙ outcome_as (call o (value_of rs a) (value_of rs (a + 1))) rs a pc next input out
    (quiet_call o (value_of rs a) (value_of rs (a + 1))))

send_as : (b : Bool) (rs : Values) (a pc next : ℕ) (input out : List ℕ)
    → call_self b a next (frame_at pc) [] (memory_of rs input out) ≡ led_to (sent b rs a next) input out
send_as true rs a pc next input out =
    ap (λ (v : Value). between next (put (lists_of rs) 0 a (value Nil)) input (out ++ line_of v)) (read_at rs (a + 1))
    ∙ got rs a next Nil Nil input (out ++ line_of (value_of rs (a + 1))) refl
send_as false rs a pc next input out = refl

act_as : (c : Program) (o : Operation) (rs : Values) (pc next : ℕ) (input out : List ℕ)
    → act c o next (frame_at pc) [] (memory_of rs input out) ≡ led_to (executed (body_at c 0).symbols o next rs) input
    out
act_as c (Move a b) rs pc next input out = got rs a next (value_at (lists_of rs) 0 b) (value_of rs b) input out
    (read_at rs b)
act_as c (LoadI a b) rs pc next input out = got rs a next (Int (pos b)) (Int (pos b)) input out refl
act_as c (LoadI16 a b) rs pc next input out = got rs a next (Int b) (Int b) input out refl
act_as c (LoadI32 a b) rs pc next input out = got rs a next (Int b) (Int b) input out refl
act_as c (LoadNil a) rs pc next input out = got rs a next Nil Nil input out refl
act_as c (LoadT a) rs pc next input out = got rs a next True True input out refl
act_as c (Jmp by) rs pc next input out = refl
act_as c (JmpIf a by) rs pc next input out = ap
    (λ (v : Value). standing (if is_true v then target next by else next) rs input out) (read_at rs a)
act_as c (JmpNot a by) rs pc next input out =
    ap (λ (v : Value). standing (if is_true v then next else target next by) rs input out) (read_at rs a)
act_as c (SSend a b n) rs pc next input out =
    send_as (is_puts (get_or (body_at c 0).symbols b []) n) rs a pc next input out
act_as c (Add a) rs pc next input out = operate_as Plus rs a pc next input out
act_as c (Sub a) rs pc next input out = operate_as Minus rs a pc next input out
act_as c (Mul a) rs pc next input out = operate_as Times rs a pc next input out
act_as c (Eq a) rs pc next input out = operate_as Equal rs a pc next input out
act_as c (Lt a) rs pc next input out = operate_as Less rs a pc next input out
act_as c (Le a) rs pc next input out = operate_as LessEqual rs a pc next input out
act_as c (Gt a) rs pc next input out = operate_as Greater rs a pc next input out
act_as c (Ge a) rs pc next input out = operate_as GreaterEqual rs a pc next input out
act_as c Stop rs pc next input out = refl
act_as c o rs pc next input out = refl

turn_by_as : (c : Program) (fetched : Option (Instruction × ℕ)) (rs : Values) (pc : ℕ) (input out : List ℕ)
    → turn_by c fetched (frame_at pc) [] (memory_of rs input out) ≡ led_to (stepped_by (body_at c 0).symbols fetched rs)
    input out
turn_by_as c None rs pc input out = refl
turn_by_as c (Some i) rs pc input out = act_as c i.0.operation rs pc i.1 input out

pub turn_as : (c : Program) (pc : ℕ) (rs : Values) (input out : List ℕ)
    → turn c (standing pc rs input out) ≡ led_to (stepped (body_at c 0) pc rs) input out
unfolding fetch stepped
turn_as c pc rs input out = turn_by_as c (decode_wide_at (body_at c 0).code pc) rs pc input out
