-- How one body runs over a list of values alone.
use Rattle.std.specs.Prelude.{ℕ, zero, suc, ◌+◌, pos, List, [], ◌++◌, Option, Some, None, Bool, true, false, get_or, set, if◌then◌else◌}
use Rattle.rb_syntax.specs.declared.operator.Operator.{Operator}
use Rattle.rb_syntax.specs.declared.operator.Operator.TheVariants.{Plus, Minus, Times, Equal, Less, LessEqual, Greater, GreaterEqual}
use Rattle.path_value.specs.Value.{is_true}
use Rattle.path_value.specs.declared.value.Value.{Value}
use Rattle.path_value.specs.declared.value.Value.TheVariants.{Nil, True, Int}
use Rattle.rite_code.specs.declared.code.Irep.{Irep}
use Rattle.rite_code.specs.declared.operation.Operation.{Operation}
use Rattle.rite_code.specs.declared.operation.Operation.TheVariants.{Move, LoadI, LoadI16, LoadI32, LoadNil, LoadT, Jmp, JmpIf, JmpNot, SSend, Add, Sub, Mul, Eq, Lt, Le, Gt, Ge, Stop}
use Rattle.rite_code.specs.Instruction.{Instruction}
use Rattle.rite_code.specs.Spelling.{decode_wide_at}
use Rattle.path_core.specs.Rows.{Outcome, gives, raises, writes, call, line_of}
use Rattle.path_turns.specs.Turn.{target, is_puts}
use Rattle.path_machine.specs.declared.machine.Next.{Next}
use Rattle.path_machine.specs.declared.machine.Next.TheVariants as nexts
use Rattle.path_machine.specs.declared.ran.Ran.{Ran}
use Rattle.path_machine.specs.declared.ran.Ran.TheVariants as rans

abbrev pub Values : Type 0
Values = List Value

-- what a register holds; past the end nil
abbrev pub value_of : Values → ℕ → Value
value_of rs i = get_or rs i Nil

-- register a gets the value, and the next instruction follows
abbrev pub gets : Values → ℕ → Value → ℕ → Values × Next
gets rs a v next = (set rs a v, nexts.To next)

-- register a gets what a core method of Integer gives; none of them writes
abbrev pub gets_outcome : Values → ℕ → Outcome → ℕ → Values × Next
gets_outcome rs a (gives v) next = gets rs a v next
gets_outcome rs a (raises f) next = (rs, nexts.Uncaught f)
gets_outcome rs a (writes bytes) next = (rs, nexts.Ended 0)

abbrev pub operated : Operator → Values → ℕ → ℕ → Values × Next
operated o rs a next = gets_outcome rs a (call o (value_of rs a) (value_of rs (a + 1))) next

-- a call on self: puts writes the register after a, which gets nil
abbrev pub sent : Bool → Values → ℕ → ℕ → Values × Next
sent true rs a next = (set rs a Nil, nexts.Puts next (value_of rs (a + 1)))
sent false rs a next = (rs, nexts.Ended 0)

-- one operation: the registers after it, and what it leads to
abbrev pub executed : List (List ℕ) → Operation → ℕ → Values → Values × Next
executed symbols (Move a b) next rs = gets rs a (value_of rs b) next
executed symbols (LoadI a b) next rs = gets rs a (Int (pos b)) next
executed symbols (LoadI16 a b) next rs = gets rs a (Int b) next
executed symbols (LoadI32 a b) next rs = gets rs a (Int b) next
executed symbols (LoadNil a) next rs = gets rs a Nil next
executed symbols (LoadT a) next rs = gets rs a True next
executed symbols (Jmp by) next rs = (rs, nexts.To (target next by))
executed symbols (JmpIf a by) next rs = (rs, nexts.To (if is_true (value_of rs a) then target next by else next))
executed symbols (JmpNot a by) next rs = (rs, nexts.To (if is_true (value_of rs a) then next else target next by))
executed symbols (SSend a b n) next rs = sent (is_puts (get_or symbols b []) n) rs a next
executed symbols (Add a) next rs = operated Plus rs a next
executed symbols (Sub a) next rs = operated Minus rs a next
executed symbols (Mul a) next rs = operated Times rs a next
executed symbols (Eq a) next rs = operated Equal rs a next
executed symbols (Lt a) next rs = operated Less rs a next
executed symbols (Le a) next rs = operated LessEqual rs a next
executed symbols (Gt a) next rs = operated Greater rs a next
executed symbols (Ge a) next rs = operated GreaterEqual rs a next
executed symbols Stop next rs = (rs, nexts.Ended 0)
executed symbols o next rs = (rs, nexts.Ended 0)

-- the instruction that stands at a place; a place without one ends the program
abbrev pub stepped_by : List (List ℕ) → Option (Instruction × ℕ) → Values → Values × Next
stepped_by symbols None rs = (rs, nexts.Ended 0)
stepped_by symbols (Some i) rs = executed symbols i.0.operation i.1 rs

unfoldable pub stepped : Irep → ℕ → Values → Values × Next
stepped b pc rs = stepped_by b.symbols (decode_wide_at b.code pc) rs

-- what some turns write, and how they come out
pub record Course : Type 0 where
  pub written : List ℕ
  pub ran : Ran

abbrev pub behind : List ℕ → Course → Course
behind bytes c = record { written = bytes ++ c.written; ran = c.ran }

abbrev pub follows : (ℕ → Values → Course) → Values × Next → Course
follows course (rs, nexts.To pc) = course pc rs
follows course (rs, nexts.Puts pc v) = behind (line_of v) (course pc rs)
follows course (rs, nexts.Ended n) = record { written = []; ran = rans.Ended n }
follows course (rs, nexts.Uncaught f) = record { written = []; ran = rans.Uncaught f }

-- n turns of a body from a place
unfoldable pub course : Irep → ℕ → ℕ → Values → Course
course b zero pc rs = record { written = []; ran = rans.Spent }
course b (suc n) pc rs = follows (course b n) (stepped b pc rs)
