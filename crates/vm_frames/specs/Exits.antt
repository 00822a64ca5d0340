-- Exits that registers keep, and what is written to registers.
use Rattle.std.specs.Prelude.{ℕ, zero, suc, ◌+◌, ◌&&◌, List, length, slice_set, slice_index_or, nat_eq, Bool, true, Option, Some, None, if◌then◌else◌}
use Rattle.std.specs.Map.{lookup, remove_entry}
use Rattle.indexmap.specs.IndexMap.{insert_entry}
use Rattle.rb_value.specs.declared.value.Value.{Value}
use Rattle.rb_value.specs.declared.value.Value.TheVariants.{Nil}
use Rattle.rb_value.specs.declared.exit.Exit.{Exit}
use Rattle.rb_value.specs.declared.exit.Slot.TheVariants.{E}
use Rattle.rb_value.specs.Slot.{read}
use Rattle.vm_frames.specs.declared.frame.Frame.{Frame}
use Rattle.vm_frames.specs.Registers.{wrapped, part, put_all}
use Rattle.vm_frames.specs.Seen.{Seen, Exits, with_registers, with_exits}

-- The place of register a of a frame among those of the line.
abbrev pub place : Frame → ℕ → ℕ
place f a = wrapped (f.base + a)

abbrev pub value_at : Seen → Frame → ℕ → Value
value_at r f a = slice_index_or r.line.registers (place f a) Nil

-- the values of so many registers from one on
abbrev pub row : Seen → Frame → ℕ → ℕ → List Value
row r f a n = part r.line.registers (place f a) n

-- Exits.

abbrev pub same_place : ℕ × ℕ → ℕ × ℕ → Bool
same_place p q = nat_eq p.0 q.0 && nat_eq p.1 q.1

-- an exit that is pending stands under a number that no register has
abbrev pub pending_number : ℕ
pending_number = 65536

-- what a frame keeps that may keep none
abbrev pub kept_if : Bool → Exits → ℕ → ℕ → Option Exit
kept_if b xs list a = if b then lookup (same_place (list, a)) xs else None

abbrev pub kept : Seen → Frame → ℕ → Option Exit
kept r f a = kept_if f.keeps r.around.exits f.number a

abbrev pub pending : Seen → Frame → Option Exit
pending r f = kept r f pending_number

abbrev pub without : Exits → ℕ → ℕ → Exits
without xs list a = remove_entry (same_place (list, a)) xs

abbrev pub with_exit : Exits → ℕ → ℕ → Exit → Exits
with_exit xs list a x = insert_entry same_place xs (list, a) x

-- without those of so many registers from one on
unfoldable pub without_from : Exits → ℕ → ℕ → ℕ → Exits
without_from xs list a zero = xs
without_from xs list a (suc n) = without_from (without xs list a) list (a + 1) n

abbrev pub when : Bool → Exits → Exits → Exits
when b xs ys = if b then xs else ys

-- the exits when a register of a frame keeps none
abbrev pub dropped : Seen → Frame → ℕ → Exits
dropped r f a = when f.keeps (without r.around.exits f.number a) r.around.exits

-- the exits when a frame keeps none
abbrev pub all_dropped : Seen → Frame → Exits
all_dropped r f = when f.keeps
    (without_from (without r.around.exits f.number pending_number) f.number 0 f.registers) r.around.exits

-- a frame of which the table may have exits
abbrev pub keeping : Frame → Frame
keeping f = record f { keeps = true }

-- an exit comes to a handler of a frame
abbrev pub pending_set : Seen → Frame → Exit → Seen
pending_set r f x = with_exits r (with_exit r.around.exits f.number pending_number x)

-- Writing.

abbrev pub put : Seen → Frame → ℕ → Value → Seen
put r f a v = with_registers r (slice_set r.line.registers (place f a) v)

-- register a gets a value, and keeps no exit
abbrev pub written : Seen → Frame → ℕ → Value → Seen
written r f a v = with_exits (put r f a v) (dropped r f a)

-- the registers from 1 on get values, and keep no exits
abbrev pub parameters_set : Seen → Frame → List Value → Seen
parameters_set r f vs = with_exits (with_registers r (put_all r.line.registers (place f 1) vs))
    (when f.keeps (without_from r.around.exits f.number 1 (length vs)) r.around.exits)

-- register a takes the exit that is pending, and nil where there is none
abbrev pub taken_exit : Seen → Frame → ℕ → Option Exit → Seen
taken_exit r f a None = written r f a Nil
taken_exit r f a (Some x) = with_exits (put r f a (read (E x)))
    (without (with_exit r.around.exits f.number a x) f.number pending_number)

abbrev pub taken : Seen → Frame → ℕ → Seen
taken r f a = taken_exit r f a (pending r f)
