-- What a register takes in memory, and the slot that it shows.
use Rattle.std.specs.Prelude.{ℕ, List, Bool, true, false, nat_eq, Option, Some, None}
use Rattle.std.specs.Map.{lookup}
use Rattle.rb_value.specs.declared.value.Value.{Value}
use Rattle.rb_value.specs.declared.value.Value.TheVariants as value
use Rattle.rb_value.specs.declared.exit.Exit.{Exit}
use Rattle.rb_value.specs.declared.exit.Slot.{Slot}
use Rattle.rb_value.specs.declared.exit.Slot.TheVariants.{V, E}
use Rattle.rb_value.specs.declared.cell.Cell.{Cell}
use Rattle.rb_value.specs.declared.cell.Cell.TheVariants.{Nil, True, False, Int, Sym, Obj, Kept}

abbrev pub cell_of : Value → Cell
cell_of value.Nil = Nil
cell_of value.True = True
cell_of value.False = False
cell_of (value.Int z) = Int z
cell_of (value.Sym s) = Sym s
cell_of (value.Obj id) = Obj id

abbrev pub value_of : Cell → Value
value_of Nil = value.Nil
value_of True = value.True
value_of False = value.False
value_of (Int z) = value.Int z
value_of (Sym s) = value.Sym s
value_of (Obj id) = value.Obj id
value_of Kept = value.Nil

abbrev pub is_kept : Cell → Bool
is_kept Nil = false
is_kept True = false
is_kept False = false
is_kept (Int z) = false
is_kept (Sym s) = false
is_kept (Obj id) = false
is_kept Kept = true

abbrev pub kept_slot : Option Exit → Slot
kept_slot None = V value.Nil
kept_slot (Some e) = E e

-- the slot that the register of that number shows, with the exits that are kept by the numbers of their registers; an
-- exit of a register that isn't marked shows nowhere
abbrev pub slot_of : List (ℕ × Exit) → ℕ → Cell → Slot
slot_of exits n Nil = V value.Nil
slot_of exits n True = V value.True
slot_of exits n False = V value.False
slot_of exits n (Int z) = V (value.Int z)
slot_of exits n (Sym s) = V (value.Sym s)
slot_of exits n (Obj id) = V (value.Obj id)
slot_of exits n Kept = kept_slot (lookup (nat_eq n) exits)
