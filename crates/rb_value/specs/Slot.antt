-- What a register reads as.
use Rattle.rb_value.specs.declared.value.Value.{Value}
use Rattle.rb_value.specs.declared.value.Value.TheVariants.{Nil, Obj}
use Rattle.rb_value.specs.declared.exit.Exit.TheVariants.{Raise, Return, Break, Jump}
use Rattle.rb_value.specs.declared.exit.Slot.{Slot}
use Rattle.rb_value.specs.declared.exit.Slot.TheVariants.{V, E}

-- the exception where an exit that raises is kept, nil where another is
abbrev pub read : Slot → Value
read (V v) = v
read (E (Raise o)) = Obj o
read (E (Return a v)) = Nil
read (E (Break a v)) = Nil
read (E (Jump a t)) = Nil
