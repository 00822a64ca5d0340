-- What is said of a value.
use Rattle.std.specs.Prelude.{Bool, true, false}
use Rattle.rb_value.specs.declared.value.Value.{Value}
use Rattle.rb_value.specs.declared.value.Value.TheVariants.{Nil, True, False, Int, Sym, Obj}

-- false and nil count as false, every other value as true
abbrev pub is_true : Value → Bool
is_true Nil = false
is_true True = true
is_true False = false
is_true (Int n) = true
is_true (Sym s) = true
is_true (Obj o) = true

abbrev pub truth : Bool → Value
truth true = True
truth false = False
