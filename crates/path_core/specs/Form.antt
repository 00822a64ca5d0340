-- A core form, without where it lies in memory.
use Rattle.std.specs.Prelude.{ℕ, ◌+◌, ℤ, List, [], ◌∷◌, bytes_eq, if◌then◌else◌}
use Rattle.rb_syntax.specs.declared.operator.Operator.{Operator}

-- a name, by its bytes
abbrev pub Name : Type 0
Name = List ℕ

-- What a strict form does once all its operands have their values: a leaf has none, a binary operator is
-- called on the first with the second, and puts is called on self with all of them.
pub data Action : Type 0 where
  give_nil : Action
  give_true : Action
  give_int : ℤ → Action
  call_operator : Operator → Action
  call_puts : Action

mutual
  pub data Form : Type 0 where
    -- the operands from left to right, and then the action
    strict : Action → Forms → Form
    local : Name → Form
    set_local : Name → Form → Form
    seq : Forms → Form
    -- a test, the form done where it is true, and the other one
    cond : Form → Form → Form → Form
    -- a test, and the body
    while_form : Form → Form → Form

  pub data Forms : Type 0 where
    none : Forms
    more : Form → Forms → Forms

abbrev pub forms : List Form → Forms
forms [] = none
forms (f ∷ fs) = more f (forms fs)

abbrev pub one : Form → Forms
one f = more f none

abbrev pub two : Form → Form → Forms
two f g = more f (more g none)

-- the place of a name in a list, or the length of the list where it isn't there
abbrev pub place_of : Name → List Name → ℕ
place_of x [] = 0
place_of x (y ∷ ys) = if bytes_eq x y then 0 else place_of x ys + 1
