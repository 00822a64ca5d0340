-- What the call of a row of Integer gives a number for a number.
use Rattle.std.proofs.Common.{◌≡◌, refl, ℕ, ℤ, [], ◌∷◌}
use Rattle.std.specs.Prelude.{Option}
use Rattle.rb_value.specs.declared.value.Value.TheVariants.{Int}
use Rattle.rb_value.specs.declared.value.ObjId.{ObjId}
use Rattle.def_core.specs.Store.{Store}
use Rattle.row_answer.specs.declared.answer.Plain.{Plain}
use Rattle.row_answer.specs.declared.answer.Plain.TheVariants as answer
use Rattle.row_table.specs.declared.integer.IntegerMethod.TheVariants as method
use Rattle.row_table.specs.RowTable.{line_at, segment}
use Rattle.def_rows.specs.Answers.{called, finish_plain}
use Rattle.def_rows.specs.Checking.{first_unfit}
use Rattle.def_rows.specs.IntegerRows.{gives as method_gives}
use Rattle.def_rows.specs.Rows.{prim}
use Rattle.integer_operators.specs.declared.operator.Operator.{Operator}
use Rattle.integer_operators.specs.declared.operator.Operator.TheVariants as operator
use Rattle.integer_operators.specs.Operators.{row_of, answer_of, value_in, given, applied}
use Rattle.integer_operators.specs.Straight.{GivesStraight}

-- the call of an operator's row is finished with the answer of its method
operator_called : (o : Operator) (x y : ℤ) → (st : Store) → (block : Option ObjId)
    → prim (row_of o) (Int x) (Int y ∷ []) block st ≡ finish_plain st (Int x) (answer_of o x y)
unfolding prim line_at segment called first_unfit
operator_called operator.Add x y st block = refl
operator_called operator.Subtract x y st block = refl
operator_called operator.Multiply x y st block = refl
operator_called operator.Divide x y st block = refl
operator_called operator.Equal x y st block = refl
operator_called operator.Less x y st block = refl
operator_called operator.AtMost x y st block = refl
operator_called operator.Greater x y st block = refl
operator_called operator.AtLeast x y st block = refl

-- a call that is finished with a number or a truth gives it
finished : (row : ℕ) (x y : ℤ) (p : Plain)
    → ((st : Store) → (block : Option ObjId) → prim row (Int x) (Int y ∷ []) block st ≡ finish_plain st (Int x) p)
    → GivesStraight row (Int x) (Int y) (value_in p)
finished row x y answer.Nil same = tt
finished row x y (answer.Truth b) same = same
finished row x y (answer.Int z) same = same
finished row x y answer.Receiver same = tt
finished row x y (answer.Text bytes) same = tt
finished row x y (answer.Symbol name) same = tt
finished row x y (answer.Texts texts) same = tt
finished row x y (answer.Numbers zs) same = tt
finished row x y (answer.Append more) same = tt
finished row x y (answer.Replace bytes) same = tt
finished row x y (answer.Fail f) same = tt

pub operator_gives : (o : Operator) (x y : ℤ) → GivesStraight (row_of o) (Int x) (Int y) (applied o x y)
operator_gives o x y = finished (row_of o) x y (answer_of o x y) (operator_called o x y)

percent_called : (x y : ℤ) (st : Store) → (block : Option ObjId)
    → prim 3588 (Int x) (Int y ∷ []) block st ≡ finish_plain st (Int x) (method_gives method.Percent (Int x) (Int y ∷ []))
unfolding prim line_at segment called first_unfit
percent_called x y st block = refl

pub percent_gives : (x y : ℤ) → GivesStraight 3588 (Int x) (Int y) (given method.Percent x y)
percent_gives x y = finished 3588 x y (method_gives method.Percent (Int x) (Int y ∷ [])) (percent_called x y)

and_called : (x y : ℤ) (st : Store) → (block : Option ObjId)
    → prim 3596 (Int x) (Int y ∷ []) block st ≡ finish_plain st (Int x) (method_gives method.And (Int x) (Int y ∷ []))
unfolding prim line_at segment called first_unfit
and_called x y st block = refl

pub and_gives : (x y : ℤ) → GivesStraight 3596 (Int x) (Int y) (given method.And x y)
and_gives x y = finished 3596 x y (method_gives method.And (Int x) (Int y ∷ [])) (and_called x y)

or_called : (x y : ℤ) (st : Store) → (block : Option ObjId)
    → prim 3597 (Int x) (Int y ∷ []) block st ≡ finish_plain st (Int x) (method_gives method.Or (Int x) (Int y ∷ []))
unfolding prim line_at segment called first_unfit
or_called x y st block = refl

pub or_gives : (x y : ℤ) → GivesStraight 3597 (Int x) (Int y) (given method.Or x y)
or_gives x y = finished 3597 x y (method_gives method.Or (Int x) (Int y ∷ [])) (or_called x y)

xor_called : (x y : ℤ) (st : Store) → (block : Option ObjId)
    → prim 3598 (Int x) (Int y ∷ []) block st ≡ finish_plain st (Int x) (method_gives method.Xor (Int x) (Int y ∷ []))
unfolding prim line_at segment called first_unfit
xor_called x y st block = refl

pub xor_gives : (x y : ℤ) → GivesStraight 3598 (Int x) (Int y) (given method.Xor x y)
xor_gives x y = finished 3598 x y (method_gives method.Xor (Int x) (Int y ∷ [])) (xor_called x y)
