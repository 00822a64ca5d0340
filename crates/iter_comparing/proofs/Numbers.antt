-- What is given at once for an operator on two numbers is what the call of its row gives.
use Rattle.std.proofs.Common.{◌≡◌, ℕ, ap, [], ◌∷◌, subst}
use Rattle.std.specs.Prelude.{Option, Some, None, IfSome}
use Rattle.rb_value.specs.declared.value.Value.{Value}
use Rattle.rb_value.specs.declared.value.Value.TheVariants.{Nil, True, False, Int, Sym, Obj}
use Rattle.def_core.specs.Store.{Store, Done}
use Rattle.heap.specs.Rows.{called}
use Rattle.run_values.specs.declared.given.Given.TheVariants.{Gives}
use Rattle.integer_operators.specs.declared.operator.Operator.{Operator}
use Rattle.integer_operators.specs.Operators.{operated, row_of}
use Rattle.integer_operators.specs.Straight.{GivesStraight}
use Rattle.iter_comparing.specs.Outright.{given_of}

not_found : (P : Value → Type 0) (found : Option Value) → found ≡ None → IfSome found P
not_found P None e = tt
not_found P (Some v) e = cc

-- the call of the row gives that value, and leaves the store as it was
abbrev GivesAtOnce : ℕ → Value → Value → Value → Type 0
GivesAtOnce row recv other v =
    (st : Store) → given_of (called st row recv (other ∷ []) None) ≡ (Some (Gives v), st)

of_operator : (o : Operator) (recv other : Value) (found : Option Value) → found ≡ operated o recv other
    → GivesStraight (row_of o) recv other found → IfSome found (GivesAtOnce (row_of o) recv other)
of_operator o (Int x) (Int y) None same gives = tt
of_operator o (Int x) (Int y) (Some v) same gives = λ st. ap (λ (d : Done). given_of d) (gives st None)
of_operator o (Int x) Nil found same gives = not_found (GivesAtOnce (row_of o) (Int x) Nil) found same
of_operator o (Int x) True found same gives = not_found (GivesAtOnce (row_of o) (Int x) True) found same
of_operator o (Int x) False found same gives = not_found (GivesAtOnce (row_of o) (Int x) False) found same
of_operator o (Int x) (Sym s) found same gives = not_found (GivesAtOnce (row_of o) (Int x) (Sym s)) found same
of_operator o (Int x) (Obj id) found same gives = not_found (GivesAtOnce (row_of o) (Int x) (Obj id)) found same
of_operator o Nil other found same gives = not_found (GivesAtOnce (row_of o) Nil other) found same
of_operator o True other found same gives = not_found (GivesAtOnce (row_of o) True other) found same
of_operator o False other found same gives = not_found (GivesAtOnce (row_of o) False other) found same
of_operator o (Sym s) other found same gives = not_found (GivesAtOnce (row_of o) (Sym s) other) found same
of_operator o (Obj id) other found same gives = not_found (GivesAtOnce (row_of o) (Obj id) other) found same

pub given_at_once : (o : Operator) (row : ℕ) (recv other : Value) (found : Option Value) → row_of o ≡ row
    → found ≡ operated o recv other → GivesStraight (row_of o) recv other found → IfSome found (GivesAtOnce row recv other)
given_at_once o row recv other found is same gives =
    subst (λ (r : ℕ). IfSome found (GivesAtOnce r recv other)) is (of_operator o recv other found same gives)
