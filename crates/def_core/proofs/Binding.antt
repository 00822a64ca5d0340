-- Required parameters alone, and as many arguments: the values are the arguments, and the store stays.
use Rattle.std.proofs.Common.{◌≡◌, ℕ, ◌+◌, ◌-◌, ◌≤◌, List, [], true, false, length, take, drop, refl, ◌∙◌, arith, append-nil}
use Rattle.std.specs.Prelude.{nat_lt}
use Rattle.std.proofs.lemmas.Bool.Decides.{nat_tests}
use Rattle.std.proofs.lemmas.List.{take_all, drop_all}
use Rattle.rb_value.specs.declared.value.Value.{Value}
use Rattle.rb_value.specs.declared.method.Shape.{Shape}
use Rattle.def_core.specs.declared.bound.BindKind.TheVariants.{Method, Lambda}
use Rattle.def_core.specs.declared.bound.Bound.TheVariants.{Values}
use Rattle.def_core.specs.Store.{Store}
use Rattle.def_core.specs.Bind.{Binding, fits, filled, values, bind}

-- so many required parameters
abbrev pub only : ℕ → Shape
only r = record { required = r; optional = 0; rest = false; post = 0 }

abbrev pub as_given : Store → List Value → Binding
as_given st args = record { bound = Values args 0; store = st }

none_filled : (r n : ℕ) → filled (only r) n ≡ 0
none_filled r n = omega arith

fits_exactly : (r n : ℕ) → n ≡ r → fits (only r) n ≡ true
fits_exactly r n e =
    let a : nat_lt n (r + 0) ≡ false = grind (arith, nat_tests, e) in
    let b : nat_lt (r + 0 + 0) n ≡ false = grind (arith, nat_tests, e) in
    rw (a, b) refl

values_are : (r : ℕ) (args : List Value) → length args ≡ r → values (only r) [] args ≡ args
values_are r args e =
    let a : take (r + filled (only r) (length args)) args ≡ args = take_all _ args (omega (arith, e)) in
    let b : drop (length args - 0) args ≡ [] = drop_all _ args (omega arith) in
    let c : 0 - filled (only r) (length args) ≡ 0 = omega arith in
    rw (a, b, c) (append-nil _ ∙ append-nil _ ∙ append-nil args)

module _ (st : Store) (r : ℕ) (args : List Value) (e : length args ≡ r) where
  pub method_takes_all : bind st (only r) args Method ≡ as_given st args
  unfolding bind
  method_takes_all =
      rw (fits_exactly r (length args) e, values_are r args e, none_filled r (length args)) refl

  pub lambda_takes_all : bind st (only r) args Lambda ≡ as_given st args
  unfolding bind
  lambda_takes_all =
      rw (fits_exactly r (length args) e, values_are r args e, none_filled r (length args)) refl
