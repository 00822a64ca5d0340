-- Required parameters alone, and as many arguments: the values are the arguments, and the store stays.
use Rattle.std.proofs.Common.{◌≡◌, ℕ, ◌+◌, ◌-◌, ◌++◌, List, length, take, replicate, true, false, refl, ap, ◌∙◌, arith, append-nil}
use Rattle.std.specs.Prelude.{Bool, nat_eq, nat_lt, get_or, if◌then◌else◌}
use Rattle.std.proofs.lemmas.Bool.Decides.{nat_tests}
use Rattle.std.proofs.lemmas.List.{take_all}
use Rattle.rb_value.specs.declared.value.Value.{Value}
use Rattle.rb_value.specs.declared.value.Value.TheVariants.{Nil}
use Rattle.rb_value.specs.declared.method.Shape.{Shape}
use Rattle.def_core.specs.declared.bound.BindKind.{BindKind}
use Rattle.def_core.specs.declared.bound.BindKind.TheVariants.{Method, Lambda, Proc}
use Rattle.def_core.specs.Store.{Store}
use Rattle.def_core.specs.Bind.{elements_in, elements_or, spreads, spread, padded, fitted, arguments, bind}
use Rattle.def_core.proofs.Binding.{method_takes_all}
use Rattle.method_lookup.specs.Given.{only, as_given}

-- a Proc takes no elements in the place of them
not_spread : (st : Store) (r : ℕ) (args : List Value) → length args ≡ r
    → (if spreads (only r) then spread st.objects args else args) ≡ args
not_spread st r args e = elim (nat_eq (length args) 1) as
    (λ b. nat_eq (length args) 1 ≡ b → (if spreads (only r) then
    (if b then elements_or (elements_in st.objects (get_or args 0 Nil)) args else args) else args) ≡ args) [
      | true ↦ λ b.
          let one : nat_lt 1 (r + 0 + 0) ≡ false = grind (arith, nat_tests, b, e) in
          let same : nat_eq (r + 0 + 0) 1 ≡ true = grind (arith, nat_tests, b, e) in
          rw (one, same) refl
      | false ↦ λ b. either (spreads (only r))
    ] refl
  where
    either : (b : Bool) → (if b then args else args) ≡ args
    either true = refl
    either false = refl

-- a Proc drops none and takes nil for none
as_many : (r : ℕ) (args : List Value) → length args ≡ r → fitted (only r) args ≡ args
as_many r args e =
    let all : take (r + 0 + 0) args ≡ args = take_all _ args (omega (arith, e)) in
    let none : r + 0 - length args ≡ 0 = omega (arith, e) in
    ap (padded (r + 0)) all ∙ ap (λ (n : ℕ). args ++ replicate n Nil) none ∙ append-nil args

pub arguments_are : (st : Store) (r : ℕ) (args : List Value) (k : BindKind) → length args ≡ r
    → arguments st.objects (only r) k args ≡ args
arguments_are st r args Method e = refl
arguments_are st r args Lambda e = refl
arguments_are st r args Proc e = ap (fitted (only r)) (not_spread st r args e) ∙ as_many r args e

-- what counts its arguments and a Proc bind alike
alike : (st : Store) (r : ℕ) (args : List Value) (k : BindKind) → length args ≡ r
    → bind st (only r) args k ≡ bind st (only r) args Method
unfolding bind
alike st r args k e = rw (arguments_are st r args k e) refl

pub takes_all : (st : Store) (s : Shape) (args : List Value) (k : BindKind) → s ≡ only s.required
    → length args ≡ s.required → bind st s args k ≡ as_given st args
takes_all st s args k is e = ap (λ (x : Shape). bind st x args k) is
    ∙ alike st s.required args k e ∙ method_takes_all st s.required args e
