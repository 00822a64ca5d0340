-- The order of texts as an Integer.
use Rattle.std.proofs.Common.{◌≡◌, ℕ, ◌<◌, ◌≤◌, true, false, cond, ltb, eqb, ℤ, pos, negsuc, List, [], ◌∷◌, refl, arith, ⊎_elim}
use Rattle.std.specs.declared.cmp.Ordering.{Ordering}
use Rattle.std.specs.declared.cmp.Ordering.TheVariants.{Less, Equal, Greater}
use Rattle.std.specs.Ordering.{nat_cmp, ordering_then}
use Rattle.std.specs.Cmp.Lexicographic.{slice_cmp}
use Rattle.std.proofs.lemmas.Bool.{cases_lt, lt-ltb, le-ltb, eq-eqb, ne_eqb}
use Rattle.rb_string.specs.Comparison.{order}

abbrev pub sign : Ordering → ℤ
sign Less = negsuc 0
sign Equal = pos 0
sign Greater = pos 1

heads : (x y : ℕ) (o : Ordering) (z : ℤ) → sign o ≡ z
    → sign (ordering_then (nat_cmp x y) o) ≡ cond (ltb x y) (negsuc 0) (cond (ltb y x) (pos 1) z)
heads x y o z h =
    ⊎_elim
    (λ below. let yes_is : ltb x y ≡ true = lt-ltb x y below in rw yes_is refl)
    (λ from.
    let no_is : ltb x y ≡ false = le-ltb x y from in
    ⊎_elim
    (λ above.
    let other : ltb y x ≡ true = lt-ltb y x above in
    let differ : eqb x y ≡ false = ne_eqb x y (λ same. omega arith) in
    rw no_is (rw other (rw differ refl)))
    (λ upto.
    let other : ltb y x ≡ false = le-ltb y x upto in
    let same : eqb x y ≡ true = eq-eqb x y (omega arith) in
    rw no_is (rw other (rw same h)))
    (cases_lt y x))
    (cases_lt x y)

pub order_is : (xs ys : List ℕ) → sign (slice_cmp nat_cmp xs ys) ≡ order xs ys
order_is [] [] = refl
order_is [] (y ∷ ys) = refl
order_is (x ∷ xs) [] = refl
order_is (x ∷ xs) (y ∷ ys) = heads x y (slice_cmp nat_cmp xs ys) (order xs ys) (order_is xs ys)
