-- Parts of a list that is padded behind.
use Rattle.std.proofs.Common.{◌≡◌, ℕ, ◌+◌, ◌-◌, ◌<◌, ◌≤◌, List, ◌++◌, length, take, drop, replicate, min, max, true, false, refl, ap, sym, ◌∙◌, subst, arith, append-nil, length-append}
use Rattle.std.specs.Prelude.{nat_lt}
use Rattle.std.proofs.lemmas.List.{take-append-le, take_all, drop-append-le, drop_all, drop-replicate, take-replicate, length-take, take_min, drop-take, length-replicate}
use Rattle.std.proofs.Math.Seq.{take-append-add, drop-append-add}
use Rattle.std.proofs.lemmas.Bool.Decides.{nat_tests}

module _ {A : Type 0} (y : A) where
  -- from a place within the list
  from_within : (xs : List A) (from k : ℕ) → from ≤ length xs → drop from (xs ++ replicate k y) ≡ drop from xs
      ++ replicate (length xs + k - max from (length xs)) y
  from_within xs from k h =
      let e : k ≡ length xs + k - max from (length xs) = omega arith in
      drop-append-le from xs (replicate k y) h ∙ ap (λ (n : ℕ). drop from xs ++ replicate n y) e

  from_behind : (xs : List A) (j k : ℕ) → drop (length xs + j) (xs ++ replicate k y) ≡ drop (length xs + j) xs
      ++ replicate (length xs + k - max (length xs + j) (length xs)) y
  from_behind xs j k =
      let e : k - j ≡ length xs + k - max (length xs + j) (length xs) = omega arith in
      drop-append-add xs (replicate k y) j ∙ drop-replicate j k y ∙ ap (λ (n : ℕ). replicate n y) e
      ∙ ap (λ (zs : List A). zs ++ replicate (length xs + k - max (length xs + j) (length xs)) y)
      (sym (drop_all (length xs + j) xs (omega arith)))

  from_any : (xs : List A) (from k : ℕ) → drop from (xs ++ replicate k y) ≡ drop from xs
      ++ replicate (length xs + k - max from (length xs)) y
  from_any xs from k = elim (nat_lt from (length xs)) as
      (λ b. nat_lt from (length xs) ≡ b → drop from (xs ++ replicate k y) ≡ drop from xs
      ++ replicate (length xs + k - max from (length xs)) y) [
        | true ↦ λ b. from_within xs from k (grind (arith, nat_tests, b))
        | false ↦ λ b.
            let e : length xs + (from - length xs) ≡ from = grind (arith, nat_tests, b) in
            subst (λ (n : ℕ). drop n (xs ++ replicate k y) ≡ drop n xs ++ replicate (length xs + k - max n (length xs)) y) e
            (from_behind xs (from - length xs) k)
      ] refl

  -- up to a place within the list
  up_to_within : (xs : List A) (m from to : ℕ) → to ≤ length xs
      → drop from (take to (xs ++ replicate m y)) ≡ drop from (take to xs) ++ replicate (to - max from (length xs)) y
  up_to_within xs m from to h =
      let e : to - max from (length xs) ≡ 0 = omega arith in
      ap (drop from) (take-append-le to xs (replicate m y) h) ∙ sym (append-nil (drop from (take to xs)))
      ∙ ap (λ (n : ℕ). drop from (take to xs) ++ replicate n y) (sym e)

  up_to_behind : (xs : List A) (m from k : ℕ) → k ≤ m
      → drop from (take (length xs + k) (xs ++ replicate m y)) ≡ drop from (take (length xs + k) xs)
      ++ replicate (length xs + k - max from (length xs)) y
  up_to_behind xs m from k h =
      ap (drop from) (take-append-add xs (replicate m y) k ∙ ap (λ (zs : List A). xs ++ zs) (take-replicate k m y h))
      ∙ from_any xs from k
      ∙ ap (λ (zs : List A). drop from zs ++ replicate (length xs + k - max from (length xs)) y)
      (sym (take_all (length xs + k) xs (omega arith)))

  -- a part of a padded list is that of the list, with what is missing of it
  pub padded_part : (xs : List A) (m from to : ℕ) → to ≤ length xs + m
      → drop from (take to (xs ++ replicate m y)) ≡ drop from (take to xs) ++ replicate (to - max from (length xs)) y
  padded_part xs m from to h = elim (nat_lt (length xs) to) as
      (λ b. nat_lt (length xs) to ≡ b → drop from (take to (xs ++ replicate m y)) ≡ drop from (take to xs)
      ++ replicate (to - max from (length xs)) y) [
        | true ↦ λ b.
            let e : length xs + (to - length xs) ≡ to = grind (arith, nat_tests, b) in
            subst (λ (n : ℕ). drop from (take n (xs ++ replicate m y)) ≡ drop from (take n xs)
            ++ replicate (n - max from (length xs)) y) e
            (up_to_behind xs m from (to - length xs) (omega arith))
        | false ↦ λ b. up_to_within xs m from to (grind (arith, nat_tests, b))
      ] refl

-- a part whose ends are held within the list
pub part_is : {A : Type 0} (xs : List A) (from to end start : ℕ) → end ≡ min to (length xs) → start ≡ min from end
    → take (end - start) (drop start xs) ≡ drop from (take to xs)
part_is xs from to end start e s =
    let f : start + (end - start) ≡ end = omega arith in
    sym (drop-take start (end - start) xs) ∙ ap (λ (n : ℕ). drop start (take n xs)) (f ∙ e)
    ∙ ap (drop start) (take_min to xs)
    ∙ elim (nat_lt end from) as (λ b. nat_lt end from ≡ b → drop start (take to xs) ≡ drop from (take to xs)) [
      | true ↦ λ b.
          let h : end < from = grind (arith, nat_tests, b) in
          drop_all start (take to xs) (omega (arith, length-take to xs))
          ∙ sym (drop_all from (take to xs) (omega (arith, length-take to xs)))
      | false ↦ λ b.
          let h : from ≤ end = grind (arith, nat_tests, b) in
          ap (λ (n : ℕ). drop n (take to xs)) (omega arith)
    ] refl

-- what is missing of a part
pub nils_are : {A : Type 0} (y : A) (xs : List A) (m from to k : ℕ) → to ≤ length (xs ++ replicate m y)
    → k ≡ to - max from (length xs)
    → drop from (take to (xs ++ replicate m y)) ≡ drop from (take to xs) ++ replicate k y
nils_are y xs m from to k h e =
    padded_part y xs m from to (omega (arith, length-append xs (replicate m y), length-replicate m y))
    ∙ ap (λ (n : ℕ). drop from (take to xs) ++ replicate n y) (sym e)
