-- Lists of registers that grow, and the lists around them.
use Rattle.std.proofs.Common.{◌≡◌, ℕ, zero, suc, ◌+◌, ◌-◌, ◌≤◌, List, ◌∷◌, length, refl, sym, ap, ◌∙◌, subst, arith}
use Rattle.std.specs.Prelude.{Option, Some, None}
use Rattle.def_core.specs.Sound.{OptionIs}
use Rattle.rite_code.specs.Code.{Program}
use Rattle.code_outline.specs.Makers.{outer}
use Rattle.def_machine.specs.State.{Registers, list_at}
use Rattle.def_machine.specs.Turn.{lists_around}
use Rattle.def_machine.specs.Fits.{IsBelow, ListFits, IsListOf}
use Rattle.machine_laws.specs.Growth.{ListsGrow}

module _ (p : Program) (ls : List Registers) where
  -- with more levels
  fits_more : (most : ℕ) (n k : Option ℕ) → ListFits most p ls n k → ListFits (suc most) p ls n k
  fits_more most None None h = tt
  fits_more most None (Some k) h = absurd h
  fits_more most (Some n) None h = absurd h
  fits_more zero (Some n) (Some k) h = absurd h
  fits_more (suc most) (Some n) (Some k) h =
      (h.0, h.1, h.2, h.3, fits_more most (list_at ls n).outer (outer p k) h.4)

  fits_with : (d most : ℕ) (n k : Option ℕ) → ListFits most p ls n k → ListFits (d + most) p ls n k
  fits_with zero most n k h = let e : most ≡ zero + most = omega arith in subst (λ (j : ℕ). ListFits j p ls n k) e h
  fits_with (suc d) most n k h =
      let e : suc (d + most) ≡ suc d + most = omega arith in
      subst (λ (j : ℕ). ListFits j p ls n k) e (fits_more (d + most) n k (fits_with d most n k h))

  pub fits_upto : (most more : ℕ) (n k : Option ℕ) → most ≤ more → ListFits most p ls n k → ListFits more p ls n k
  fits_upto most more n k le h =
      let e : (more - most) + most ≡ more = omega (arith, le) in
      subst (λ (j : ℕ). ListFits j p ls n k) e (fits_with (more - most) most n k h)

  -- the first of a chain is a list
  pub first_below : (most : ℕ) (n k : Option ℕ) → ListFits most p ls n k → OptionIs (IsBelow (length ls)) n
  first_below most None k h = tt
  first_below most (Some n) None h = absurd h
  first_below zero (Some n) (Some k) h = absurd h
  first_below (suc most) (Some n) (Some k) h = h.0

  lower : (n j : ℕ) (o : Option ℕ) → n ≤ j → OptionIs (IsBelow n) o → OptionIs (IsBelow j) o
  lower n j None le h = tt
  lower n j (Some i) le h = omega (arith, le, h)

  -- a chain that begins below a number has no more lists
  around_more : (j most : ℕ) (n k : Option ℕ) → ListFits most p ls n k → OptionIs (IsBelow j) n
      → lists_around (suc j) ls n ≡ lists_around j ls n
  around_more zero most None k h low = refl
  around_more zero most (Some n) k h low = absurd (omega (arith, low))
  around_more (suc j) most None k h low = refl
  around_more (suc j) most (Some n) None h low = absurd h
  around_more (suc j) zero (Some n) (Some k) h low = absurd h
  around_more (suc j) (suc most) (Some n) (Some k) h low =
      ap (λ (xs : List ℕ). n ∷ xs) (around_more j most (list_at ls n).outer (outer p k) h.4
      (lower n j (list_at ls n).outer (omega (arith, low)) h.3))

  around_with : (d j most : ℕ) (n k : Option ℕ) → ListFits most p ls n k → OptionIs (IsBelow j) n
      → lists_around (d + j) ls n ≡ lists_around j ls n
  around_with zero j most n k h low =
      let e : zero + j ≡ j = omega arith in ap (λ (i : ℕ). lists_around i ls n) e
  around_with (suc d) j most n k h low =
      let e : suc d + j ≡ suc (d + j) = omega arith in
      ap (λ (i : ℕ). lists_around i ls n) e
      ∙ around_more (d + j) most n k h (lower j (d + j) n (omega arith) low)
      ∙ around_with d j most n k h low

  pub around_upto : (j i most : ℕ) (n k : Option ℕ) → j ≤ i → ListFits most p ls n k → OptionIs (IsBelow j) n
      → lists_around i ls n ≡ lists_around j ls n
  around_upto j i most n k le h low =
      let e : (i - j) + j ≡ i = omega (arith, le) in
      ap (λ (x : ℕ). lists_around x ls n) (sym e) ∙ around_with (i - j) j most n k h low

module _ (p : Program) (ls ms : List Registers) (g : ListsGrow ls ms) where
  pub fits_later : (most : ℕ) (n k : Option ℕ) → ListFits most p ls n k → ListFits most p ms n k
  fits_later most None None h = tt
  fits_later most None (Some k) h = absurd h
  fits_later most (Some n) None h = absurd h
  fits_later zero (Some n) (Some k) h = absurd h
  fits_later (suc most) (Some n) (Some k) h =
      let same = g.outer n h.0 in (
        omega (arith, h.0, g.longer),
        h.1,
        g.count n h.0 ∙ h.2,
        subst (OptionIs (IsBelow n)) (sym same) h.3,
        subst (λ (o : Option ℕ). ListFits most p ms o (outer p k)) (sym same)
            (fits_later most (list_at ls n).outer (outer p k) h.4),
      )

  pub list_later : (n k : Option ℕ) → IsListOf p ls n k → IsListOf p ms n k
  list_later n k h = fits_upto p ms (length ls) (length ms) n k g.longer (fits_later (length ls) n k h)

  around_same : (j most : ℕ) (n k : Option ℕ) → ListFits most p ls n k → lists_around j ms n ≡ lists_around j ls n
  around_same zero most n k h = refl
  around_same (suc j) most None k h = refl
  around_same (suc j) most (Some n) None h = absurd h
  around_same (suc j) zero (Some n) (Some k) h = absurd h
  around_same (suc j) (suc most) (Some n) (Some k) h =
      ap (λ (xs : List ℕ). n ∷ xs)
      (ap (λ (o : Option ℕ). lists_around j ms o) (g.outer n h.0)
      ∙ around_same j most (list_at ls n).outer (outer p k) h.4)

  -- the lists around one are the same
  pub around_later : (n k : Option ℕ) → IsListOf p ls n k
      → lists_around (length ms) ms n ≡ lists_around (length ls) ls n
  around_later n k h =
      around_upto p ms (length ls) (length ms) (length ls) n k g.longer (fits_later (length ls) n k h)
      (first_below p ls (length ls) n k h)
      ∙ around_same (length ls) (length ls) n k h
