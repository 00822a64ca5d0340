-- The makers that were found, one instruction after the other.
use Rattle.std.proofs.Common.{inl, inr, ◌≡◌, ◌≢◌, refl, sym, ap, ◌∙◌, ℕ, ◌<◌, ◌≤◌, List, [], ◌∷◌, ◌++◌, length, get_or, set, true, false, arith}
use Rattle.std.specs.Prelude.{Option, None, Some, nat_eq, if◌then◌else◌}
use Rattle.std.specs.Option.{option_or, is_some}
use Rattle.std.proofs.lemmas.Bool.{cases_eq, eq-eqb, ne_eqb, cond-true, cond-false, true≢false}
use Rattle.std.proofs.lemmas.List.{get_or-set_same, get_or-set_other}
use Rattle.code_outline.specs.declared.maker.Maker.{Maker}
use Rattle.code_outline.specs.Makers.{Made, first_maker}
use Rattle.code_outline.specs.Making.{listed, AreMarked}

option_or-none : (o : Option Maker) → o ≡ option_or o None
option_or-none None = refl
option_or-none (Some m) = refl

option_or-full : (o other : Option Maker) → is_some o ≡ true → o ≡ option_or o other
option_or-full None other e = absurd (true≢false (sym e))
option_or-full (Some m) other e = refl

option_or_assoc : (a b c : Option Maker) → option_or (option_or a b) c ≡ option_or a (option_or b c)
option_or_assoc None b c = refl
option_or_assoc (Some m) b c = refl

option_or-empty : (o other : Option Maker) → is_some o ≡ false → other ≡ option_or o other
option_or-empty None other e = refl
option_or-empty (Some m) other e = absurd (true≢false e)

-- of one body
alone : ℕ → Maker → List Made
alone i m = record { child = i; maker = m } ∷ []

first_maker-here : (i j : ℕ) (m : Maker) → i ≡ j → first_maker j (alone i m) ≡ Some m
unfolding first_maker alone
first_maker-here i j m e = cond-true (nat_eq i j) (Some m) None (eq-eqb i j e)

first_maker-other : (i j : ℕ) (m : Maker) → i ≢ j → first_maker j (alone i m) ≡ None
unfolding first_maker alone
first_maker-other i j m e = cond-false (nat_eq i j) (Some m) None (ne_eqb i j e)

unmarked : (o first : Option Maker) → first ≡ None → o ≡ option_or o first
unmarked o first e = rw e (option_or-none o)

pub marks-new : (xs : List (Option Maker)) (i : ℕ) (m : Maker) → i < length xs → is_some (get_or xs i None) ≡ false
    → AreMarked (listed (Some (i, m))) xs (set xs i (Some m))
unfolding alone
marks-new xs i m h e = λ j l. elim (cases_eq i j) [
  | inl p ↦ rw (← p) (get_or-set_same xs i (Some m) None h ∙ sym (first_maker-here i i m refl)
      ∙ option_or-empty (get_or xs i None) (first_maker i (alone i m)) e)
  | inr p ↦ get_or-set_other xs i j (Some m) None (λ q. p (sym q))
      ∙ unmarked (get_or xs j None) (first_maker j (alone i m)) (first_maker-other i j m p)
]

pub marks-kept : (xs : List (Option Maker)) (i : ℕ) (m : Maker) → is_some (get_or xs i None) ≡ true
    → AreMarked (listed (Some (i, m))) xs xs
unfolding alone
marks-kept xs i m e = λ j l. elim (cases_eq i j) [
  | inl p ↦ rw (← p) (option_or-full (get_or xs i None) (first_maker i (alone i m)) e)
  | inr p ↦ unmarked (get_or xs j None) (first_maker j (alone i m)) (first_maker-other i j m p)
]

pub marks-past : (xs : List (Option Maker)) (i : ℕ) (m : Maker) → length xs ≤ i → AreMarked (listed (Some (i, m))) xs xs
unfolding alone
marks-past xs i m h = λ j l. unmarked (get_or xs j None) (first_maker j (alone i m))
    (first_maker-other i j m (omega arith))

-- of none, and of some after others
pub marks-none : (xs : List (Option Maker)) → AreMarked [] xs xs
unfolding first_maker
marks-none xs = λ j l. option_or-none (get_or xs j None)

pub first_maker-append : (j : ℕ) (ms ns : List Made)
    → first_maker j (ms ++ ns) ≡ option_or (first_maker j ms) (first_maker j ns)
unfolding first_maker
first_maker-append j [] ns = refl
first_maker-append j (m ∷ ms) ns =
    elim (nat_eq m.child j) as (λ b. (if b then Some m.maker else first_maker j (ms ++ ns))
    ≡ option_or (if b then Some m.maker else first_maker j ms) (first_maker j ns)) [
      | true ↦ refl
      | false ↦ first_maker-append j ms ns
    ]

pub marks-append : (ms ns : List Made) (xs ys zs : List (Option Maker)) → length ys ≡ length xs → AreMarked ms xs ys
    → AreMarked ns ys zs → AreMarked (ms ++ ns) xs zs
marks-append ms ns xs ys zs e f g = λ j l.
    g j (omega (arith, e, l)) ∙ ap (λ o. option_or o (first_maker j ns)) (f j l)
    ∙ option_or_assoc (get_or xs j None) (first_maker j ms) (first_maker j ns)
    ∙ ap (λ o. option_or (get_or xs j None) o) (sym (first_maker-append j ms ns))
