-- Levels out, one after the other.
use Rattle.std.proofs.Common.{◌≡◌, refl, sym, ap, ◌∙◌, ℕ, zero, suc, ◌+◌, ◌-◌, ◌<◌, ◌≤◌, List, arith}
use Rattle.std.specs.Prelude.{Option, Some, None}
use Rattle.scope_leaps.specs.declared.leap.Leap.{Leap}
use Rattle.scope_leaps.specs.Leaps.{outer_in, further, levels_out}

-- some levels, and some more
further_again : (found : Option ℕ) (f g : ℕ → Option ℕ)
    → further (further found f) g ≡ further found (λ j. further (f j) g)
further_again None f g = refl
further_again (Some j) f g = refl

same_further : (found : Option ℕ) (f g : ℕ → Option ℕ) → ((j : ℕ) → f j ≡ g j) → further found f ≡ further found g
same_further None f g h = refl
same_further (Some j) f g h = h j

further_none : (found : Option ℕ) → further found (λ j. Some j) ≡ found
further_none None = refl
further_none (Some j) = refl

pub levels_more : (outers : List (Option ℕ)) (m n k : ℕ)
    → levels_out outers (m + n) k ≡ further (levels_out outers m k) (levels_out outers n)
unfolding levels_out
levels_more outers zero n k = let e : 0 + n ≡ n = omega arith in rw e refl
levels_more outers (suc m) n k =
    let e : suc m + n ≡ suc (m + n) = omega arith in
    rw e (same_further (outer_in outers k) (levels_out outers (m + n))
    (λ j. further (levels_out outers m j) (levels_out outers n)) (levels_more outers m n)
    ∙ sym (further_again (outer_in outers k) (levels_out outers m) (levels_out outers n)))

-- from a body that is some levels out
pub levels_from : (outers : List (Option ℕ)) (m n k j : ℕ) → levels_out outers m k ≡ Some j
    → levels_out outers (m + n) k ≡ levels_out outers n j
levels_from outers m n k j e =
    levels_more outers m n k ∙ ap (λ (o : Option ℕ). further o (levels_out outers n)) e

pub one_level : (outers : List (Option ℕ)) (k : ℕ) → levels_out outers 1 k ≡ outer_in outers k
unfolding levels_out
one_level outers k = further_none (outer_in outers k)

pub no_level : (outers : List (Option ℕ)) (n k : ℕ) → 0 < n → outer_in outers k ≡ None
    → levels_out outers n k ≡ None
unfolding levels_out
no_level outers zero k some e = absurd (omega arith)
no_level outers (suc n) k some e = ap (λ (o : Option ℕ). further o (levels_out outers n)) e

-- over two leaps
pub over_two : (outers : List (Option ℕ)) (k j : ℕ) (near far : Leap) → outer_in outers k ≡ Some j
    → levels_out outers near.levels j ≡ Some near.body → levels_out outers far.levels near.body ≡ Some far.body
    → levels_out outers (1 + near.levels + far.levels) k ≡ Some far.body
over_two outers k j near far e f g =
    let one : levels_out outers 1 k ≡ Some j = one_level outers k ∙ e in
    let two : levels_out outers (1 + near.levels) k ≡ Some near.body =
    levels_from outers 1 near.levels k j one ∙ f in
    levels_from outers (1 + near.levels) far.levels k near.body two ∙ g

-- a step from where so many levels are left
pub step_from : (outers : List (Option ℕ)) (total : Option ℕ) (left m k j : ℕ) → m ≤ left
    → levels_out outers m k ≡ Some j → levels_out outers left k ≡ total → levels_out outers (left - m) j ≡ total
step_from outers total left m k j le e so_far =
    let parts : left ≡ m + (left - m) = omega arith in
    sym (levels_from outers m (left - m) k j e) ∙ ap (λ (n : ℕ). levels_out outers n k) (sym parts) ∙ so_far

-- no level is left
pub none_left : (outers : List (Option ℕ)) (left k : ℕ) → left ≤ 0 → levels_out outers left k ≡ Some k
unfolding levels_out
none_left outers zero k h = refl
none_left outers (suc n) k h = absurd (omega arith)
