-- The list of free blocks.
use Rattle.std.proofs.Common.{◌≡◌, ◌≢◌, ℕ, List, [], ◌∷◌, ◌++◌, true, false, cond, ◌||◌, nat_eq, refl, sym, ◌∙◌}
use Rattle.std.specs.Prelude.{count_by, ◌==◌}
use Rattle.std.proofs.lemmas.Bool.{eqb-false, eq-eqb, ne_eqb, or_parts, or_from, or_right}
use Rattle.std.proofs.lemmas.List.Folds.{list_any-append}
use Rattle.std.proofs.lemmas.List.Sums.{sum_by-append, sum_by-cons}
use Rattle.slot_pool.specs.Inside.{is_free, IsApart}

pub free_last : (free : List ℕ) (b : ℕ) → is_free (free ++ b ∷ []) b ≡ true
free_last free b = list_any-append (nat_eq b) free (b ∷ [])
    ∙ or_right (is_free free b) (nat_eq b b || false) (rw (eq-eqb b b refl) refl)

pub free_other : (free : List ℕ) (b k : ℕ) → k ≢ b → is_free (free ++ b ∷ []) k ≡ is_free free k
free_other free b k differs =
    list_any-append (nat_eq k) free (b ∷ []) ∙ rw (ne_eqb k b differs)
    (elim (is_free free k) as (λ t. (t || false) ≡ t) [ true ↦ refl | false ↦ refl ])

-- one more free block, which wasn't
pub apart_push : (free : List ℕ) (b : ℕ) → IsApart free → is_free free b ≡ false → IsApart (free ++ b ∷ [])
apart_push [] b apart is = (refl, tt)
apart_push (f ∷ free) b apart is =
    let parts = or_parts (nat_eq b f) (is_free free b) is in
    let differs : f ≢ b = λ same. eqb-false b f parts.0 (sym same) in
    (free_other free b f differs ∙ apart.0, apart_push free b apart.1 parts.1)

-- without the last of them
pub apart_front : (free : List ℕ) (b : ℕ) → IsApart (free ++ b ∷ []) → IsApart free × (is_free free b ≡ false)
apart_front [] b apart = (tt, refl)
apart_front (f ∷ free) b apart =
    let rest = apart_front free b apart.1 in
    let parts = or_parts (is_free free f) (nat_eq f b || false)
    (sym (list_any-append (nat_eq f) free (b ∷ [])) ∙ apart.0) in
    let other = or_parts (nat_eq f b) false parts.1 in
    let differs : b ≢ f = λ same. eqb-false f b other.0 (sym same) in
    ((parts.0, rest.0), or_from (nat_eq b f) (is_free free b) (ne_eqb b f differs) rest.1)

-- a block that isn't free stands nowhere in the list
none_of : (free : List ℕ) (b : ℕ) → is_free free b ≡ false → count_by (λ f. f == b) free ≡ 0
none_of [] b is = refl
none_of (f ∷ free) b is =
    let parts = or_parts (nat_eq b f) (is_free free b) is in
    let differs : f ≢ b = λ same. eqb-false b f parts.0 (sym same) in
    sum_by-cons (λ x. cond (x == b) 1 0) f free ∙ rw (ne_eqb f b differs, none_of free b parts.1) refl

pub once_more : (free : List ℕ) (b : ℕ) → is_free free b ≡ false → count_by (λ f. f == b) (free ++ b ∷ []) ≡ 1
once_more free b is =
    sum_by-append (λ x. cond (x == b) 1 0) free (b ∷ []) ∙ rw (none_of free b is, eq-eqb b b refl) refl
