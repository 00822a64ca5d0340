-- A text without carriage returns is read as it is, and no text is read as a longer one; places that are come to.
use Rattle.std.proofs.Common.{◌≡◌, ℕ, suc, ◌≤◌, ◌<◌, List, [], ◌∷◌, length, ◌==◌, Bool, true, false, ◌+◌, ◌-◌, refl, sym, ap, subst, arith, if◌then◌else◌}
use Rattle.memchr.specs.Find.{Nowhere, Passes, is_byte}
use Rattle.line_ends.specs.Lines.{ends_line, as_read, place_from, place_in}

is_false : (b : Bool) → (b ≡ true → ⊥) → b ≡ false
is_false false other = refl
is_false true other = absurd (other refl)

no_end : (b : ℕ) (bs : List ℕ) → (b == 13) ≡ false → ends_line b bs ≡ false
no_end b [] other = refl
no_end b (c ∷ bs) other = rw other

pub as_it_is : (text : List ℕ) → Nowhere (Passes (is_byte 13) text) 0 (length text) → as_read text ≡ text
unfolding as_read
as_it_is [] nowhere = refl
as_it_is (b ∷ bs) nowhere =
    rw (no_end b bs (is_false (b == 13) (nowhere 0 (omega arith) (omega arith))))
    (ap (λ (xs : List ℕ). b ∷ xs) (as_it_is bs (λ k low high. nowhere (suc k) (omega arith) (omega arith))))

pub there : (at count : ℕ) (bs : List ℕ) → (0 < count → ⊥) → place_from at bs count ≡ at
unfolding place_from
there at count [] none = refl
there at count (b ∷ bs) none = let zero : count ≡ 0 = omega arith in subst (λ n. place_from at (b ∷ bs) n ≡ at) (sym zero) refl

shorter_if : (ends : Bool) (b n : ℕ) (bs : List ℕ) → length bs ≤ n → length (if ends then bs else b ∷ bs) ≤ suc n
shorter_if true b n bs less = omega arith
shorter_if false b n bs less = omega arith

pub shorter : (text : List ℕ) → length (as_read text) ≤ length text
unfolding as_read
shorter [] = omega arith
shorter (b ∷ bs) = shorter_if (ends_line b bs) b (length bs) (as_read bs) (shorter bs)

within_if : (stops : Bool) (at next end : ℕ) → at ≤ end → next ≤ end → (if stops then at else next) ≤ end
within_if true at next end here there = here
within_if false at next end here there = there

before_end : (at count : ℕ) (bs : List ℕ) → place_from at bs count ≤ at + length bs
unfolding place_from
before_end at count [] = omega arith
before_end at count (b ∷ bs) =
    let behind : ℕ = if ends_line b bs then count else count - 1 in
    let next : place_from (at + 1) bs behind ≤ (at + 1) + length bs = before_end (at + 1) behind bs in
    within_if (count == 0) at (place_from (at + 1) bs behind) (at + length (b ∷ bs)) (omega arith) (omega arith)

pub within : (text : List ℕ) (place : ℕ) → place_in text place ≤ length text
within text place = let before : place_from 0 text place ≤ 0 + length text = before_end 0 place text in omega arith
