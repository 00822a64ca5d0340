-- How large a value of few digits is.
use Rattle.std.proofs.Common.{◌≡◌, ℕ, suc, ◌+◌, ◌-◌, ◌*◌, ◌^◌, ◌<◌, ◌≤◌, arith, refl, List, ◌∷◌, length, drop, drop-cons, add-one, get_or, cond, eqb, leb}
use Rattle.std.proofs.Math.Nat.{pow-suc, pow-le-pow_right}
use Rattle.std.proofs.lemmas.Nat.{mul-le}
use Rattle.lexer_literals.specs.Kinds.{digit_value}
use Rattle.lexer_literals.specs.Escaping.{up_to}

drop_here : (xs : List ℕ) (i : ℕ) → i < length xs → drop i xs ≡ get_or xs i 0 ∷ drop (i + 1) xs
drop_here xs i h = rw (add-one, drop-cons xs i 0) refl

-- one digit more
pub up_to_here : (text : List ℕ) (base most value at : ℕ) → at < length text
    → up_to base most value at (drop at text) ≡ cond (eqb most 0) (value, at)
    (cond (leb base (digit_value (get_or text at 0))) (value, at)
    (up_to base (most - 1) (value * base + digit_value (get_or text at 0)) (at + 1) (drop (at + 1) text)))
unfolding up_to
up_to_here text base most value at here = rw (drop_here text at here) refl

-- above each value of so many digits
unfoldable pub bound : ℕ → ℕ
bound count = 16 ^ count

pub bound_zero : (most : ℕ) → 0 < bound (most - most)
unfolding bound
bound_zero most = let e : most - most ≡ 0 = omega arith in rw e (omega arith)

pub bound_six : (count : ℕ) → count ≤ 5 → bound count ≤ 1048576
unfolding bound
bound_six count few = pow-le-pow_right {n = 16} (omega arith) {i = count} {j = 5} few

pub bound_most : (most left value : ℕ) → value < bound (most - left) → value < 16 ^ most
unfolding bound
bound_most most left value small =
    let most_is : 16 ^ (most - left) ≤ 16 ^ most = pow-le-pow_right {n = 16} (omega arith) {i = most - left} {j = most}
    (omega arith) in
    omega (arith, most_is, small)

pub bound_step : (base value digit most left : ℕ) → 0 < left → left ≤ most → base ≤ 16 → digit < base
    → value < bound (most - left) → value * base + digit < bound (most - (left - 1))
unfolding bound
bound_step base value digit most left some few small is_digit fits =
    let e : most - (left - 1) ≡ suc (most - left) = omega arith in
    let product : value * base ≤ value * 16 = mul-le value base value 16 (omega arith) small in
    rw (e, pow-suc) (omega arith)
