-- Digits one by one.
use Rattle.std.proofs.Common.{◌≡◌, ℕ, ◌+◌, ◌*◌, ◌-◌, ◌<◌, ◌≤◌, true, ◌&&◌, List, [], ◌∷◌, length, get_or, drop, add-one, drop-cons, arith}
use Rattle.std.proofs.Common.{Some, None, nat_le, if◌then◌else◌}
use Rattle.std.proofs.lemmas.Bool.Decides.{nat_tests}
use Rattle.std.proofs.lemmas.List.{drop_all}
use Rattle.rite_tool.specs.Words.{is_digit, are_digits, is_numeral, value_after, most_turns}

pub are_digits-drop : (xs : List ℕ) (i : ℕ) → i < length xs
    → are_digits (drop i xs) ≡ (is_digit (get_or xs i 0) && are_digits (drop (i + 1) xs))
are_digits-drop xs i h = rw (add-one, drop-cons xs i 0)

pub value_after-drop : (n : ℕ) (xs : List ℕ) (i : ℕ) → i < length xs
    → value_after n (drop i xs) ≡ value_after (10 * n + (get_or xs i 0 - 48)) (drop (i + 1) xs)
value_after-drop n xs i h = rw (add-one, drop-cons xs i 0)

pub value_after-grows : (n : ℕ) (xs : List ℕ) → n ≤ value_after n xs
value_after-grows n [] = omega arith
value_after-grows n (c ∷ cs) = omega (arith, value_after-grows (10 * n + (c - 48)) cs)

pub numeral_digits : (xs : List ℕ) → is_numeral xs ≡ true → are_digits xs ≡ true
numeral_digits [] h = cc
numeral_digits (c ∷ []) h = grind arith
numeral_digits (c ∷ (d ∷ cs)) h = grind arith

pub ruleset digit_steps = (are_digits-drop, value_after-drop, value_after-grows)

value_here : (v n : ℕ) → v ≡ n → v ≤ most_turns → Some v ≡ (if nat_le n most_turns then Some n else None)
value_here v n e h =
    let fits : nat_le n most_turns ≡ true = grind (arith, nat_tests) in
    rw (fits, e)

pub value_done : (v : ℕ) (xs : List ℕ) (i : ℕ) → length xs ≤ i → value_after v (drop i xs) ≡ value_after 0 xs
    → v ≤ most_turns → Some v ≡ (if nat_le (value_after 0 xs) most_turns then Some (value_after 0 xs) else None)
value_done v xs i past same h =
    let nothing : drop i xs ≡ [] = drop_all i xs past in
    let e : v ≡ value_after 0 xs = rw nothing at same in
    value_here v (value_after 0 xs) e h
