-- The digits of a number, from the last to the first.
use Rattle.std.proofs.Common.{◌≡◌, ◌≢◌, ℕ, zero, suc, ◌<◌, ◌≤◌, ◌+◌, ◌/◌, ◌%◌, ◌^◌, false, List, [], ◌∷◌, ◌++◌, map, length, drop, set, ℤ, pos, negsuc, FitsSigned, w64, refl, ◌∙◌, ap, arith, append_assoc, length-append}
use Rattle.std.proofs.lemmas.List.{drop-set, map-append, length-map}
use Rattle.std.proofs.lemmas.Bool.Decides.{nat_tests}
use Rattle.std.proofs.lemmas.Fmt.{decimal_digit, decimal-digits_of}
use Rattle.std.proofs.lemmas.Int.Digits.{digits_of_step, length-digits_of-le, all_below_base_digits_of}
use Rattle.std.proofs.Math.Nat.{pow-le-pow_left}
use Rattle.std.specs.Fmt.{digit_glyph, decimal, signed_decimal}
use Rattle.std.specs.Int.Digits.{digits_of, AllBelowBase}
use Rattle.rb_integer.specs.Numeral.{letters, numeral}

pub letters_of_zero : (b : ℕ) → letters b 0 ≡ []
unfolding letters
letters_of_zero b = refl

pub letters_step : (b n : ℕ) → 2 ≤ b → n ≢ 0 → letters b n ≡ letters b (n / b) ++ (digit_glyph false (n % b) ∷ [])
unfolding letters
letters_step b n h non_zero = rw (digits_of_step b n h (omega arith))
    (map-append (digit_glyph false) (digits_of b (n / b)) (n % b ∷ []))

pub letters_length : (b n : ℕ) → 2 ≤ b → n < 2 ^ 64 → length (letters b n) ≤ 64
unfolding letters
letters_length b n h small =
    let wide : 2 ^ 64 ≤ b ^ 64 = pow-le-pow_left h 64 in
    rw (length-map (digits_of b n) (digit_glyph false)) (length-digits_of-le b 64 n h (omega arith))

pub letters_shorter : (b n : ℕ) → 2 ≤ b → n ≢ 0 → length (letters b n) ≡ length (letters b (n / b)) + 1
letters_shorter b n h non_zero = ap length (letters_step b n h non_zero)
    ∙ length-append (letters b (n / b)) (digit_glyph false (n % b) ∷ [])

-- one digit more is written before the others
pub letter_before : (b n : ℕ) (whole bytes : List ℕ) (at : ℕ) → 2 ≤ b → n ≢ 0 → at < length bytes → whole ≡ letters b n
    ++ drop (at + 1) bytes → whole ≡ letters b (n / b) ++ drop at (set bytes at (digit_glyph false (n % b)))
letter_before b n whole bytes at h non_zero below is =
    rw (drop-set bytes at (digit_glyph false (n % b)) below)
    (is ∙ ap (λ k. k ++ drop (at + 1) bytes) (letters_step b n h non_zero)
    ∙ append_assoc (letters b (n / b)) (digit_glyph false (n % b) ∷ []) (drop (at + 1) bytes))

-- ---- base 10

glyph : (d : ℕ) → d < 10 → 48 + d ≡ digit_glyph false d
glyph d h = grind (arith, nat_tests)

same_glyphs : (ds : List ℕ) → AllBelowBase 10 ds → map (λ d. 48 + d) ds ≡ map (digit_glyph false) ds
same_glyphs [] h = refl
same_glyphs (d ∷ ds) h = ap (λ g. g ∷ map (λ e. 48 + e) ds) (glyph d h.0)
    ∙ ap (λ gs. digit_glyph false d ∷ gs) (same_glyphs ds h.1)

decimal_is : (n : ℕ) → 0 < n → n < 2 ^ 64 → decimal n ≡ letters 10 n
unfolding letters
decimal_is n h small = decimal-digits_of n h small
    ∙ same_glyphs (digits_of 10 n) (all_below_base_digits_of 10 n (omega arith))

-- the numeral in base 10 is the decimal one
pub decimal_numeral : (z : ℤ) → FitsSigned w64 z → signed_decimal z ≡ numeral 10 z
decimal_numeral (pos zero) f = decimal_digit 0 (omega arith)
decimal_numeral (pos (suc n)) f = let small : suc n < 2 ^ 63 = f.sfits in decimal_is (suc n) (omega arith) (omega arith)
decimal_numeral (negsuc n) f = let small : n < 2 ^ 63 = f.sfits in
    ap (λ t. 45 ∷ t) (decimal_is (suc n) (omega arith) (omega arith))
