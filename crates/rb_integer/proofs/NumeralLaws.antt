-- The digits of a number are the one list of digits with its value that doesn't begin with 0.
use Rattle.std.proofs.Common.{◌≡◌, ℕ, ◌<◌, ◌≤◌, ◌+◌, ◌*◌, ◌/◌, ◌%◌, List, [], ◌∷◌, ◌++◌, get_or, sym, ◌∙◌, ap, arith, rules, append_assoc}
use Rattle.std.proofs.lemmas.Int.Digits.{digits_of_step, all_below_base_digits_of, first_digits_of, number_digits_of}
use Rattle.std.proofs.lemmas.Nat.{div-mul-add, mod-mul-add, mul-le}
use Rattle.std.specs.Int.Digits.{digits_of, number_from_digits, number_from_digits_after, AllBelowBase}
use Rattle.rb_integer.specs.Numeral.{IsDigitsOf}

pub digits_are : (b n : ℕ) → 2 ≤ b → 0 < n → IsDigitsOf b n (digits_of b n)
digits_are b n h above = record {
  below = all_below_base_digits_of b n h;
  value = number_digits_of b n h;
  leading =
      first_digits_of b n h above;
}

last_digit : (b n d : ℕ) → 2 ≤ b → 0 < n * b + d → d < b → digits_of b (n * b + d) ≡ digits_of b n ++ (d ∷ [])
last_digit b n d h above small =
    let step : digits_of b (n * b + d) ≡ digits_of b ((n * b + d) / b) ++ ((n * b + d) % b ∷ []) =
    digits_of_step b (n * b + d) h above in
    let front : (n * b + d) / b ≡ n = div-mul-add n b d small in
    let back : (n * b + d) % b ≡ d = mod-mul-add n b d small in
    rw (front, back) at step

digits_behind : (b n : ℕ) (ds : List ℕ) → 2 ≤ b → 0 < n → AllBelowBase b ds
    → digits_of b (number_from_digits_after b n ds) ≡ digits_of b n ++ ds
digits_behind b n [] h above all = search rules
digits_behind b n (d ∷ ds) h above all =
    let product : 1 * 1 ≤ n * b = mul-le 1 1 n b (omega arith) (omega arith) in
    let more : 0 < n * b + d = omega arith in
    digits_behind b (n * b + d) ds h more all.1 ∙ ap (λ k. k ++ ds) (last_digit b n d h more all.0)
    ∙ append_assoc (digits_of b n) (d ∷ []) ds

of_digits : (b : ℕ) (ds : List ℕ) → 2 ≤ b → AllBelowBase b ds → 0 < get_or ds 0 0
    → digits_of b (number_from_digits b ds) ≡ ds
of_digits b [] h all above = absurd (omega arith)
of_digits b (d ∷ ds) h all above =
    let more : 0 < 0 * b + d = omega arith in
    digits_behind b (0 * b + d) ds h more all.1 ∙ ap (λ k. k ++ ds) (last_digit b 0 d h more all.0)

pub digits_only : (b n : ℕ) (ds : List ℕ) → 2 ≤ b → IsDigitsOf b n ds → digits_of b n ≡ ds
digits_only b n ds h are = ap (digits_of b) (sym are.value) ∙ of_digits b ds h are.below are.leading
