-- Integer literals: how far their digits go, and of which value they are.
use Rattle.std.proofs.Common.{◌≡◌, ℕ, suc, zero, ◌+◌, ◌-◌, ◌*◌, ◌<◌, ◌≤◌, List, [], ◌∷◌, length, take, drop, get_or, arith, refl, sym, ap, ◌∙◌, subst, Bool, true, false, if◌then◌else◌, eqb, ltb, not, ◌||◌, inl, inr, Result, Ok, Err, length-drop}
use Rattle.std.proofs.lemmas.Bool.{cases_Bool, eqb-true, eqb-false, eq-eqb, le-ltb}
use Rattle.std.proofs.lemmas.List.{get_or-drop}
use Rattle.lexer_literals.specs.declared.fault.Fault.{Fault}
use Rattle.lexer_literals.specs.declared.integers.Scanned.{Scanned}
use Rattle.lexer_literals.specs.Kinds.{is_digit, digit_value}
use Rattle.lexer_literals.specs.Integers.{fault_at, digits, radix_at, narrow, integer_at}
use Rattle.rb_base.specs.Result.{◌>>=◌}
use Rattle.lexer_laws.specs.Numbers.{begins_with_digit, GoesOn, IsNumeral, IsInteger, IsWholeInteger}

abbrev pub done : ℕ → ℕ → Result (ℕ × ℕ) Fault
done n end = Ok (n, end)

abbrev faulty : ℕ → Result (ℕ × ℕ) Fault
faulty at = fault_at at

not_done : (at n end : ℕ) → faulty at ≡ done n end → ⊥
not_done at n end h = absurd (cc)

pub both_are : (a b m n : ℕ) → done a m ≡ done b n → (a ≡ b) × (m ≡ n)
both_are a b m n e =
    let pair : (a, m) ≡ (b, n) = cc in
    (ap (λ (p : ℕ × ℕ). p.0) pair, ap (λ (p : ℕ × ℕ). p.1) pair)

step : (base : ℕ) (wanted : Bool) (value at x : ℕ) (xs : List ℕ) → digits base wanted value at (x ∷ xs)
    ≡ (if ltb (digit_value x) base then digits base false (value * base + digit_value x) (at + 1) xs
    else (if wanted || is_digit x then fault_at at
    else (if eqb x 95 then digits base true value (at + 1) xs
    else Ok (value, at))))
unfolding digits
step base true value at x xs = refl
step base false value at x xs = refl

begins_take : (base k : ℕ) (xs : List ℕ) → 0 < k → begins_with_digit base xs ≡ true
    → begins_with_digit base (take k xs) ≡ true
begins_take base zero xs some h = absurd (omega arith)
begins_take base (suc k) [] some h = h
begins_take base (suc k) (x ∷ xs) some h = h

or_false : (a b : Bool) → (a || b) ≡ false → b ≡ false
or_false true b h = absurd (cc)
or_false false b h = h

true_or : (a b : Bool) → a ≡ true → (a || b) ≡ false → ⊥
true_or true b e h = absurd (cc)
true_or false b e h = absurd (cc)

-- ---- what is read

pub record Digits (base : ℕ) (wanted : Bool) (value at : ℕ) (xs : List ℕ) (n end : ℕ) : Type 0 where
  pub forward : at ≤ end
  pub within : end ≤ at + length xs
  pub goes : GoesOn base value (take (end - at) xs) n
  pub no_digit : (i : ℕ) → at + i ≡ end → is_digit (get_or xs i 0) ≡ false
  pub no_bar : (i : ℕ) → at + i ≡ end → get_or xs i 0 ≡ 95 → ⊥
  pub some : wanted ≡ true → (begins_with_digit base xs ≡ true) × (at < end)

digit_ok : (x : ℕ) (xs : List ℕ) (base : ℕ) (wanted : Bool) (value at n end : ℕ) → ltb (digit_value x) base ≡ true
    → Digits base false (value * base + digit_value x) (at + 1) xs n end → Digits base wanted value at (x ∷ xs) n end
digit_ok x xs base wanted value at n end is_one rest =
    let k : end - at ≡ suc (end - (at + 1)) = omega (arith, rest.forward) in
    record {
      forward = omega (arith, rest.forward);
      within = omega (arith, rest.within);
      goes = rw k (inl (is_one, rest.goes));
      no_digit = λ i. elim i as (λ i. at + i ≡ end → is_digit (get_or (x ∷ xs) i 0) ≡ false)
          [ zero ↦ λ h. absurd (omega (arith, rest.forward, h)) | suc j ↦ λ h. rest.no_digit j (omega (arith, h)) ];
      no_bar = λ i. elim i as (λ i. at + i ≡ end → get_or (x ∷ xs) i 0 ≡ 95
          → ⊥) [ zero ↦ λ h. absurd (omega (arith, rest.forward, h)) | suc j ↦ λ h. rest.no_bar j (omega (arith, h)) ];
      some = λ w. (is_one, omega (arith, rest.forward));
    }

bar_ok : (x : ℕ) (xs : List ℕ) (base : ℕ) (wanted : Bool) (value at n end : ℕ) → (wanted ≡ true → ⊥) → x ≡ 95
    → Digits base true value (at + 1) xs n end → Digits base wanted value at (x ∷ xs) n end
bar_ok x xs base wanted value at n end free bar rest =
    let k : end - at ≡ suc (end - (at + 1)) = omega (arith, rest.forward) in
    let s = rest.some refl in
    record {
      forward = omega (arith, rest.forward);
      within = omega (arith, rest.within);
      goes = rw k (inr (bar, begins_take base (end - (at + 1)) xs (omega (arith, s.1)) s.0, rest.goes));
      no_digit = λ i. elim i as (λ i. at + i ≡ end → is_digit (get_or (x ∷ xs) i 0) ≡ false)
          [ zero ↦ λ h. absurd (omega (arith, rest.forward, h)) | suc j ↦ λ h. rest.no_digit j (omega (arith, h)) ];
      no_bar = λ i. elim i as (λ i. at + i ≡ end → get_or (x ∷ xs) i 0 ≡ 95
          → ⊥) [ zero ↦ λ h. absurd (omega (arith, rest.forward, h)) | suc j ↦ λ h. rest.no_bar j (omega (arith, h)) ];
      some = λ w. absurd (free w);
    }

stop_ok : (xs : List ℕ) (base : ℕ) (wanted : Bool) (value at n end : ℕ) → (wanted ≡ true → ⊥)
    → is_digit (get_or xs 0 0) ≡ false → (get_or xs 0 0 ≡ 95 → ⊥) → value ≡ n → at ≡ end
    → Digits base wanted value at xs n end
stop_ok xs base wanted value at n end free no_digit no_bar same here =
    let k : end - at ≡ 0 = omega (arith, here) in
    record {
      forward = omega (arith, here);
      within = omega (arith, here);
      goes = rw k same;
      no_digit = λ i h. let z : i ≡ 0 = omega (arith, here, h) in rw z no_digit;
      no_bar = λ i h. let z : i ≡ 0 = omega (arith, here, h) in rw z no_bar;
      some = λ w. absurd (free w);
    }

not_true : false ≡ true → ⊥
not_true h = absurd (cc)

nothing_ok : (base : ℕ) (wanted : Bool) (value at n end : ℕ) → digits base wanted value at [] ≡ done n end
    → Digits base wanted value at [] n end
unfolding digits
nothing_ok base true value at n end h = absurd (not_done at n end h)
nothing_ok base false value at n end h = let p = both_are value n at end h in
    stop_ok [] base false value at n end not_true refl (λ e. absurd (omega (arith, e))) p.0 p.1

pub digits_ok : (xs : List ℕ) (base : ℕ) (wanted : Bool) (value at n end : ℕ)
    → digits base wanted value at xs ≡ done n end → Digits base wanted value at xs n end
digits_ok [] base wanted value at n end h = nothing_ok base wanted value at n end h
digits_ok (x ∷ xs) base wanted value at n end h =
    let h' = sym (step base wanted value at x xs) ∙ h in
    elim (cases_Bool (ltb (digit_value x) base)) [
      | inl is_one ↦ digit_ok x xs base wanted value at n end is_one
          (digits_ok xs base false (value * base + digit_value x) (at + 1) n end (rw is_one at h'))
      | inr is_none ↦ elim (cases_Bool (wanted || is_digit x)) [
        | inl bad ↦ absurd (not_done at n end (rw (is_none, bad) at h'))
        | inr good ↦ elim (cases_Bool (eqb x 95)) [
          | inl bar ↦ bar_ok x xs base wanted value at n end (λ w. true_or wanted (is_digit x) w good)
              (eqb-true x 95 bar) (digits_ok xs base true value (at + 1) n end (rw (is_none, good, bar) at h'))
          | inr other ↦
              let e : done value at ≡ done n end = rw (is_none, good, other) at h' in
              let p = both_are value n at end e in
              stop_ok (x ∷ xs) base wanted value at n end (λ w. true_or wanted (is_digit x) w good)
              (or_false wanted (is_digit x) good) (eqb-false x 95 other) p.0 p.1
        ]
      ]
    ]

-- ---- no digits go farther

bar_no_digit : (base : ℕ) → base ≤ 16 → ltb (digit_value 95) base ≡ false
bar_no_digit base small = le-ltb 255 base (omega (arith, small))

pub digits_long : (k : ℕ) (xs : List ℕ) (base : ℕ) (wanted : Bool) (value at m n end : ℕ) → base ≤ 16
    → GoesOn base value (take k xs) m → k ≤ length xs → digits base wanted value at xs ≡ done n end → at + k ≤ end
digits_long zero xs base wanted value at m n end small g few h =
    omega (arith, (digits_ok xs base wanted value at n end h).forward)
digits_long (suc k) [] base wanted value at m n end small g few h = absurd (omega (arith, few))
digits_long (suc k) (x ∷ xs) base wanted value at m n end small g few h =
    let h' = sym (step base wanted value at x xs) ∙ h in
    elim g [
      | inl p ↦ omega (
        arith,
        digits_long k xs base false (value * base + digit_value x) (at + 1) m n end small p.1
            (omega (arith, few)) (rw (p.0) at h'),
      )
      | inr p ↦
          let is_none : ltb (digit_value x) base ≡ false = rw (p.0) (bar_no_digit base small) in
          let bar : eqb x 95 ≡ true = eq-eqb x 95 p.0 in
          elim (cases_Bool (wanted || is_digit x)) [
            | inl bad ↦ absurd (not_done at n end (rw (is_none, bad) at h'))
            | inr good ↦ omega (
              arith,
              digits_long k xs base true value (at + 1) m n end small p.2 (omega (arith, few))
                  (rw (is_none, good, bar) at h'),
            )
          ]
    ]

-- ---- what stands is read

begins_digit : (base k : ℕ) (xs : List ℕ) → begins_with_digit base (take k xs) ≡ true
    → begins_with_digit base (take (suc k) xs) ≡ true
begins_digit base zero xs h = absurd (cc)
begins_digit base (suc k) [] h = h
begins_digit base (suc k) (x ∷ xs) h = h

one_more : (k : ℕ) (xs : List ℕ) (base value n : ℕ) → GoesOn base value (take k xs) n → k < length xs
    → ltb (digit_value (get_or xs k 0)) base ≡ true → (m : ℕ) × GoesOn base value (take (suc k) xs) m
one_more k [] base value n g few digit = absurd (omega (arith, few))
one_more zero (x ∷ xs) base value n g few digit = (value * base + digit_value x, inl (digit, refl))
one_more (suc k) (x ∷ xs) base value n g few digit =
    elim g [
      | inl p ↦ let r = one_more k xs base (value * base + digit_value x) n p.1 (omega (arith, few)) digit in
          (r.0, inl (p.0, r.1))
      | inr p ↦ let r = one_more k xs base value n p.2 (omega (arith, few)) digit in
          (r.0, inr (p.0, begins_digit base k xs p.1, r.1))
    ]

pub record Ends (base : ℕ) (xs : List ℕ) (k : ℕ) : Type 0 where
  pub no_digit : is_digit (get_or xs k 0) ≡ false
  pub no_bar : get_or xs k 0 ≡ 95 → ⊥
  pub no_more : k < length xs → ltb (digit_value (get_or xs k 0)) base ≡ false

nothing_read : (base : ℕ) (wanted : Bool) (value at n : ℕ) → (wanted ≡ true → false ≡ true) → value ≡ n
    → digits base wanted value at [] ≡ done n (at + 0)
unfolding digits
nothing_read base true value at n free same = absurd (not_true (free refl))
nothing_read base false value at n free same = let e : at + 0 ≡ at = omega arith in rw (e, same) refl

stop_read : (wanted : Bool) (x : ℕ) (xs : List ℕ) (base value at n : ℕ) → (wanted ≡ true → false ≡ true)
    → Ends base (x ∷ xs) zero → value ≡ n → digits base wanted value at (x ∷ xs) ≡ done n (at + 0)
stop_read true x xs base value at n free ends same = absurd (not_true (free refl))
stop_read false x xs base value at n free ends same =
    let e : at + 0 ≡ at = omega arith in
    let other : eqb x 95 ≡ false = elim (cases_Bool (eqb x 95)) [
      | inl bar ↦ absurd (ends.no_bar (eqb-true x 95 bar))
      | inr other ↦ other
    ] in
    step base false value at x xs ∙ rw (ends.no_more (omega arith), ends.no_digit, other, e, same) refl

bar_read : (wanted : Bool) (x : ℕ) (xs : List ℕ) (base value at n end : ℕ) → base ≤ 16 → x ≡ 95
    → (wanted ≡ true → ltb (digit_value x) base ≡ true) → digits base true value (at + 1) xs ≡ done n end
    → digits base wanted value at (x ∷ xs) ≡ done n end
bar_read true x xs base value at n end small bar free h =
    let is_none : ltb (digit_value x) base ≡ false = rw bar (bar_no_digit base small) in
    absurd (not_true (sym is_none ∙ free refl))
bar_read false x xs base value at n end small bar free h =
    let is_none : ltb (digit_value x) base ≡ false = rw bar (bar_no_digit base small) in
    let digit : is_digit x ≡ false = rw bar refl in
    let is_one : eqb x 95 ≡ true = eq-eqb x 95 bar in
    step base false value at x xs ∙ rw (is_none, digit, is_one) h

pub digits_read : (k : ℕ) (xs : List ℕ) (base : ℕ) (wanted : Bool) (value at n : ℕ) → base ≤ 16
    → GoesOn base value (take k xs) n → k ≤ length xs → Ends base xs k
    → (wanted ≡ true → begins_with_digit base (take k xs) ≡ true) → digits base wanted value at xs ≡ done n (at + k)
digits_read zero [] base wanted value at n small g few ends begins = nothing_read base wanted value at n begins g
digits_read (suc k) [] base wanted value at n small g few ends begins = absurd (omega (arith, few))
digits_read zero (x ∷ xs) base wanted value at n small g few ends begins =
    stop_read wanted x xs base value at n begins ends g
digits_read (suc k) (x ∷ xs) base wanted value at n small g few ends begins =
    let e : at + 1 + k ≡ at + suc k = omega arith in
    let rest : Ends base xs k = record {
      no_digit = ends.no_digit;
      no_bar = ends.no_bar;
      no_more = λ h. ends.no_more (omega (arith, h));
    } in
    elim g [
      | inl p ↦ step base wanted value at x xs ∙ rw (p.0, ← e)
          (digits_read k xs base false (value * base + digit_value x) (at + 1) n small p.1 (omega (arith, few)) rest
          (λ w. absurd (not_true w)))
      | inr p ↦ bar_read wanted x xs base value at n (at + suc k) small p.0 begins
          (rw (← e) (digits_read k xs base true value (at + 1) n small p.2 (omega (arith, few)) rest (λ w. p.1)))
    ]

-- ---- integers

pub record RadixFits (r : ℕ × ℕ) : Type 0 where
  pub small : r.0 ≤ 16

fits : (base from : ℕ) → base ≤ 16 → RadixFits (base, from)
fits base from h = record { small = h }

chosen : (t : Bool) (x y : ℕ × ℕ) → RadixFits x → RadixFits y → RadixFits (if t then x else y)
chosen true x y a b = a
chosen false x y a b = b

pub radix_small : (text : List ℕ) (at : ℕ) → RadixFits (radix_at text at)
unfolding radix_at
radix_small text at =
    let next = get_or text (at + 1) 0 in
    chosen (not (eqb (get_or text at 0) 48)) _ _ (fits 10 at (omega arith))
    (chosen (eqb next 98 || eqb next 66) _ _ (fits 2 (at + 2) (omega arith))
    (chosen (eqb next 111 || eqb next 79) _ _ (fits 8 (at + 2) (omega arith))
    (chosen (eqb next 100 || eqb next 68) _ _ (fits 10 (at + 2) (omega arith))
    (chosen (eqb next 120 || eqb next 88) _ _ (fits 16 (at + 2) (omega arith))
    (chosen (is_digit next || eqb next 95) _ _ (fits 8 at (omega arith)) (fits 10 at (omega arith)))))))

zero_times : (base d : ℕ) → 0 * base + d ≡ d
zero_times base d = omega arith

numeral_goes : (base : ℕ) (bytes : List ℕ) (n : ℕ) → IsNumeral base bytes n
    → GoesOn base 0 bytes n × (begins_with_digit base bytes ≡ true)
numeral_goes base [] n h = absurd h
numeral_goes base (x ∷ xs) n h = (inl (h.0, rw (zero_times base (digit_value x)) h.1), h.0)

goes_numeral : (base : ℕ) (bytes : List ℕ) (n : ℕ) → base ≤ 16 → GoesOn base 0 bytes n
    → begins_with_digit base bytes ≡ true → IsNumeral base bytes n
goes_numeral base [] n small g h = absurd (cc)
goes_numeral base (x ∷ xs) n small g h =
    elim g [
      | inl p ↦ (h, rw (zero_times base (digit_value x)) at p.1)
      | inr p ↦
          let is_none : ltb (digit_value x) base ≡ false = rw (p.0) (bar_no_digit base small) in
          absurd (not_true (sym is_none ∙ h))
    ]

some_bytes : (base : ℕ) (xs : List ℕ) → begins_with_digit base xs ≡ true → 0 < length xs
some_bytes base [] h = absurd (cc)
some_bytes base (x ∷ xs) h = omega arith

abbrev pub base_at : List ℕ → ℕ → ℕ
base_at text at = (radix_at text at).0

abbrev pub from_at : List ℕ → ℕ → ℕ
from_at text at = (radix_at text at).1

pub whole_sound : (text : List ℕ) (at n end : ℕ) → digits (base_at text at) true 0 (from_at text at)
    (drop (from_at text at) text) ≡ done n end → IsWholeInteger text at end n
whole_sound text at n end h =
    let base = base_at text at in
    let from = from_at text at in
    let small = (radix_small text at).small in
    let d = digits_ok (drop from text) base true 0 from n end h in
    let s = d.some refl in
    let len : length (drop from text) ≡ length text - from = length-drop from text in
    let some = some_bytes base (drop from text) s.0 in
    let e : from + (end - from) ≡ end = omega (arith, d.forward) in
    let same : get_or (drop from text) (end - from) 0 ≡ get_or text end 0 = rw (get_or-drop, e) refl in
    record {
      there = record {
        forward = d.forward;
        within = omega (arith, d.within, len, some);
        numeral = goes_numeral base (take (end - from) (drop from text)) n small d.goes
            (begins_take base (end - from) (drop from text) (omega (arith, s.1)) s.0);
      };
      longest = λ other m is.
          let g = numeral_goes base (take (other - from) (drop from text)) m is.numeral in
          let far = digits_long (other - from) (drop from text) base true 0 from m n end small g.0
          (omega (arith, len, is.within, is.forward)) h in
          omega (arith, far, is.forward);
      no_digit = rw (← same) (d.no_digit (end - from) e);
      no_bar = rw (← same) (d.no_bar (end - from) e);
    }

pub whole_complete : (text : List ℕ) (at n end : ℕ) → IsWholeInteger text at end n
    → digits (base_at text at) true 0 (from_at text at) (drop (from_at text at) text) ≡ done n end
whole_complete text at n end w =
    let base = base_at text at in
    let from = from_at text at in
    let small = (radix_small text at).small in
    let k = end - from in
    let len : length (drop from text) ≡ length text - from = length-drop from text in
    let e : from + (end - from) ≡ end = omega (arith, w.there.forward) in
    let same : get_or (drop from text) (end - from) 0 ≡ get_or text end 0 = rw (get_or-drop, e) refl in
    let g = numeral_goes base (take (end - from) (drop from text)) n w.there.numeral in
    let no_more : (end - from) < length (drop from text) → ltb (digit_value (get_or (drop from text) (end - from) 0))
    base ≡ false =
    λ few. elim (cases_Bool (ltb (digit_value (get_or (drop from text) (end - from) 0)) base)) [
      | inl digit ↦
          let r = one_more (end - from) (drop from text) base 0 n g.0 few digit in
          let f : suc (end - from) ≡ end + 1 - from = omega (arith, w.there.forward) in
          let longer : IsInteger text at (end + 1) (r.0) = record {
            forward = omega (arith, w.there.forward);
            within = omega (arith, few, len);
            numeral = rw (← f) (goes_numeral base (take (suc (end - from)) (drop from text)) (r.0) small r.1
                (begins_digit base (end - from) (drop from text) g.1));
          } in
          absurd (omega (arith, w.longest (end + 1) (r.0) longer))
      | inr none ↦ none
    ] in
    let ends : Ends base (drop from text) (end - from) = record {
      no_digit = rw same w.no_digit;
      no_bar = rw same w.no_bar;
      no_more = no_more;
    } in
    digits_read (end - from) (drop from text) base true 0 from n small g.0
    (omega (arith, len, w.there.within, w.there.forward)) ends (λ x. g.1) ∙ ap (done n) e

abbrev pub scanned : ℕ → ℕ → Result Scanned Fault
scanned n end = Ok (record { end = end; value = narrow n })

bound : (r : Result (ℕ × ℕ) Fault) (s : Scanned) → (r >>= λ d. scanned d.0 d.1) ≡ Ok s
    → (d : ℕ × ℕ) × (r ≡ Ok d) × (scanned d.0 d.1 ≡ Ok s)
bound (Ok d) s h = (d, refl, h)
bound (Err f) s h = absurd (cc)

scanned_is : (n end : ℕ) (s : Scanned) → scanned n end ≡ Ok s → (end ≡ s.end) × (s.value ≡ narrow n)
scanned_is n end s h =
    let r : Scanned = record { end = end; value = narrow n } in
    let e : r ≡ s = cc in (ap (λ (x : Scanned). x.end) e, sym (ap (λ (x : Scanned). x.value) e))

pub integer_sound : (text : List ℕ) (at : ℕ) (s : Scanned) → integer_at text at ≡ Ok s
    → (n : ℕ) × IsWholeInteger text at s.end n × (s.value ≡ narrow n)
unfolding integer_at
integer_sound text at s h =
    let b = bound (digits (base_at text at) true 0 (from_at text at) (drop (from_at text at) text)) s h in
    let n = b.0.0 in
    let end = b.0.1 in
    let p = scanned_is n end s b.2 in
    (n, subst (λ (e : ℕ). IsWholeInteger text at e n) p.0 (whole_sound text at n end b.1), p.1)

pub integer_complete : (text : List ℕ) (at end n : ℕ) → IsWholeInteger text at end n
    → integer_at text at ≡ scanned n end
unfolding integer_at
integer_complete text at end n w = ap (λ (r : Result (ℕ × ℕ) Fault). r >>= λ d. scanned d.0 d.1)
    (whole_complete text at n end w)
