-- Digits one after another.
use Rattle.std.proofs.Common.{◌≡◌, ℕ, zero, ◌+◌, ◌*◌, ◌<◌, ◌≤◌, Bool, true, false, cond, ◌&&◌, eqb, List, [], ◌∷◌, length, get_or, drop, Option, refl, sym, ap, subst, ◌∙◌, arith}
use Rattle.std.proofs.lemmas.List.{drop_more, drop_all, get_or-drop}
use Rattle.std.specs.Prelude.{SomeIff}
use Rattle.std.proofs.lemmas.Bool.{cond-true, cond-false, and_from, eq-eqb, ne_eqb}
use Rattle.rb_string.specs.Numeral.{is_digit, digit_value, digits, number}

neither : {A : Type 0} (b : Bool) (x y : A) → cond (b && false) x y ≡ y
neither true x y = refl
neither false x y = refl

next_byte : (text : List ℕ) (at : ℕ) → get_or (drop (at + 1) text) 0 0 ≡ get_or text (at + 1) 0
next_byte text at = let same : at + 1 + 0 ≡ at + 1 = omega arith in
    get_or-drop (at + 1) text 0 0 ∙ ap (λ k. get_or text k 0) same

-- what the digits from a place on are
pub digits_here : (base value : ℕ) (text : List ℕ) (at : ℕ) → at < length text
    → digits base value (drop at text) ≡ cond (is_digit base (get_or text at 0))
    (digits base (value * base + digit_value (get_or text at 0)) (drop (at + 1) text))
    (cond (eqb (get_or text at 0) 95 && is_digit base (get_or text (at + 1) 0))
    (digits base value (drop (at + 1) text)) value)
unfolding digits
digits_here base value text at here = rw (drop_more text at 0 here) (rw (next_byte text at) refl)

pub digits_end : (base value : ℕ) (text : List ℕ) (at : ℕ) → length text ≤ at
    → digits base value (drop at text) ≡ value
unfolding digits
digits_end base value text at here = rw (drop_all at text here) refl

pub digits_more : (base value : ℕ) (text : List ℕ) (at : ℕ) → at < length text
    → is_digit base (get_or text at 0) ≡ true
    → digits base (value * base + digit_value (get_or text at 0)) (drop (at + 1) text) ≡ digits base value (drop at text)
digits_more base value text at here is = sym (digits_here base value text at here ∙ cond-true _ _ _ is)

pub digits_pass : (base value : ℕ) (text : List ℕ) (at : ℕ) → at < length text
    → is_digit base (get_or text at 0) ≡ false → get_or text at 0 ≡ 95 → is_digit base (get_or text (at + 1) 0) ≡ true
    → digits base value (drop (at + 1) text) ≡ digits base value (drop at text)
digits_pass base value text at here none line next =
    let test : (eqb (get_or text at 0) 95 && is_digit base (get_or text (at + 1) 0)) ≡ true =
    and_from _ _ (eq-eqb _ _ line) next in
    sym (digits_here base value text at here ∙ cond-false _ _ _ none ∙ cond-true _ _ _ test)

pub digits_other : (base value : ℕ) (text : List ℕ) (at : ℕ) → at < length text
    → is_digit base (get_or text at 0) ≡ false → (get_or text at 0 ≡ 95 → ⊥)
    → digits base value (drop at text) ≡ value
digits_other base value text at here none other =
    let test : eqb (get_or text at 0) 95 ≡ false = ne_eqb _ _ other in
    digits_here base value text at here ∙ cond-false _ _ _ none
    ∙ ap (λ t. cond (t && is_digit base (get_or text (at + 1) 0)) (digits base value (drop (at + 1) text)) value) test

pub digits_last : (base value : ℕ) (text : List ℕ) (at : ℕ) → at < length text
    → is_digit base (get_or text at 0) ≡ false → is_digit base (get_or text (at + 1) 0) ≡ false
    → digits base value (drop at text) ≡ value
digits_last base value text at here none next =
    digits_here base value text at here ∙ cond-false _ _ _ none
    ∙ ap (λ t. cond (eqb (get_or text at 0) 95 && t) (digits base value (drop (at + 1) text)) value) next
    ∙ neither (eqb (get_or text at 0) 95) (digits base value (drop (at + 1) text)) value

pub number_none : (base : ℕ) (text : List ℕ) → is_digit base (get_or text 0 0) ≡ false → number base text ≡ 0
unfolding number
number_none base text none = cond-false _ _ _ none

pub number_some : (base : ℕ) (text : List ℕ) → is_digit base (get_or text 0 0) ≡ true
    → number base text ≡ digits base 0 text
unfolding number
number_some base text some = cond-true _ _ _ some

-- the value that was kept is that of the number
pub number_kept : (base n : ℕ) (text : List ℕ) (value : Option ℕ) → is_digit base (get_or text 0 0) ≡ true
    → digits base 0 text ≡ n → SomeIff value (n ≤ 9223372036854775808) n
    → SomeIff value (number base text ≤ 9223372036854775808) (number base text)
number_kept base n text value some is kept =
    subst (λ k. SomeIff value (k ≤ 9223372036854775808) k) (sym (number_some base text some ∙ is)) kept
