-- Which token an integer is.
use Rattle.std.proofs.Common.{◌≡◌, ℕ, ◌+◌, ◌<◌, ◌≤◌, List, drop, get_or, arith, refl, sym, ap, ◌∙◌, subst, Bool, true, false, eqb, leb, not, ◌||◌, ◌&&◌, inl, inr, ◌⊎◌, if◌then◌else◌, Option, Some, None, Result, Ok, Err}
use Rattle.std.proofs.lemmas.Bool.{cases_Bool, eqb-true, eq-eqb, le-leb, lt-leb}
use Rattle.rb_syntax.specs.declared.token.TokenKind.TheVariants as kinds
use Rattle.rb_syntax.specs.declared.outside.Outside.TheVariants as outsides
use Rattle.lexer_literals.specs.declared.fault.Fault.{Fault}
use Rattle.lexer_literals.specs.declared.integers.Scanned.{Scanned}
use Rattle.lexer_literals.specs.declared.numbers.Number.{Number}
use Rattle.lexer_literals.specs.declared.numbers.Tail.{Tail}
use Rattle.lexer_literals.specs.declared.numbers.Tail.TheVariants as tails
use Rattle.lexer_literals.specs.Kinds.{is_digit, goes_on}
use Rattle.lexer_literals.specs.Integers.{digits, radix_at, narrow, integer_at}
use Rattle.rb_base.specs.Result.{◌>>=◌}
use Rattle.lexer_literals.specs.Numbers.{is_plain, decimal_end, fraction_end, sign_end, exponent_end, parts_end, suffix_at, numeral_at}
use Rattle.lexer_steps.specs.State.{State}
use Rattle.lexer_steps.specs.Signs.{number_step}
use Rattle.lexer_laws.specs.Numbers.{IsWholeInteger, NoTail, IsNarrowInteger, IsWideInteger}
use Rattle.lexer_laws.specs.Place.{after, after_outside}
use Rattle.lexer_laws.specs.Reads.{value_at, is_newline, bars_after}
use Rattle.lexer_laws.specs.Taking.{took}
use Rattle.lexer_laws.proofs.Steps.{passed, not_both}
use Rattle.lexer_laws.proofs.Numbers.{digits_ok, integer_complete, integer_sound}

abbrev placed : ℕ → Result ℕ Fault
placed at = Ok at

abbrev both : ℕ → ℕ → Result (ℕ × ℕ) Fault
both a b = Ok (a, b)

abbrev pub counted : ℕ → Option ℕ → Result Number Fault
counted end value = Ok (record { end = end; value = value; tail = tails.Nothing })

-- ---- no tail

fraction_none : (text : List ℕ) (end : ℕ) → (get_or text end 0 ≡ 46 → is_digit (get_or text (end + 1) 0) ≡ false)
    → fraction_end text end ≡ placed end
unfolding fraction_end
fraction_none text end h =
    elim (cases_Bool (eqb (get_or text end 0) 46)) [
      | inl point ↦ rw (point, h (eqb-true (get_or text end 0) 46 point)) refl
      | inr other ↦ rw other refl
    ]

exponent_none : (text : List ℕ) (end : ℕ) → ((get_or text end 0 ≡ 101) ⊎ (get_or text end 0 ≡ 69)
    → is_digit (get_or text (sign_end text (end + 1)) 0) ≡ false) → exponent_end text end ≡ placed end
unfolding exponent_end
exponent_none text end h =
    elim (cases_Bool (eqb (get_or text end 0) 101)) [
      | inl small ↦ rw (small, h (inl (eqb-true (get_or text end 0) 101 small))) refl
      | inr other ↦ elim (cases_Bool (eqb (get_or text end 0) 69)) [
        | inl capital ↦ rw (other, capital, h (inr (eqb-true (get_or text end 0) 69 capital))) refl
        | inr none ↦ rw (other, none) refl
      ]
    ]

parts_none : (text : List ℕ) (at end : ℕ) → NoTail text at end → parts_end text at end ≡ both end end
unfolding parts_end
parts_none text at end t =
    elim (cases_Bool (is_plain (radix_at text at) at)) [
      | inl plain ↦ rw (
        plain,
        fraction_none text end (t.no_fraction plain),
        exponent_none text end
            (t.no_exponent plain),
      ) refl
      | inr other ↦ rw other refl
    ]

suffix_none : (text : List ℕ) (at end : ℕ) → NoTail text at end
    → suffix_at text end false tails.Nothing ≡ (end, tails.Nothing)
unfolding suffix_at
suffix_none text at end t =
    elim (cases_Bool (eqb (get_or text end 0) 105)) [
      | inl i ↦
          let e = eqb-true (get_or text end 0) 105 i in
          rw (t.no_imaginary e, e) refl
      | inr no_i ↦ elim (cases_Bool (eqb (get_or text end 0) 114)) [
        | inl r ↦
            let e = eqb-true (get_or text end 0) 114 r in
            elim (cases_Bool (eqb (get_or text (end + 1) 0) 105)) [
              | inl more ↦
                  let f = eqb-true (get_or text (end + 1) 0) 105 more in
                  let g : goes_on 105 ≡ true = refl in
                  rw (no_i, r, t.no_rational e, more, t.no_rational_imaginary e f) refl
              | inr none ↦ rw (no_i, r, t.no_rational e, none) refl
            ]
        | inr no_r ↦ rw (no_i, no_r) refl
      ]
    ]

pub numeral_read : (text : List ℕ) (at end n : ℕ) → IsWholeInteger text at end n → NoTail text at end
    → numeral_at text at ≡ counted end (narrow n)
unfolding numeral_at
numeral_read text at end n w t =
    let same : eqb end end ≡ true = eq-eqb end end refl in
    rw (integer_complete text at end n w, parts_none text at end t, same, suffix_none text at end t) refl

narrow_small : (n : ℕ) → n ≤ 9223372036854775808 → narrow n ≡ Some n
narrow_small n h = let t : leb n 9223372036854775808 ≡ true = le-leb n 9223372036854775808 h in rw t refl

narrow_great : (n : ℕ) → 9223372036854775808 < n → narrow n ≡ None
narrow_great n h = let t : leb n 9223372036854775808 ≡ false = lt-leb n 9223372036854775808 h in rw t refl

pub integer_read : (text : List ℕ) (at end n : ℕ) (s : State) → IsNarrowInteger text at end n
    → number_step text at s ≡ passed (took s at (kinds.Integer n)) end
unfolding number_step after value_at is_newline bars_after
integer_read text at end n s i = rw (numeral_read text at end n i.literal i.no_tail, narrow_small n i.small) refl

pub wide_read : (text : List ℕ) (at end : ℕ) (s : State) → IsWideInteger text at end
    → number_step text at s ≡ passed (took s at (kinds.Outside outsides.WideInteger)) end
unfolding number_step after after_outside value_at is_newline bars_after
wide_read text at end s i = rw (numeral_read text at end i.value i.literal i.no_tail, narrow_great i.value i.great) refl

-- ---- a number without a tail is such an integer

bind_ok : {A B : Type 0} → (r : Result A Fault) (f : A → Result B Fault) (b : B) → (r >>= f) ≡ Ok b
    → (x : A) × (r ≡ Ok x) × (f x ≡ Ok b)
bind_ok (Ok x) f b h = (x, refl, h)
bind_ok (Err e) f b h = absurd (cc)

placed_is : (a b : ℕ) → placed a ≡ placed b → a ≡ b
placed_is a b h = cc

sign_forward : (text : List ℕ) (at : ℕ) → at ≤ sign_end text at
unfolding sign_end
sign_forward text at =
    elim (cases_Bool (eqb (get_or text at 0) 43 || eqb (get_or text at 0) 45)) [
      | inl sign ↦ rw sign (omega arith)
      | inr none ↦ rw none (omega arith)
    ]

decimal_forward : (text : List ℕ) (at end : ℕ) → decimal_end text at ≡ placed end → at ≤ end
decimal_forward text at end h =
    let b = bind_ok (digits 10 true 0 at (drop at text)) (λ (d : ℕ × ℕ). placed d.1) end h in
    let e = placed_is b.0.1 end b.2 in
    omega (arith, (digits_ok (drop at text) 10 true 0 at b.0.0 b.0.1 b.1).forward, e)

abbrev is_fraction : List ℕ → ℕ → Bool
is_fraction text at = eqb (get_or text at 0) 46 && is_digit (get_or text (at + 1) 0)

abbrev is_exponent : List ℕ → ℕ → Bool
is_exponent text at = (eqb (get_or text at 0) 101 || eqb (get_or text at 0) 69) && is_digit
    (get_or text (sign_end text (at + 1)) 0)

pub record Part (at end : ℕ) (stands : Bool) : Type 0 where
  pub forward : at ≤ end
  pub none : end ≡ at → stands ≡ false

fraction_part : (text : List ℕ) (at end : ℕ) → fraction_end text at ≡ placed end → Part at end (is_fraction text at)
unfolding fraction_end
fraction_part text at end h =
    elim (cases_Bool (is_fraction text at)) [
      | inl some ↦
          let f = decimal_forward text (at + 1) end (rw some at h) in
          record { forward = omega (arith, f); none = λ e. absurd (omega (arith, f, e)) }
      | inr none ↦
          let e = placed_is at end (rw none at h) in
          record { forward = omega (arith, e); none = λ e. none }
    ]

exponent_part : (text : List ℕ) (at end : ℕ) → exponent_end text at ≡ placed end → Part at end (is_exponent text at)
unfolding exponent_end
exponent_part text at end h =
    elim (cases_Bool (is_exponent text at)) [
      | inl some ↦
          let f = decimal_forward text (sign_end text (at + 1)) end (rw some at h) in
          record {
            forward = omega (arith, f, sign_forward text (at + 1));
            none = λ e. absurd (omega (arith, f, e, sign_forward text (at + 1)));
          }
      | inr none ↦
          let e = placed_is at end (rw none at h) in
          record { forward = omega (arith, e); none = λ e. none }
    ]

pub record Parts (text : List ℕ) (at end fraction exponent : ℕ) : Type 0 where
  pub first : end ≤ fraction
  pub second : fraction ≤ exponent
  pub no_fraction : exponent ≡ end → is_plain (radix_at text at) at ≡ true → is_fraction text end ≡ false
  pub no_exponent : exponent ≡ end → is_plain (radix_at text at) at ≡ true → is_exponent text end ≡ false

parts_are : (text : List ℕ) (at end : ℕ) (p : ℕ × ℕ) → parts_end text at end ≡ both p.0 p.1 → Parts text at end p.0 p.1
unfolding parts_end
parts_are text at end p h =
    elim (cases_Bool (is_plain (radix_at text at) at)) [
      | inl plain ↦
          let b = bind_ok (fraction_end text end) (λ (f : ℕ). exponent_end text f >>= λ (e : ℕ). both f e) p
          (rw plain at h) in
          let c = bind_ok (exponent_end text b.0) (λ (e : ℕ). both b.0 e) p b.2 in
          let pair : (b.0, c.0) ≡ p = cc in
          let f : b.0 ≡ p.0 = ap (λ (q : ℕ × ℕ). q.0) pair in
          let e : c.0 ≡ p.1 = ap (λ (q : ℕ × ℕ). q.1) pair in
          let fraction = fraction_part text end b.0 b.1 in
          let exponent = exponent_part text b.0 c.0 c.1 in
          record {
            first = omega (arith, f, fraction.forward);
            second = omega (arith, f, e, exponent.forward);
            no_fraction = λ same plain. fraction.none (omega (arith, f, e, same, fraction.forward, exponent.forward));
            no_exponent = λ same plain.
                let here : b.0 ≡ end = omega (arith, f, e, same, fraction.forward, exponent.forward) in
                subst (λ (k : ℕ). is_exponent text k ≡ false) here
                (exponent.none (omega (arith, f, e, same, fraction.forward, exponent.forward)));
          }
      | inr other ↦
          let whole : both end end ≡ both p.0 p.1 = rw other at h in
          let pair : (end, end) ≡ p = cc in
          let f : end ≡ p.0 = ap (λ (q : ℕ × ℕ). q.0) pair in
          let e : end ≡ p.1 = ap (λ (q : ℕ × ℕ). q.1) pair in
          record {
            first = omega (arith, f);
            second = omega (arith, f, e);
            no_fraction = λ same plain. absurd (not_both _ plain other);
            no_exponent = λ same plain. absurd (not_both _ plain other);
          }
    ]

abbrev ended : ℕ → Tail → ℕ × Tail
ended at tail = (at, tail)

pub record Suffix (text : List ℕ) (at to : ℕ) (has_exponent : Bool) (tail : Tail) : Type 0 where
  pub same : at ≡ to
  pub tail_is : tail ≡ tails.Nothing
  pub no_imaginary : get_or text at 0 ≡ 105 → goes_on (get_or text (at + 1) 0) ≡ true
  pub no_rational : has_exponent ≡ false → get_or text at 0 ≡ 114 → goes_on (get_or text (at + 1) 0) ≡ true
  pub no_rational_imaginary : has_exponent ≡ false → get_or text at 0 ≡ 114 → get_or text (at + 1) 0 ≡ 105
      → goes_on (get_or text (at + 2) 0) ≡ true

-- a letter that no name goes on after would be a suffix
goes_there : (b v : ℕ) (on : Bool) → (eqb b v && not on) ≡ false → b ≡ v → on ≡ true
goes_there b v true h e = refl
goes_there b v false h e = let t : eqb b v ≡ true = eq-eqb b v e in absurd (not_both true refl (rw t at h))

no_suffix : (at to : ℕ) (tail : Tail) → (tails.Nothing ≡ tail → ⊥) → ended at tail ≡ ended to tails.Nothing → ⊥
no_suffix at to tail other h = other (sym (ap (λ (p : ℕ × Tail). p.1) h))

suffix_is : (text : List ℕ) (at to : ℕ) (has_exponent : Bool) (tail : Tail)
    → suffix_at text at has_exponent tail ≡ ended to tails.Nothing → Suffix text at to has_exponent tail
unfolding suffix_at
suffix_is text at to has_exponent tail h =
    elim (cases_Bool (eqb (get_or text at 0) 105 && not (goes_on (get_or text (at + 1) 0)))) [
      | inl i ↦ absurd (no_suffix (at + 1) to tails.Imaginary (λ e. absurd (cc)) (rw i at h))
      | inr no_i ↦ elim (cases_Bool (has_exponent || not (eqb (get_or text at 0) 114))) [
        | inl none ↦
            let e : ended at tail ≡ ended to tails.Nothing = rw (no_i, none) at h in
            let no_r : has_exponent ≡ false → get_or text at 0 ≡ 114
            → ⊥ = λ x r. let t : eqb (get_or text at 0) 114 ≡ true = eq-eqb (get_or text at 0) 114 r in
            not_both false (rw (x, t) at none) refl in
            record {
              same = ap (λ (p : ℕ × Tail). p.0) e;
              tail_is = ap (λ (p : ℕ × Tail). p.1) e;
              no_imaginary = goes_there (get_or text at 0) 105 (goes_on (get_or text (at + 1) 0)) no_i;
              no_rational = λ x r. absurd (no_r x r);
              no_rational_imaginary = λ x r i. absurd (no_r x r);
            }
        | inr r ↦ elim (cases_Bool (goes_on (get_or text (at + 1) 0))) [
          | inr ends ↦ absurd (no_suffix (at + 1) to tails.Rational (λ e. absurd (cc)) (rw (no_i, r, ends) at h))
          | inl on ↦ elim (cases_Bool (eqb (get_or text (at + 1) 0) 105 && not (goes_on (get_or text (at + 2) 0)))) [
            | inl i ↦ absurd (no_suffix (at + 2) to tails.Imaginary (λ e. absurd (cc)) (rw (no_i, r, on, i) at h))
            | inr none ↦
                let e : ended at tail ≡ ended to tails.Nothing = rw (no_i, r, on, none) at h in
                record {
                  same = ap (λ (p : ℕ × Tail). p.0) e;
                  tail_is = ap (λ (p : ℕ × Tail). p.1) e;
                  no_imaginary = goes_there (get_or text at 0) 105 (goes_on (get_or text (at + 1) 0)) no_i;
                  no_rational = λ x r. on;
                  no_rational_imaginary = λ x r. goes_there (get_or text (at + 1) 0) 105
                      (goes_on (get_or text (at + 2) 0)) none;
                }
          ]
        ]
      ]
    ]

and_none : (a b : Bool) → (a && b) ≡ false → a ≡ true → b ≡ false
and_none true b h e = h
and_none false b h e = absurd (not_both false e refl)

or_left : (a b : Bool) → a ≡ true → (a || b) ≡ true
or_left true b h = refl
or_left false b h = absurd (not_both false h refl)

or_right : (a b : Bool) → b ≡ true → (a || b) ≡ true
or_right true b h = refl
or_right false b h = h

is_exponent_letter : (b : ℕ) → (b ≡ 101) ⊎ (b ≡ 69) → (eqb b 101 || eqb b 69) ≡ true
is_exponent_letter b (inl e) = or_left (eqb b 101) (eqb b 69) (eq-eqb b 101 e)
is_exponent_letter b (inr e) = or_right (eqb b 101) (eqb b 69) (eq-eqb b 69 e)

float_or_not : (a b : ℕ) → (if eqb a b then tails.Nothing else tails.Float) ≡ tails.Nothing → a ≡ b
float_or_not a b h =
    elim (cases_Bool (eqb a b)) [
      | inl same ↦ eqb-true a b same
      | inr other ↦ let bad : tails.Float ≡ tails.Nothing = rw other at h in absurd (cc)
    ]

same_none : (a b : ℕ) → a ≡ b → not (eqb a b) ≡ false
same_none a b e = rw (eq-eqb a b e) refl

abbrev tail_of : ℕ → ℕ → Tail
tail_of a b = if eqb a b then tails.Nothing else tails.Float

no_tail : (text : List ℕ) (at end to : ℕ) (p : ℕ × ℕ) → Parts text at end p.0 p.1
    → Suffix text p.1 to (not (eqb p.0 p.1)) (tail_of p.1 end) → (end ≡ to) × NoTail text at end
no_tail text at end to p parts suffix =
    let e : p.1 ≡ end = float_or_not p.1 end suffix.tail_is in
    let none : not (eqb p.0 p.1) ≡ false = same_none p.0 p.1 (omega (arith, e, parts.first, parts.second)) in
    let imaginary = subst (λ (k : ℕ). get_or text k 0 ≡ 105
    → goes_on (get_or text (k + 1) 0) ≡ true) e suffix.no_imaginary in
    let rational = subst (λ (k : ℕ). get_or text k 0 ≡ 114
    → goes_on (get_or text (k + 1) 0) ≡ true) e (suffix.no_rational none) in
    let both_letters = subst (λ (k : ℕ). get_or text k 0 ≡ 114 → get_or text (k + 1) 0 ≡ 105
    → goes_on (get_or text (k + 2) 0) ≡ true) e (suffix.no_rational_imaginary none) in (
      sym e ∙ suffix.same,
      record {
        no_fraction = λ plain point. and_none (eqb (get_or text end 0) 46) _ (parts.no_fraction e plain)
            (eq-eqb (get_or text end 0) 46 point);
        no_exponent = λ plain letter. and_none (eqb (get_or text end 0) 101 || eqb (get_or text end 0) 69) _
            (parts.no_exponent e plain) (is_exponent_letter (get_or text end 0) letter);
        no_imaginary = imaginary;
        no_rational = rational;
        no_rational_imaginary = both_letters;
      },
    )

number : ℕ × Tail → Option ℕ → Result Number Fault
number s value = Ok (record { end = s.0; value = value; tail = s.1 })

abbrev suffix_of : List ℕ → ℕ → ℕ × ℕ → ℕ × Tail
suffix_of text end p = suffix_at text p.1 (not (eqb p.0 p.1)) (tail_of p.1 end)

pub number_token : (text : List ℕ) (at : ℕ) (m : Number) → numeral_at text at ≡ Ok m → m.tail ≡ tails.Nothing
    → (n : ℕ) × IsWholeInteger text at m.end n × NoTail text at m.end × (m.value ≡ narrow n)
unfolding numeral_at number
number_token text at m h none =
    let b = bind_ok (integer_at text at) (λ (i : Scanned). parts_end text at i.end >>= λ (p : ℕ × ℕ). number
    (suffix_of text i.end p) i.value) m h in
    let i = b.0 in
    let c = bind_ok (parts_end text at i.end) (λ (p : ℕ × ℕ). number (suffix_of text i.end p) i.value) m b.2 in
    let p = c.0 in
    let made : Number = record {
      end = (suffix_of text i.end p).0;
      value = i.value;
      tail = (suffix_of text i.end p).1;
    } in
    let is : made ≡ m = cc in
    let ends : (suffix_of text i.end p).0 ≡ m.end = ap (λ (k : Number). k.end) is in
    let value : i.value ≡ m.value = ap (λ (k : Number). k.value) is in
    let tail : (suffix_of text i.end p).1 ≡ tails.Nothing = ap (λ (k : Number). k.tail) is ∙ none in
    let pair : suffix_of text i.end p ≡ ended m.end tails.Nothing =
    ap (λ (k : ℕ). ended k (suffix_of text i.end p).1) ends ∙ ap (λ (t : Tail). ended m.end t) tail in
    let suffix = suffix_is text p.1 m.end (not (eqb p.0 p.1)) (tail_of p.1 i.end) pair in
    let tailless = no_tail text at i.end m.end p (parts_are text at i.end p c.1) suffix in
    let w = integer_sound text at i b.1 in (
      w.0,
      subst (λ (k : ℕ). IsWholeInteger text at k w.0) tailless.0 w.1,
      subst (λ (k : ℕ). NoTail text at k) tailless.0
          tailless.1,
      sym value ∙ w.2,
    )
