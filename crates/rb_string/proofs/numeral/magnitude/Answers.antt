use Rattle.std.proofs.Common.{◌≡◌, ◌+◌, ◌*◌, ◌≤◌, true, false, get_or, drop, refl, sym, ap, ◌∙◌, arith}
use Rattle.rb_string.specs.Numeral.{is_digit, digits, number}
use Rattle.rb_string.proofs.Digits.{digits_end, digits_more, digits_pass, digits_other, digits_last, number_none, number_kept}
use Rattle.rb_string.proofs.numeral.magnitude.Goals as goal
use Rattle.rb_string.proofs.numeral.magnitude.Goals.{then-is_digit, else-is_digit+else-byte-ne95+else-not-is_digit-2, then-byte-ne95-via-then-byte-ne95, then-byte-ne95-via-else-byte-ne95+then-not-is_digit-2}

pub returns-then-not-is_digit : goal.returns-then-not-is_digit
returns-then-not-is_digit c =
    let none : is_digit c.args.base (get_or c.args.text.now 0 0) ≡ false =
    ap (is_digit c.args.base) (sym c.byte_or_zero.ensures) ∙ sym c.if-not-is_digit.ensures in
    let zero_is : number c.args.base c.args.text.now ≡ 0 = number_none c.args.base c.args.text.now none in
    (omega arith, sym zero_is)

pub digits-preserved : goal.digits-preserved
digits-preserved c =
    let n = c.digits.invariant.same.0 in
    elim c.if-is_digit.branch [
      | then-is_digit w ↦
          record {
            within = omega arith;
            same = (
              n * c.args.base + w.digit_value.result,
              rw w.value-is (w.with_digit-value.ensures n c.digits.invariant.same.1),
              ap (λ d. digits c.args.base (n * c.args.base + d) (drop (c.digits.at + 1) c.args.text.now)) w.digit_value.ensures
                  ∙ digits_more c.args.base n c.args.text.now c.digits.at c.digits-test.true
                  (sym c.is_digit-in-digits.ensures ∙ w.if-is_digit.true) ∙ c.digits.invariant.same.2,
            );
          }
      | else-is_digit+else-byte-ne95+else-not-is_digit-2 w ↦
          record {
            within = omega arith;
            same = (
              n,
              rw w.value-is c.digits.invariant.same.1,
              digits_pass c.args.base n c.args.text.now c.digits.at c.digits-test.true
                  (sym c.is_digit-in-digits.ensures ∙ w.if-is_digit.false) w.if-byte-ne95.false
                  (ap (is_digit c.args.base) (sym w.byte_or_zero-else-byte-ne95.ensures)
                  ∙ sym w.is_digit-else-byte-ne95.ensures ∙ w.if-not-is_digit-2.false) ∙ c.digits.invariant.same.2,
            );
          }
    ]

pub returns-after-digits : goal.returns-after-digits
returns-after-digits c =
    let n = c.digits.invariant.same.0 in
    let some : is_digit c.args.base (get_or c.args.text.now 0 0) ≡ true =
    ap (is_digit c.args.base) (sym c.byte_or_zero.ensures) ∙ sym c.if-not-is_digit.ensures in
    number_kept c.args.base n c.args.text.now c.digits.value some
    (sym c.digits.invariant.same.2 ∙ digits_end c.args.base n c.args.text.now c.digits.at c.digits-test.false)
    c.digits.invariant.same.1

pub returns-then-byte-ne95 : goal.returns-then-byte-ne95
returns-then-byte-ne95 c =
    let n = c.digits.invariant.same.0 in
    let some : is_digit c.args.base (get_or c.args.text.now 0 0) ≡ true =
    ap (is_digit c.args.base) (sym c.byte_or_zero.ensures) ∙ sym c.if-not-is_digit.ensures in
    let none : is_digit c.args.base (get_or c.args.text.now c.digits.at 0) ≡ false =
    sym c.is_digit-in-digits.ensures ∙ c.if-is_digit.false in
    let stops : digits c.args.base n (drop c.digits.at c.args.text.now) ≡ n =
    elim c.then-byte-ne95.branch [
      | then-byte-ne95-via-then-byte-ne95 w ↦
          digits_other c.args.base n c.args.text.now c.digits.at c.digits-test.true none w.if-byte-ne95.true
      | then-byte-ne95-via-else-byte-ne95+then-not-is_digit-2 w ↦
          digits_last c.args.base n c.args.text.now c.digits.at c.digits-test.true none
          (ap (is_digit c.args.base) (sym w.byte_or_zero-else-byte-ne95.ensures)
          ∙ sym w.is_digit-else-byte-ne95.ensures ∙ w.if-not-is_digit-2.true)
    ] in
    number_kept c.args.base n c.args.text.now c.digits.value some (sym c.digits.invariant.same.2 ∙ stops)
    c.digits.invariant.same.1
