use Rattle.std.proofs.Common.{◌≡◌, ◌+◌, ◌-◌, ◌/◌, [], ◌++◌, length, take, drop, length-drop, refl, rules, arith}
use Rattle.std.proofs.Math.Seq.{take-length}
use Rattle.rb_integer.specs.Numeral.{letters}
use Rattle.rb_integer.proofs.Letters.{letters_of_zero, letters_length, letters_shorter, letter_before}
use Rattle.rb_integer.proofs.numeral.spelled.Goals as goal

pub digits-init : goal.digits-init
digits-init c = record {
  buffer = refl;
  room = letters_length c.args.base c.args.number c.requires.lowest c.ranges.number.fits;
  within = omega arith;
  same = search rules;
}

pub overflow_sub-start : goal.overflow_sub-start
overflow_sub-start c =
    let one : length (letters c.args.base c.digits.left) ≡ length (letters c.args.base (c.digits.left / c.args.base)) +
    1 = letters_shorter c.args.base c.digits.left c.requires.lowest c.digits-test.true in
    omega arith

pub digits-preserved : goal.digits-preserved
digits-preserved c =
    let one : length (letters c.args.base c.digits.left) ≡ length (letters c.args.base (c.digits.left / c.args.base)) +
    1 = letters_shorter c.args.base c.digits.left c.requires.lowest c.digits-test.true in
    let back : c.digits.start - 1 + 1 ≡ c.digits.start = omega arith in
    let before : letters c.args.base c.args.number ≡ letters c.args.base c.digits.left
    ++ drop (c.digits.start - 1 + 1) c.digits.bytes = rw back c.digits.invariant.same in
    record {
      buffer = search rules;
      room = omega arith;
      within = omega arith;
      same = rw c.letter.ensures (letter_before c.args.base c.digits.left (letters c.args.base c.args.number)
          c.digits.bytes (c.digits.start - 1) c.requires.lowest c.digits-test.true (omega arith) before);
    }

pub returns : goal.returns
returns c =
    let none : letters c.args.base c.digits.left ≡ [] = rw c.digits-test.false (letters_of_zero c.args.base) in
    let all : take (64 - c.digits.start) (drop c.digits.start c.digits.bytes) ≡ drop c.digits.start c.digits.bytes =
    (let size : 64 - c.digits.start ≡ length (drop c.digits.start c.digits.bytes) =
    omega (arith, length-drop c.digits.start c.digits.bytes, c.digits.invariant.buffer) in
    rw size (take-length (drop c.digits.start c.digits.bytes))) in
    let same : letters c.args.base c.args.number ≡ drop c.digits.start c.digits.bytes =
    rw none at c.digits.invariant.same in
    rw (c.joined.ensures, all, ← same) refl
