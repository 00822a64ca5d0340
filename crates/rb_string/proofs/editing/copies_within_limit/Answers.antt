use Rattle.std.proofs.Common.{◌≡◌, ◌*◌, ◌<◌, ◌≤◌, length, Ok, sym, ap, ◌∙◌, arith}
use Rattle.std.proofs.Math.Nat.{le-div_iff_mul-le}
use Rattle.std.proofs.lemmas.Bool.Decides.{nat_tests}
use Rattle.rb_string.proofs.Pads.{no_copies_made, many_copies, few_copies}
use Rattle.rb_string.proofs.editing.copies_within_limit.Goals as goal

pub returns-then-is_empty : goal.returns-then-is_empty
returns-then-is_empty c =
    let none : length c.args.text.now ≡ 0 = grind (arith, nat_tests) in
    ap Ok c.new.ensures ∙ sym (no_copies_made c.args.count c.args.text.now none)

pub returns-then-count-text : goal.returns-then-count-text
returns-then-count-text c =
    let some : 0 < length c.args.text.now = grind (arith, nat_tests) in
    sym (many_copies c.args.count c.args.text.now some c.if-count-text.true)

pub returns : goal.returns
returns c =
    let some : 0 < length c.args.text.now = grind (arith, nat_tests) in
    let few : c.args.count * length c.args.text.now ≤ 268435456 = (le-div_iff_mul-le some).0 c.if-count-text.false in
    ap Ok c.in_ok-bytes.ensures ∙ sym (few_copies c.args.count c.args.text.now few)
