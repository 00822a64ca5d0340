use Rattle.std.proofs.Common.{◌≡◌, ◌-◌, ◌<◌, ◌≤◌, ◌++◌, length, get_or, vec_len, sym, ap, ◌∙◌, arith, append_assoc}
use Rattle.std.proofs.lemmas.Bool.Decides.{nat_tests}
use Rattle.rb_string.specs.Padding.{padding}
use Rattle.rb_string.proofs.Pads.{padding_step, padding_last, padding_empty, one_byte_padding, resized}
use Rattle.rb_string.proofs.padding.padding.Goals as goal

pub returns-then-is_empty : goal.returns-then-is_empty
returns-then-is_empty c =
    let none : length c.args.pad.now ≡ 0 = grind (arith, nat_tests) in
    c.new-bytes.ensures.items ∙ sym (padding_empty c.args.pad.now c.args.count none)

pub pads-preserved : goal.pads-preserved
pads-preserved c =
    let some : 0 < length c.args.pad.now = grind (arith, nat_tests) in
    let low : length c.args.pad.now ≤ c.pads.left = omega arith in
    rw c.in_ok-extend_from_slice.ensures.items
    (append_assoc c.pads.bytes.items c.args.pad.now (padding c.args.pad.now (c.pads.left - length c.args.pad.now))
    ∙ ap (λ l. c.pads.bytes.items ++ l) (sym (padding_step c.args.pad.now c.pads.left some low)) ∙ c.pads.invariant)

pub returns : goal.returns
returns c =
    rw c.in_ok-extend_from_slice-2.ensures.items (rw c.front.ensures
    (ap (λ l. c.pads.bytes.items ++ l) (sym (padding_last c.args.pad.now c.pads.left c.pads-test.false))
    ∙ c.pads.invariant))

pub returns-then-pad-eq1 : goal.returns-then-pad-eq1
returns-then-pad-eq1 c =
    c.in_ok-resize.ensures.items
    ∙ resized c.args.count (get_or c.args.pad.now 0 0) c.new-bytes.result.items (vec_len c.new-bytes.result)
    c.new-bytes.ensures.items c.new-bytes.ensures.len
    ∙ one_byte_padding c.args.count c.args.pad.now c.if-pad-eq1.true
