use Rattle.std.proofs.Common.{◌≡◌, ◌∙◌, ap}
use Rattle.rb_string.specs.Numeral.{after_prefix, after_sign, number, number_of, signed}
use Rattle.rb_string.proofs.numeral.number.Goals as goal

pub returns : goal.returns
unfolding number_of
returns c =
    let base = c.args.base in
    let text = c.args.text.now in
    let digits : c.after_prefix-digits.result.now ≡ after_prefix base (after_sign text) =
    c.after_prefix-digits.ensures ∙ ap (after_prefix base) c.after_sign.ensures in
    let told = c.signed.ensures (number base c.after_prefix-digits.result.now) c.magnitude.ensures in
    rw (digits, c.byte_or_zero-is_negative.ensures) at told
