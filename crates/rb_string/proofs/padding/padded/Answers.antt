use Rattle.std.proofs.Common.{◌+◌, ◌<◌, length, sym, arith}
use Rattle.std.proofs.lemmas.Bool.Decides.{nat_tests}
use Rattle.rb_string.proofs.Pads.{padded_long}
use Rattle.rb_string.proofs.padding.padded.Goals as goal

pub returns-then-length-gt-GREATEST_LENGTH : goal.returns-then-length-gt-GREATEST_LENGTH
returns-then-length-gt-GREATEST_LENGTH c =
    let some : 0 < length c.args.pad.now = grind (arith, nat_tests) in
    let many : 268435456 < length c.args.text.now + c.args.before + c.args.behind = omega arith in
    sym (padded_long c.args.text.now c.args.pad.now c.args.before c.args.behind some many)
