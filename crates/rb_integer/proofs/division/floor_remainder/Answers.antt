use Rattle.std.proofs.Common.{◌≡◌, ◌∙◌, sym, false, true, w64, to_z, of_z, FitsSigned, rules}
use Rattle.std.proofs.lemmas.Int.{to_z-of_z}
use Rattle.std.specs.Int.RustNames.{int_rem}
use Rattle.rb_integer.specs.Truncation.{is_rounded_up}
use Rattle.rb_integer.proofs.Divisions.{remainder_same, remainder_down, rounding}
use Rattle.rb_integer.proofs.division.floor_remainder.Goals as goal

pub returns-else-is_rounded_up : goal.returns-else-is_rounded_up
returns-else-is_rounded_up c =
    let ex : to_z w64 (of_z w64 c.args.x) ≡ c.args.x = to_z-of_z w64 c.args.x c.ranges.x in
    let ey : to_z w64 (of_z w64 c.args.y) ≡ c.args.y = to_z-of_z w64 c.args.y c.ranges.y in
    let up : is_rounded_up c.args.x c.args.y ≡ false =
    rounding c.args.x c.args.y c.is_rounded_up.result false c.ranges.x c.ranges.y c.is_rounded_up.ensures
    c.if-is_rounded_up.false in
    let r : c.wrapping_rem-remainder.result ≡ int_rem c.args.x c.args.y =
    rw (ex, ey) at c.wrapping_rem-remainder.ensures in
    let f : FitsSigned w64 c.wrapping_rem-remainder.result = search rules in
    to_z-of_z w64 c.wrapping_rem-remainder.result f ∙ r ∙ sym (remainder_same c.args.x c.args.y c.requires up)

pub returns-then-is_rounded_up : goal.returns-then-is_rounded_up
returns-then-is_rounded_up c =
    let ex : to_z w64 (of_z w64 c.args.x) ≡ c.args.x = to_z-of_z w64 c.args.x c.ranges.x in
    let ey : to_z w64 (of_z w64 c.args.y) ≡ c.args.y = to_z-of_z w64 c.args.y c.ranges.y in
    let up : is_rounded_up c.args.x c.args.y ≡ true =
    rounding c.args.x c.args.y c.is_rounded_up.result true c.ranges.x c.ranges.y c.is_rounded_up.ensures
    c.if-is_rounded_up.true in
    let r : c.wrapping_rem-remainder.result ≡ int_rem c.args.x c.args.y =
    rw (ex, ey) at c.wrapping_rem-remainder.ensures in
    let f : FitsSigned w64 c.wrapping_rem-remainder.result = search rules in
    remainder_down c.args.x c.args.y c.wrapping_rem-remainder.result c.ranges.y f c.requires up r
