use Rattle.std.proofs.Common.{◌≡◌, false, true, w64, to_z, of_z}
use Rattle.std.proofs.lemmas.Int.{to_z-of_z}
use Rattle.std.specs.Int.{CanDivide}
use Rattle.std.specs.Int.RustNames.{int_div}
use Rattle.std.specs.Option.{SomeIff}
use Rattle.rb_integer.specs.Truncation.{is_rounded_up}
use Rattle.rb_integer.proofs.Divisions.{rounded_down, divided, rounding}
use Rattle.rb_integer.proofs.division.floor_quotient.Goals as goal

pub returns-then-is_rounded_up : goal.returns-then-is_rounded_up
returns-then-is_rounded_up c =
    rounded_down c.args.x c.args.y c.ranges.x c.ranges.y c.requires
    (rounding c.args.x c.args.y c.is_rounded_up.result true c.ranges.x c.ranges.y c.is_rounded_up.ensures
    c.if-is_rounded_up.true)

pub returns-else-is_rounded_up : goal.returns-else-is_rounded_up
returns-else-is_rounded_up c =
    let ex : to_z w64 (of_z w64 c.args.x) ≡ c.args.x = to_z-of_z w64 c.args.x c.ranges.x in
    let ey : to_z w64 (of_z w64 c.args.y) ≡ c.args.y = to_z-of_z w64 c.args.y c.ranges.y in
    let up : is_rounded_up c.args.x c.args.y ≡ false =
    rounding c.args.x c.args.y c.is_rounded_up.result false c.ranges.x c.ranges.y c.is_rounded_up.ensures
    c.if-is_rounded_up.false in
    let q : SomeIff c.checked_div.result (CanDivide w64 c.args.x c.args.y) (int_div c.args.x c.args.y) =
    rw (ex, ey) at c.checked_div.ensures in
    rw c.checked.ensures (divided c.args.x c.args.y c.checked_div.result c.ranges.y c.requires up q)
