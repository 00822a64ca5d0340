use Rattle.std.proofs.Common.{sym, ap, ◌∙◌, subst, ℤ, w64, to_z, of_z}
use Rattle.std.proofs.lemmas.Int.{to_z-of_z}
use Rattle.rb_value.specs.declared.value.Value.TheVariants.{Int}
use Rattle.row_table.specs.declared.integer.IntegerMethod.TheVariants.{Percent}
use Rattle.integer_operators.specs.Operators.{given}
use Rattle.integer_operators.specs.Straight.{GivesStraight}
use Rattle.integer_operators.proofs.Called.{percent_gives}
use Rattle.integer_operators.proofs.rows.computed_of.Goals as goal

-- src/rows.rt:55:1
pub returns-in-3588-clause-row : goal.returns-in-3588-clause-row
returns-in-3588-clause-row c =
    let x = c.args.left in
    let y = c.args.right in
    subst (λ row. GivesStraight row (Int x) (Int y) c.remainder.result) (sym c.in-3588.is)
    (subst (λ v. GivesStraight 3588 (Int x) (Int y) v)
    (sym (c.remainder.ensures ∙ ap (λ (z : ℤ). given Percent z (to_z w64 (of_z w64 y))) (to_z-of_z w64 x c.ranges.left)
    ∙ ap (λ (z : ℤ). given Percent x z) (to_z-of_z w64 y c.ranges.right)))
    (percent_gives x y))
