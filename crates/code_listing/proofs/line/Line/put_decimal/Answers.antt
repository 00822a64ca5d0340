use Rattle.std.proofs.Common.{arith, length-drop}
use Rattle.std.proofs.lemmas.Fmt.{length-decimal-le}
use Rattle.code_listing.proofs.line.Line.put_decimal.Goals as goal

pub write_digits-self-inside-requires : goal.write_digits-self-inside-requires
write_digits-self-inside-requires c =
    let few = length-decimal-le 20 c.args.number (omega arith) (omega arith) c.ranges.number.fits in
    let free = rw (← c.self.view_is) at c.requires in (
      omega (arith, few, free, length-drop c.self.inside.start c.self.inside.bytes),
      omega arith,
    )

pub returns-clause-few : goal.returns-clause-few
returns-clause-few c =
    let few = length-decimal-le 20 c.args.number (omega arith) (omega arith) c.ranges.number.fits in
    omega (arith, few, c.write_digits-self-inside.ensures.start)
