use Rattle.std.proofs.Common.{arith, length-drop}
use Rattle.std.proofs.lemmas.Fmt.{length-decimal-le}
use Rattle.code_listing.proofs.line.Line.put_signed.Goals as goal

pub write_digits-self-inside-requires : goal.write_digits-self-inside-requires
write_digits-self-inside-requires c =
    let few = length-decimal-le 19 c.unsigned_abs.result (omega arith) (omega arith) (omega arith) in
    let free = rw (← c.self.view_is) at c.requires in (
      omega (arith, few, free, length-drop c.self.inside.start c.self.inside.bytes),
      omega arith,
    )

pub put_byte-requires : goal.put_byte-requires
put_byte-requires c =
    let w = c.write_digits-self-inside in
    let few = length-decimal-le 19 c.unsigned_abs.result (omega arith) (omega arith) (omega arith) in
    let free = rw (← c.self.view_is) at c.requires in
    omega (
      arith,
      few,
      free,
      w.ensures.start,
      length-drop c.self.inside.start c.self.inside.bytes,
      length-drop w.result w.new.buf,
    )

pub returns-then-number-lt0-clause-short : goal.returns-then-number-lt0-clause-short
returns-then-number-lt0-clause-short c =
    let w = c.write_digits-self-inside in
    let few = length-decimal-le 19 c.unsigned_abs.result (omega arith) (omega arith) (omega arith) in
    rw (c.put_byte.ensures, ← c.self.view_is) (omega (
      arith,
      few,
      w.ensures.start,
      length-drop c.self.inside.start c.self.inside.bytes,
      length-drop w.result w.new.buf,
    ))

pub returns-else-number-lt0-clause-short : goal.returns-else-number-lt0-clause-short
returns-else-number-lt0-clause-short c =
    let w = c.write_digits-self-inside in
    let few = length-decimal-le 19 c.unsigned_abs.result (omega arith) (omega arith) (omega arith) in
    rw (← c.self.view_is) (omega (
      arith,
      few,
      w.ensures.start,
      length-drop c.self.inside.start c.self.inside.bytes,
      length-drop w.result w.new.buf,
    ))
