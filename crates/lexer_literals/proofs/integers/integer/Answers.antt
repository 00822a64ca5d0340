use Rattle.std.proofs.Common.{sym}
use Rattle.lexer_literals.specs.Integers.{integer_at}
use Rattle.lexer_literals.proofs.Values.{scanned_is}
use Rattle.lexer_literals.proofs.integers.integer.Goals as goal

pub returns-clause-value : goal.returns-clause-value
unfolding integer_at
returns-clause-value c = rw (sym c.radix-base.ensures.value) (scanned_is c.digits.result _ c.digits.ensures.value)
