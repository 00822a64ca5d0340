use Rattle.std.proofs.Common.{arith}
use Rattle.rite_tool.proofs.Digits.{value_done}
use Rattle.rite_tool.proofs.words.value.Goals as goal

pub returns : goal.returns
returns c = value_done c.digits.value c.args.digits.now c.digits.digit-index (omega arith) c.digits.invariant.same
    (omega arith)
