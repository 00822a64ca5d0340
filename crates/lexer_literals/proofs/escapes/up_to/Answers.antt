use Rattle.std.proofs.Common.{arith}
use Rattle.lexer_literals.proofs.Bounds.{bound_step, up_to_here}
use Rattle.lexer_literals.proofs.escapes.up_to.Goals as goal

pub bytes-preserved : goal.bytes-preserved
bytes-preserved c = record {
  forward = omega arith;
  within = omega arith;
  few = omega arith;
  fits = grind (arith, bound_step c.args.base c.bytes.value c.from-in-bytes.result c.args.most c.bytes.left);
  same = grind (arith, up_to_here c.args.text.now c.args.base c.bytes.left c.bytes.value c.bytes.at);
}

pub returns-then-left-eq0-clause-value : goal.returns-then-left-eq0-clause-value
returns-then-left-eq0-clause-value c = grind (
  arith,
  up_to_here c.args.text.now c.args.base c.bytes.left c.bytes.value
      c.bytes.at,
)
