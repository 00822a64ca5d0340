use Rattle.std.proofs.Common.{arith, sym}
use Rattle.rite_code.proofs.Fitting.{decoded_fits}
use Rattle.rite_code.proofs.decoding.body_as.Goals as goal

pub from_fitting-requires : goal.from_fitting-requires
from_fitting-requires c = rw (c.operation_of-operation.ensures, c.operands.ensures, sym c.requires.shape)
    (decoded_fits c.args.wide c.args.opcode c.args.rest.now (λ i. omega (arith, c.type_inv.rest i)) c.requires.grows)
