use Rattle.std.proofs.Common.{◌-◌, length, arith}
use Rattle.code_verifier.proofs.Ends.{end_last, end_none}
use Rattle.code_verifier.proofs.bodies.end_of.Goals as goal

pub returns-in-empty : goal.returns-in-empty
returns-in-empty c = end_none 0 c.args.list.now (omega arith)

pub returns-in-len1-up : goal.returns-in-len1-up
returns-in-len1-up c = let h = c.last-item.is in
    end_last 0 c.args.list.now (length c.args.list.now - 1) c.last-item.result (omega arith) c.last-item.is
