use Rattle.parser_nodes.proofs.Calls.{super_call_of}
use Rattle.parser_nodes.proofs.operand.super_call.Goals as goal

pub returns : goal.returns
returns c = super_call_of _ _ _
