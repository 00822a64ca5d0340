use Rattle.parser_nodes.proofs.Calls.{method_call_of}
use Rattle.parser_nodes.proofs.operand.method_call.Goals as goal

pub returns : goal.returns
returns c = method_call_of _ _ _ _
