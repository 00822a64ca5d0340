use Rattle.parser_nodes.proofs.Calls.{name_call_of}
use Rattle.parser_nodes.proofs.operand.name_call.Goals as goal

pub returns : goal.returns
returns c = name_call_of _ _ _
