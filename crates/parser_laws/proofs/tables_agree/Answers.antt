use Rattle.parser_laws.proofs.Agreeing.{argument_agrees, call_agrees, target_agrees}
use Rattle.parser_laws.proofs.tables_agree.Goals as goal

pub returns : goal.returns
returns c = record { argument = argument_agrees; call = call_agrees; target = target_agrees }
