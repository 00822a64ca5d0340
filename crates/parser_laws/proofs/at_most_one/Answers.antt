use Rattle.parser_laws.proofs.Laws.{argument_once, statements_once}
use Rattle.parser_laws.proofs.at_most_one.Goals as goal

pub returns : goal.returns
returns c = record { argument = argument_once; statements = statements_once }
