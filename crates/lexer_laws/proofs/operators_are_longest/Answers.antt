use Rattle.lexer_laws.proofs.Operators.{operator_sound, operator_complete}
use Rattle.lexer_laws.proofs.operators_are_longest.Goals as goal

pub returns : goal.returns
returns c = record { sound = operator_sound; complete = operator_complete }
