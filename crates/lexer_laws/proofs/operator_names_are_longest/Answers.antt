use Rattle.lexer_laws.proofs.MethodNames.{name_longest, name_ends, method_operator_read}
use Rattle.lexer_laws.proofs.operator_names_are_longest.Goals as goal

pub returns : goal.returns
returns c = record { sound = name_longest; complete = name_ends; token = method_operator_read }
