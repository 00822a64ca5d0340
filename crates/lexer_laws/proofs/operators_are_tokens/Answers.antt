use Rattle.lexer_laws.proofs.MarkTokens.{mark_token, mark_read}
use Rattle.lexer_laws.proofs.operators_are_tokens.Goals as goal

pub returns : goal.returns
returns c = record { sound = mark_token; complete = mark_read }
