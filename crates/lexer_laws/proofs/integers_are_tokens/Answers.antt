use Rattle.lexer_laws.proofs.Reaching.{number_reached}
use Rattle.lexer_laws.proofs.NumberTokens.{number_token, integer_read, wide_read}
use Rattle.lexer_laws.proofs.integers_are_tokens.Goals as goal

pub returns : goal.returns
returns c = record { reached = number_reached; sound = number_token; narrow = integer_read; wide = wide_read }
