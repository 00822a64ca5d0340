use Rattle.lexer_laws.proofs.SignTokens.{semicolon_read, character_token, character_read}
use Rattle.lexer_laws.proofs.signs_are_tokens.Goals as goal

pub returns : goal.returns
returns c = record { semicolon = semicolon_read; sound_character = character_token; character = character_read }
