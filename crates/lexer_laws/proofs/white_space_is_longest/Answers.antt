use Rattle.lexer_laws.proofs.White.{white_sound, white_complete}
use Rattle.lexer_laws.proofs.white_space_is_longest.Goals as goal

pub returns : goal.returns
returns c = record { sound = white_sound; complete = white_complete }
