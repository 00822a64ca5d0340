use Rattle.lexer_laws.proofs.Words.{word_sound, word_complete}
use Rattle.lexer_laws.proofs.words_are_longest.Goals as goal

pub returns : goal.returns
returns c = record { sound = word_sound; complete = word_complete }
