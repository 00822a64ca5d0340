use Rattle.lexer_laws.proofs.Runs.{name_sound, name_complete}
use Rattle.lexer_laws.proofs.names_are_longest.Goals as goal

pub returns : goal.returns
returns c = record { sound = name_sound; complete = name_complete }
