use Rattle.lexer_laws.proofs.Numbers.{integer_sound, integer_complete}
use Rattle.lexer_laws.proofs.integers_are_longest.Goals as goal

pub returns : goal.returns
returns c = record { sound = integer_sound; complete = integer_complete }
