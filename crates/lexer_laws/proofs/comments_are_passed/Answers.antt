use Rattle.lexer_laws.proofs.Comments.{comment_sound, comment_complete}
use Rattle.lexer_laws.proofs.comments_are_passed.Goals as goal

pub returns : goal.returns
returns c = record { sound = comment_sound; complete = comment_complete }
