use Rattle.lexer_laws.proofs.WordsWitness.{words_lexed, words_read}
use Rattle.lexer_laws.proofs.Lexed.{heredoc_lexed, string_lexed}
use Rattle.lexer_laws.proofs.HeredocWitness.{heredoc_reads}
use Rattle.lexer_laws.proofs.StringWitness.{string_reads}
use Rattle.lexer_laws.proofs.Witness.{example_reads}
use Rattle.lexer_laws.proofs.a_text_reads.Goals as goal

pub returns-clause-words : goal.returns-clause-words
returns-clause-words c = example_reads

pub returns-clause-string : goal.returns-clause-string
returns-clause-string c = string_reads

pub returns-clause-heredoc : goal.returns-clause-heredoc
returns-clause-heredoc c = heredoc_reads

pub returns-clause-string_lexed : goal.returns-clause-string_lexed
returns-clause-string_lexed c = string_lexed

pub returns-clause-heredoc_lexed : goal.returns-clause-heredoc_lexed
returns-clause-heredoc_lexed c = heredoc_lexed

pub returns-clause-words_of_list : goal.returns-clause-words_of_list
returns-clause-words_of_list c = words_read

pub returns-clause-words_lexed : goal.returns-clause-words_lexed
returns-clause-words_lexed c = words_lexed
