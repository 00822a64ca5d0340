use Rattle.lexer_laws.proofs.Reaching.{word_reached}
use Rattle.lexer_laws.proofs.WordTokens.{word_token, label_read, keyword_read, identifier_read, constant_read, method_read}
use Rattle.lexer_laws.proofs.words_are_tokens.Goals as goal

pub returns : goal.returns
returns c = record {
  reached = word_reached;
  sound = word_token;
  label = label_read;
  keyword = keyword_read;
  identifier = identifier_read;
  constant = constant_read;
  method = method_read;
}
