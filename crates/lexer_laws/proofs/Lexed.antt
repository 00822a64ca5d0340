-- What the definition of the lexer gives of the examples, by reckoning.
use Rattle.std.proofs.Common.{◌≡◌, refl}
use Rattle.std.specs.Prelude.{Ok}
use Rattle.lexer_laws.specs.Example.{string_text, string_tokens, heredoc_text, heredoc_tokens}
use Rattle.rb_lexer.specs.Lexing.{tokens_of, run, advance, code_reach, heredoc_step, body_at, enter_body}
use Rattle.rb_lexer.specs.Heads.{head_at, begins_heredoc}
use Rattle.rb_lexer.specs.Code.{code_step, other_step}
use Rattle.rb_lexer.specs.Strings.{text_step, body_step, double_step, hash_step, end_step}
use Rattle.rb_heredoc.specs.Bodies.{bodies_at, bodies_in, body_in, is_end_line}
use Rattle.rb_heredoc.specs.Lines.{lines_of, are_white}
use Rattle.lexer_steps.specs.Scan.{name_end, run_end, line_end}
use Rattle.lexer_steps.specs.Trivia.{newline_step, next_token, passing}
use Rattle.lexer_steps.specs.Signs.{sign_step, number_step, quote_step}
use Rattle.lexer_tables.specs.Marks.{operator_name}
use Rattle.lexer_literals.specs.Numbers.{numeral_at, parts_end, fraction_end, exponent_end, sign_end, suffix_at}
use Rattle.lexer_literals.specs.Integers.{integer_at, digits, radix_at}

pub string_lexed : tokens_of string_text ≡ Ok string_tokens
unfolding tokens_of run advance code_reach begins_heredoc code_step other_step text_step double_step hash_step end_step sign_step number_step quote_step operator_name numeral_at parts_end fraction_end exponent_end sign_end suffix_at integer_at digits radix_at
string_lexed = refl

pub heredoc_lexed : tokens_of heredoc_text ≡ Ok heredoc_tokens
unfolding tokens_of run advance code_reach heredoc_step body_at enter_body head_at begins_heredoc name_end run_end line_end bodies_at bodies_in body_in is_end_line lines_of are_white body_step double_step code_step other_step sign_step operator_name newline_step next_token passing
heredoc_lexed = refl
