use Rattle.lexer_laws.proofs.WideNames.{wide_token, wide_step}
use Rattle.lexer_laws.proofs.wide_names_are_tokens.Goals as goal

pub returns : goal.returns
returns c = record { sound = wide_token; complete = wide_step }
