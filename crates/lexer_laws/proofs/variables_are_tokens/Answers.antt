use Rattle.lexer_laws.proofs.Variables.{instance_token, global_token, instance_read, global_read}
use Rattle.lexer_laws.proofs.variables_are_tokens.Goals as goal

pub returns : goal.returns
returns c = record {
  sound_instance = instance_token;
  sound_global = global_token;
  instance = instance_read;
  global = global_read;
}
