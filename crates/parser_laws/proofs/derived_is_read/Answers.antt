use Rattle.parser_laws.proofs.Laws.{argument_read, operation_read, statements_read, program_read}
use Rattle.parser_laws.proofs.derived_is_read.Goals as goal

pub returns : goal.returns
returns c = record {
  argument = argument_read;
  operation = operation_read;
  statements = statements_read;
  program =
      program_read;
}
