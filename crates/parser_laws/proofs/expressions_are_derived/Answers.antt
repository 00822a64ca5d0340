use Rattle.parser_laws.proofs.Laws.{argument_derived, operation_derived, statements_derived, program_derived}
use Rattle.parser_laws.proofs.expressions_are_derived.Goals as goal

pub returns : goal.returns
returns c = record {
  argument = argument_derived;
  operation = operation_derived;
  statements = statements_derived;
  program = program_derived;
}
