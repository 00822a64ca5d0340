-- The example is read.
use Rattle.std.proofs.Common.{◌≡◌, Ok, refl}
use Rattle.name_laws.specs.Example.{tokens, variables, tree}
use Rattle.parser_tokens.specs.Expect.{newlines_from, separators_from}
use Rattle.parser_tokens.specs.Operators.{infix_at, prefix_at}
use Rattle.parser_tokens.specs.Starts.{is_plain_start, is_spaced_start, begins_argument, opens_arguments, makes_call}
use Rattle.parser_tokens.specs.Tokens.{word_of, first, behind, bytes_at, integer_at, place_at, is_apart}
use Rattle.parser_ahead.specs.Primary.{primary_at, command_start, start_at, part_at}
use Rattle.parser_nodes.specs.Leaf.{leaf}
use Rattle.parser_nodes.specs.Nodes.{shape}
use Rattle.parser_forms.specs.Definitions.{block}
use Rattle.parser_forms.specs.Parameters.{locals_from, parameter_at, parameters_from}
use Rattle.parser_operands.specs.Operands.{suffix, compound, primary_by, postfixed, chain_within, chain, operand}
use Rattle.parser_operands.specs.Operators.{operators_from, operation, value_from}
use Rattle.parser_phrases.specs.Phrases.{assign, command, phrase_from, phrase_by}
use Rattle.parser_statements.specs.Lists.{part_by, next_part, list_from}
use Rattle.parser_statements.specs.Statements.{negation, junctions_from, expression, base_by, modifiers_from, statement, separated, with_statement, statements_from, statements}
use Rattle.rb_parser.specs.Program.{program}

pub example_read : program tokens ≡ Ok (variables, tree)
unfolding newlines_from separators_from is_spaced_start is_apart infix_at prefix_at is_plain_start begins_argument
    opens_arguments makes_call word_of first behind bytes_at integer_at place_at primary_at command_start
    start_at part_at leaf shape block locals_from parameter_at parameters_from suffix compound primary_by
    postfixed chain_within chain operand operators_from operation value_from assign command phrase_from
    phrase_by part_by next_part list_from negation junctions_from expression base_by modifiers_from statement
    separated with_statement statements_from statements program
example_read = refl
