-- The example of a command with a block is derived.
use Rattle.std.proofs.Common.{pos, [], ◌∷◌, refl, codes}
use Rattle.parser_tree.specs.Node as node
use Rattle.parser_tree.specs.Node.{Node}
use Rattle.parser_tokens.specs.Tokens.{first, behind, word_of, bytes_at, integer_at, place_at, is_apart}
use Rattle.parser_tokens.specs.Expect.{separators_from}
use Rattle.parser_tokens.specs.Operators.{infix_at, prefix_at}
use Rattle.parser_tokens.specs.Starts.{begins_argument, is_plain_start, makes_call, opens_arguments}
use Rattle.parser_ahead.specs.declared.primary.BlockStyle.TheVariants as styles
use Rattle.parser_ahead.specs.declared.primary.DoOwner.TheVariants as owners
use Rattle.parser_ahead.specs.declared.primary.Place.TheVariants as places
use Rattle.parser_nodes.specs.Nodes.{shape}
use Rattle.parser_nodes.specs.Listed.{plain_part}
use Rattle.parser_form_nodes.specs.Parameters.{required}
use Rattle.parser_laws.specs.Rules.{Statements, Argument, Listing, BlockParameters, Block, Command}
use Rattle.parser_laws.specs.Derives.{Derives, Separated, NoMore, OneMore, AllJoined, Unjoined, Commanded, CalleeCommand, CommandBlock, NameCallee, Value, AllOperators, OneOperand, WithPostfixes, Integer, Local, PlainPart, FirstPart, AllParts, DoBlock, Bars, PlainBarred, NoLocals, AllParameters, OneParameter, RequiredParameter, PlainBody}
use Rattle.parser_laws.specs.CommandExample.{block_end, used, close_bar, parameter, open_bar, block_begin, digit, tokens, known, called, list, parameters, body, block, command, tree}
use Rattle.parser_laws.proofs.Witness.{alone, whole_statement}

the_parameters : Derives (BlockParameters parameters) [] open_bar known used
unfolding first behind word_of bytes_at
the_parameters =
    Bars [] known known open_bar close_bar close_bar parameters refl
    (PlainBarred [] known parameter close_bar parameters
    (AllParameters [] known parameter close_bar parameters
    (OneParameter [] known parameter close_bar (required (node.name_parameter (codes "x")))
    (RequiredParameter [] parameter refl refl)) refl))
    (NoLocals known close_bar refl) refl

the_body : Derives (Statements body) known used known block_end
unfolding first behind word_of bytes_at separators_from infix_at prefix_at makes_call is_plain_start opens_arguments shape
the_body =
    Separated known known used block_end (node.local (codes "x") ∷ [])
    (OneMore known known known used block_end block_end (node.local (codes "x")) [] refl
    (whole_statement known known used block_end (node.local (codes "x"))
    (alone places.Statement owners.Call known known used block_end (node.local (codes "x")) refl
    (Local places.Statement owners.Call known used refl refl refl) refl refl refl refl refl refl refl) refl)
    refl (NoMore known block_end refl))

the_block : Derives (Block styles.Do block) [] block_begin [] []
unfolding first behind word_of place_at
the_block = DoBlock [] known known block_begin used [] parameters body refl the_parameters
    (PlainBody known known used block_end body the_body refl)

the_argument : Derives (Argument places.Command owners.Command (node.integer (pos 1))) [] digit [] block_begin
unfolding first behind word_of integer_at place_at infix_at prefix_at shape
the_argument =
    Value places.Command owners.Command [] [] digit block_begin (node.integer (pos 1)) refl
    (AllOperators places.Command 13 owners.Command [] [] digit block_begin (node.integer (pos 1))
    (OneOperand places.Command 13 owners.Command [] [] digit block_begin (node.integer (pos 1))
    (WithPostfixes places.Command owners.Command [] [] digit block_begin (node.integer (pos 1)) refl
    (Integer places.Command owners.Command [] digit refl) refl))
    refl refl)
    refl refl

the_list : Derives (Listing owners.Command list) [] digit [] block_begin
unfolding first behind word_of
the_list =
    AllParts owners.Command [] [] digit block_begin list
    (FirstPart owners.Command [] [] digit block_begin (plain_part (node.integer (pos 1)))
    (PlainPart places.Command owners.Command [] [] digit block_begin (node.integer (pos 1)) the_argument refl))
    refl

the_command : Derives (Command places.Statement owners.Call command) [] tokens [] []
unfolding first behind word_of bytes_at prefix_at begins_argument is_plain_start opens_arguments is_apart
the_command =
    CalleeCommand places.Statement owners.Call [] [] [] tokens digit [] called command refl refl refl
    (NameCallee places.Statement owners.Call [] tokens refl refl)
    (CommandBlock owners.Call [] [] [] digit block_begin [] called list block refl refl the_list refl refl the_block
    refl)

pub command_example_derived : Derives (Statements tree) [] tokens [] []
unfolding first behind word_of separators_from
command_example_derived =
    Separated [] [] tokens [] (command ∷ [])
    (OneMore [] [] [] tokens [] [] command [] refl
    (whole_statement [] [] tokens [] command
    (AllJoined places.Statement owners.Call [] [] tokens [] command
    (Unjoined places.Statement owners.Call [] [] tokens [] command
    (Commanded places.Statement owners.Call [] [] tokens [] command refl the_command)) refl)
    refl)
    refl (NoMore [] [] refl))
