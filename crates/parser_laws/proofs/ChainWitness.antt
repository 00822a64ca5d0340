-- The example of a negated assignment of a command with a postfix is derived.
use Rattle.std.proofs.Common.{pos, true, [], ◌∷◌, refl, codes}
use Rattle.rb_syntax.specs.declared.outside.Outside.TheVariants as outsides
use Rattle.parser_tree.specs.Node as node
use Rattle.parser_tokens.specs.Tokens.{first, behind, word_of, bytes_at, integer_at, place_at, is_apart}
use Rattle.parser_tokens.specs.Expect.{separators_from}
use Rattle.parser_tokens.specs.Operators.{infix_at, prefix_at}
use Rattle.parser_tokens.specs.Starts.{begins_argument, is_plain_start, is_spaced_start, opens_arguments}
use Rattle.parser_tokens.specs.declared.operators.Assignment.TheVariants as signs
use Rattle.parser_ahead.specs.declared.primary.BlockStyle.TheVariants as styles
use Rattle.parser_ahead.specs.declared.primary.DoOwner.TheVariants as owners
use Rattle.parser_ahead.specs.declared.primary.Place.TheVariants as places
use Rattle.parser_nodes.specs.Nodes.{shape}
use Rattle.parser_nodes.specs.Listed.{plain_part}
use Rattle.parser_nodes.specs.Calls.{name_callee}
use Rattle.parser_form_nodes.specs.Parameters.{no_parameters}
use Rattle.parser_laws.specs.Rules.{Statements, Argument, Listing, Target, Block, Command, Postfixes}
use Rattle.parser_laws.specs.Derives.{Derives, Separated, NoMore, OneMore, AllJoined, Unjoined, Commanded, CalleeCommand, CommandPostfixes, LastPostfix, MethodPostfix, CalledAlone, NotAssigned, CalleeTarget, SafeCallee, CalleeAlone, NameCallee, Value, AllOperators, OneOperand, WithPostfixes, Integer, PlainPart, FirstPart, AllParts, DoBlock, NoBars, PlainBody}
use Rattle.parser_laws.specs.ChainExample.{dot, block_end, block_begin, digit, called_name, equals, safe, first_name, tokens, receiver, target, called, list, body, block, command, method, value, negation, tree}
use Rattle.parser_laws.proofs.Witness.{whole_statement}

the_target : Derives (Target owners.Call target) [] first_name [] equals
unfolding first behind word_of bytes_at place_at prefix_at begins_argument is_plain_start is_spaced_start opens_arguments is_apart
the_target =
    CalleeTarget owners.Call [] [] first_name equals outsides.SafeNavigation 2 (receiver ∷ []) refl
    (SafeCallee places.Command owners.Call [] [] first_name safe receiver
    (CalleeAlone places.Command owners.Call [] [] first_name safe (name_callee (codes "a") true)
    (NameCallee places.Command owners.Call [] first_name refl refl) refl refl)
    refl refl)

the_block : Derives (Block styles.Do block) [] block_begin [] dot
unfolding first behind word_of place_at separators_from
the_block =
    DoBlock [] [] [] block_begin block_end dot no_parameters body refl (NoBars [] block_end refl)
    (PlainBody [] [] block_end block_end body (Separated [] [] block_end block_end [] (NoMore [] block_end refl)) refl)

the_argument : Derives (Argument places.Command owners.Command (node.integer (pos 1))) [] digit [] block_begin
unfolding first behind word_of integer_at place_at infix_at prefix_at shape
the_argument =
    Value places.Command owners.Command [] [] digit block_begin (node.integer (pos 1)) refl
    (AllOperators places.Command 13 owners.Command [] [] digit block_begin (node.integer (pos 1))
    (OneOperand places.Command 13 owners.Command [] [] digit block_begin (node.integer (pos 1))
    (WithPostfixes places.Command owners.Command [] [] digit block_begin (node.integer (pos 1)) refl
    (Integer places.Command owners.Command [] digit refl) refl))
    refl refl)
    refl refl

the_list : Derives (Listing owners.Command list) [] digit [] block_begin
unfolding first behind word_of
the_list =
    AllParts owners.Command [] [] digit block_begin list
    (FirstPart owners.Command [] [] digit block_begin (plain_part (node.integer (pos 1)))
    (PlainPart places.Command owners.Command [] [] digit block_begin (node.integer (pos 1)) the_argument refl))
    refl

the_postfixes : Derives (Postfixes owners.Call command value) [] dot [] []
unfolding first behind word_of bytes_at place_at opens_arguments is_apart
the_postfixes =
    LastPostfix owners.Call [] [] dot [] command value
    (MethodPostfix owners.Call [] [] dot [] command value refl refl refl
    (CalledAlone owners.Call [] [] method refl refl)) refl

the_value : Derives (Command places.Command owners.Call value) [] called_name [] []
unfolding first behind word_of bytes_at prefix_at begins_argument is_plain_start opens_arguments is_apart
the_value =
    CalleeCommand places.Command owners.Call [] [] [] called_name digit [] called value refl refl refl
    (NameCallee places.Command owners.Call [] called_name refl refl)
    (CommandPostfixes owners.Call [] [] [] [] digit block_begin dot [] called list block value refl refl the_list refl
    refl the_block the_postfixes)

pub chain_example_derived : Derives (Statements tree) [] tokens [] []
unfolding first behind word_of separators_from
chain_example_derived =
    Separated [] [] tokens [] (negation ∷ [])
    (OneMore [] [] [] tokens [] [] negation [] refl
    (whole_statement [] [] tokens [] negation
    (AllJoined places.Statement owners.Call [] [] tokens [] negation
    (Unjoined places.Statement owners.Call [] [] tokens [] negation
    (Commanded places.Statement owners.Call [] [] tokens [] negation refl
    (NotAssigned places.Statement owners.Call signs.Plain [] [] [] tokens equals [] target value refl refl the_target
    refl the_value refl))) refl)
    refl)
    refl (NoMore [] [] refl))
