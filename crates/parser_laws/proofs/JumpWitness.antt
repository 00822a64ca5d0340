-- The example of a negated element of what a yield alone gives is derived.
use Rattle.std.proofs.Common.{pos, [], ◌∷◌, refl}
use Rattle.parser_tree.specs.Node as node
use Rattle.parser_tokens.specs.Tokens.{first, behind, word_of, integer_at, place_at}
use Rattle.parser_tokens.specs.Expect.{newlines_from, separators_from}
use Rattle.parser_tokens.specs.Operators.{infix_at, prefix_at}
use Rattle.parser_tokens.specs.Starts.{opens_arguments}
use Rattle.parser_tokens.specs.declared.operators.Prefix.TheVariants as prefixes
use Rattle.parser_ahead.specs.declared.primary.DoOwner.TheVariants as owners
use Rattle.parser_ahead.specs.declared.primary.Place.TheVariants as places
use Rattle.parser_nodes.specs.Nodes.{shape}
use Rattle.parser_laws.specs.Rules.{Statements, Argument, Operation, Primary}
use Rattle.parser_laws.specs.Derives.{Derives, Separated, NoMore, OneMore, AllJoined, Unjoined, Unnegated, Value, AllOperators, OneOperand, Prefixed, WithPostfixes, Integer, Indexed, LastValue, Yield}
use Rattle.parser_laws.specs.JumpExample.{bracket_end, digit, bracket, jump, tokens, index, negation, tree}
use Rattle.parser_laws.proofs.Witness.{whole_statement}

the_digit : Derives (Argument places.Command owners.Call (node.integer (pos 0))) [] digit [] bracket_end
unfolding first behind word_of integer_at place_at infix_at prefix_at shape
the_digit =
    Value places.Command owners.Call [] [] digit bracket_end (node.integer (pos 0)) refl
    (AllOperators places.Command 13 owners.Call [] [] digit bracket_end (node.integer (pos 0))
    (OneOperand places.Command 13 owners.Call [] [] digit bracket_end (node.integer (pos 0))
    (WithPostfixes places.Command owners.Call [] [] digit bracket_end (node.integer (pos 0)) refl
    (Integer places.Command owners.Call [] digit refl) refl))
    refl refl)
    refl refl

the_index : Derives (Primary places.Command owners.Call index) [] jump [] []
unfolding first behind word_of place_at opens_arguments newlines_from
the_index =
    Indexed places.Command owners.Call [] [] [] jump bracket bracket_end (node.yield_node 1 node.none)
    (node.integer (pos 0) ∷ [])
    (Yield places.Command owners.Call [] jump refl refl) refl
    (LastValue places.Command [] [] digit bracket_end (node.integer (pos 0)) the_digit refl) refl

the_operand : Derives (Operation places.Command 1 owners.Call index) [] jump [] []
unfolding first word_of infix_at prefix_at shape
the_operand =
    AllOperators places.Command 1 owners.Call [] [] jump [] index
    (OneOperand places.Command 1 owners.Call [] [] jump [] index
    (WithPostfixes places.Command owners.Call [] [] jump [] index refl the_index refl)) refl refl

the_value : Derives (Argument places.Statement owners.Call negation) [] tokens [] []
unfolding first behind word_of infix_at prefix_at shape
the_value =
    Value places.Statement owners.Call [] [] tokens [] negation refl
    (AllOperators places.Statement 13 owners.Call [] [] tokens [] negation
    (OneOperand places.Statement 13 owners.Call [] [] tokens [] negation
    (Prefixed places.Statement owners.Call prefixes.Not [] [] tokens [] index refl the_operand)) refl refl)
    refl refl

pub jump_example_derived : Derives (Statements tree) [] tokens [] []
unfolding first behind word_of separators_from
jump_example_derived =
    Separated [] [] tokens [] (negation ∷ [])
    (OneMore [] [] [] tokens [] [] negation [] refl
    (whole_statement [] [] tokens [] negation
    (AllJoined places.Statement owners.Call [] [] tokens [] negation
    (Unjoined places.Statement owners.Call [] [] tokens [] negation
    (Unnegated places.Statement owners.Call [] [] tokens [] negation refl the_value)) refl)
    refl)
    refl (NoMore [] [] refl))
