-- The second example is derived.
use Rattle.std.proofs.Common.{pos, true, false, [], ◌∷◌, Some, refl, codes}
use Rattle.parser_tree.specs.Node as node
use Rattle.parser_tree.specs.Node.{Node}
use Rattle.parser_tokens.specs.Tokens.{first, behind, word_of, bytes_at, integer_at, place_at}
use Rattle.parser_tokens.specs.Expect.{newlines_from, separators_from}
use Rattle.parser_tokens.specs.Operators.{infix_at, prefix_at}
use Rattle.parser_ahead.specs.Groups.{literal_step, literal_end}
use Rattle.parser_ahead.specs.declared.primary.DoOwner.TheVariants as owners
use Rattle.parser_ahead.specs.declared.primary.Place.TheVariants as places
use Rattle.parser_nodes.specs.Nodes.{shape}
use Rattle.parser_nodes.specs.Listed.{ListNode, plain_part, nothing_listed, put}
use Rattle.parser_form_nodes.specs.Targets as target_lists
use Rattle.parser_form_nodes.specs.Targets.{TargetsNode, one_target, star_target, no_targets}
use Rattle.parser_laws.specs.Rules.{Statements, Statement, Expression, Argument, Targets, Pieces, Strings, Listing}
use Rattle.parser_laws.specs.Derives.{Derives, Separated, NoMore, OneMore, WithModifiers, Unmodified, Plain, Value, AllOperators, OneOperand, WithPostfixes, Integer, LocalTarget, AnyTarget, BytesPiece, NoPiece, OnePiece, StringLiteral, LastString, Text, PlainPart, FirstPart, NextPart, AllParts, Array, SeveralAssigned, StarTarget, LastTarget}
use Rattle.parser_laws.specs.ListExample.{bracket_end, digit, second_comma, string_end, letter, string, bracket, equals, second_name, star, comma, tokens, text, array, assignment, tree, one_known, known}

the_pieces : Derives (Pieces (node.piece (codes "x") ∷ [])) known letter known string_end
unfolding first behind word_of bytes_at
the_pieces = OnePiece known known known letter string_end string_end (node.piece (codes "x")) []
    (BytesPiece known letter refl) (NoPiece known string_end refl)

the_strings : Derives (Strings (node.piece (codes "x") ∷ [])) known string known second_comma
unfolding first behind word_of
the_strings =
    LastString known known string second_comma (node.piece (codes "x") ∷ [])
    (StringLiteral known known string string_end (node.piece (codes "x") ∷ []) refl the_pieces refl) refl

the_text : Derives (Argument places.Command owners.Call text) known string known second_comma
unfolding first word_of infix_at prefix_at shape literal_step literal_end
the_text =
    Value places.Command owners.Call known known string second_comma text refl
    (AllOperators places.Command 13 owners.Call known known string second_comma text
    (OneOperand places.Command 13 owners.Call known known string second_comma text
    (WithPostfixes places.Command owners.Call known known string second_comma text refl
    (Text places.Command owners.Call known known string second_comma (node.piece (codes "x") ∷ []) refl the_strings)
    refl))
    refl refl)
    refl refl

the_digit : Derives (Argument places.Argument owners.Call (node.integer (pos 1))) known digit known bracket_end
unfolding first behind word_of integer_at place_at infix_at prefix_at shape
the_digit =
    Value places.Argument owners.Call known known digit bracket_end (node.integer (pos 1)) refl
    (AllOperators places.Argument 13 owners.Call known known digit bracket_end (node.integer (pos 1))
    (OneOperand places.Argument 13 owners.Call known known digit bracket_end (node.integer (pos 1))
    (WithPostfixes places.Argument owners.Call known known digit bracket_end (node.integer (pos 1)) refl
    (Integer places.Argument owners.Call known digit refl) refl))
    refl refl)
    refl refl

abbrev one_listed : ListNode
one_listed = put (plain_part text) nothing_listed

abbrev two_listed : ListNode
two_listed = put (plain_part (node.integer (pos 1))) one_listed

the_elements : Derives (Listing owners.Call two_listed) known string known bracket_end
unfolding first behind word_of
the_elements =
    AllParts owners.Call known known string bracket_end two_listed
    (NextPart owners.Call known known known string second_comma bracket_end (plain_part (node.integer (pos 1)))
    one_listed
    (FirstPart owners.Call known known string second_comma (plain_part text)
    (PlainPart places.Command owners.Call known known string second_comma text the_text refl))
    refl
    (PlainPart places.Argument owners.Call known known digit bracket_end (node.integer (pos 1)) the_digit refl)
    refl)
    refl

the_array : Derives (Argument places.Command owners.Call array) known bracket known []
unfolding first behind word_of infix_at prefix_at shape newlines_from
the_array =
    Value places.Command owners.Call known known bracket [] array refl
    (AllOperators places.Command 13 owners.Call known known bracket [] array
    (OneOperand places.Command 13 owners.Call known known bracket [] array
    (WithPostfixes places.Command owners.Call known known bracket [] array refl
    (Array places.Command owners.Call known known bracket bracket_end two_listed refl the_elements refl refl) refl))
    refl refl)
    refl refl

abbrev right_side : ListNode
right_side = put (plain_part array) nothing_listed

the_list : Derives (Listing owners.Call right_side) known bracket known []
unfolding first word_of
the_list =
    AllParts owners.Call known known bracket [] right_side
    (FirstPart owners.Call known known bracket [] (plain_part array)
    (PlainPart places.Command owners.Call known known bracket [] array the_array refl))
    refl

abbrev first_target : TargetsNode
first_target = target_lists.put (one_target (node.local (codes "a"))) true no_targets

abbrev both_targets : TargetsNode
both_targets = target_lists.put (star_target (Some (node.local (codes "b")))) false first_target

the_targets : Derives (Targets first_target both_targets) one_known star known equals
unfolding first behind word_of bytes_at
the_targets =
    LastTarget one_known known star equals (star_target (Some (node.local (codes "b")))) first_target
    (StarTarget one_known known star equals (node.local (codes "b")) refl
    (AnyTarget owners.Call one_known known second_name equals (node.local (codes "b"))
    (LocalTarget owners.Call one_known second_name refl)))
    refl refl refl

the_assignment : Derives (Expression places.Statement owners.Call assignment) [] tokens known []
unfolding first behind word_of bytes_at
the_assignment =
    SeveralAssigned owners.Call [] one_known known known tokens comma equals [] (node.local (codes "a")) both_targets
    right_side refl refl (LocalTarget owners.Call [] tokens refl) refl the_targets refl refl the_list refl

the_statement : Derives (Statement assignment) [] tokens known []
unfolding first word_of
the_statement = WithModifiers [] known tokens [] assignment
    (Unmodified [] known tokens [] assignment (Plain [] known tokens [] assignment the_assignment)) refl

pub list_example_derived : Derives (Statements tree) [] tokens known []
unfolding first behind word_of separators_from
list_example_derived = Separated [] known tokens [] (assignment ∷ [])
    (OneMore [] known known tokens [] [] assignment [] refl the_statement refl (NoMore known [] refl))
