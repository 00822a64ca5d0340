-- The examples are derived.
use Rattle.std.proofs.Common.{◌≡◌, pos, false, ◌&&◌, [], ◌∷◌, None, refl, codes}
use Rattle.parser_tree.specs.Node as node
use Rattle.parser_tree.specs.Node.{Node, nodes, none}
use Rattle.parser_tokens.specs.Tokens.{first, behind, word_of, bytes_at, integer_at, place_at}
use Rattle.parser_tokens.specs.Expect.{newlines_from, separators_from}
use Rattle.parser_tokens.specs.Operators.{infix_at, prefix_at, junction_at}
use Rattle.parser_tokens.specs.Starts.{is_plain_start, makes_call, modifier_at, postfix_at, opens_arguments}
use Rattle.parser_tokens.specs.declared.operators.Assignment.TheVariants as signs
use Rattle.parser_ahead.specs.Groups.{is_target_group}
use Rattle.parser_ahead.specs.Primary.{is_statement}
use Rattle.parser_ahead.specs.declared.primary.DoOwner.{DoOwner}
use Rattle.parser_ahead.specs.declared.primary.DoOwner.TheVariants as owners
use Rattle.parser_ahead.specs.declared.primary.Place.{Place}
use Rattle.parser_ahead.specs.declared.primary.Place.TheVariants as places
use Rattle.parser_nodes.specs.Nodes.{shape}
use Rattle.parser_form_nodes.specs.Definitions.{singleton_at}
use Rattle.parser_form_nodes.specs.Parameters.{ParameterNodes, required, no_parameters, put_parameter}
use Rattle.parser_laws.specs.Rules.{Statements, Expression, Argument, Target, Statement, Primary, MethodParameters, Body, is_question, is_taken, begins_jump, head_of}
use Rattle.parser_laws.specs.Derives.{Names, Tokens, Derives, Separated, NoMore, OneMore, WithModifiers, Unmodified, Plain, AllJoined, Unjoined, Unnegated, Assigned, LocalTarget, Value, AllOperators, OneOperand, WithPostfixes, Integer, Local, If, GuardedBy, NoBranch, NoElse, Define, PlainHead, ClosedParameters, AllParameters, OneParameter, RequiredParameter, PlainBody}
use Rattle.parser_laws.specs.Example.{one, equals_one, tokens, assignment, tree, known, ends_method, ends_if, then_ends, test, body, closes, parameter, opens, name, method_tokens, inner, branch, method, method_tree}

the_value : Derives (Argument places.Command owners.Call (node.integer (pos 1))) known one known []
unfolding first behind word_of integer_at place_at infix_at prefix_at shape
the_value =
    Value places.Command owners.Call known known one [] (node.integer (pos 1)) refl
    (AllOperators places.Command 13 owners.Call known known one [] (node.integer (pos 1))
    (OneOperand places.Command 13 owners.Call known known one [] (node.integer (pos 1))
    (WithPostfixes places.Command owners.Call known known one [] (node.integer (pos 1)) refl
    (Integer places.Command owners.Call known one refl) refl))
    refl refl)
    refl refl

the_target : Derives (Target owners.Call (node.local (codes "x"))) [] tokens known equals_one
unfolding first behind word_of bytes_at
the_target = LocalTarget owners.Call [] tokens refl

the_statement : Derives (Statement assignment) [] tokens known []
unfolding first behind word_of
the_statement =
    WithModifiers [] known tokens [] assignment
    (Unmodified [] known tokens [] assignment
    (Plain [] known tokens [] assignment
    (AllJoined places.Statement owners.Call [] known tokens [] assignment
    (Unjoined places.Statement owners.Call [] known tokens [] assignment
    (Unnegated places.Statement owners.Call [] known tokens [] assignment refl
    (Assigned places.Statement owners.Call signs.Plain [] known known tokens equals_one [] (node.local (codes "x"))
    (node.integer (pos 1)) refl the_target refl the_value refl refl)))
    refl)))
    refl

pub example_derived : Derives (Statements tree) [] tokens known []
unfolding first behind word_of separators_from
example_derived = Separated [] known tokens [] (assignment ∷ [])
    (OneMore [] known known tokens [] [] assignment [] refl the_statement refl (NoMore known [] refl))

-- a primary alone is an expression
pub alone : (place : Place) (owner : DoOwner) (names known : Names) (ts rest : Tokens) (n : Node) → prefix_at ts ≡ None
    → Derives (Primary place owner n) names ts known rest → postfix_at (first rest) ≡ None
    → infix_at 13 (first rest) ≡ None → is_question (first rest) ≡ false → is_taken place n (first rest) ≡ false
    → (is_statement place && is_target_group ts) ≡ false → begins_jump place ts ≡ false
    → junction_at (first rest) ≡ None
    → Derives (Expression place owner n) names ts known rest
alone place owner names known ts rest n no_prefix primary no_postfix no_infix question taken group jump no_junction =
    AllJoined place owner names known ts rest n
    (Unjoined place owner names known ts rest n
    (Unnegated place owner names known ts rest n group
    (Value place owner names known ts rest n jump
    (AllOperators place 13 owner names known ts rest n
    (OneOperand place 13 owner names known ts rest n
    (WithPostfixes place owner names known ts rest n no_prefix primary no_postfix)) no_infix refl)
    question taken)))
    no_junction

-- an expression alone is a statement
pub whole_statement : (names known : Names) (ts rest : Tokens) (n : Node)
    → Derives (Expression places.Statement owners.Call n) names ts known rest → modifier_at (first rest) ≡ None
    → Derives (Statement n) names ts known rest
whole_statement names known ts rest n expression ends =
    WithModifiers names known ts rest n (Unmodified names known ts rest n (Plain names known ts rest n expression)) ends

the_test : Derives (Expression places.Command owners.Call (node.local (codes "a"))) inner test inner then_ends
unfolding first behind word_of bytes_at infix_at prefix_at makes_call is_plain_start opens_arguments shape
the_test = alone places.Command owners.Call inner inner test then_ends (node.local (codes "a")) refl
    (Local places.Command owners.Call inner test refl refl refl) refl refl refl refl refl refl refl

the_branch : Derives (Primary places.Statement owners.Call branch) inner body inner ends_method
unfolding first behind word_of separators_from shape
the_branch =
    If places.Statement owners.Call inner inner inner inner body ends_if ends_if ends_if (node.local (codes "a"))
    (node.statements none) [] None refl
    (GuardedBy inner inner inner test then_ends ends_if ends_if (node.local (codes "a")) (node.statements none) the_test
    refl (Separated inner inner ends_if ends_if [] (NoMore inner ends_if refl)))
    (NoBranch inner ends_if) (NoElse inner ends_if) refl

the_body : Derives (Body (node.statements (nodes (branch ∷ [])))) inner body inner []
unfolding first behind word_of separators_from infix_at prefix_at shape
the_body =
    PlainBody inner inner body ends_method (node.statements (nodes (branch ∷ [])))
    (Separated inner inner body ends_method (branch ∷ [])
    (OneMore inner inner inner body ends_method ends_method branch [] refl
    (whole_statement inner inner body ends_method branch
    (alone places.Statement owners.Call inner inner body ends_method branch refl the_branch refl refl refl refl refl
    refl refl) refl)
    refl (NoMore inner ends_method refl)))
    refl

abbrev the_list : ParameterNodes
the_list = put_parameter (required (node.name_parameter (codes "a"))) no_parameters

the_parameters : Derives (MethodParameters the_list) [] opens inner body
unfolding first behind word_of bytes_at newlines_from
the_parameters =
    ClosedParameters [] inner opens closes the_list refl
    (AllParameters [] inner parameter closes the_list
    (OneParameter [] inner parameter closes (required (node.name_parameter (codes "a")))
    (RequiredParameter [] parameter refl refl)) refl) refl

the_method : Derives (Primary places.Statement owners.Call method) [] method_tokens [] []
unfolding first behind word_of bytes_at place_at singleton_at
the_method =
    Define places.Statement owners.Call [] [] inner inner method_tokens opens body [] (head_of none name None) the_list
    (node.statements (nodes (branch ∷ []))) refl
    (PlainHead [] name None refl refl) the_parameters refl the_body

pub method_derived : Derives (Statements method_tree) [] method_tokens [] []
unfolding first behind word_of separators_from infix_at prefix_at shape
method_derived =
    Separated [] [] method_tokens [] (method ∷ [])
    (OneMore [] [] [] method_tokens [] [] method [] refl
    (whole_statement [] [] method_tokens [] method
    (alone places.Statement owners.Call [] [] method_tokens [] method refl the_method refl refl refl refl refl refl
    refl) refl)
    refl (NoMore [] [] refl))
