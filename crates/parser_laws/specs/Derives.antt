-- The grammar as a relation of tokens and nodes, one rule for each form. Each rule says which names are known as locals
-- before it and behind it, and which tokens are left. Where a rule takes as much as fits, its part ends only before a
-- token that can't continue it.
use Rattle.std.specs.Prelude.{◌≡◌, ℕ, true, false, ◌&&◌, ◌||◌, List, [], ◌∷◌, ◌++◌, length, take, not, codes, Some, None, map, Option, Ok}
use Rattle.rb_syntax.specs.declared.keyword.Keyword.TheVariants as keywords
use Rattle.rb_syntax.specs.declared.outside.Outside.{Outside}
use Rattle.rb_syntax.specs.declared.outside.Outside.TheVariants as outsides
use Rattle.rb_syntax.specs.declared.punctuator.Punctuator.TheVariants as marks
use Rattle.rb_syntax.specs.declared.token.Token.{Token}
use Rattle.parser_tree.specs.declared.tree.RestParameter.TheVariants as rests
use Rattle.parser_tree.specs.Node as node
use Rattle.parser_tree.specs.Node.{Name, Node, Nodes, nodes, none, one}
use Rattle.parser_tree.specs.View.{items_of, pair_of}
use Rattle.parser_tokens.specs.Tokens.{first, behind, bytes_at, integer_at, character_at, place_at}
use Rattle.parser_tokens.specs.Expect.{skip_newlines, skip_separators, then_at, do_at}
use Rattle.parser_tokens.specs.Operators.{infix_at, right_level, clashes, prefix_at, is_sign, junction_at, assignment_at}
use Rattle.parser_tokens.specs.Starts.{begins_value, begins_argument, makes_call, ends_statement, ends_statements, jump_at, modifier_at, postfix_at, opens_arguments, is_separator, is_open_parenthesis}
use Rattle.parser_tokens.specs.declared.operators.Assignment.{Assignment}
use Rattle.parser_tokens.specs.declared.operators.Infix.{Infix}
use Rattle.parser_tokens.specs.declared.operators.Junction.{Junction}
use Rattle.parser_tokens.specs.declared.operators.Prefix.{Prefix}
use Rattle.parser_tokens.specs.declared.operators.Prefix.TheVariants as prefixes
use Rattle.parser_tokens.specs.declared.starts.Jump.{Jump}
use Rattle.parser_tokens.specs.declared.word.Word.TheVariants as words
use Rattle.parser_ahead.specs.Names.{is_known, learned, locals_from, declared}
use Rattle.parser_ahead.specs.Groups.{is_target_group, is_quoted_key, ends_targets, follows_nested, word_behind_group, is_nested_group, begins_pattern}
use Rattle.parser_ahead.specs.declared.groups.TargetUse.TheVariants as uses
use Rattle.parser_ahead.specs.Primary.{allows_command, is_statement, of_value, in_command, block_at, is_comma_word, is_arrow_word, is_method_word, is_name_word, lambda_block_at}
use Rattle.parser_tokens.specs.declared.word.Modifier.{Modifier}
use Rattle.parser_tokens.specs.declared.word.Modifier.TheVariants as modifiers
use Rattle.parser_ahead.specs.declared.names.Variable.{Variable}
use Rattle.parser_ahead.specs.declared.primary.BlockStyle.{BlockStyle}
use Rattle.parser_ahead.specs.declared.primary.BlockStyle.TheVariants as styles
use Rattle.parser_ahead.specs.declared.primary.DoOwner.{DoOwner}
use Rattle.parser_ahead.specs.declared.primary.DoOwner.TheVariants as owners
use Rattle.parser_ahead.specs.declared.primary.Place.{Place}
use Rattle.parser_ahead.specs.declared.primary.Place.TheVariants as places
use Rattle.parser_nodes.specs.Nodes.{infix_node, prefix_node, junction_node, assignment_node, outside_node, condition_node, choice_node, modified_node, rescued_node}
use Rattle.parser_nodes.specs.Leaf.{bare, positive_node, negative_node}
use Rattle.parser_nodes.specs.Listed as lists
use Rattle.parser_nodes.specs.Listed.{ListNode, PartNode, plain_part, splat_part, pair_part, block_part, command_part, nothing_listed, is_empty, is_none, whole_items, arguments_node, is_right_side, right_side, jump_node}
use Rattle.parser_nodes.specs.Calls.{CalleeNode, name_callee, method_callee, super_callee, outside_callee, callee, call_node, is_target, target_node, target_names}
use Rattle.parser_nodes.specs.declared.listed.Sort.TheVariants as sorts
use Rattle.parser_form_nodes.specs.Parameters.{no_parameters, definition_of, BlockNode, ParameterNode, ParameterNodes, required, optional, rest_of, block_name, outside_parameter, may_follow, put_parameter, begins_parameter, block_of, with_comma}
use Rattle.parser_form_nodes.specs.Targets.{TargetNode, one_target, group_target, star_target, TargetsNode, no_targets, targets_list, list_node, may_follow as target_follows, put}
use Rattle.parser_laws.specs.Rules.{WhenValues, Rule, Statements, StatementList, Statement, Modified, Base, Expression, Joined, Negation, Argument, Operation, Operators, Operand, Primary, Target, InnerTarget, Elements, Piece, Pieces, Quoted, Strings, Part, Parts, Listing, OneTarget, Targets, operand_level, is_inner, is_question, is_taken, is_rescue, takes_list, goes_on_list, stands_alone, ends_literal, begins_string, is_star, opens_bars, MethodNames, placed, Guarded, Repeated, Branches, Otherwise, Subject, Clauses, Clause, Values, ValueTest, Classes, RescueClauses, RescueClause, Ensured, Handlers, Parameter, ParameterList, Parameters, MethodParameters, LambdaParameters, MethodHead, ClassPath, Body, ends_subject, is_identifier, has_handlers, head_of, endless_method, is_place, is_alone, operand_place, LoopTargets, Pattern, PatternTarget, PatternName, BlockParameters, BarredParameters, BarredLocals, BlockLocals, Block, is_semicolon, Callee, CommandArguments, Command, Called, OnePostfix, Postfixes, is_constant, is_taken_callee, begins_jump, is_outside_variable, joins_name, joins_call, joins_constant, method_behind}
use Rattle.parser_tree.specs.Parts.{class_path}
use Rattle.parser_form_nodes.specs.Definitions.{HeadNode, name_place, singleton_at, method_node, is_global, global_alias}
use Rattle.parser_form_nodes.specs.Sections.{option_node, pattern_node}

abbrev pub Names : Type 0
Names = List Variable

abbrev pub Tokens : Type 0
Tokens = List Token

pub data Derives : Rule → Names → Tokens → Names → Tokens → Type 0 where
  -- separators, and statements behind them
  Separated : (names known : Names) (ts rest : Tokens) (ns : List Node)
      → Derives (StatementList ns) names (skip_separators ts) known rest
      → Derives (Statements (node.statements (nodes ns))) names ts known rest
  -- no statement before what ends them
  NoMore : (names : Names) (ts : Tokens) → ends_statements (first ts) ≡ true
      → Derives (StatementList []) names ts names ts
  -- a statement, separators, and the statements behind them
  OneMore : (names known later : Names) (ts rest more : Tokens) (n : Node) (ns : List Node)
      → ends_statements (first ts) ≡ false → Derives (Statement n) names ts known rest
      → ends_statement (first rest) ≡ true
      → Derives (StatementList ns) known (skip_separators rest) later more
      → Derives (StatementList (n ∷ ns)) names ts later more
  -- a base with all the modifiers behind it
  WithModifiers : (names known : Names) (ts rest : Tokens) (n : Node)
      → Derives (Modified n) names ts known rest → modifier_at (first rest) ≡ None
      → Derives (Statement n) names ts known rest
  -- a base alone
  Unmodified : (names known : Names) (ts rest : Tokens) (n : Node)
      → Derives (Base n) names ts known rest → Derives (Modified n) names ts known rest
  -- a test behind a modifier if, unless, while or until
  Tested : (m : Modifier) (names known later : Names) (ts rest more : Tokens) (n test : Node)
      → Derives (Modified n) names ts known rest → modifier_at (first rest) ≡ Some m → is_rescue (Some m) ≡ false
      → Derives (Expression places.Command owners.Call test) known (behind rest) later more
      → Derives (Modified (modified_node m n test)) names ts later more
  -- behind a modifier rescue what stands for a statement that fails
  Rescued : (names known later : Names) (ts rest more : Tokens) (n other : Node)
      → Derives (Modified n) names ts known rest → modifier_at (first rest) ≡ Some modifiers.Rescue
      → Derives (Base other) known (behind rest) later more
      → Derives (Modified (rescued_node n other)) names ts later more
  -- an expression
  Plain : (names known : Names) (ts rest : Tokens) (n : Node)
      → Derives (Expression places.Statement owners.Call n) names ts known rest → Derives (Base n) names ts known rest
  -- negations with all the and and or behind them
  AllJoined : (place : Place) (owner : DoOwner) (names known : Names) (ts rest : Tokens) (n : Node)
      → Derives (Joined place owner n) names ts known rest → junction_at (first rest) ≡ None
      → Derives (Expression place owner n) names ts known rest
  -- a negation alone
  Unjoined : (place : Place) (owner : DoOwner) (names known : Names) (ts rest : Tokens) (n : Node)
      → Derives (Negation place owner n) names ts known rest → Derives (Joined place owner n) names ts known rest
  -- and or or, and a negation behind it
  Junctioned : (place : Place) (owner : DoOwner) (j : Junction) (names known later : Names) (ts rest more : Tokens)
      (a b : Node)
      → Derives (Joined place owner a) names ts known rest → junction_at (first rest) ≡ Some j
      → Derives (Negation places.Command owner b) known (behind rest) later more
      → Derives (Joined place owner (junction_node j a b)) names ts later more
  -- not, and a negation
  Negated : (place : Place) (owner : DoOwner) (names known : Names) (ts rest : Tokens) (n : Node)
      → first ts ≡ words.Key keywords.Not → Derives (Negation places.Command owner n) names (behind ts) known rest
      → Derives (Negation place owner (node.not_node n)) names ts known rest
  -- a value; at the start of a statement it isn't one of several targets
  Unnegated : (place : Place) (owner : DoOwner) (names known : Names) (ts rest : Tokens) (n : Node)
      → (is_statement place && is_target_group ts) ≡ false → Derives (Argument place owner n) names ts known rest
      → Derives (Negation place owner n) names ts known rest
  -- operators of the table, neither a condition nor a target; no value begins with a jump and its list
  Value : (place : Place) (owner : DoOwner) (names known : Names) (ts rest : Tokens) (n : Node)
      → begins_jump place ts ≡ false → Derives (Operation place 13 owner n) names ts known rest
      → is_question (first rest) ≡ false → is_taken place n (first rest) ≡ false
      → Derives (Argument place owner n) names ts known rest
  -- operators of the table, a question mark, and two values with a colon between them
  Conditional : (place : Place) (owner : DoOwner) (names known later last : Names) (ts rest more left : Tokens)
      (n a b : Node)
      → begins_jump place ts ≡ false → Derives (Operation place 13 owner n) names ts known rest
      → first rest ≡ words.Mark marks.Question
      → Derives (Argument places.Argument owner a) known (behind rest) later more → first more ≡ words.Mark marks.Colon
      → Derives (Argument places.Argument owner b) later (behind more) last left
      → Derives (Argument place owner (choice_node n a b)) names ts last left
  -- defined? and a value
  DefinedValue : (place : Place) (owner : DoOwner) (names known : Names) (ts rest : Tokens) (n : Node)
      → first ts ≡ words.Key keywords.Defined → is_open_parenthesis (first (behind ts)) ≡ false
      → Derives (Argument places.Argument owner n) names (behind ts) known rest
      → Derives (Argument place owner (node.defined n)) names ts known rest
  -- an assignment to a target, with all that its value takes
  Assigned : (place : Place) (owner : DoOwner) (a : Assignment) (names known later : Names) (ts rest more : Tokens)
      (target n : Node)
      → begins_jump place ts ≡ false → Derives (Target owner target) names ts known rest
      → assignment_at (first rest) ≡ Some a
      → Derives (Argument (of_value place) owner n) known (behind rest) later more
      → is_rescue (modifier_at (first more)) ≡ false → (takes_list a place && goes_on_list (first more)) ≡ false
      → Derives (Argument place owner (assignment_node a target n)) names ts later more
  -- an assignment to a target, and behind a modifier rescue what stands for a value that fails
  AssignedOr : (place : Place) (owner : DoOwner) (a : Assignment) (names known later last : Names)
      (ts rest more left : Tokens) (target n other : Node)
      → begins_jump place ts ≡ false → Derives (Target owner target) names ts known rest
      → assignment_at (first rest) ≡ Some a
      → Derives (Argument (of_value place) owner n) known (behind rest) later more
      → modifier_at (first more) ≡ Some modifiers.Rescue
      → Derives (Argument places.Argument owner other) later (behind more) last left
      → Derives (Argument place owner (assignment_node a target (rescued_node n other))) names ts last left
  -- ! and an assignment where a command may stand, with all that its value takes
  NotAssignedValue : (place : Place) (owner : DoOwner) (a : Assignment) (names known later : Names)
      (ts rest more : Tokens) (target n : Node)
      → first ts ≡ words.Mark marks.Not → allows_command place ≡ true
      → Derives (Target owner target) names (behind ts) known rest → assignment_at (first rest) ≡ Some a
      → Derives (Argument places.Command owner n) known (behind rest) later more
      → is_rescue (modifier_at (first more)) ≡ false
      → Derives (Argument place owner (prefix_node prefixes.Not (assignment_node a target n))) names ts later more
  -- the same, and behind a modifier rescue what stands for a value that fails
  NotAssignedValueOr : (place : Place) (owner : DoOwner) (a : Assignment) (names known later last : Names)
      (ts rest more left : Tokens) (target n other : Node)
      → first ts ≡ words.Mark marks.Not → allows_command place ≡ true
      → Derives (Target owner target) names (behind ts) known rest → assignment_at (first rest) ≡ Some a
      → Derives (Argument places.Command owner n) known (behind rest) later more
      → modifier_at (first more) ≡ Some modifiers.Rescue
      → Derives (Argument places.Argument owner other) later (behind more) last left
      → Derives (Argument place owner (prefix_node prefixes.Not (assignment_node a target (rescued_node n other))))
      names ts last left
  -- an assignment where no command may stand, with all that its value takes
  InnerAssigned : (owner : DoOwner) (a : Assignment) (names known later : Names) (ts rest more : Tokens)
      (target n : Node)
      → Derives (InnerTarget owner target) names ts known rest → assignment_at (first rest) ≡ Some a
      → Derives (Argument places.Argument owner n) known (behind rest) later more
      → is_rescue (modifier_at (first more)) ≡ false
      → Derives (Argument places.Argument owner (assignment_node a target n)) names ts later more
  -- the same, and behind a modifier rescue what stands for a value that fails
  InnerAssignedOr : (owner : DoOwner) (a : Assignment) (names known later last : Names) (ts rest more left : Tokens)
      (target n other : Node)
      → Derives (InnerTarget owner target) names ts known rest → assignment_at (first rest) ≡ Some a
      → Derives (Argument places.Argument owner n) known (behind rest) later more
      → modifier_at (first more) ≡ Some modifiers.Rescue
      → Derives (Argument places.Argument owner other) later (behind more) last left
      → Derives (Argument places.Argument owner (assignment_node a target (rescued_node n other))) names ts last left
  -- a name, which is known as a local behind it
  LocalTarget : (owner : DoOwner) (names : Names) (ts : Tokens)
      → first ts ≡ words.Identifier → Derives (Target owner (node.local (bytes_at ts))) names ts
      (learned names (bytes_at ts)) (behind ts)
  -- @name as a target
  InstanceTarget : (owner : DoOwner) (names : Names) (ts : Tokens)
      → first ts ≡ words.InstanceVariable → Derives (Target owner (node.instance_variable (bytes_at ts))) names ts names
      (behind ts)
  -- $name as a target
  GlobalTarget : (owner : DoOwner) (names : Names) (ts : Tokens)
      → first ts ≡ words.GlobalVariable → Derives (Target owner (node.global_variable (bytes_at ts))) names ts names
      (behind ts)
  -- a constant as a target
  ConstantTarget : (owner : DoOwner) (names : Names) (ts : Tokens)
      → first ts ≡ words.Constant → Derives (Target owner (node.constant (bytes_at ts))) names ts names (behind ts)
  -- an index or a constant of a value as a target
  PostfixTarget : (owner : DoOwner) (names known : Names) (ts rest : Tokens) (n : Node)
      → is_place n ≡ true → prefix_at ts ≡ None → Derives (Primary places.Command owner n) names ts known rest
      → Derives (Target owner n) names ts known rest
  -- a method of a value as a target
  MethodTarget : (owner : DoOwner) (names known : Names) (ts rest : Tokens) (n : Node)
      → prefix_at ts ≡ None → Derives (Primary places.Command owner n) names ts known rest
      → first rest ≡ words.Mark marks.Dot
      → is_name_word (first (behind rest)) ≡ true
      → Derives (Target owner (node.call (one n) (bytes_at (behind rest)) node.none node.none)) names ts known
      (behind (behind rest))
  -- a variable outside the language as a target
  OutsideTarget : (owner : DoOwner) (o : Outside) (names : Names) (ts : Tokens)
      → first ts ≡ words.Other o → is_outside_variable o ≡ true
      → Derives (Target owner (bare o (place_at ts))) names ts names (behind ts)
  -- what is called outside the language as a target
  CalleeTarget : (owner : DoOwner) (names known : Names) (ts rest : Tokens) (o : Outside) (at : ℕ) (ns : List Node)
      → prefix_at ts ≡ None → Derives (Callee places.Command owner (outside_callee o at ns)) names ts known rest
      → Derives (Target owner (node.outside o at (nodes ns))) names ts known rest
  -- a target that may stand where a command may
  AnyTarget : (owner : DoOwner) (names known : Names) (ts rest : Tokens) (n : Node)
      → Derives (Target owner n) names ts known rest → Derives (InnerTarget owner n) names ts known rest
  -- an index or a constant of a value where no command may stand
  PostfixInnerTarget : (owner : DoOwner) (names known : Names) (ts rest : Tokens) (n : Node)
      → is_place n ≡ true → prefix_at ts ≡ None → Derives (Primary places.Argument owner n) names ts known rest
      → Derives (InnerTarget owner n) names ts known rest
  -- what is called where no command may stand
  CalleeInnerTarget : (owner : DoOwner) (names known : Names) (ts rest : Tokens) (c : CalleeNode)
      → prefix_at ts ≡ None → Derives (Callee places.Argument owner c) names ts known rest → is_target (callee c) ≡ true
      → Derives (InnerTarget owner (target_node (callee c))) names ts (target_names (callee c) known) rest
  -- operators with operands, and no operator behind them; as the operand of an operator they are no target of an
  -- assignment
  AllOperators : (place : Place) (loosest : ℕ) (owner : DoOwner) (names known : Names) (ts rest : Tokens) (n : Node)
      → Derives (Operators place loosest owner n) names ts known rest → infix_at loosest (first rest) ≡ None
      → (is_inner loosest && is_taken place n (first rest)) ≡ false
      → Derives (Operation place loosest owner n) names ts known rest
  -- an operand alone
  OneOperand : (place : Place) (loosest : ℕ) (owner : DoOwner) (names known : Names) (ts rest : Tokens) (n : Node)
      → Derives (Operand place owner n) names ts known rest
      → Derives (Operators place loosest owner n) names ts known rest
  -- an assignment as the last operand of an operator, with all that its value takes
  OperandAssigned : (loosest : ℕ) (owner : DoOwner) (a : Assignment) (names known later : Names) (ts rest more : Tokens)
      (target n : Node)
      → is_inner loosest ≡ true → Derives (InnerTarget owner target) names ts known rest
      → assignment_at (first rest) ≡ Some a
      → Derives (Argument places.Argument owner n) known (behind rest) later more
      → is_rescue (modifier_at (first more)) ≡ false
      → Derives (Operation places.Argument loosest owner (assignment_node a target n)) names ts later more
  -- the same, and behind a modifier rescue what stands for a value that fails
  OperandAssignedOr : (loosest : ℕ) (owner : DoOwner) (a : Assignment) (names known later last : Names)
      (ts rest more left : Tokens) (target n other : Node)
      → is_inner loosest ≡ true → Derives (InnerTarget owner target) names ts known rest
      → assignment_at (first rest) ≡ Some a
      → Derives (Argument places.Argument owner n) known (behind rest) later more
      → modifier_at (first more) ≡ Some modifiers.Rescue
      → Derives (Argument places.Argument owner other) later (behind more) last left
      → Derives (Operation places.Argument loosest owner (assignment_node a target (rescued_node n other))) names ts
      last left
  -- an operator between what stands before it and a right operand of tighter operators
  Infixed : (place : Place) (loosest : ℕ) (owner : DoOwner) (o : Infix) (names known later : Names)
      (ts rest more : Tokens) (a b : Node)
      → Derives (Operators place loosest owner a) names ts known rest → infix_at loosest (first rest) ≡ Some o
      → Derives (Operation places.Argument (right_level o) owner b) known (behind rest) later more
      → clashes o (first more) ≡ false
      → Derives (Operators place loosest owner (infix_node o (place_at rest) a b)) names ts later more
  -- an operator before its operand
  Prefixed : (place : Place) (owner : DoOwner) (o : Prefix) (names known : Names) (ts rest : Tokens) (n : Node)
      → prefix_at ts ≡ Some o → Derives (Operation (operand_place o place) (operand_level o) owner n) names (behind ts)
      known rest
      → Derives (Operand place owner (prefix_node o n)) names ts known rest
  -- ! before an operand that has an operator before it too
  NotPrefixed : (place : Place) (owner : DoOwner) (o : Prefix) (names known : Names) (ts rest : Tokens) (n : Node)
      → first ts ≡ words.Mark marks.Not → prefix_at (behind ts) ≡ Some o
      → Derives (Operation places.Argument 1 owner n) names (behind ts) known rest
      → Derives (Operand place owner (prefix_node prefixes.Not n)) names ts known rest
  -- a primary with all the postfixes behind it
  WithPostfixes : (place : Place) (owner : DoOwner) (names known : Names) (ts rest : Tokens) (n : Node)
      → prefix_at ts ≡ None → Derives (Primary place owner n) names ts known rest → postfix_at (first rest) ≡ None
      → Derives (Operand place owner n) names ts known rest
  -- nil
  Nil : (place : Place) (owner : DoOwner) (names : Names) (ts : Tokens)
      → first ts ≡ words.Key keywords.Nil → Derives (Primary place owner node.nil) names ts names (behind ts)
  -- true
  True : (place : Place) (owner : DoOwner) (names : Names) (ts : Tokens)
      → first ts ≡ words.Key keywords.True → Derives (Primary place owner node.truth) names ts names (behind ts)
  -- false
  False : (place : Place) (owner : DoOwner) (names : Names) (ts : Tokens)
      → first ts ≡ words.Key keywords.False → Derives (Primary place owner node.falsehood) names ts names (behind ts)
  -- self
  SelfReference : (place : Place) (owner : DoOwner) (names : Names) (ts : Tokens)
      → first ts ≡ words.Key keywords.SelfReference
      → Derives (Primary place owner node.self_reference) names ts names (behind ts)
  -- digits
  Integer : (place : Place) (owner : DoOwner) (names : Names) (ts : Tokens)
      → first ts ≡ words.Integer → Derives (Primary place owner (positive_node (integer_at ts) (place_at ts))) names ts
      names (behind ts)
  -- digits with the - that is their sign
  Negative : (place : Place) (owner : DoOwner) (names : Names) (ts : Tokens)
      → first ts ≡ words.Mark marks.Minus → is_sign (behind ts) ≡ true
      → Derives (Primary place owner (negative_node (integer_at (behind ts)) (place_at ts))) names ts names
      (behind (behind ts))
  -- a symbol without quotes
  Symbol : (place : Place) (owner : DoOwner) (names : Names) (ts : Tokens)
      → first ts ≡ words.Symbol → Derives (Primary place owner (node.symbol (bytes_at ts))) names ts names (behind ts)
  -- a name that is known as a local, and nothing behind it that makes a call of it
  Local : (place : Place) (owner : DoOwner) (names : Names) (ts : Tokens)
      → first ts ≡ words.Identifier → is_known (bytes_at ts) names ≡ true → makes_call (behind ts) ≡ false
      → Derives (Primary place owner (node.local (bytes_at ts))) names ts names (behind ts)
  -- @name
  InstanceVariable : (place : Place) (owner : DoOwner) (names : Names) (ts : Tokens)
      → first ts ≡ words.InstanceVariable → Derives (Primary place owner (node.instance_variable (bytes_at ts))) names
      ts names (behind ts)
  -- $name
  GlobalVariable : (place : Place) (owner : DoOwner) (names : Names) (ts : Tokens)
      → first ts ≡ words.GlobalVariable → Derives (Primary place owner (node.global_variable (bytes_at ts))) names ts
      names (behind ts)
  -- a constant, and nothing behind it that makes a call of it
  Constant : (place : Place) (owner : DoOwner) (names : Names) (ts : Tokens)
      → first ts ≡ words.Constant → makes_call (behind ts) ≡ false
      → Derives (Primary place owner (node.constant (bytes_at ts))) names ts names (behind ts)
  -- a value, and other values in brackets behind it
  Indexed : (place : Place) (owner : DoOwner) (names known later : Names) (ts rest more : Tokens) (n : Node)
      (ns : List Node)
      → Derives (Primary place owner n) names ts known rest → first rest ≡ words.Mark marks.OpenBracket
      → Derives (Values places.Command ns) known (behind rest) later more
      → first (skip_newlines more) ≡ words.Mark marks.CloseBracket
      → Derives (Primary place owner (node.index n (nodes ns))) names ts later (behind (skip_newlines more))
  -- a constant of a value, and no parenthesis directly behind it
  ScopedConstant : (place : Place) (owner : DoOwner) (names known : Names) (ts rest : Tokens) (n : Node)
      → Derives (Primary place owner n) names ts known rest → first rest ≡ words.Mark marks.ColonColon
      → first (behind rest) ≡ words.Constant → opens_arguments (behind (behind rest)) ≡ false
      → Derives (Primary place owner (node.scoped_constant n (bytes_at (behind rest)))) names ts known
      (behind (behind rest))
  -- no value
  NoValue : (place : Place) (names : Names) (ts : Tokens) → begins_value (first ts) ≡ false
      → Derives (Values place []) names ts names ts
  -- a value behind which no more stand
  LastValue : (place : Place) (names known : Names) (ts rest : Tokens) (n : Node)
      → Derives (Argument place owners.Call n) names ts known rest → goes_on_list (first rest) ≡ false
      → Derives (Values place (n ∷ [])) names ts known rest
  -- a value, a comma, and the values behind it
  MoreValues : (place : Place) (names known later : Names) (ts rest more : Tokens) (n : Node) (ns : List Node)
      → Derives (Argument place owners.Call n) names ts known rest → first rest ≡ words.Mark marks.Comma
      → Derives (Values places.Argument ns) known (behind rest) later more
      → Derives (Values place (n ∷ ns)) names ts later more
  -- statements in parentheses
  Group : (place : Place) (owner : DoOwner) (names known : Names) (ts rest : Tokens) (n : Node)
      → first ts ≡ words.Mark marks.OpenParenthesis → Derives (Statements n) names (behind ts) known rest
      → first rest ≡ words.Mark marks.CloseParenthesis → Derives (Primary place owner n) names ts known (behind rest)
  -- Literals with pieces, lists of words, tokens that are primaries alone, lists in brackets and braces, and jumps.
  -- the end of %w or %i
  NoElement : (names : Names) (ts : Tokens) → first ts ≡ words.LiteralEnd
      → Derives (Elements []) names ts names (behind ts)
  -- a word of %w or %i, and the words behind it
  OneElement : (names : Names) (ts rest : Tokens) (xs : List Name)
      → first ts ≡ words.Element → Derives (Elements xs) names (behind ts) names rest
      → Derives (Elements (bytes_at ts ∷ xs)) names ts names rest
  -- %w with its words
  WordList : (place : Place) (owner : DoOwner) (names : Names) (ts rest : Tokens) (xs : List Name)
      → first ts ≡ words.WordsBegin → Derives (Elements xs) names (behind ts) names rest
      → Derives (Primary place owner (node.words xs)) names ts names rest
  -- %i with its words
  SymbolList : (place : Place) (owner : DoOwner) (names : Names) (ts rest : Tokens) (xs : List Name)
      → first ts ≡ words.SymbolsBegin → Derives (Elements xs) names (behind ts) names rest
      → Derives (Primary place owner (node.symbols xs)) names ts names rest
  -- bytes of a literal
  BytesPiece : (names : Names) (ts : Tokens) → first ts ≡ words.Piece
      → Derives (Piece (node.piece (bytes_at ts))) names ts names (behind ts)
  -- statements that are put in
  StatementsPiece : (names known : Names) (ts rest : Tokens) (n : Node)
      → first ts ≡ words.InterpolationBegin → Derives (Statements n) names (behind ts) known rest
      → first rest ≡ words.InterpolationEnd
      → Derives (Piece n) names ts known (behind rest)
  -- @name that is put in
  InstanceVariablePiece : (names : Names) (ts : Tokens)
      → first ts ≡ words.InstanceVariable → Derives (Piece (node.instance_variable (bytes_at ts))) names ts names
      (behind ts)
  -- $name that is put in
  GlobalVariablePiece : (names : Names) (ts : Tokens)
      → first ts ≡ words.GlobalVariable → Derives (Piece (node.global_variable (bytes_at ts))) names ts names
      (behind ts)
  -- a variable outside the language that is put in
  OutsidePiece : (o : Outside) (names : Names) (ts : Tokens)
      → first ts ≡ words.Other o → stands_alone o ≡ true
      → Derives (Piece (bare o (place_at ts))) names ts names (behind ts)
  -- a name that isn't of ASCII that is put in, outside the language
  NonAsciiPiece : (names : Names) (ts : Tokens)
      → first ts ≡ words.Other outsides.NonAsciiName
      → Derives (Piece (bare outsides.NonAsciiName (place_at ts))) names ts names (behind ts)
  -- no piece before the end of a literal
  NoPiece : (names : Names) (ts : Tokens) → ends_literal (first ts) ≡ true → Derives (Pieces []) names ts names ts
  -- a piece, and the pieces behind it
  OnePiece : (names known later : Names) (ts rest more : Tokens) (n : Node) (ns : List Node)
      → Derives (Piece n) names ts known rest → Derives (Pieces ns) known rest later more
      → Derives (Pieces (n ∷ ns)) names ts later more
  -- the pieces of a string between its begin and its end
  StringLiteral : (names known : Names) (ts rest : Tokens) (ns : List Node)
      → first ts ≡ words.StringBegin → Derives (Pieces ns) names (behind ts) known rest → first rest ≡ words.LiteralEnd
      → Derives (Quoted ns) names ts known (behind rest)
  -- a character behind ?
  CharacterLiteral : (names : Names) (ts : Tokens)
      → first ts ≡ words.Character → Derives (Quoted (node.piece (character_at ts ∷ []) ∷ [])) names ts names
      (behind ts)
  -- a string, and none beside it
  LastString : (names known : Names) (ts rest : Tokens) (ns : List Node)
      → Derives (Quoted ns) names ts known rest → begins_string (first rest) ≡ false
      → Derives (Strings ns) names ts known rest
  -- a string, and those beside it
  NextString : (names known later : Names) (ts rest more : Tokens) (ns ms : List Node)
      → Derives (Quoted ns) names ts known rest → Derives (Strings ms) known rest later more
      → Derives (Strings (ns ++ ms)) names ts later more
  -- strings side by side are one; the first is no key
  Text : (place : Place) (owner : DoOwner) (names known : Names) (ts rest : Tokens) (ns : List Node)
      → is_quoted_key ts ≡ false → Derives (Strings ns) names ts known rest
      → Derives (Primary place owner (node.text (nodes ns))) names ts known rest
  -- a symbol in quotes
  QuotedSymbol : (place : Place) (owner : DoOwner) (names known : Names) (ts rest : Tokens) (ns : List Node)
      → first ts ≡ words.SymbolBegin → Derives (Pieces ns) names (behind ts) known rest → first rest ≡ words.LiteralEnd
      → Derives (Primary place owner (node.symbol_text (nodes ns))) names ts known (behind rest)
  -- :: before a constant
  TopConstant : (place : Place) (owner : DoOwner) (names : Names) (ts : Tokens)
      → first ts ≡ words.Mark marks.ColonColon → first (behind ts) ≡ words.Constant
      → Derives (Primary place owner (node.top_constant (bytes_at (behind ts)))) names ts names (behind (behind ts))
  -- a token outside the language that is a primary
  OutsideToken : (place : Place) (owner : DoOwner) (o : Outside) (names : Names) (ts : Tokens)
      → first ts ≡ words.Other o → stands_alone o ≡ true
      → Derives (Primary place owner (bare o (place_at ts))) names ts names (behind ts)
  -- __FILE__, outside the language
  FileKeyword : (place : Place) (owner : DoOwner) (names : Names) (ts : Tokens)
      → first ts ≡ words.Key keywords.FileName
      → Derives (Primary place owner (bare outsides.FileKeyword (place_at ts))) names ts names (behind ts)
  -- __LINE__, outside the language
  LineKeyword : (place : Place) (owner : DoOwner) (names : Names) (ts : Tokens)
      → first ts ≡ words.Key keywords.LineNumber
      → Derives (Primary place owner (bare outsides.LineKeyword (place_at ts))) names ts names (behind ts)
  -- __ENCODING__, outside the language
  EncodingKeyword : (place : Place) (owner : DoOwner) (names : Names) (ts : Tokens)
      → first ts ≡ words.Key keywords.EncodingName
      → Derives (Primary place owner (bare outsides.EncodingKeyword (place_at ts))) names ts names (behind ts)
  -- redo, outside the language
  Redo : (place : Place) (owner : DoOwner) (names : Names) (ts : Tokens)
      → first ts ≡ words.Key keywords.Redo → Derives (Primary place owner (bare outsides.Redo (place_at ts))) names ts
      names (behind ts)
  -- retry
  Retry : (place : Place) (owner : DoOwner) (names : Names) (ts : Tokens)
      → first ts ≡ words.Key keywords.Retry
      → Derives (Primary place owner (node.retry (place_at ts))) names ts names (behind ts)
  -- return without a value
  Return : (place : Place) (owner : DoOwner) (names : Names) (ts : Tokens)
      → first ts ≡ words.Key keywords.Return
      → Derives (Primary place owner (node.return_node (place_at ts) node.none)) names ts names
      (behind ts)
  -- break without a value
  Break : (place : Place) (owner : DoOwner) (names : Names) (ts : Tokens)
      → first ts ≡ words.Key keywords.Break
      → Derives (Primary place owner (node.break_node (place_at ts) node.none)) names ts names
      (behind ts)
  -- next without a value
  Next : (place : Place) (owner : DoOwner) (names : Names) (ts : Tokens)
      → first ts ≡ words.Key keywords.Next
      → Derives (Primary place owner (node.next_node (place_at ts) node.none)) names ts names
      (behind ts)
  -- yield without arguments; no parenthesis follows directly
  Yield : (place : Place) (owner : DoOwner) (names : Names) (ts : Tokens)
      → first ts ≡ words.Key keywords.Yield → opens_arguments (behind ts) ≡ false
      → Derives (Primary place owner (node.yield_node (place_at ts) node.none)) names ts names (behind ts)
  -- a value that is no key
  PlainPart : (place : Place) (owner : DoOwner) (names known : Names) (ts rest : Tokens) (n : Node)
      → Derives (Argument place owner n) names ts known rest → is_arrow_word (first rest) ≡ false
      → Derives (Part place owner (plain_part n)) names ts known rest
  -- a key, => and a value
  PairPart : (place : Place) (owner : DoOwner) (names known later : Names) (ts rest more : Tokens) (key n : Node)
      → Derives (Argument place owner key) names ts known rest → first rest ≡ words.Mark marks.Arrow
      → Derives (Argument places.Argument owner n) known (behind rest) later more
      → Derives (Part place owner (pair_part key n)) names ts later more
  -- a label and a value
  LabelPart : (place : Place) (owner : DoOwner) (names known : Names) (ts rest : Tokens) (n : Node)
      → first ts ≡ words.Label → Derives (Argument places.Argument owner n) names (behind ts) known rest
      → Derives (Part place owner (pair_part (node.symbol (bytes_at ts)) n)) names ts known rest
  -- a key in quotes, outside the language, and a value
  QuotedPart : (place : Place) (owner : DoOwner) (names known later : Names) (ts rest more : Tokens) (ns : List Node)
      (n : Node)
      → first ts ≡ words.StringBegin → is_quoted_key ts ≡ true → Derives (Pieces ns) names (behind ts) known rest
      → first rest ≡ words.Other outsides.QuotedLabel
      → Derives (Argument places.Argument owner n) known (behind rest) later more
      → Derives (Part place owner (pair_part (outside_node outsides.QuotedLabel (place_at rest) (node.text (nodes ns)))
      n)) names ts later more
  -- the elements of a value behind *
  SplatPart : (place : Place) (owner : DoOwner) (names known : Names) (ts rest : Tokens) (n : Node)
      → first ts ≡ words.Mark marks.Star → Derives (Argument places.Argument owner n) names (behind ts) known rest
      → Derives (Part place owner (splat_part n)) names ts known rest
  -- the pairs of a value behind **, outside the language
  DoubleSplatPart : (place : Place) (owner : DoOwner) (names known : Names) (ts rest : Tokens) (n : Node)
      → first ts ≡ words.Mark marks.StarStar → Derives (Argument places.Argument owner n) names (behind ts) known rest
      → Derives (Part place owner (pair_part (outside_node outsides.DoubleSplat (place_at ts) n) node.nil)) names ts
      known rest
  -- a value that is the block, behind &
  BlockPart : (place : Place) (owner : DoOwner) (names known : Names) (ts rest : Tokens) (n : Node)
      → first ts ≡ words.Mark marks.Ampersand → Derives (Argument places.Argument owner n) names (behind ts) known rest
      → Derives (Part place owner (block_part n)) names ts known rest
  -- the first part of a list
  FirstPart : (owner : DoOwner) (names known : Names) (ts rest : Tokens) (p : PartNode)
      → Derives (Part places.Command owner p) names ts known rest
      → Derives (Parts owner (lists.put p nothing_listed)) names ts known rest
  -- a comma, and a part that may follow those before it
  NextPart : (owner : DoOwner) (names known later : Names) (ts rest more : Tokens) (p : PartNode) (l : ListNode)
      → Derives (Parts owner l) names ts known rest → first rest ≡ words.Mark marks.Comma
      → Derives (Part places.Argument owner p) known (behind rest) later more → lists.may_follow p l ≡ true
      → Derives (Parts owner (lists.put p l)) names ts later more
  -- no part where no value begins
  NoPart : (owner : DoOwner) (names : Names) (ts : Tokens) → begins_value (first ts) ≡ false
      → Derives (Listing owner nothing_listed) names ts names ts
  -- parts without a comma behind the last
  AllParts : (owner : DoOwner) (names known : Names) (ts rest : Tokens) (l : ListNode)
      → Derives (Parts owner l) names ts known rest → is_comma_word (first rest) ≡ false
      → Derives (Listing owner l) names ts known rest
  -- parts with a comma behind the last
  LastComma : (owner : DoOwner) (names known : Names) (ts rest : Tokens) (l : ListNode)
      → Derives (Parts owner l) names ts known rest → first rest ≡ words.Mark marks.Comma
      → begins_value (first (behind rest)) ≡ false
      → Derives (Listing owner (lists.with_comma true l)) names ts known (behind rest)
  -- a list in brackets, its pairs as the last element
  Array : (place : Place) (owner : DoOwner) (names known : Names) (ts rest : Tokens) (l : ListNode)
      → first ts ≡ words.Mark marks.OpenBracket → Derives (Listing owners.Call l) names (behind ts) known rest
      → is_none l.block ≡ true
      → first (skip_newlines rest) ≡ words.Mark marks.CloseBracket
      → Derives (Primary place owner (node.array (items_of (whole_items l.items l.pairs)))) names ts known
      (behind (skip_newlines rest))
  -- pairs in braces
  Hash : (place : Place) (owner : DoOwner) (names known : Names) (ts rest : Tokens) (l : ListNode)
      → first ts ≡ words.Mark marks.OpenBrace → Derives (Listing owners.Call l) names (behind ts) known rest
      → is_none l.block ≡ true → is_empty l.items ≡ true → first (skip_newlines rest) ≡ words.Mark marks.CloseBrace
      → Derives (Primary place owner (node.hash (nodes (map pair_of l.pairs)))) names ts known
      (behind (skip_newlines rest))
  -- yield with its arguments in parentheses
  YieldGroup : (place : Place) (owner : DoOwner) (names known : Names) (ts rest : Tokens) (l : ListNode)
      → first ts ≡ words.Key keywords.Yield → opens_arguments (behind ts) ≡ true
      → Derives (Listing owners.Call l) names (behind (behind ts)) known rest
      → is_none l.block ≡ true → first (skip_newlines rest) ≡ words.Mark marks.CloseParenthesis
      → Derives (Primary place owner (node.yield_node (place_at ts) (items_of (whole_items l.items l.pairs)))) names ts
      known (behind (skip_newlines rest))
  -- return, break or next with a list
  JumpList : (place : Place) (owner : DoOwner) (j : Jump) (names known : Names) (ts rest : Tokens) (l : ListNode)
      → jump_at (first ts) ≡ Some j → allows_command place ≡ true → begins_value (first (behind ts)) ≡ true
      → Derives (Listing owner l) names (behind ts) known rest → is_none l.block ≡ true
      → Derives (Command place owner (jump_node j (place_at ts) (whole_items l.items l.pairs))) names ts known rest
  -- yield with a list that isn't in parentheses
  YieldList : (place : Place) (owner : DoOwner) (names known : Names) (ts rest : Tokens) (l : ListNode)
      → first ts ≡ words.Key keywords.Yield → allows_command place ≡ true → begins_argument (behind ts) ≡ true
      → Derives (Listing (in_command owner) l) names (behind ts) known rest → is_none l.block ≡ true
      → Derives (Command place owner (node.yield_node (place_at ts) (items_of (whole_items l.items l.pairs)))) names ts
      known rest
  -- a list assigned to a target: several values, or the elements of one
  ListAssigned : (owner : DoOwner) (names known later : Names) (ts rest more : Tokens) (target n : Node) (l : ListNode)
      → is_target_group ts ≡ false → begins_jump places.Statement ts ≡ false
      → Derives (Target owner target) names ts known rest → first rest ≡ words.Mark marks.Assign
      → Derives (Listing owner l) known (behind rest) later more → is_right_side l ≡ true
      → right_side l ≡ (n, sorts.Statement)
      → Derives (Expression places.Statement owner (node.assign target n)) names ts later more
  -- several targets, the first of which has no star and is no group, = and a list
  SeveralAssigned : (owner : DoOwner) (names known later latest : Names) (ts rest mid more : Tokens) (target : Node)
      (ms : TargetsNode) (l : ListNode)
      → is_target_group ts ≡ false → begins_jump places.Statement ts ≡ false
      → Derives (Target owner target) names ts known rest → first rest ≡ words.Mark marks.Comma
      → Derives (Targets (put (one_target target) true no_targets) ms) known (behind rest) later mid → ms.several ≡ true
      → first mid ≡ words.Mark marks.Assign → Derives (Listing owner l) later (behind mid) latest more
      → is_right_side l ≡ true
      → Derives (Expression places.Statement owner (node.multiple_assign (targets_list ms) (right_side l).0)) names ts
      latest more
  -- several targets, the first of which has a star or is a group, = and a list
  GroupsAssigned : (owner : DoOwner) (names known later : Names) (ts rest more : Tokens) (ms : TargetsNode)
      (l : ListNode)
      → (is_star (first ts) || is_target_group ts) ≡ true → Derives (Targets no_targets ms) names ts known rest
      → ms.several ≡ true
      → first rest ≡ words.Mark marks.Assign → Derives (Listing owner l) known (behind rest) later more
      → is_right_side l ≡ true
      → Derives (Expression places.Statement owner (node.multiple_assign (targets_list ms) (right_side l).0)) names ts
      later more
  -- a target alone as one of several
  PlaceTarget : (names known : Names) (ts rest : Tokens) (n : Node)
      → is_nested_group uses.Assignment ts ≡ false → Derives (InnerTarget owners.Call n) names ts known rest
      → Derives (OneTarget (one_target n)) names ts known rest
  -- a star and the target that takes the others
  StarTarget : (names known : Names) (ts rest : Tokens) (n : Node)
      → first ts ≡ words.Mark marks.Star → Derives (InnerTarget owners.Call n) names (behind ts) known rest
      → Derives (OneTarget (star_target (Some n))) names ts known rest
  -- a star alone
  BareStar : (names : Names) (ts : Tokens)
      → first ts ≡ words.Mark marks.Star → ends_targets (first (behind ts)) ≡ true
      → Derives (OneTarget (star_target None)) names ts names (behind ts)
  -- targets in parentheses
  TargetGroup : (names known : Names) (ts rest : Tokens) (ms : TargetsNode)
      → first ts ≡ words.Mark marks.OpenParenthesis → follows_nested (word_behind_group ts) ≡ true
      → Derives (Targets no_targets ms) names (behind ts) known rest → ms.several ≡ true
      → first (skip_newlines rest) ≡ words.Mark marks.CloseParenthesis
      → Derives (OneTarget (group_target ms.list)) names ts known (behind (skip_newlines rest))
  -- no target before what ends them
  NoTarget : (names : Names) (ts : Tokens) (ms : TargetsNode) → ends_targets (first ts) ≡ true
      → Derives (Targets ms ms) names ts names ts
  -- the last target
  LastTarget : (names known : Names) (ts rest : Tokens) (t : TargetNode) (ms : TargetsNode)
      → Derives (OneTarget t) names ts known rest → ends_targets (first rest) ≡ true
      → is_comma_word (first rest) ≡ false → target_follows t ms ≡ true
      → Derives (Targets ms (put t false ms)) names ts known rest
  -- a target, a comma, and the targets behind it
  NextTarget : (names known later : Names) (ts rest more : Tokens) (t : TargetNode) (ms all : TargetsNode)
      → Derives (OneTarget t) names ts known rest → first rest ≡ words.Mark marks.Comma → target_follows t ms ≡ true
      → Derives (Targets (put t true ms) all) known (behind rest) later more
      → Derives (Targets ms all) names ts later more
  -- a lambda whose parameters stand in its block, between bars, or which has none
  Lambda : (place : Place) (owner : DoOwner) (style : BlockStyle) (names known : Names) (ts rest : Tokens)
      (b : BlockNode)
      → first ts ≡ words.Mark marks.LambdaArrow → lambda_block_at owner (behind ts) ≡ Some style
      → Derives (Block style b) names (behind ts) known rest
      → Derives (Primary place owner (node.lambda (placed (place_at ts) b.0))) names ts known rest
  -- a lambda with parameters, and statements in braces
  LambdaBraces : (place : Place) (owner : DoOwner) (names known later : Names) (ts rest more : Tokens)
      (l : ParameterNodes) (n : Node)
      → first ts ≡ words.Mark marks.LambdaArrow → lambda_block_at owner (behind ts) ≡ None
      → Derives (LambdaParameters l) names (behind ts) known rest
      → first rest ≡ words.Mark marks.OpenBrace → Derives (Statements n) known (behind rest) later more
      → first more ≡ words.Mark marks.CloseBrace
      → Derives
      (Primary place owner (node.lambda (definition_of (place_at ts) l (locals_from (length names) later) n))) names ts
      (take (length names) later) (behind more)
  -- a lambda with parameters, and do with a body
  LambdaDo : (place : Place) (owner : DoOwner) (names known later : Names) (ts rest more : Tokens) (l : ParameterNodes)
      (n : Node)
      → first ts ≡ words.Mark marks.LambdaArrow → lambda_block_at owner (behind ts) ≡ None
      → Derives (LambdaParameters l) names (behind ts) known rest
      → lambda_block_at owner rest ≡ Some styles.Do → Derives (Body n) known (behind rest) later more
      → Derives
      (Primary place owner (node.lambda (definition_of (place_at ts) l (locals_from (length names) later) n))) names ts
      (take (length names) later) more
  -- Statements that are no expressions, and compound forms by their parts.
  -- alias and two names of methods
  Alias : (names : Names) (ts : Tokens)
      → first ts ≡ words.Key keywords.Alias → is_method_word (first (behind ts)) ≡ true
      → is_method_word (first (behind (behind ts))) ≡ true
      → Derives (Base (node.alias_node (bytes_at (behind ts)) (bytes_at (behind (behind ts))))) names ts names
      (behind (behind (behind ts)))
  -- alias and two global variables, outside the language
  GlobalAlias : (names : Names) (ts : Tokens)
      → first ts ≡ words.Key keywords.Alias → is_global (first (behind ts)) ≡ true
      → is_global (first (behind (behind ts))) ≡ true
      → Derives (Base (global_alias (place_at ts))) names ts names (behind (behind (behind ts)))
  -- undef and names of methods
  Undef : (names known : Names) (ts rest : Tokens) (xs : List Name)
      → first ts ≡ words.Key keywords.Undef → Derives (MethodNames xs) names (behind ts) known rest
      → Derives (Base (node.undef_node xs)) names ts known rest
  -- a name of a method, and no comma behind it
  LastMethodName : (names : Names) (ts : Tokens)
      → is_method_word (first ts) ≡ true → is_comma_word (first (behind ts)) ≡ false
      → Derives (MethodNames (bytes_at ts ∷ [])) names ts names (behind ts)
  -- a name of a method, a comma, and names behind it
  MoreMethodNames : (names known : Names) (ts rest : Tokens) (xs : List Name)
      → is_method_word (first ts) ≡ true → is_comma_word (first (behind ts)) ≡ true
      → Derives (MethodNames xs) names (behind (behind ts)) known rest
      → Derives (MethodNames (bytes_at ts ∷ xs)) names ts known rest
  -- BEGIN and statements in braces, outside the language
  BeginBlock : (names known : Names) (ts rest : Tokens) (n : Node)
      → first ts ≡ words.Key keywords.BeginBlock → first (behind ts) ≡ words.Mark marks.OpenBrace
      → Derives (Statements n) names (behind (behind ts)) known rest → first rest ≡ words.Mark marks.CloseBrace
      → Derives (Base (outside_node outsides.BeginBlock (place_at ts) n)) names ts known (behind rest)
  -- END and statements in braces, outside the language
  EndBlock : (names known : Names) (ts rest : Tokens) (n : Node)
      → first ts ≡ words.Key keywords.EndBlock → first (behind ts) ≡ words.Mark marks.OpenBrace
      → Derives (Statements n) names (behind (behind ts)) known rest → first rest ≡ words.Mark marks.CloseBrace
      → Derives (Base (outside_node outsides.EndBlock (place_at ts) n)) names ts known (behind rest)
  -- if, a condition with its statements, branches of elsif, else or none, and end
  If : (place : Place) (owner : DoOwner) (names known later latest : Names) (ts rest more last : Tokens) (t n : Node)
      (bs : List Node) (o : Option Node)
      → first ts ≡ words.Key keywords.If → Derives (Guarded t n) names (behind ts) known rest
      → Derives (Branches bs) known rest later more
      → Derives (Otherwise o) later more latest last → first last ≡ words.Key keywords.End
      → Derives (Primary place owner (node.if_node (nodes (node.branch (condition_node t) n ∷ bs)) (option_node o)))
      names ts latest (behind last)
  -- a condition, then, and statements
  GuardedBy : (names known later : Names) (ts rest body more : Tokens) (t n : Node)
      → Derives (Expression places.Command owners.Call t) names ts known rest → then_at (first rest) rest ≡ Ok body
      → Derives (Statements n) known body later more → Derives (Guarded t n) names ts later more
  -- no branch of elsif
  NoBranch : (names : Names) (ts : Tokens) → Derives (Branches []) names ts names ts
  -- elsif, a condition with its statements, and the branches behind it
  MoreBranches : (names known later : Names) (ts rest more : Tokens) (t n : Node) (bs : List Node)
      → first ts ≡ words.Key keywords.Elsif → Derives (Guarded t n) names (behind ts) known rest
      → Derives (Branches bs) known rest later more
      → Derives (Branches (node.branch (condition_node t) n ∷ bs)) names ts later more
  -- no else
  NoElse : (names : Names) (ts : Tokens) → Derives (Otherwise None) names ts names ts
  -- else and statements
  Else : (names known : Names) (ts rest : Tokens) (n : Node)
      → first ts ≡ words.Key keywords.Else → Derives (Statements n) names (behind ts) known rest
      → Derives (Otherwise (Some n)) names ts known rest
  -- unless, a condition with its statements, else or none, and end
  Unless : (place : Place) (owner : DoOwner) (names known later : Names) (ts rest more : Tokens) (t n : Node)
      (o : Option Node)
      → first ts ≡ words.Key keywords.Unless → Derives (Guarded t n) names (behind ts) known rest
      → Derives (Otherwise o) known rest later more → first more ≡ words.Key keywords.End
      → Derives (Primary place owner (node.unless_node (condition_node t) n (option_node o))) names ts later
      (behind more)
  -- while, a condition with the statements of the loop, and end
  While : (place : Place) (owner : DoOwner) (names known : Names) (ts rest : Tokens) (t n : Node)
      → first ts ≡ words.Key keywords.While → Derives (Repeated t n) names (behind ts) known rest
      → first rest ≡ words.Key keywords.End
      → Derives (Primary place owner (node.while_node false false (condition_node t) n)) names ts known (behind rest)
  -- until, a condition with the statements of the loop, and end
  Until : (place : Place) (owner : DoOwner) (names known : Names) (ts rest : Tokens) (t n : Node)
      → first ts ≡ words.Key keywords.Until → Derives (Repeated t n) names (behind ts) known rest
      → first rest ≡ words.Key keywords.End
      → Derives (Primary place owner (node.while_node true false (condition_node t) n)) names ts known (behind rest)
  -- for, targets, in, a value with the statements of the loop, and end
  For : (place : Place) (owner : DoOwner) (names known later : Names) (ts rest more : Tokens) (xs : List Node)
      (e n : Node)
      → first ts ≡ words.Key keywords.For → Derives (LoopTargets xs) names (behind ts) known rest
      → first rest ≡ words.Key keywords.In
      → Derives (Repeated e n) known (behind rest) later more → first more ≡ words.Key keywords.End
      → Derives (Primary place owner (node.for_node (nodes xs) e n)) names ts later (behind more)
  -- a target alone
  LastLoopTarget : (names known : Names) (ts rest : Tokens) (x : Node)
      → Derives (InnerTarget owners.Call x) names ts known rest → Derives (LoopTargets (x ∷ [])) names ts known rest
  -- a target, a comma, and targets behind it
  MoreLoopTargets : (names known later : Names) (ts rest more : Tokens) (x : Node) (xs : List Node)
      → Derives (InnerTarget owners.Call x) names ts known rest → is_comma_word (first rest) ≡ true
      → Derives (LoopTargets xs) known (behind rest) later more → Derives (LoopTargets (x ∷ xs)) names ts later more
  -- a condition or a value, do, and statements
  Looped : (names known later : Names) (ts rest body more : Tokens) (t n : Node)
      → Derives (Expression places.Command owners.Loop t) names ts known rest → do_at (first rest) rest ≡ Ok body
      → Derives (Statements n) known body later more → Derives (Repeated t n) names ts later more
  -- case, a subject or none, clauses, else or none, and end
  Case : (place : Place) (owner : DoOwner) (names known later latest : Names) (ts rest more last : Tokens)
      (s o : Option Node) (ws : List Node)
      → first ts ≡ words.Key keywords.Case → Derives (Subject s) names (behind ts) known rest
      → Derives (Clauses ws) known rest later more
      → Derives (Otherwise o) later more latest last → first last ≡ words.Key keywords.End
      → Derives (Primary place owner (node.case_node (option_node s) (nodes ws) (option_node o))) names ts latest
      (behind last)
  -- no subject before the clauses
  NoSubject : (names : Names) (ts : Tokens) → ends_subject (first ts) ≡ true
      → Derives (Subject None) names ts names (skip_separators ts)
  -- a subject, and the separators behind it
  WithSubject : (names known : Names) (ts rest : Tokens) (n : Node)
      → Derives (Expression places.Command owners.Call n) names ts known rest → ends_subject (first rest) ≡ true
      → Derives (Subject (Some n)) names ts known (skip_separators rest)
  -- a clause alone
  LastClause : (names known : Names) (ts rest : Tokens) (w : Node)
      → Derives (Clause w) names ts known rest → Derives (Clauses (w ∷ [])) names ts known rest
  -- a clause, and the clauses behind it
  MoreClauses : (names known later : Names) (ts rest more : Tokens) (w : Node) (ws : List Node)
      → Derives (Clause w) names ts known rest → Derives (Clauses ws) known rest later more
      → Derives (Clauses (w ∷ ws)) names ts later more
  -- when, values, then, and statements
  When : (names known later : Names) (ts rest body more : Tokens) (vs : List Node) (n : Node)
      → first ts ≡ words.Key keywords.When → Derives (WhenValues vs) names (behind ts) known rest
      → then_at (first rest) rest ≡ Ok body
      → Derives (Statements n) known body later more
      → Derives (Clause (node.when_clause (nodes vs) n)) names ts later more
  -- in, values, then, and statements, outside the language
  In : (names known later : Names) (ts rest body more : Tokens) (vs : List Node) (n : Node)
      → first ts ≡ words.Key keywords.In → Derives (WhenValues vs) names (behind ts) known rest
      → then_at (first rest) rest ≡ Ok body
      → Derives (Statements n) known body later more
      → Derives (Clause (node.when_clause (one (pattern_node (place_at ts) vs)) n)) names ts later more
  -- a value alone
  LastWhenValue : (names known : Names) (ts rest : Tokens) (v : Node)
      → Derives (ValueTest v) names ts known rest → Derives (WhenValues (v ∷ [])) names ts known rest
  -- a value, a comma, and the values behind it
  MoreWhenValues : (names known later : Names) (ts rest more : Tokens) (v : Node) (vs : List Node)
      → Derives (ValueTest v) names ts known rest → is_comma_word (first rest) ≡ true
      → Derives (WhenValues vs) known (behind rest) later more
      → Derives (WhenValues (v ∷ vs)) names ts later more
  -- a value
  PlainValue : (names known : Names) (ts rest : Tokens) (n : Node)
      → Derives (Argument places.Argument owners.Call n) names ts known rest → Derives (ValueTest n) names ts known rest
  -- a value behind a star, outside the language
  SplatValue : (names known : Names) (ts rest : Tokens) (n : Node)
      → first ts ≡ words.Mark marks.Star → Derives (Argument places.Argument owners.Call n) names (behind ts) known rest
      → Derives (ValueTest (outside_node outsides.SplatClause (place_at ts) n)) names ts known rest
  -- begin, statements, rescue clauses with else and ensure, and end
  Begin : (place : Place) (owner : DoOwner) (names known later : Names) (ts rest more : Tokens) (n : Node)
      (cs : List Node) (o e : Option Node)
      → first ts ≡ words.Key keywords.Begin → Derives (Statements n) names (behind ts) known rest
      → Derives (Handlers cs o e) known rest later more → first more ≡ words.Key keywords.End
      → Derives (Primary place owner (node.begin_node n (nodes cs) (option_node o) (option_node e))) names ts later
      (behind more)
  -- rescue clauses, else or none, and ensure or none
  Handled : (names known later latest : Names) (ts rest more last : Tokens) (cs : List Node) (o e : Option Node)
      → Derives (RescueClauses cs) names ts known rest → Derives (Otherwise o) known rest later more
      → Derives (Ensured e) later more latest last
      → Derives (Handlers cs o e) names ts latest last
  -- no rescue clause
  NoRescue : (names : Names) (ts : Tokens) → Derives (RescueClauses []) names ts names ts
  -- a rescue clause, and those behind it
  MoreRescues : (names known later : Names) (ts rest more : Tokens) (c : Node) (cs : List Node)
      → Derives (RescueClause c) names ts known rest → Derives (RescueClauses cs) known rest later more
      → Derives (RescueClauses (c ∷ cs)) names ts later more
  -- rescue, classes, then, and statements
  Rescue : (names known later : Names) (ts rest body more : Tokens) (cs : List Node) (n : Node)
      → first ts ≡ words.Key keywords.Rescue → Derives (Classes cs) names (behind ts) known rest
      → then_at (first rest) rest ≡ Ok body
      → Derives (Statements n) known body later more
      → Derives (RescueClause (node.rescue_clause (nodes cs) none n)) names ts later more
  -- rescue, classes, an arrow and a target, then, and statements
  RescueInto : (names known later latest : Names) (ts rest more body last : Tokens) (cs : List Node) (x n : Node)
      → first ts ≡ words.Key keywords.Rescue → Derives (Classes cs) names (behind ts) known rest
      → first rest ≡ words.Mark marks.Arrow
      → Derives (InnerTarget owners.Call x) known (behind rest) later more → then_at (first more) more ≡ Ok body
      → Derives (Statements n) later body latest last
      → Derives (RescueClause (node.rescue_clause (nodes cs) (one x) n)) names ts latest last
  -- no class
  NoClass : (names : Names) (ts : Tokens) → begins_value (first ts) ≡ false → Derives (Classes []) names ts names ts
  -- classes
  SomeClasses : (names known : Names) (ts rest : Tokens) (vs : List Node)
      → Derives (WhenValues vs) names ts known rest → Derives (Classes vs) names ts known rest
  -- no ensure
  NoEnsure : (names : Names) (ts : Tokens) → Derives (Ensured None) names ts names ts
  -- ensure and statements
  Ensure : (names known : Names) (ts rest : Tokens) (n : Node)
      → first ts ≡ words.Key keywords.Ensure → Derives (Statements n) names (behind ts) known rest
      → Derives (Ensured (Some n)) names ts known rest
  -- Parameters and definitions.
  -- def, a head, parameters, a body in a scope of its own, and end
  Define : (place : Place) (owner : DoOwner) (names known inner later : Names) (ts rest more last : Tokens)
      (h : HeadNode) (l : ParameterNodes) (b : Node)
      → first ts ≡ words.Key keywords.Def → Derives (MethodHead h) names (behind ts) known rest
      → Derives (MethodParameters l) [] rest inner more
      → assignment_at (first more) ≡ None → Derives (Body b) inner more later last
      → Derives (Primary place owner (method_node h (block_of (place_at ts) l (locals_from 0 later) b))) names ts known
      last
  -- def, a head, parameters, = and a value, outside the language
  EndlessDefine : (place : Place) (owner : DoOwner) (names known inner later : Names) (ts rest more last : Tokens)
      (h : HeadNode) (l : ParameterNodes) (n : Node)
      → first ts ≡ words.Key keywords.Def → Derives (MethodHead h) names (behind ts) known rest
      → Derives (MethodParameters l) [] rest inner more
      → first more ≡ words.Mark marks.Assign → Derives (Argument places.Argument owners.Call n) inner (behind more)
      later last
      → Derives (Primary place owner (endless_method l (place_at more) n)) names ts known last
  -- the name of a method
  PlainHead : (names : Names) (ts : Tokens) (x : Option ℕ)
      → singleton_at names ts ≡ None → name_place (first ts) ts ≡ Some x
      → Derives (MethodHead (head_of none ts x)) names ts names (behind ts)
  -- a name, a dot, and the name of a method
  NamedHead : (names : Names) (ts : Tokens) (n : Node) (x : Option ℕ)
      → singleton_at names ts ≡ Some n → name_place (first (behind (behind ts))) (behind (behind ts)) ≡ Some x
      → Derives (MethodHead (head_of (one n) (behind (behind ts)) x)) names ts names (behind (behind (behind ts)))
  -- an expression in parentheses, a dot, and the name of a method
  ValueHead : (names known : Names) (ts rest closing last : Tokens) (n : Node) (x : Option ℕ)
      → first ts ≡ words.Mark marks.OpenParenthesis
      → Derives (Expression places.Command owners.Call n) names (behind ts) known rest
      → skip_newlines rest ≡ closing → first closing ≡ words.Mark marks.CloseParenthesis
      → first (behind closing) ≡ words.Mark marks.Dot
      → behind (behind closing) ≡ last → name_place (first last) last ≡ Some x
      → Derives (MethodHead (head_of (one n) last x)) names ts known (behind last)
  -- parameters in parentheses
  ClosedParameters : (names known : Names) (ts rest : Tokens) (l : ParameterNodes)
      → first ts ≡ words.Mark marks.OpenParenthesis → Derives (Parameters l) names (behind ts) known rest
      → first (skip_newlines rest) ≡ words.Mark marks.CloseParenthesis
      → Derives (MethodParameters l) names ts known (behind (skip_newlines rest))
  -- parameters without parentheses
  BareParameters : (names known : Names) (ts rest : Tokens) (l : ParameterNodes)
      → is_open_parenthesis (first ts) ≡ false → Derives (Parameters l) names ts known rest
      → Derives (MethodParameters l) names ts known rest
  -- no parameter
  NoParameters : (names : Names) (ts : Tokens) → begins_parameter (first ts) ≡ false
      → Derives (Parameters no_parameters) names ts names ts
  -- all parameters
  AllParameters : (names known : Names) (ts rest : Tokens) (l : ParameterNodes)
      → Derives (ParameterList l) names ts known rest → is_comma_word (first rest) ≡ false
      → Derives (Parameters l) names ts known rest
  -- a parameter alone
  OneParameter : (names known : Names) (ts rest : Tokens) (p : ParameterNode)
      → Derives (Parameter p) names ts known rest
      → Derives (ParameterList (put_parameter p no_parameters)) names ts known rest
  -- parameters, a comma, and one that may follow them
  MoreParameters : (names known later : Names) (ts rest more : Tokens) (l : ParameterNodes) (p : ParameterNode)
      → Derives (ParameterList l) names ts known rest → is_comma_word (first rest) ≡ true
      → Derives (Parameter p) known (behind rest) later more
      → may_follow p l ≡ true → Derives (ParameterList (put_parameter p l)) names ts later more
  -- a name
  RequiredParameter : (names : Names) (ts : Tokens)
      → first ts ≡ words.Identifier → assignment_at (first (behind ts)) ≡ None
      → Derives (Parameter (required (node.name_parameter (bytes_at ts)))) names ts (declared names (bytes_at ts) true)
      (behind ts)
  -- a name, = and a default
  OptionalParameter : (names known : Names) (ts rest : Tokens) (n : Node)
      → first ts ≡ words.Identifier → first (behind ts) ≡ words.Mark marks.Assign
      → Derives (Argument places.Argument owners.Call n) (declared names (bytes_at ts) true) (behind (behind ts)) known
      rest
      → Derives (Parameter (optional (bytes_at ts) n)) names ts known rest
  -- a star and a name
  RestParameter : (names : Names) (ts : Tokens)
      → first ts ≡ words.Mark marks.Star → first (behind ts) ≡ words.Identifier
      → Derives (Parameter (rest_of (rests.Named (bytes_at (behind ts))))) names ts
      (declared names (bytes_at (behind ts)) true) (behind (behind ts))
  -- a star without a name
  UnnamedRest : (names : Names) (ts : Tokens)
      → first ts ≡ words.Mark marks.Star → is_identifier (first (behind ts)) ≡ false
      → Derives (Parameter (rest_of rests.Unnamed)) names ts names (behind ts)
  -- & and a name
  BlockParameter : (names : Names) (ts : Tokens)
      → first ts ≡ words.Mark marks.Ampersand → first (behind ts) ≡ words.Identifier
      → Derives (Parameter (block_name (bytes_at (behind ts)))) names ts (declared names (bytes_at (behind ts)) true)
      (behind (behind ts))
  -- two stars and a name, outside the language
  KeywordRest : (names : Names) (ts : Tokens)
      → first ts ≡ words.Mark marks.StarStar → first (behind ts) ≡ words.Identifier
      → Derives (Parameter (outside_parameter (node.outside outsides.DoubleSplat (place_at ts) none))) names ts
      (declared names (bytes_at (behind ts)) true) (behind (behind ts))
  -- two stars without a name, outside the language
  UnnamedKeywordRest : (names : Names) (ts : Tokens)
      → first ts ≡ words.Mark marks.StarStar → is_identifier (first (behind ts)) ≡ false
      → Derives (Parameter (outside_parameter (node.outside outsides.DoubleSplat (place_at ts) none))) names ts names
      (behind ts)
  -- a label, outside the language
  KeywordParameter : (names : Names) (ts : Tokens)
      → first ts ≡ words.Label → begins_value (first (behind ts)) ≡ false
      → Derives (Parameter (outside_parameter (node.outside outsides.KeywordParameter (place_at ts) none))) names ts
      (declared names (bytes_at ts) true) (behind ts)
  -- a label and a default, outside the language
  KeywordDefault : (names known : Names) (ts rest : Tokens) (n : Node)
      → first ts ≡ words.Label → Derives (Argument places.Argument owners.Call n) (declared names (bytes_at ts) true)
      (behind ts) known rest
      → Derives (Parameter (outside_parameter (outside_node outsides.KeywordParameter (place_at ts) n))) names ts known
      rest
  -- a name that isn't of ASCII, outside the language
  NonAsciiParameter : (names : Names) (ts : Tokens)
      → first ts ≡ words.Other outsides.NonAsciiName
      → Derives (Parameter (outside_parameter (node.outside outsides.NonAsciiName (place_at ts) none))) names ts names
      (behind ts)
  -- several targets in parentheses
  PatternParameter : (names known : Names) (ts rest : Tokens) (t : TargetsNode)
      → first ts ≡ words.Mark marks.OpenParenthesis → Derives (Pattern no_targets t) names (behind ts) known rest
      → t.several ≡ true → first (skip_newlines rest) ≡ words.Mark marks.CloseParenthesis
      → Derives (Parameter (required (list_node t.list))) names ts known (behind (skip_newlines rest))
  -- a target, and no comma behind it
  LastPattern : (names known : Names) (ts rest : Tokens) (found : TargetsNode) (x : TargetNode)
      → Derives (PatternTarget x) names ts known rest → target_follows x found ≡ true
      → is_comma_word (first rest) ≡ false
      → Derives (Pattern found (put x false found)) names ts known rest
  -- a target, a comma, and no target behind it
  CommaPattern : (names known : Names) (ts rest : Tokens) (found : TargetsNode) (x : TargetNode)
      → Derives (PatternTarget x) names ts known rest → target_follows x found ≡ true
      → is_comma_word (first rest) ≡ true
      → begins_pattern (first (behind rest)) ≡ false
      → Derives (Pattern found (put x true found)) names ts known (behind rest)
  -- a target, a comma, and the targets behind it
  MorePatterns : (names known later : Names) (ts rest more : Tokens) (found t : TargetsNode) (x : TargetNode)
      → Derives (PatternTarget x) names ts known rest → target_follows x found ≡ true
      → is_comma_word (first rest) ≡ true
      → Derives (Pattern (put x true found) t) known (behind rest) later more
      → Derives (Pattern found t) names ts later more
  -- a name in a pattern
  NamedTarget : (names known : Names) (ts rest : Tokens) (x : Node)
      → Derives (PatternName x) names ts known rest → Derives (PatternTarget (one_target x)) names ts known rest
  -- a star and a name in a pattern
  StarPattern : (names known : Names) (ts rest : Tokens) (x : Node)
      → first ts ≡ words.Mark marks.Star → Derives (PatternName x) names (behind ts) known rest
      → Derives (PatternTarget (star_target (Some x))) names ts known rest
  -- a star without a name in a pattern
  UnnamedStar : (names : Names) (ts : Tokens)
      → first ts ≡ words.Mark marks.Star → begins_pattern (first (behind ts)) ≡ false
      → Derives (PatternTarget (star_target None)) names ts names (behind ts)
  -- several targets in parentheses in a pattern
  GroupTarget : (names known : Names) (ts rest : Tokens) (t : TargetsNode)
      → first ts ≡ words.Mark marks.OpenParenthesis → Derives (Pattern no_targets t) names (behind ts) known rest
      → t.several ≡ true → first (skip_newlines rest) ≡ words.Mark marks.CloseParenthesis
      → Derives (PatternTarget (group_target t.list)) names ts known (behind (skip_newlines rest))
  -- a variable of a pattern, which is no parameter
  PatternLocal : (names : Names) (ts : Tokens)
      → first ts ≡ words.Identifier → Derives (PatternName (node.local (bytes_at ts))) names ts
      (declared names (bytes_at ts) false) (behind ts)
  -- a name of a pattern that isn't of ASCII, outside the language
  NonAsciiTarget : (names : Names) (ts : Tokens)
      → first ts ≡ words.Other outsides.NonAsciiName
      → Derives (PatternName (node.outside outsides.NonAsciiName (place_at ts) none)) names ts names (behind ts)
  -- { with parameters, statements and }; what begins in the block is forgotten behind it
  BraceBlock : (names known later : Names) (ts rest more : Tokens) (l : ParameterNodes) (n : Node)
      → first ts ≡ words.Mark marks.OpenBrace → Derives (BlockParameters l) names (behind ts) known rest
      → Derives (Statements n) known rest later more → first more ≡ words.Mark marks.CloseBrace
      → Derives (Block styles.Brace (block_of (place_at ts) l (locals_from (length names) later) n)) names ts
      (take (length names) later) (behind more)
  -- do with parameters, a body and end
  DoBlock : (names known later : Names) (ts rest last : Tokens) (l : ParameterNodes) (n : Node)
      → first ts ≡ words.Key keywords.Do → Derives (BlockParameters l) names (behind ts) known rest
      → Derives (Body n) known rest later last
      → Derives (Block styles.Do (block_of (place_at ts) l (locals_from (length names) later) n)) names ts
      (take (length names) later) last
  -- no parameters of a block
  NoBars : (names : Names) (ts : Tokens) → opens_bars (first ts) ≡ false
      → Derives (BlockParameters no_parameters) names ts names ts
  -- parameters and variables of a block alone between bars
  Bars : (names known later : Names) (ts rest more : Tokens) (l : ParameterNodes)
      → first ts ≡ words.Mark marks.OpenBar → Derives (BarredParameters l) names (behind ts) known rest
      → Derives BarredLocals known rest later more
      → first more ≡ words.Mark marks.CloseBar → Derives (BlockParameters l) names ts later (behind more)
  -- parameters without a comma behind them
  PlainBarred : (names known : Names) (ts rest : Tokens) (l : ParameterNodes)
      → Derives (Parameters l) names ts known rest → Derives (BarredParameters l) names ts known rest
  -- parameters and a comma, which behind one alone stands for a rest parameter
  CommaBarred : (names known : Names) (ts rest : Tokens) (l : ParameterNodes)
      → Derives (ParameterList l) names ts known rest → is_comma_word (first rest) ≡ true
      → begins_parameter (first (behind rest)) ≡ false
      → Derives (BarredParameters (with_comma l)) names ts known (behind rest)
  -- the parameters of a lambda in parentheses, and its variables alone
  OpenLambda : (names known later : Names) (ts rest more : Tokens) (l : ParameterNodes)
      → first ts ≡ words.Mark marks.OpenParenthesis → Derives (Parameters l) names (behind ts) known rest
      → Derives BarredLocals known rest later more
      → first (skip_newlines more) ≡ words.Mark marks.CloseParenthesis
      → Derives (LambdaParameters l) names ts later (behind (skip_newlines more))
  -- the parameters of a lambda without parentheses
  BareLambda : (names known : Names) (ts rest : Tokens) (l : ParameterNodes)
      → is_open_parenthesis (first ts) ≡ false → Derives (Parameters l) names ts known rest
      → Derives (LambdaParameters l) names ts known rest
  -- no variable of a block or a lambda alone
  NoLocals : (names : Names) (ts : Tokens) → is_semicolon (first ts) ≡ false → Derives BarredLocals names ts names ts
  -- a semicolon and variables of a block alone
  SomeLocals : (names known : Names) (ts rest : Tokens)
      → is_semicolon (first ts) ≡ true → Derives BlockLocals names ts known rest
      → Derives BarredLocals names ts known rest
  -- a name behind a mark
  LastLocal : (names : Names) (ts : Tokens)
      → first (behind ts) ≡ words.Identifier → is_comma_word (first (behind (behind ts))) ≡ false
      → Derives BlockLocals names ts (declared names (bytes_at (behind ts)) false) (behind (behind ts))
  -- a name behind a mark, a comma, and the names behind it
  MoreLocals : (names known : Names) (ts rest : Tokens)
      → first (behind ts) ≡ words.Identifier → is_comma_word (first (behind (behind ts))) ≡ true
      → Derives BlockLocals (declared names (bytes_at (behind ts)) false) (behind (behind ts)) known rest
      → Derives BlockLocals names ts known rest
  -- class, a path, a separator, a body without names, and end
  Class : (place : Place) (owner : DoOwner) (names known inner : Names) (ts rest last : Tokens) (s : Node) (x : Name)
      (b : Node)
      → first ts ≡ words.Key keywords.Class → Derives (ClassPath s x) names (behind ts) known rest
      → is_separator (first rest) ≡ true
      → Derives (Body b) [] (behind rest) inner last
      → Derives (Primary place owner (node.class_node s x none (locals_from 0 inner) b)) names ts known last
  -- class, a path, < and a superclass, a separator, a body without names, and end
  Subclass : (place : Place) (owner : DoOwner) (names known later inner : Names) (ts rest more last : Tokens) (s : Node)
      (x : Name) (n b : Node)
      → first ts ≡ words.Key keywords.Class → Derives (ClassPath s x) names (behind ts) known rest
      → first rest ≡ words.Mark marks.Less
      → Derives (Expression places.Command owners.Call n) known (behind rest) later more
      → is_separator (first more) ≡ true
      → Derives (Body b) [] (behind more) inner last
      → Derives (Primary place owner (node.class_node s x (one n) (locals_from 0 inner) b)) names ts later last
  -- class, << and an expression, a separator, a body without names, and end
  SingletonClass : (place : Place) (owner : DoOwner) (names known inner : Names) (ts rest last : Tokens) (n b : Node)
      → first ts ≡ words.Key keywords.Class → first (behind ts) ≡ words.Mark marks.ShiftLeft
      → Derives (Expression places.Command owners.Call n) names (behind (behind ts)) known rest
      → is_separator (first rest) ≡ true
      → Derives (Body b) [] (behind rest) inner last
      → Derives (Primary place owner (node.singleton_class n (locals_from 0 inner) b)) names ts known last
  -- module, a path, a body without names, and end
  Module : (place : Place) (owner : DoOwner) (names known inner : Names) (ts rest last : Tokens) (s : Node) (x : Name)
      (b : Node)
      → first ts ≡ words.Key keywords.Module → Derives (ClassPath s x) names (behind ts) known rest
      → Derives (Body b) [] rest inner last
      → Derives (Primary place owner (node.module_node s x (locals_from 0 inner) b)) names ts known last
  -- a path of constants
  Path : (names known : Names) (ts rest : Tokens) (n s : Node) (x : Name)
      → Derives (Operation places.Argument 1 owners.Call n) names ts known rest → class_path n ≡ Some (s, x)
      → Derives (ClassPath s x) names ts known rest
  -- statements and end
  PlainBody : (names known : Names) (ts rest : Tokens) (n : Node)
      → Derives (Statements n) names ts known rest → first rest ≡ words.Key keywords.End
      → Derives (Body n) names ts known (behind rest)
  -- statements, a rescue clause, else or ensure, and end
  HandledBody : (names known later : Names) (ts rest more : Tokens) (n : Node) (cs : List Node) (o e : Option Node)
      → Derives (Statements n) names ts known rest → Derives (Handlers cs o e) known rest later more
      → has_handlers cs o e ≡ true → first more ≡ words.Key keywords.End
      → Derives (Body (node.begin_node n (nodes cs) (option_node o) (option_node e))) names ts later (behind more)
  -- defined? and an expression in parentheses
  DefinedGroup : (place : Place) (owner : DoOwner) (names known : Names) (ts rest : Tokens) (n : Node)
      → first ts ≡ words.Key keywords.Defined → first (behind ts) ≡ words.Mark marks.OpenParenthesis
      → Derives (Expression places.Command owners.Call n) names (behind (behind ts)) known rest
      → first (skip_newlines rest) ≡ words.Mark marks.CloseParenthesis
      → Derives (Primary place owner (node.defined n)) names ts known (behind (skip_newlines rest))
  -- What is called, calls with arguments and blocks, and commands.
  -- a name that isn't known as a local
  NameCallee : (place : Place) (owner : DoOwner) (names : Names) (ts : Tokens)
      → first ts ≡ words.Identifier → is_known (bytes_at ts) names ≡ false
      → Derives (Callee place owner (name_callee (bytes_at ts) true)) names ts names (behind ts)
  -- a name with ? or ! at its end
  MethodNameCallee : (place : Place) (owner : DoOwner) (names : Names) (ts : Tokens)
      → first ts ≡ words.MethodName → Derives (Callee place owner (name_callee (bytes_at ts) false)) names ts names
      (behind ts)
  -- a name, maybe a local or a constant, with what makes a call of it
  OpenedCallee : (place : Place) (owner : DoOwner) (names : Names) (ts : Tokens)
      → is_name_word (first ts) ≡ true → makes_call (behind ts) ≡ true
      → Derives (Callee place owner (name_callee (bytes_at ts) (is_identifier (first ts)))) names ts names (behind ts)
  -- super
  SuperCallee : (place : Place) (owner : DoOwner) (names : Names) (ts : Tokens)
      → first ts ≡ words.Key keywords.Super
      → Derives (Callee place owner (super_callee (place_at ts))) names ts names (behind ts)
  -- a name that isn't of ASCII, outside the language
  NonAsciiCallee : (place : Place) (owner : DoOwner) (names : Names) (ts : Tokens)
      → first ts ≡ words.Other outsides.NonAsciiName
      → Derives (Callee place owner (outside_callee outsides.NonAsciiName (place_at ts) [])) names ts names (behind ts)
  -- a method of a value
  MethodCallee : (place : Place) (owner : DoOwner) (names known : Names) (ts rest : Tokens) (n : Node)
      → Derives (Primary place owner n) names ts known rest → first rest ≡ words.Mark marks.Dot
      → is_name_word (first (behind rest)) ≡ true
      → Derives (Callee place owner (method_callee n (bytes_at (behind rest)) false)) names ts known
      (behind (behind rest))
  -- a method of a value behind ::, which is no constant but before a parenthesis
  ScopeCallee : (place : Place) (owner : DoOwner) (names known : Names) (ts rest : Tokens) (n : Node)
      → Derives (Primary place owner n) names ts known rest → first rest ≡ words.Mark marks.ColonColon
      → is_name_word (first (behind rest)) ≡ true
      → (is_constant (first (behind rest)) && not (opens_arguments (behind (behind rest)))) ≡ false
      → Derives (Callee place owner (method_callee n (bytes_at (behind rest)) true)) names ts known
      (behind (behind rest))
  -- a method of a value behind &., outside the language
  SafeCallee : (place : Place) (owner : DoOwner) (names known : Names) (ts rest : Tokens) (n : Node)
      → Derives (Primary place owner n) names ts known rest → first rest ≡ words.Mark marks.AmpersandDot
      → is_name_word (first (behind rest)) ≡ true
      → Derives (Callee place owner (outside_callee outsides.SafeNavigation (place_at rest) (n ∷ []))) names ts known
      (behind (behind rest))
  -- a name behind a value that isn't of ASCII, outside the language
  NonAsciiMethod : (place : Place) (owner : DoOwner) (names known : Names) (ts rest : Tokens) (n : Node)
      → Derives (Primary place owner n) names ts known rest → joins_name (first rest) ≡ true
      → first (behind rest) ≡ words.Other outsides.NonAsciiName
      → Derives (Callee place owner (outside_callee outsides.NonAsciiName (place_at (behind rest)) (n ∷ []))) names ts
      known (behind (behind rest))
  -- a callee alone, and no assignment
  CalleeAlone : (place : Place) (owner : DoOwner) (names known : Names) (ts rest : Tokens) (c : CalleeNode)
      → Derives (Callee place owner c) names ts known rest → is_alone place owner rest ≡ true
      → is_taken_callee place c (first rest) ≡ false
      → Derives (Primary place owner (call_node c None None)) names ts known rest
  -- a callee with a list in parentheses, and no block
  GroupCall : (place : Place) (owner : DoOwner) (names known later : Names) (ts rest more : Tokens) (c : CalleeNode)
      (l : ListNode)
      → Derives (Callee place owner c) names ts known rest → opens_arguments rest ≡ true
      → Derives (Listing owners.Call l) known (behind rest) later more
      → first (skip_newlines more) ≡ words.Mark marks.CloseParenthesis
      → block_at owner (behind (skip_newlines more)) ≡ None
      → Derives (Primary place owner (call_node c (Some (arguments_node l)) None)) names ts later
      (behind (skip_newlines more))
  -- a callee with a list in parentheses, and a block
  GroupBlockCall : (place : Place) (owner : DoOwner) (style : BlockStyle) (names known later last : Names)
      (ts rest more left : Tokens) (c : CalleeNode) (l : ListNode) (b : BlockNode)
      → Derives (Callee place owner c) names ts known rest → opens_arguments rest ≡ true
      → Derives (Listing owners.Call l) known (behind rest) later more
      → first (skip_newlines more) ≡ words.Mark marks.CloseParenthesis
      → block_at owner (behind (skip_newlines more)) ≡ Some style → is_none l.block ≡ true
      → Derives (Block style b) later (behind (skip_newlines more)) last left
      → Derives (Primary place owner (call_node c (Some (arguments_node l)) (Some b))) names ts last left
  -- a callee with a block
  BlockCall : (place : Place) (owner : DoOwner) (style : BlockStyle) (names known later : Names) (ts rest more : Tokens)
      (c : CalleeNode) (b : BlockNode)
      → Derives (Callee place owner c) names ts known rest → opens_arguments rest ≡ false
      → block_at owner rest ≡ Some style
      → Derives (Block style b) known rest later more
      → Derives (Primary place owner (call_node c None (Some b))) names ts later more
  -- the method call of a value, with a dot before the parenthesis
  DotCall : (place : Place) (owner : DoOwner) (names known later : Names) (ts rest more : Tokens) (n : Node)
      (l : ListNode)
      → Derives (Primary place owner n) names ts known rest → first rest ≡ words.Mark marks.Dot
      → first (behind rest) ≡ words.Mark marks.OpenParenthesis
      → Derives (Listing owners.Call l) known (behind (behind rest)) later more
      → first (skip_newlines more) ≡ words.Mark marks.CloseParenthesis
      → Derives (Primary place owner (call_node (method_callee n (codes "call") false) (Some (arguments_node l)) None))
      names ts later (behind (skip_newlines more))
  -- the method call of a value, with &. before the parenthesis, outside the language
  SafeCall : (place : Place) (owner : DoOwner) (names known later : Names) (ts rest more : Tokens) (n : Node)
      (l : ListNode)
      → Derives (Primary place owner n) names ts known rest → first rest ≡ words.Mark marks.AmpersandDot
      → first (behind rest) ≡ words.Mark marks.OpenParenthesis
      → Derives (Listing owners.Call l) known (behind (behind rest)) later more
      → first (skip_newlines more) ≡ words.Mark marks.CloseParenthesis
      → Derives (Primary place owner (call_node (outside_callee outsides.SafeNavigation (place_at rest) (n ∷ []))
      (Some (arguments_node l)) None)) names ts later (behind (skip_newlines more))
  -- a value, and a list in brackets behind it, its pairs as the last element
  ListIndexed : (place : Place) (owner : DoOwner) (names known later : Names) (ts rest more : Tokens) (n : Node)
      (l : ListNode)
      → Derives (Primary place owner n) names ts known rest → first rest ≡ words.Mark marks.OpenBracket
      → Derives (Listing owners.Call l) known (behind rest) later more
      → is_none l.block ≡ true → first (skip_newlines more) ≡ words.Mark marks.CloseBracket
      → Derives (Primary place owner (node.index n (items_of (whole_items l.items l.pairs)))) names ts later
      (behind (skip_newlines more))
  -- a list that isn't in parentheses, and no block
  CommandList : (owner : DoOwner) (names known : Names) (ts rest : Tokens) (c : CalleeNode) (l : ListNode)
      → begins_argument ts ≡ true → opens_arguments ts ≡ false
      → Derives (Listing (in_command owner) l) names ts known rest → block_at owner rest ≡ None
      → Derives (CommandArguments owner c (call_node c (Some (arguments_node l)) None)) names ts known rest
  -- a list that isn't in parentheses, a block behind do, and no postfix
  CommandBlock : (owner : DoOwner) (names known later : Names) (ts rest more : Tokens) (c : CalleeNode) (l : ListNode)
      (b : BlockNode)
      → begins_argument ts ≡ true → opens_arguments ts ≡ false
      → Derives (Listing (in_command owner) l) names ts known rest
      → block_at owner rest ≡ Some styles.Do → is_none l.block ≡ true
      → Derives (Block styles.Do b) known rest later more → postfix_at (first more) ≡ None
      → Derives (CommandArguments owner c (call_node c (Some (arguments_node l)) (Some b))) names ts later more
  -- a list that isn't in parentheses, a block behind do, and postfixes
  CommandPostfixes : (owner : DoOwner) (names known later last : Names) (ts rest more left : Tokens) (c : CalleeNode)
      (l : ListNode) (b : BlockNode) (n : Node)
      → begins_argument ts ≡ true → opens_arguments ts ≡ false
      → Derives (Listing (in_command owner) l) names ts known rest
      → block_at owner rest ≡ Some styles.Do → is_none l.block ≡ true
      → Derives (Block styles.Do b) known rest later more
      → Derives (Postfixes owner (call_node c (Some (arguments_node l)) (Some b)) n) later more last left
      → Derives (CommandArguments owner c n) names ts last left
  -- a postfix behind which no other stands
  LastPostfix : (owner : DoOwner) (names known : Names) (ts rest : Tokens) (n m : Node)
      → Derives (OnePostfix owner n m) names ts known rest → postfix_at (first rest) ≡ None
      → Derives (Postfixes owner n m) names ts known rest
  -- a postfix, and those behind it
  MorePostfixes : (owner : DoOwner) (names known later : Names) (ts rest more : Tokens) (n m all : Node)
      → Derives (OnePostfix owner n m) names ts known rest → Derives (Postfixes owner m all) known rest later more
      → Derives (Postfixes owner n all) names ts later more
  -- a list in brackets, its pairs as the last element
  IndexPostfix : (owner : DoOwner) (names known : Names) (ts rest : Tokens) (n : Node) (l : ListNode)
      → first ts ≡ words.Mark marks.OpenBracket → Derives (Listing owners.Call l) names (behind ts) known rest
      → is_none l.block ≡ true
      → first (skip_newlines rest) ≡ words.Mark marks.CloseBracket
      → Derives (OnePostfix owner n (node.index n (items_of (whole_items l.items l.pairs)))) names ts known
      (behind (skip_newlines rest))
  -- :: and a constant, and no parenthesis directly behind it
  ConstantPostfix : (owner : DoOwner) (names : Names) (ts : Tokens) (n : Node)
      → first ts ≡ words.Mark marks.ColonColon → first (behind ts) ≡ words.Constant
      → opens_arguments (behind (behind ts)) ≡ false
      → Derives (OnePostfix owner n (node.scoped_constant n (bytes_at (behind ts)))) names ts names (behind (behind ts))
  -- ., :: or &. and the name of a method, with its arguments and its block
  MethodPostfix : (owner : DoOwner) (names known : Names) (ts rest : Tokens) (n m : Node)
      → joins_name (first ts) ≡ true → is_name_word (first (behind ts)) ≡ true
      → joins_constant (first ts) (behind ts) ≡ false
      → Derives (Called owner (method_behind (first ts) n (bytes_at (behind ts)) (place_at ts)) m) names
      (behind (behind ts)) known rest
      → Derives (OnePostfix owner n m) names ts known rest
  -- ., :: or &. and a name that isn't of ASCII, outside the language, with its arguments and its block
  NonAsciiPostfix : (owner : DoOwner) (names known : Names) (ts rest : Tokens) (n m : Node)
      → joins_name (first ts) ≡ true → first (behind ts) ≡ words.Other outsides.NonAsciiName
      → Derives (Called owner (outside_callee outsides.NonAsciiName (place_at (behind ts)) (n ∷ [])) m) names
      (behind (behind ts)) known rest
      → Derives (OnePostfix owner n m) names ts known rest
  -- . or &. and the arguments of the method call in parentheses
  CallPostfix : (owner : DoOwner) (names known : Names) (ts rest : Tokens) (n : Node) (l : ListNode)
      → joins_call (first ts) ≡ true → first (behind ts) ≡ words.Mark marks.OpenParenthesis
      → Derives (Listing owners.Call l) names (behind (behind ts)) known rest
      → first (skip_newlines rest) ≡ words.Mark marks.CloseParenthesis
      → Derives (OnePostfix owner n (call_node (method_behind (first ts) n (codes "call") (place_at ts))
      (Some (arguments_node l)) None)) names ts known (behind (skip_newlines rest))
  -- neither arguments in parentheses nor a block
  CalledAlone : (owner : DoOwner) (names : Names) (ts : Tokens) (c : CalleeNode)
      → opens_arguments ts ≡ false → block_at owner ts ≡ None
      → Derives (Called owner c (call_node c None None)) names ts names ts
  -- a list in parentheses, and no block
  CalledWith : (owner : DoOwner) (names known : Names) (ts rest : Tokens) (c : CalleeNode) (l : ListNode)
      → opens_arguments ts ≡ true → Derives (Listing owners.Call l) names (behind ts) known rest
      → first (skip_newlines rest) ≡ words.Mark marks.CloseParenthesis
      → block_at owner (behind (skip_newlines rest)) ≡ None
      → Derives (Called owner c (call_node c (Some (arguments_node l)) None)) names ts known
      (behind (skip_newlines rest))
  -- a list in parentheses, and a block
  CalledWithBlock : (owner : DoOwner) (style : BlockStyle) (names known later : Names) (ts rest more : Tokens)
      (c : CalleeNode) (l : ListNode) (b : BlockNode)
      → opens_arguments ts ≡ true → Derives (Listing owners.Call l) names (behind ts) known rest
      → first (skip_newlines rest) ≡ words.Mark marks.CloseParenthesis
      → block_at owner (behind (skip_newlines rest)) ≡ Some style → is_none l.block ≡ true
      → Derives (Block style b) known (behind (skip_newlines rest)) later more
      → Derives (Called owner c (call_node c (Some (arguments_node l)) (Some b))) names ts later more
  -- a block
  CalledBlock : (owner : DoOwner) (style : BlockStyle) (names known : Names) (ts rest : Tokens) (c : CalleeNode)
      (b : BlockNode)
      → opens_arguments ts ≡ false → block_at owner ts ≡ Some style → Derives (Block style b) names ts known rest
      → Derives (Called owner c (call_node c None (Some b))) names ts known rest
  -- a callee with what makes a command of it
  CalleeCommand : (place : Place) (owner : DoOwner) (names known later : Names) (ts rest more : Tokens) (c : CalleeNode)
      (n : Node)
      → allows_command place ≡ true → prefix_at ts ≡ None → begins_jump place ts ≡ false
      → Derives (Callee place owner c) names ts known rest
      → Derives (CommandArguments owner c n) known rest later more → Derives (Command place owner n) names ts later more
  -- ! and a callee with what makes a command of it
  NotCommand : (place : Place) (owner : DoOwner) (names known later : Names) (ts rest more : Tokens) (c : CalleeNode)
      (n : Node)
      → first ts ≡ words.Mark marks.Not → allows_command place ≡ true → prefix_at (behind ts) ≡ None
      → Derives (Callee places.Command owner c) names (behind ts) known rest
      → Derives (CommandArguments owner c n) known rest later more
      → Derives (Command place owner (prefix_node prefixes.Not n)) names ts later more
  -- an assignment of a command to a target
  CommandAssigned : (place : Place) (owner : DoOwner) (a : Assignment) (names known later : Names)
      (ts rest more : Tokens) (target n : Node)
      → begins_jump place ts ≡ false → Derives (Target owner target) names ts known rest
      → assignment_at (first rest) ≡ Some a
      → Derives (Command (of_value place) owner n) known (behind rest) later more
      → is_rescue (modifier_at (first more)) ≡ false → (takes_list a place && is_comma_word (first more)) ≡ false
      → Derives (Command place owner (assignment_node a target n)) names ts later more
  -- the same, and behind a modifier rescue what stands for a command that fails
  CommandAssignedOr : (place : Place) (owner : DoOwner) (a : Assignment) (names known later last : Names)
      (ts rest more left : Tokens) (target n other : Node)
      → begins_jump place ts ≡ false → Derives (Target owner target) names ts known rest
      → assignment_at (first rest) ≡ Some a
      → Derives (Command (of_value place) owner n) known (behind rest) later more
      → modifier_at (first more) ≡ Some modifiers.Rescue
      → Derives (Argument places.Argument owner other) later (behind more) last left
      → Derives (Command place owner (assignment_node a target (rescued_node n other))) names ts last left
  -- ! and an assignment of a command to a target
  NotAssigned : (place : Place) (owner : DoOwner) (a : Assignment) (names known later : Names)
      (ts rest more : Tokens) (target n : Node)
      → first ts ≡ words.Mark marks.Not → allows_command place ≡ true
      → Derives (Target owner target) names (behind ts) known rest
      → assignment_at (first rest) ≡ Some a → Derives (Command places.Command owner n) known (behind rest) later more
      → is_rescue (modifier_at (first more)) ≡ false
      → Derives (Command place owner (prefix_node prefixes.Not (assignment_node a target n))) names ts later more
  -- the same, and behind a modifier rescue what stands for a command that fails
  NotAssignedOr : (place : Place) (owner : DoOwner) (a : Assignment) (names known later last : Names)
      (ts rest more left : Tokens) (target n other : Node)
      → first ts ≡ words.Mark marks.Not → allows_command place ≡ true
      → Derives (Target owner target) names (behind ts) known rest
      → assignment_at (first rest) ≡ Some a → Derives (Command places.Command owner n) known (behind rest) later more
      → modifier_at (first more) ≡ Some modifiers.Rescue
      → Derives (Argument places.Argument owner other) later (behind more) last left
      → Derives (Command place owner (prefix_node prefixes.Not (assignment_node a target (rescued_node n other)))) names
      ts last left
  -- a command; at the start of a statement it isn't one of several targets
  Commanded : (place : Place) (owner : DoOwner) (names known : Names) (ts rest : Tokens) (n : Node)
      → (is_statement place && is_target_group ts) ≡ false → Derives (Command place owner n) names ts known rest
      → Derives (Negation place owner n) names ts known rest
  -- a command is the only part of a list
  CommandPart : (owner : DoOwner) (names known : Names) (ts rest : Tokens) (n : Node)
      → Derives (Command places.Command owner n) names ts known rest → is_comma_word (first rest) ≡ false
      → Derives (Listing owner (lists.put (command_part n) nothing_listed)) names ts known rest
