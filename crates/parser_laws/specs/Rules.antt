-- The rules of the grammar by their names, and the questions that they ask.
use Rattle.std.specs.Prelude.{ℕ, nat_le, Bool, true, false, ◌&&◌, ◌||◌, List, Option, Some, None, is_some, [], ◌∷◌, ◌++◌, not}
use Rattle.rb_syntax.specs.declared.keyword.Keyword.TheVariants as keywords
use Rattle.rb_syntax.specs.declared.outside.Outside.{Outside}
use Rattle.rb_syntax.specs.declared.outside.Outside.TheVariants as outsides
use Rattle.rb_syntax.specs.declared.punctuator.Punctuator.TheVariants as marks
use Rattle.parser_tree.specs.Node.{Name, Node, Nodes, nodes}
use Rattle.parser_tree.specs.Node as node
use Rattle.rb_syntax.specs.declared.token.Token.{Token}
use Rattle.parser_tokens.specs.Tokens.{first, behind, bytes_at}
use Rattle.parser_tree.specs.declared.operator.UnaryOperator.TheVariants as unary
use Rattle.parser_tokens.specs.Operators.{assignment_at}
use Rattle.parser_tokens.specs.declared.operators.Assignment.{Assignment}
use Rattle.parser_tokens.specs.declared.operators.Assignment.TheVariants as assignments
use Rattle.parser_tokens.specs.declared.operators.Prefix.{Prefix}
use Rattle.parser_tokens.specs.declared.operators.Prefix.TheVariants as prefixes
use Rattle.parser_tokens.specs.declared.word.Modifier.{Modifier}
use Rattle.parser_tokens.specs.declared.word.Modifier.TheVariants as modifiers
use Rattle.parser_tokens.specs.declared.word.Word.{Word}
use Rattle.parser_tokens.specs.declared.word.Word.TheVariants as words
use Rattle.parser_tokens.specs.Starts.{begins_value, opens_arguments, begins_argument}
use Rattle.parser_ahead.specs.Primary.{is_statement, allows_command, of_value, block_at, is_comma_word, is_arrow_word}
use Rattle.parser_ahead.specs.declared.primary.BlockStyle.{BlockStyle}
use Rattle.parser_ahead.specs.declared.primary.DoOwner.{DoOwner}
use Rattle.parser_ahead.specs.declared.primary.Place.{Place}
use Rattle.parser_ahead.specs.declared.primary.Place.TheVariants as places
use Rattle.parser_nodes.specs.Calls.{CalleeNode, method_callee, outside_callee, callee, is_target, whole}
use Rattle.parser_nodes.specs.Listed.{ListNode, PartNode, is_empty}
use Rattle.parser_form_nodes.specs.Targets.{TargetNode, TargetsNode}
use Rattle.parser_form_nodes.specs.Parameters.{ParameterNode, ParameterNodes, BlockNode}
use Rattle.parser_form_nodes.specs.Definitions.{HeadNode}

-- an index, or a constant of a value
abbrev pub is_place : Node → Bool
is_place (node.index e is) = true
is_place (node.scoped_constant e x) = true
is_place n = false

abbrev pub Tokens : Type 0
Tokens = List Token

-- a rule of the grammar, with where it stands, whom a do belongs to, and the node that its tokens stand for
pub data Rule : Type 0 where
  -- statements with what separates them, the same behind the separators before them, and one of them
  Statements : Node → Rule
  StatementList : List Node → Rule
  Statement : Node → Rule
  -- a base with modifiers, to which more may be added, and a base
  Modified : Node → Rule
  Base : Node → Rule
  -- negations with and and or between them, the same where more may follow, and one of them
  Expression : Place → DoOwner → Node → Rule
  Joined : Place → DoOwner → Node → Rule
  Negation : Place → DoOwner → Node → Rule
  -- a value without a command
  Argument : Place → DoOwner → Node → Rule
  -- operands with operators between them, none looser than a level, the same where more may follow, and an operand
  Operation : Place → ℕ → DoOwner → Node → Rule
  Operators : Place → ℕ → DoOwner → Node → Rule
  Operand : Place → DoOwner → Node → Rule
  -- a primary with postfixes, to which more may be added
  Primary : Place → DoOwner → Node → Rule
  -- values with commas between them, the first of which stands at this place
  Values : Place → List Node → Rule
  -- what may stand before the = of an assignment, and the same where no command may stand
  Target : DoOwner → Node → Rule
  InnerTarget : DoOwner → Node → Rule
  -- the words of %w or %i up to behind their end
  Elements : List Name → Rule
  -- a piece of a literal, and its pieces up to its end
  Piece : Node → Rule
  Pieces : List Node → Rule
  -- the pieces of a string, and of strings side by side
  Quoted : List Node → Rule
  Strings : List Node → Rule
  -- a part of a list, parts with commas between them, to which more may be added, and the same with all of them
  Part : Place → DoOwner → PartNode → Rule
  Parts : DoOwner → ListNode → Rule
  Listing : DoOwner → ListNode → Rule
  -- one of several targets, and all the targets behind those that stand before them
  OneTarget : TargetNode → Rule
  Targets : TargetsNode → TargetsNode → Rule
  -- Parts of statements that are no expressions, and of compound forms.
  -- names of methods with commas between them
  MethodNames : List Name → Rule
  -- a condition, then, and the statements that it guards; a condition, do, and the statements of a loop
  Guarded : Node → Node → Rule
  Repeated : Node → Node → Rule
  -- the targets of for
  LoopTargets : List Node → Rule
  -- branches of elsif, and else or none
  Branches : List Node → Rule
  Otherwise : Option Node → Rule
  -- the subject of case or none, its clauses, and one of them
  Subject : Option Node → Rule
  Clauses : List Node → Rule
  Clause : Node → Rule
  -- values with commas between them, and one of them
  WhenValues : List Node → Rule
  ValueTest : Node → Rule
  -- the classes of a rescue clause, rescue clauses, and one of them
  Classes : List Node → Rule
  RescueClauses : List Node → Rule
  RescueClause : Node → Rule
  -- ensure or none; rescue clauses with else and ensure
  Ensured : Option Node → Rule
  Handlers : List Node → Option Node → Option Node → Rule
  -- Parts of definitions.
  -- a parameter, parameters with commas between them to which more may be added, all of them, and those of a method
  Parameter : ParameterNode → Rule
  ParameterList : ParameterNodes → Rule
  Parameters : ParameterNodes → Rule
  MethodParameters : ParameterNodes → Rule
  -- those of a lambda, with its variables alone
  LambdaParameters : ParameterNodes → Rule
  -- the parameters of a block, those between its bars, its variables alone or none, and those behind a mark; a block
  BlockParameters : ParameterNodes → Rule
  BarredParameters : ParameterNodes → Rule
  BarredLocals : Rule
  BlockLocals : Rule
  Block : BlockStyle → BlockNode → Rule
  -- what is called, without arguments and a block; a list that isn't in parentheses, which makes a command of what is
  -- called; and a command
  Callee : Place → DoOwner → CalleeNode → Rule
  CommandArguments : DoOwner → CalleeNode → Node → Rule
  Command : Place → DoOwner → Node → Rule
  -- a callee with arguments in parentheses and a block, or alone
  Called : DoOwner → CalleeNode → Node → Rule
  -- a postfix behind the first node, which makes the second of it, and one or more of them up to the last
  OnePostfix : DoOwner → Node → Node → Rule
  Postfixes : DoOwner → Node → Node → Rule
  -- the targets of a pattern behind those that were found, one of them, and one without a star and a group
  Pattern : TargetsNode → TargetsNode → Rule
  PatternTarget : TargetNode → Rule
  PatternName : Node → Rule
  -- what a method is defined on, and its name
  MethodHead : HeadNode → Rule
  -- where a class or module stands, and its name
  ClassPath : Node → Name → Rule
  -- a body, to behind its end
  Body : Node → Rule

-- the loosest operators in the operand behind one that stands before it
abbrev pub operand_level : Prefix → ℕ
operand_level prefixes.Not = 1
operand_level (prefixes.Operation unary.Plus) = 1
operand_level (prefixes.Operation unary.Complement) = 1
operand_level (prefixes.Operation unary.Minus) = 2

-- the loosest operators in the operand of an operator; those of a value may be looser
abbrev pub is_inner : ℕ → Bool
is_inner loosest = nat_le loosest 12

-- where the operand behind one that stands before it is: where a command may begin, one may begin behind ! too
abbrev pub operand_place : Prefix → Place → Place
operand_place prefixes.Not place = of_value place
operand_place (prefixes.Operation o) place = places.Argument

-- a modifier that no assignment takes
abbrev pub is_rescue : Option Modifier → Bool
is_rescue (Some modifiers.Rescue) = true
is_rescue (Some modifiers.If) = false
is_rescue (Some modifiers.Unless) = false
is_rescue (Some modifiers.While) = false
is_rescue (Some modifiers.Until) = false
is_rescue None = false

-- an assignment whose right side may be a list
abbrev pub takes_list : Assignment → Place → Bool
takes_list assignments.Plain place = is_statement place
takes_list (assignments.Operation o) place = false

-- a word makes a list of a value before it
abbrev pub goes_on_list : Word → Bool
goes_on_list w = is_comma_word w || is_arrow_word w

abbrev pub is_question : Word → Bool
is_question (words.Mark marks.Question) = true
is_question _ = false

abbrev pub is_not : Word → Bool
is_not (words.Key keywords.Not) = true
is_not _ = false

-- this word makes a target of a variable before it: an assignment, and at the start of a statement a comma
abbrev pub takes_target : Place → Word → Bool
takes_target place w = is_some (assignment_at w) || (is_statement place && is_comma_word w)

-- a node is a target by the word behind it
abbrev pub is_taken : Place → Node → Word → Bool
is_taken place n w = is_target (whole n) && takes_target place w

-- a token outside the language that is a primary: the others stand within other forms, or are called
abbrev pub stands_alone : Outside → Bool
stands_alone outsides.Ambiguous = false
stands_alone outsides.QuotedLabel = false
stands_alone outsides.NonAsciiName = false
stands_alone _ = true

-- the end of a literal, or of a key in quotes
abbrev pub ends_literal : Word → Bool
ends_literal words.LiteralEnd = true
ends_literal (words.Other outsides.QuotedLabel) = true
ends_literal _ = false

abbrev pub is_star : Word → Bool
is_star (words.Mark marks.Star) = true
is_star _ = false

abbrev pub begins_string : Word → Bool
begins_string words.StringBegin = true
begins_string words.Character = true
begins_string _ = false

-- what stands behind the subject of case
abbrev pub ends_subject : Word → Bool
ends_subject words.Newline = true
ends_subject words.Semicolon = true
ends_subject (words.Key keywords.When) = true
ends_subject (words.Key keywords.In) = true
ends_subject _ = false

abbrev pub is_identifier : Word → Bool
is_identifier words.Identifier = true
is_identifier _ = false

-- there is a rescue clause, else or ensure
abbrev pub has_handlers : List Node → Option Node → Option Node → Bool
has_handlers cs o e = not (is_empty cs) || (is_some o || is_some e)

-- the name at the front, of a method on what is given; the place of a name that isn't of ASCII
abbrev pub head_of : Nodes → List Token → Option ℕ → HeadNode
head_of singleton ts place = record { singleton = singleton; name = bytes_at ts; outside = place }

-- a definition with the place of another opening word: that of a lambda is its arrow
abbrev pub placed : ℕ → Node → Node
placed at (node.definition p r o s q b x ls e) = node.definition at r o s q b x ls e
placed at n = n

-- the default of an optional parameter
abbrev pub default_of : Node → List Node
default_of (node.optional_parameter x n) = n ∷ []
default_of _ = []

abbrev pub defaults : List Node → List Node
defaults [] = []
defaults (n ∷ ns) = default_of n ++ defaults ns

-- a method without an end, outside the language, with what its parameters hold
abbrev pub endless_method : ParameterNodes → ℕ → Node → Node
endless_method l at n = node.outside outsides.EndlessMethod at (nodes (l.outside ++ (defaults l.optional ++ n ∷ [])))

-- no block stands here
abbrev pub is_blockless : DoOwner → Tokens → Bool
is_blockless owner ts = not (is_some (block_at owner ts))

-- behind a name stand neither arguments nor a block
abbrev pub is_alone : Place → DoOwner → Tokens → Bool
is_alone place owner ts = not (opens_arguments ts) &&
    (is_blockless owner ts && not (allows_command place && begins_argument ts))

abbrev pub opens_bars : Word → Bool
opens_bars (words.Mark marks.OpenBar) = true
opens_bars _ = false

abbrev pub is_semicolon : Word → Bool
is_semicolon words.Semicolon = true
is_semicolon _ = false

abbrev pub is_constant : Word → Bool
is_constant words.Constant = true
is_constant _ = false

-- a callee is a target by the word behind it
abbrev pub is_taken_callee : Place → CalleeNode → Word → Bool
is_taken_callee place c w = is_target (callee c) && takes_target place w

-- this word takes a list: return, break or next before a value, and yield before an argument
abbrev pub is_jump : Word → Tokens → Bool
is_jump (words.Key keywords.Return) ts = begins_value (first ts)
is_jump (words.Key keywords.Break) ts = begins_value (first ts)
is_jump (words.Key keywords.Next) ts = begins_value (first ts)
is_jump (words.Key keywords.Yield) ts = begins_argument ts
is_jump w ts = false

-- a jump begins here with its list, where a command may stand
abbrev pub begins_jump : Place → Tokens → Bool
begins_jump place ts = allows_command place && is_jump (first ts) (behind ts)

-- a variable outside the language
abbrev pub is_outside_variable : Outside → Bool
is_outside_variable outsides.ClassVariable = true
is_outside_variable outsides.SpecialGlobal = true
is_outside_variable _ = false

-- this mark stands between a value and the name of a method
abbrev pub joins_name : Word → Bool
joins_name (words.Mark marks.Dot) = true
joins_name (words.Mark marks.AmpersandDot) = true
joins_name (words.Mark marks.ColonColon) = true
joins_name _ = false

-- this mark stands between a value and the arguments of its method call
abbrev pub joins_call : Word → Bool
joins_call (words.Mark marks.Dot) = true
joins_call (words.Mark marks.AmpersandDot) = true
joins_call _ = false

-- the method of a value that has this name, behind such a mark at its place
abbrev pub method_behind : Word → Node → Name → ℕ → CalleeNode
method_behind (words.Mark marks.ColonColon) n x at = method_callee n x true
method_behind (words.Mark marks.AmpersandDot) n x at = outside_callee outsides.SafeNavigation at (n ∷ [])
method_behind _ n x at = method_callee n x false

-- behind this mark a constant stands that is no method
abbrev pub joins_constant : Word → Tokens → Bool
joins_constant (words.Mark marks.ColonColon) ts = is_constant (first ts) && not (opens_arguments (behind ts))
joins_constant _ ts = false
