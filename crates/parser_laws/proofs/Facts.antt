-- What is said of a derivation to show that the rules read what is derived.
use Rattle.std.proofs.Common.{◌≡◌, ℕ, zero, suc, ◌-◌, ◌<◌, ◌≤◌, Bool, true, false, not, ◌&&◌, ◌||◌, ◌⊎◌, List, [], ◌∷◌, ◌++◌, length, Some, None, is_some, Ok, sym, ap, ◌∙◌, arith, map, Option, if◌then◌else◌, refl}
use Rattle.rb_syntax.specs.declared.keyword.Keyword.TheVariants as keywords
use Rattle.rb_syntax.specs.declared.outside.Outside.TheVariants as outsides
use Rattle.rb_syntax.specs.declared.punctuator.Punctuator.TheVariants as marks
use Rattle.parser_tree.specs.Node.{Name, Node, none}
use Rattle.parser_tokens.specs.Tokens.{first, behind, skip_if, place_at}
use Rattle.parser_tree.specs.Node as node
use Rattle.parser_tokens.specs.Operators.{infix_at, assignment_at}
use Rattle.parser_tokens.specs.Starts.{begins_value, begins_argument, is_open_parenthesis, outside_begins_value, opens_arguments, postfix_at}
use Rattle.parser_tokens.specs.declared.starts.Postfix.{Postfix}
use Rattle.rb_syntax.specs.declared.core_form.Item.TheVariants.{Plain}
use Rattle.parser_tokens.specs.Expect.{do_at}
use Rattle.parser_tokens.specs.declared.operators.Prefix.TheVariants as prefixes
use Rattle.parser_tokens.specs.declared.word.Word.{Word}
use Rattle.parser_tokens.specs.declared.word.Word.TheVariants as words
use Rattle.parser_tokens.proofs.Front.{behind_shorter}
use Rattle.parser_ahead.specs.Groups.{is_target_group, ends_targets, begins_pattern}
use Rattle.parser_ahead.specs.declared.groups.TargetUse.TheVariants as uses
use Rattle.parser_ahead.specs.declared.primary.PartStart.TheVariants as parts
use Rattle.parser_ahead.specs.Primary.{is_statement, allows_command, part_at, is_comma_word}
use Rattle.parser_ahead.specs.declared.primary.DoOwner.{DoOwner}
use Rattle.parser_ahead.specs.declared.primary.DoOwner.TheVariants as owners
use Rattle.parser_ahead.specs.declared.primary.Place.{Place}
use Rattle.parser_nodes.specs.Nodes.{prefix_node}
use Rattle.parser_nodes.specs.Leaf.{elements_from}
use Rattle.parser_nodes.specs.Listed.{PartNode, ListNode, PhraseNode, command_part, nothing_listed, with_comma, is_empty}
use Rattle.parser_nodes.specs.Calls.{OperandNode, whole, is_target, target_node, target_names, callee, operand_node}
use Rattle.parser_nodes.specs.declared.listed.Sort.{Sort}
use Rattle.parser_nodes.specs.declared.listed.Sort.TheVariants as sorts
use Rattle.parser_forms.specs.Literals.{piece, pieces_from, string, strings_from}
use Rattle.parser_operands.specs.Operands.{suffix, primary, chain, operand, begins_command, postfixed, chain_within}
use Rattle.parser_operands.specs.Operators.{assignment_to, operators_from, operation}
use Rattle.parser_phrases.specs.Phrases.{command, phrase}
use Rattle.parser_phrases.specs.Targets.{target, targets_from, alone}
use Rattle.parser_statements.specs.Lists.{part_place, part, list_from, list}
use Rattle.parser_statements.specs.Statements.{is_not, is_statement_sort, negation, junctions_from, expression, base, statement, statements_from, statements, modifiers_from}
use Rattle.parser_forms.specs.Reading.{Names, Tokens, Inside}
use Rattle.rb_parser.specs.Levels.{level_above, levels}
use Rattle.parser_laws.specs.Rules.{WhenValues, Rule, Statements, StatementList, Statement, Modified, Base, Expression, Joined, Negation, Argument, Operation, Operators, Operand, Primary, Target, InnerTarget, Elements, Piece, Pieces, Quoted, Strings, Part, Parts, Listing, OneTarget, Targets, ends_literal, is_star, begins_string, MethodNames, Guarded, Repeated, Branches, Otherwise, Subject, Clauses, Clause, Values, ValueTest, Classes, RescueClauses, RescueClause, Ensured, Handlers, Parameter, ParameterList, Parameters, MethodParameters, LambdaParameters, MethodHead, ClassPath, Body, is_inner, takes_target, LoopTargets, Pattern, PatternTarget, PatternName, BlockParameters, BarredParameters, BarredLocals, BlockLocals, Block, Callee, CommandArguments, Command, Called, OnePostfix, Postfixes}
use Rattle.parser_ahead.specs.Sections.{next_section, takes_clause, takes_case_else, takes_rescue, takes_ensure}
use Rattle.parser_ahead.specs.declared.primary.Place.TheVariants as places
use Rattle.parser_ahead.specs.declared.sections.Compound.{Compound}
use Rattle.parser_ahead.specs.declared.sections.Compound.TheVariants as compounds
use Rattle.parser_ahead.specs.declared.sections.SectionKind.{SectionKind}
use Rattle.parser_ahead.specs.declared.sections.SectionKind.TheVariants as kinds
use Rattle.parser_form_nodes.specs.Definitions.{undef_from}
use Rattle.parser_form_nodes.specs.Sections.{SectionNode, branch_of, when_of, rescue_of}
use Rattle.parser_form_nodes.specs.Parameters.{ParameterNodes, no_parameters, begins_parameter}
use Rattle.parser_form_nodes.specs.Targets.{TargetsNode}
use Rattle.parser_forms.specs.Parameters.{parameter, parameters_from, parameters, open_parameters, locals_from, block_locals, comma_rest, block_parameters, lambda_parameters}
use Rattle.parser_forms.specs.Definitions.{method_head, path, body, block}
use Rattle.parser_statements.specs.Sections.{heading, subject, test_section, subject_section, value_test, tests_from, tests, section}
use Rattle.parser_laws.proofs.Results.{clash}
use Rattle.parser_laws.proofs.SectionSteps.{Steps, part_sections, behind_part, all_base, is_base}

-- the words that begin a value of the rules, whatever is behind them
abbrev pub is_calm : Word → Bool
is_calm words.Identifier = true
is_calm words.Constant = true
is_calm words.MethodName = true
is_calm words.InstanceVariable = true
is_calm words.GlobalVariable = true
is_calm words.Integer = true
is_calm words.Symbol = true
is_calm words.Character = true
is_calm words.SymbolBegin = true
is_calm words.WordsBegin = true
is_calm words.SymbolsBegin = true
is_calm (words.Other o) = outside_begins_value o
is_calm (words.Key keywords.Nil) = true
is_calm (words.Key keywords.True) = true
is_calm (words.Key keywords.False) = true
is_calm (words.Key keywords.SelfReference) = true
is_calm (words.Key keywords.FileName) = true
is_calm (words.Key keywords.LineNumber) = true
is_calm (words.Key keywords.EncodingName) = true
is_calm (words.Key keywords.Redo) = true
is_calm (words.Key keywords.Retry) = true
is_calm (words.Key keywords.Super) = true
is_calm (words.Key keywords.If) = true
is_calm (words.Key keywords.Unless) = true
is_calm (words.Key keywords.While) = true
is_calm (words.Key keywords.Until) = true
is_calm (words.Key keywords.For) = true
is_calm (words.Key keywords.Case) = true
is_calm (words.Key keywords.Begin) = true
is_calm (words.Key keywords.Def) = true
is_calm (words.Key keywords.Class) = true
is_calm (words.Key keywords.Module) = true
is_calm (words.Mark marks.OpenParenthesis) = true
is_calm (words.Mark marks.OpenBracket) = true
is_calm (words.Mark marks.OpenBrace) = true
is_calm (words.Mark marks.ColonColon) = true
is_calm (words.Mark marks.LambdaArrow) = true
is_calm (words.Mark marks.Not) = true
is_calm (words.Mark marks.Tilde) = true
is_calm (words.Mark marks.Plus) = true
is_calm (words.Mark marks.Minus) = true
is_calm _ = false

-- those that begin a key, or take values, by what is behind them
abbrev pub looks_behind : Word → Bool
looks_behind words.StringBegin = true
looks_behind (words.Key keywords.Return) = true
looks_behind (words.Key keywords.Break) = true
looks_behind (words.Key keywords.Next) = true
looks_behind (words.Key keywords.Yield) = true
looks_behind _ = false

-- the words that begin an operand of the rules
abbrev pub is_head : Word → Bool
is_head w = is_calm w || looks_behind w

abbrev pub is_defined : Word → Bool
is_defined (words.Key keywords.Defined) = true
is_defined _ = false

abbrev pub is_bang : Word → Bool
is_bang (words.Mark marks.Not) = true
is_bang _ = false

-- the words that begin a value, defined? among them
abbrev pub begins : Word → Bool
begins w = is_head w || is_defined w

-- the tokens that begin an operand: defined? does so before a parenthesis
abbrev pub opens : Tokens → Bool
opens ts = is_head (first ts) || (is_defined (first ts) && is_open_parenthesis (first (behind ts)))

-- the words that begin a target
abbrev pub is_variable : Word → Bool
is_variable words.Identifier = true
is_variable words.Constant = true
is_variable words.InstanceVariable = true
is_variable words.GlobalVariable = true
is_variable (words.Other o) = outside_begins_value o
is_variable _ = false

-- the words that begin a name in a pattern
abbrev pub is_pattern_name : Word → Bool
is_pattern_name words.Identifier = true
is_pattern_name (words.Other outsides.NonAsciiName) = true
is_pattern_name _ = false

abbrev pub is_in_or_then : Word → Bool
is_in_or_then (words.Key keywords.In) = true
is_in_or_then (words.Key keywords.Then) = true
is_in_or_then _ = false

-- the words behind a target that nothing goes on
abbrev pub ends_target : Word → Bool
ends_target w = is_some (assignment_at w) || (ends_targets w || is_in_or_then w)

abbrev pub heads : Rule → Tokens → Bool
heads (Statements n) ts = true
heads (StatementList ns) ts = true
heads (Statement n) ts = true
heads (Modified n) ts = true
heads (Base n) ts = true
heads (Expression place owner n) ts = begins (first ts) || (is_not (first ts) || is_star (first ts))
heads (Joined place owner n) ts = begins (first ts) || is_not (first ts)
heads (Negation place owner n) ts = begins (first ts) || is_not (first ts)
heads (Argument place owner n) ts = begins (first ts)
heads (Operation place loosest owner n) ts = opens ts
heads (Operators place loosest owner n) ts = opens ts
heads (Operand place owner n) ts = opens ts
heads (Primary place owner n) ts = opens ts
heads (Target owner n) ts = opens ts && not (is_bang (first ts))
heads (InnerTarget owner n) ts = opens ts && not (is_bang (first ts))
heads (Elements xs) ts = true
heads (Piece n) ts = not (ends_literal (first ts))
heads (Pieces ns) ts = true
heads (Quoted ns) ts = begins_string (first ts)
heads (Strings ns) ts = begins_string (first ts)
heads (Part place owner p) ts = begins_value (first ts)
heads (Parts owner l) ts = begins_value (first ts)
heads (Listing owner l) ts = true
heads (OneTarget t) ts = not (ends_targets (first ts))
heads (Targets ms all) ts = true
heads (LoopTargets xs) ts = opens ts && not (is_bang (first ts))
heads (Pattern found t) ts = begins_pattern (first ts)
heads (PatternTarget x) ts = begins_pattern (first ts)
heads (PatternName x) ts = is_pattern_name (first ts)
heads (MethodNames xs) ts = true
heads (Guarded t n) ts = true
heads (Repeated t n) ts = true
heads (Branches bs) ts = true
heads (Otherwise o) ts = true
heads (Subject s) ts = true
heads (Clauses ws) ts = true
heads (Clause n) ts = true
heads (WhenValues vs) ts = begins_value (first ts)
heads (Values place ns) ts = true
heads (ValueTest n) ts = begins_value (first ts)
heads (Classes vs) ts = true
heads (RescueClauses cs) ts = true
heads (RescueClause n) ts = true
heads (Ensured e) ts = true
heads (Handlers cs o e) ts = true
heads (Parameter p) ts = begins_parameter (first ts)
heads (ParameterList l) ts = begins_parameter (first ts)
heads (Parameters l) ts = true
heads (MethodParameters l) ts = true
heads (LambdaParameters l) ts = true
heads (BlockParameters l) ts = true
heads (BarredParameters l) ts = true
heads BarredLocals ts = true
heads BlockLocals ts = true
heads (Block style b) ts = true
heads (Callee place owner c) ts = opens ts
heads (CommandArguments owner c n) ts = true
heads (Command place owner n) ts = begins (first ts)
heads (Called owner c n) ts = true
heads (OnePostfix owner n m) ts = true
heads (Postfixes owner n m) ts = true
heads (MethodHead h) ts = true
heads (ClassPath s x) ts = opens ts
heads (Body n) ts = true

-- tokens are taken; statements, clauses, pieces and parts may be none
abbrev pub Takes : Rule → Tokens → Tokens → Type 0
Takes (Statements n) ts rest = length rest ≤ length ts
Takes (StatementList ns) ts rest = length rest ≤ length ts
Takes (Pieces ns) ts rest = length rest ≤ length ts
Takes (Listing owner l) ts rest = length rest ≤ length ts
Takes (Targets ms all) ts rest = length rest ≤ length ts
Takes (Branches bs) ts rest = length rest ≤ length ts
Takes (Otherwise o) ts rest = length rest ≤ length ts
Takes (Subject s) ts rest = length rest ≤ length ts
Takes (Classes vs) ts rest = length rest ≤ length ts
Takes (RescueClauses cs) ts rest = length rest ≤ length ts
Takes (Ensured e) ts rest = length rest ≤ length ts
Takes (Handlers cs o e) ts rest = length rest ≤ length ts
Takes (Parameters l) ts rest = length rest ≤ length ts
Takes (MethodParameters l) ts rest = length rest ≤ length ts
Takes (LambdaParameters l) ts rest = length rest ≤ length ts
Takes (Values place ns) ts rest = length rest ≤ length ts
Takes (BlockParameters l) ts rest = length rest ≤ length ts
Takes (BarredParameters l) ts rest = length rest ≤ length ts
Takes BarredLocals ts rest = length rest ≤ length ts
Takes (CommandArguments owner c n) ts rest = length rest ≤ length ts
Takes (Called owner c n) ts rest = length rest ≤ length ts
Takes r ts rest = length rest < length ts

-- a command may begin only where the place allows one
abbrev pub Within : Bool → Place → Type 0
Within commands place = commands ≡ true → allows_command place ≡ true

-- a name alone begins neither a command nor an assignment
abbrev pub Settled : OperandNode → Place → Tokens → Type 0
Settled (whole n) place ts = Unit {0}
Settled (callee c) place ts = ((allows_command place && begins_argument ts) ≡ false)
    × ((is_target (callee c) && takes_target place (first ts)) ≡ false)

-- behind ! stands an operand, which begins no command
abbrev pub Nots : Inside → Place → DoOwner → Node → Names → Tokens → Names → Tokens → Type 0
Nots i place owner x names ts known rest = first ts ≡ words.Mark marks.Not →
    (o : OperandNode) × (x ≡ prefix_node prefixes.Not (operand_node o))
    × (allows_command place ≡ true → (operand i names (behind ts) true owner ≡ Ok (o, known, rest))
    × (begins_command o rest ≡ false))

-- the first operand, which is all or has an operator behind it, and begins no assignment
abbrev pub Leads : Inside → Place → ℕ → DoOwner → OperandNode → Names → Tokens → Node → Names → Tokens → Tokens → Type 0
Leads i place loosest owner m known mid x names ts rest =
    ((commands : Bool) → Within commands place → operand i names ts commands owner ≡ Ok (m, known, mid))
    × Nots i place owner (operand_node m) names ts known mid
    × Settled m place mid
    × (((x ≡ operand_node m) × (rest ≡ mid)) ⊎ (is_some (infix_at loosest (first mid)) ≡ true))

-- operators with their operands; where the operators are those of an operand, the first one is no target
abbrev pub Operates : Inside → Place → ℕ → DoOwner → Node → Names → Tokens → Names → Tokens → Type 0
Operates i place loosest owner x names ts known rest =
    (m : OperandNode) × (k : Names) × (mid : Tokens) × Leads i place loosest owner m k mid x names ts rest
    × ((n : ℕ) → length mid < n → operators_from i n loosest owner (operand_node m) k mid ≡ Ok (x, known, rest))
    × (is_inner loosest ≡ true → assignment_to m mid ≡ None)

-- an assignment as the last operand
abbrev pub Assigns : Inside → Place → ℕ → DoOwner → Node → Names → Tokens → Names → Tokens → Type 0
Assigns i place loosest owner x names ts known rest =
    (is_inner loosest ≡ true) × (place ≡ places.Argument)
    × (operation i names ts loosest owner ≡ Ok (x, known, rest))

-- a list of values, and whether a comma stands behind them
abbrev pub listed : List Node → Bool → ListNode
listed ns comma = record { items = map Plain ns; pairs = []; block = node.none; command = false; comma = comma }

abbrev pub is_command_part : PartNode → Bool
is_command_part (command_part n) = true
is_command_part _ = false

-- the list is read up to these parts, with the comma behind them
abbrev pub Grows : Inside → DoOwner → ListNode → Names → Tokens → Names → Tokens → Bool → Type 0
Grows i owner l names ts known rest comma =
    (n : ℕ) → length ts < n → (m : ℕ) × (length rest < m)
    × (list_from i n owner true true nothing_listed names ts ≡ list_from i m owner false comma (with_comma comma l)
    known (skip_if comma rest))

-- a subject in a heading, or none
abbrev pub subjects : Option Node → List Node
subjects None = []
subjects (Some n) = n ∷ []

-- what the rules read
abbrev pub Reads : Inside → Rule → Names → Tokens → Names → Tokens → Type 0
Reads i (Statements x) names ts known rest = statements i names ts ≡ Ok (x, known, rest)
Reads i (StatementList ns) names ts known rest = (n : ℕ) (found : List Node) → length ts < n
    → statements_from i n found names ts ≡ Ok (found ++ ns, known, rest)
Reads i (Statement x) names ts known rest = assignment_at (first rest) ≡ None
    → statement i names ts ≡ Ok (x, known, rest)
Reads i (Modified x) names ts known rest = assignment_at (first rest) ≡ None →
    (p : Node) × (k : Names) × (mid : Tokens) × (base i names ts ≡ Ok (p, k, mid))
    × ((n : ℕ) → length mid < n → (m : ℕ) × (length rest < m)
    × (modifiers_from i n p k mid ≡ modifiers_from i m x known rest))
Reads i (Base x) names ts known rest = assignment_at (first rest) ≡ None → base i names ts ≡ Ok (x, known, rest)
Reads i (Expression place owner x) names ts known rest = assignment_at (first rest) ≡ None
    → expression i names ts place owner ≡ Ok (x, known, rest)
Reads i (Joined place owner x) names ts known rest = assignment_at (first rest) ≡ None →
    (p : PhraseNode) × (k : Names) × (mid : Tokens) × (negation i names ts place owner ≡ Ok (p, k, mid))
    × (is_statement_sort p.1 ≡ false)
    × ((n : ℕ) → length mid < n → (m : ℕ) × (length rest < m)
    × (junctions_from i n owner p.0 k mid ≡ junctions_from i m owner x known rest))
Reads i (Negation place owner x) names ts known rest = assignment_at (first rest) ≡ None → (s : Sort)
    × (is_statement_sort s ≡ false) × (negation i names ts place owner ≡ Ok ((x, s), known, rest))
Reads i (Argument place owner x) names ts known rest =
    (is_statement place && is_target_group ts) ≡ false
    → (allows_command place && is_some (assignment_at (first rest))) ≡ false
    → phrase i names ts place owner ≡ Ok ((x, sorts.Argument), known, rest)
Reads i (Operation place loosest owner x) names ts known rest =
    Operates i place loosest owner x names ts known rest ⊎ Assigns i place loosest owner x names ts known rest
Reads i (Operators place loosest owner x) names ts known rest =
    (m : OperandNode) × (k : Names) × (mid : Tokens) × Leads i place loosest owner m k mid x names ts rest
    × ((n : ℕ) → length mid < n → (l : ℕ) × (length rest < l)
    × (operators_from i n loosest owner (operand_node m) k mid ≡ operators_from i l loosest owner x known rest))
Reads i (Operand place owner x) names ts known rest =
    (o : OperandNode) × (operand_node o ≡ x) × Settled o place rest
    × ((commands : Bool) → Within commands place → operand i names ts commands owner ≡ Ok (o, known, rest))
    × Nots i place owner x names ts known rest
Reads i (Primary place owner x) names ts known rest =
    (m : OperandNode) × (k : Names) × (mid : Tokens) × (primary i names ts owner ≡ Ok (m, k, mid)) × (o : OperandNode)
    × (operand_node o ≡ x) × Settled o place rest
    × ((n : ℕ) → length mid < n → (l : ℕ) × (length rest < l)
    × ((commands : Bool) → Within commands place
    → chain_within i n commands owner m k mid ≡ chain_within i l commands owner o known rest))
Reads i (Values place ns) names ts known rest = assignment_at (first rest) ≡ None → (alone : Bool)
    → part_place alone ≡ place
    → (n : ℕ) (found : List Node) (before : Bool) → length ts < n → (comma : Bool)
    × (list_from i n owners.Call alone true (listed found before) names ts ≡ Ok
    (listed (found ++ ns) comma, known, rest))
Reads i (Target owner x) names ts known rest =
    ends_target (first rest) ≡ true → (o : OperandNode) × (k : Names)
    × ((commands : Bool) → operand i names ts commands owner ≡ Ok (o, k, rest))
    × (is_target o ≡ true) × (target_node o ≡ x) × (target_names o k ≡ known)
    × ((commands : Bool) → chain i names ts commands owner ≡ Ok (o, k, rest))
Reads i (InnerTarget owner x) names ts known rest =
    ends_target (first rest) ≡ true → (o : OperandNode) × (k : Names)
    × (operand i names ts false owner ≡ Ok (o, k, rest))
    × (is_target o ≡ true) × (target_node o ≡ x) × (target_names o k ≡ known)
    × (chain i names ts false owner ≡ Ok (o, k, rest))
Reads i (Elements xs) names ts known rest = (found : List Name) → elements_from found ts ≡ Some (found ++ xs, rest)
Reads i (Piece x) names ts known rest = piece i names ts ≡ Ok (x, known, rest)
Reads i (Pieces ns) names ts known rest = (n : ℕ) (found : List Node) → length ts < n
    → pieces_from i n found names ts ≡ Ok (found ++ ns, known, rest)
Reads i (Quoted ns) names ts known rest = (found : List Node) → string i found names ts ≡ Ok (found ++ ns, known, rest)
Reads i (Strings ns) names ts known rest =
    (found : List Node) → (one : List Node) × (k : Names) × (mid : Tokens) × (length mid < length ts)
    × (string i found names ts ≡ Ok (one, k, mid))
    × ((n : ℕ) → length mid < n → strings_from i n one k mid ≡ Ok (found ++ ns, known, rest))
Reads i (Part place owner p) names ts known rest =
    (is_command_part p ≡ false)
    × ((allows_command place && is_some (assignment_at (first rest))) ≡ false → (alone : Bool)
    → part_place alone ≡ place → part i alone names ts owner ≡ Ok (p, known, rest))
Reads i (Parts owner l) names ts known rest =
    (l.command ≡ false) × (l.comma ≡ false) ×
    (assignment_at (first rest) ≡ None → Grows i owner l names ts known rest (is_comma_word (first rest)))
Reads i (Listing owner l) names ts known rest = assignment_at (first rest) ≡ None
    → list i names ts owner ≡ Ok (l, known, rest)
Reads i (OneTarget t) names ts known rest = ends_targets (first rest) ≡ true
    → target i uses.Assignment names ts ≡ Ok (t, known, rest)
Reads i (Targets ms all) names ts known rest = (n : ℕ) → length ts < n
    → targets_from i n uses.Assignment true ms names ts ≡ Ok (all, known, rest)
Reads i (MethodNames xs) names ts known rest = (known ≡ names)
    × ((found : List Name) → undef_from found ts ≡ Ok (node.undef_node (found ++ xs), rest))
Reads i (Guarded t n) names ts known rest = test_section i names ts ≡ Ok
    (heading kinds.Test (t ∷ []) none n, known, rest)
Reads i (Repeated t n) names ts known rest =
    (k : Names) × (mid : Tokens) × (inner : Tokens)
    × (expression i names ts places.Command owners.Loop ≡ Ok (t, k, mid)) × (do_at (first mid) mid ≡ Ok inner)
    × (statements i k inner ≡ Ok (n, known, rest))
Reads i (LoopTargets xs) names ts known rest =
    first rest ≡ words.Key keywords.In → (is_empty xs ≡ false)
    × ((found : TargetsNode) → found.list.star ≡ false → (n : ℕ) → length ts < n
    → (t : TargetsNode) × (targets_from i n uses.For true found names ts ≡ Ok (t, known, rest))
    × (t.list.before ≡ found.list.before ++ xs))
Reads i (Branches bs) names ts known rest =
    (ss : List SectionNode) × (map branch_of ss ≡ bs) × (all_base ss ≡ true)
    × Steps i compounds.If kinds.Test kinds.Test ss names ts known rest
Reads i (Otherwise o) names ts known rest =
    (form : Compound) (before : SectionKind) → next_section form before (words.Key keywords.Else) ≡ Some kinds.Else
    → Steps i form before (behind_part before kinds.Else o) (part_sections kinds.Else o) names ts known rest
Reads i (Subject s) names ts known rest = subject_section i names ts ≡ Ok (subject (subjects s), known, rest)
Reads i (Clauses ws) names ts known rest =
    (before : SectionKind) → takes_clause before ≡ true → (k : SectionKind) × (s : SectionNode)
    × (ss : List SectionNode) × (takes_case_else k ≡ true)
    × (map when_of (s ∷ ss) ≡ ws) × (all_base (s ∷ ss) ≡ true)
    × Steps i compounds.Case before k (s ∷ ss) names ts known rest
Reads i (Clause w) names ts known rest =
    (k : SectionKind) × (s : SectionNode) × (takes_case_else k ≡ true)
    × ((before : SectionKind) → takes_clause before ≡ true → next_section compounds.Case before (first ts) ≡ Some k)
    × (section i k (place_at ts) names (behind ts) ≡ Ok (s, known, rest)) × (when_of s ≡ w) × (is_base s.kind ≡ true)
Reads i (WhenValues vs) names ts known rest =
    (v : Node) × (k : Names) × (mid : Tokens) × (length mid < length ts) × (value_test i names ts ≡ Ok (v, k, mid))
    × (is_empty vs ≡ false)
    × (is_comma_word (first rest) ≡ false → (n : ℕ) (found : List Node) → length mid < n
    → tests_from i n (found ++ v ∷ []) k mid ≡ Ok (found ++ vs, known, rest))
Reads i (ValueTest n) names ts known rest = value_test i names ts ≡ Ok (n, known, rest)
Reads i (Classes vs) names ts known rest = is_comma_word (first rest) ≡ false → tests i names ts ≡ Ok (vs, known, rest)
Reads i (RescueClauses cs) names ts known rest =
    (before : SectionKind) → takes_rescue before ≡ true → (k : SectionKind) × (ss : List SectionNode)
    × (takes_rescue k ≡ true)
    × (map rescue_of ss ≡ cs) × (all_base ss ≡ true) × Steps i compounds.Body before k ss names ts known rest
Reads i (RescueClause c) names ts known rest =
    (s : SectionNode) × (first ts ≡ words.Key keywords.Rescue)
    × (section i kinds.Rescue (place_at ts) names (behind ts) ≡ Ok (s, known, rest))
    × (rescue_of s ≡ c) × (is_base s.kind ≡ true)
Reads i (Ensured e) names ts known rest =
    (before : SectionKind) → takes_ensure before ≡ true
    → Steps i compounds.Body before (behind_part before kinds.Ensure e) (part_sections kinds.Ensure e) names ts
    known rest
Reads i (Handlers cs o e) names ts known rest =
    (k : SectionKind) × (ss : List SectionNode) × (map rescue_of ss ≡ cs) × (all_base ss ≡ true)
    × Steps i compounds.Body kinds.Plain k ((ss ++ part_sections kinds.Else o) ++ part_sections kinds.Ensure e) names ts
    known rest
Reads i (Parameter p) names ts known rest = parameter (level_above i) names ts ≡ Ok (p, known, rest)
Reads i (ParameterList l) names ts known rest =
    (n : ℕ) → length ts < n → (m : ℕ) × (length rest < m)
    × (parameters_from (level_above i) n true false no_parameters names ts
    ≡ parameters_from (level_above i) m (is_comma_word (first rest)) (is_comma_word (first rest)) l known
    (skip_if (is_comma_word (first rest)) rest))
Reads i (Parameters l) names ts known rest = parameters (level_above i) names ts ≡ Ok ((l, false), known, rest)
Reads i (MethodParameters l) names ts known rest = open_parameters (level_above i) names ts ≡ Ok (l, known, rest)
Reads i (LambdaParameters l) names ts known rest = lambda_parameters (level_above i) names ts ≡ Ok (l, known, rest)
Reads i (BlockParameters l) names ts known rest = block_parameters (level_above i) names ts ≡ Ok (l, known, rest)
Reads i (BarredParameters l) names ts known rest = (comma : Bool) × (k : ParameterNodes)
    × (parameters (level_above i) names ts ≡ Ok ((k, comma), known, rest)) × (comma_rest (k, comma) ≡ l)
Reads i BarredLocals names ts known rest = block_locals names ts ≡ Ok (known, rest)
Reads i BlockLocals names ts known rest = (n : ℕ) → length ts < n → locals_from n true names ts ≡ Ok (known, rest)
Reads i (Block style b) names ts known rest = block i names ts style ≡ Ok (b, known, rest)
Reads i (Callee place owner c) names ts known rest =
    (o : OperandNode) (later : Names) (more : Tokens) → length more ≤ length rest
    → suffix i c known rest owner ≡ Ok (o, later, more)
    → (m : OperandNode) × (k : Names) × (mid : Tokens) × (primary i names ts owner ≡ Ok (m, k, mid))
    × ((n : ℕ) → length mid < n → (l : ℕ) × (length more < l)
    × ((commands : Bool) → Within commands place
    → chain_within i n commands owner m k mid ≡ chain_within i l commands owner o later more))
Reads i (CommandArguments owner c x) names ts known rest =
    (begins_argument ts ≡ true) × (opens_arguments ts ≡ false)
    × (assignment_at (first rest) ≡ None → command (level_above i) c names ts owner ≡ Ok
    ((x, sorts.Command), known, rest))
Reads i (Command place owner x) names ts known rest =
    (part_at ts ≡ parts.Value) × ((is_statement place && is_target_group ts) ≡ false → assignment_at (first rest) ≡ None
    → phrase i names ts place owner ≡ Ok ((x, sorts.Command), known, rest))
Reads i (Called owner c x) names ts known rest = (o : OperandNode) × (operand_node o ≡ x)
    × (suffix (level_above i) c names ts owner ≡ Ok (o, known, rest))
Reads i (OnePostfix owner n x) names ts known rest =
    (p : Postfix) × (postfix_at (first ts) ≡ Some p) × (o : OperandNode) × (operand_node o ≡ x)
    × (postfixed (level_above i) n p names ts owner ≡ Ok (o, known, rest))
Reads i (Postfixes owner n x) names ts known rest =
    (o : OperandNode) × (operand_node o ≡ x)
    × ((m : OperandNode) → operand_node m ≡ n → (k : ℕ) → length ts < k
    → chain_within (level_above i) k false owner m names ts ≡ Ok (o, known, rest))
Reads i (Pattern found t) names ts known rest = (n : ℕ) → length ts < n
    → targets_from i n uses.Pattern true found names ts ≡ Ok (t, known, rest)
Reads i (PatternTarget x) names ts known rest = target i uses.Pattern names ts ≡ Ok (x, known, rest)
Reads i (PatternName x) names ts known rest = alone i uses.Pattern names ts ≡ Ok (x, known, rest)
Reads i (MethodHead h) names ts known rest = method_head (level_above i) names ts ≡ Ok (h, known, rest)
Reads i (ClassPath s x) names ts known rest = path (level_above i) names ts ≡ Ok ((s, x), known, rest)
Reads i (Body n) names ts known rest = body (level_above i) names ts ≡ Ok (n, known, rest)

abbrev pub Fact : Rule → Names → Tokens → Names → Tokens → Type 0
Fact r names ts known rest = Takes r ts rest × (heads r ts ≡ true)
    × ((d : ℕ) → length ts ≤ d → Reads (levels d) r names ts known rest)

-- a primary without postfixes
pub at_once : (i : Inside) (place : Place) (owner : DoOwner) (names known : Names) (ts rest : Tokens) (x : Node)
    → primary i names ts owner ≡ Ok (whole x, known, rest) → Reads i (Primary place owner x) names ts known rest
at_once i place owner names known ts rest x read =
    (whole x, known, rest, read, whole x, refl, tt, λ m more. (m, more, λ commands within. refl))

-- the level below
pub levels_at : (d : ℕ) → 0 < d → levels d ≡ level_above (levels (d - 1))
levels_at zero h = absurd (omega arith)
levels_at (suc d) h = let less : suc d - 1 ≡ d = omega arith in rw less

abbrev pub is_finish : Word → Bool
is_finish words.Finish = true
is_finish _ = false

pub word_taken : (w : Word) (ts : Tokens) → first ts ≡ w → is_finish w ≡ false → length (behind ts) < length ts
word_taken w ts there other = behind_shorter ts
    (λ (e : first ts ≡ words.Finish). clash (is_finish w) (ap is_finish (sym there ∙ e)) other)

pub behind_within : (ts : Tokens) → length (behind ts) ≤ length ts
unfolding behind
behind_within [] = omega arith
behind_within (t ∷ ts) = omega arith

pub skip_one : (b : Bool) (ts us vs : Tokens) → length us ≤ length ts → length vs ≤ length ts
    → length (if b then us else vs) ≤ length ts
skip_one true ts us vs h g = h
skip_one false ts us vs h g = g
