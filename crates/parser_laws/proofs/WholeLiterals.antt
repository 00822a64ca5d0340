-- Each literal that begins in what is derived as an expression ends in it. So a string that is derived is no key.
use Rattle.std.proofs.Common.{◌≡◌, ℕ, ◌+◌, ◌<◌, Bool, true, false, ◌&&◌, List, length, None, Some, refl, sym, subst, ◌∙◌, arith, codes}
use Rattle.std.proofs.lemmas.Bool.{and_parts}
use Rattle.rb_syntax.specs.declared.core_form.Item.{Item}
use Rattle.rb_syntax.specs.declared.keyword.Keyword.TheVariants as keywords
use Rattle.rb_syntax.specs.declared.punctuator.Punctuator.TheVariants as marks
use Rattle.parser_tree.specs.Node as node
use Rattle.parser_tree.specs.Node.{Name, Node, Nodes, nodes, one}
use Rattle.parser_tree.specs.View.{items_of}
use Rattle.parser_tokens.specs.Tokens.{first, behind, bytes_at, place_at}
use Rattle.parser_tokens.specs.Expect.{skip_newlines}
use Rattle.parser_tokens.specs.declared.operators.Assignment.{Assignment}
use Rattle.parser_tokens.specs.declared.operators.Assignment.TheVariants as signs
use Rattle.parser_tokens.specs.declared.starts.Jump.{Jump}
use Rattle.parser_tokens.specs.declared.starts.Jump.TheVariants as jumps
use Rattle.parser_tokens.specs.declared.word.Modifier.TheVariants as modifiers
use Rattle.parser_tokens.specs.declared.word.Word.TheVariants as words
use Rattle.parser_ahead.specs.Groups.{literal_end, is_quoted_key}
use Rattle.parser_ahead.specs.declared.primary.DoOwner.{DoOwner}
use Rattle.parser_ahead.specs.declared.primary.Place.{Place}
use Rattle.parser_nodes.specs.Nodes.{condition_node, assignment_node, rescued_node}
use Rattle.parser_nodes.specs.Calls.{callee, is_target, target_node}
use Rattle.parser_nodes.specs.Listed.{PhraseNode, command_part, nothing_listed, is_none, whole_items, jump_node}
use Rattle.parser_form_nodes.specs.Sections.{option_node}
use Rattle.parser_forms.specs.Reading.{Names, Tokens}
use Rattle.parser_laws.specs.Rules.{Rule, Statements, StatementList, Statement, Modified, Base, Expression, Joined, Negation, Argument, Operation, Operators, Operand, Primary, Values, Target, Elements, Piece, Pieces, Quoted, Strings, Part, Parts, Listing, InnerTarget, Guarded, Repeated, Callee, CommandArguments, Command, Called, OnePostfix, Postfixes, is_place, method_behind}
use Rattle.parser_laws.specs.Derives as grammar
use Rattle.parser_laws.specs.Derives.{Derives}
use Rattle.parser_laws.specs.Expressions.{is_bare, is_other, is_assignable, is_expression, are_expressions, is_piece, are_pieces}
use Rattle.parser_laws.proofs.Results.{and_false, clash, differs}
use Rattle.parser_laws.proofs.ExpressionParts.{prefix_part, infix_parts, junction_parts, assignment_parts, choice_parts, modified_parts, pieces_parts, piece_is, call_is_none, method_is_none}
use Rattle.parser_laws.proofs.CleanLists.{is_given, is_clean, put_clean, clean_is, clean_pairs, clean_right}
use Rattle.parser_laws.proofs.LiteralSteps.{Closes, passes, passes_word, enters, leaves, encloses, string_is_no_key, character_is_no_key, passes_separators, passes_newlines, modifier_keeps, junction_keeps, assignment_keeps, infix_keeps, prefix_keeps, name_keeps, sign_keeps}

-- a branch with statements is none of an expression
branches_none : (test n : Node) (bs o : Nodes) → is_bare n ≡ false
    → is_expression (node.if_node (node.more (node.branch test n) bs) o) ≡ false
branches_none test n bs o group = rw group (and_false (is_none bs && is_other o))

unless_none : (test n : Node) (o : Nodes) → is_bare n ≡ false → is_expression (node.unless_node test n o) ≡ false
unless_none test n o group = rw group refl

loop_none : (until : Bool) (test n : Node) → is_bare n ≡ false
    → is_expression (node.while_node until false test n) ≡ false
loop_none until test n group = rw group refl

assigned_none : (a : Assignment) (target n : Node) → is_expression n ≡ false
    → is_expression (assignment_node a target n) ≡ false
assigned_none signs.Plain target n other = rw other (and_false (is_assignable target))
assigned_none (signs.Operation o) target n other = rw other (and_false (is_assignable target))

jump_none : (j : Jump) (at : ℕ) (is : List (Item Node)) → is_expression (jump_node j at is) ≡ false
jump_none jumps.Return at is = refl
jump_none jumps.Break at is = refl
jump_none jumps.Next at is = refl

place_is : (n : Node) → is_place n ≡ true → is_assignable n ≡ true → is_expression n ≡ true
place_is (node.index e is) place h = h
place_is (node.scoped_constant e x) place h = h
place_is n place h = differs (sym place)

-- what a method that is assigned to is a method of
receiver_is : (n : Node) (x : Name) → is_assignable (node.call (one n) x node.none node.none) ≡ true
    → is_expression n ≡ true
receiver_is n x h =
    let part = and_parts (true && (is_expression n && true)) true h in
    (and_parts (is_expression n) true part.0).0

-- What is said of a derivation: the literals in what is an expression end there, the body of a compound form is statements, and
-- no command is an expression.
abbrev Within : Rule → Tokens → Tokens → Type 0
Within (Statements n) ts rest = (is_bare n ≡ false) × (is_expression n ≡ true → Closes ts rest)
Within (StatementList ns) ts rest = are_expressions (nodes ns) ≡ true → Closes ts rest
Within (Statement n) ts rest = is_expression n ≡ true → Closes ts rest
Within (Modified n) ts rest = is_expression n ≡ true → Closes ts rest
Within (Base n) ts rest = is_expression n ≡ true → Closes ts rest
Within (Expression place owner n) ts rest = is_expression n ≡ true → Closes ts rest
Within (Joined place owner n) ts rest = is_expression n ≡ true → Closes ts rest
Within (Negation place owner n) ts rest = is_expression n ≡ true → Closes ts rest
Within (Argument place owner n) ts rest = is_expression n ≡ true → Closes ts rest
Within (Operation place loosest owner n) ts rest = is_expression n ≡ true → Closes ts rest
Within (Operators place loosest owner n) ts rest = is_expression n ≡ true → Closes ts rest
Within (Operand place owner n) ts rest = is_expression n ≡ true → Closes ts rest
Within (Primary place owner n) ts rest = is_expression n ≡ true → Closes ts rest
Within (Values place ns) ts rest = are_expressions (nodes ns) ≡ true → Closes ts rest
Within (Target owner n) ts rest = is_assignable n ≡ true → Closes ts rest
Within (InnerTarget owner n) ts rest = is_assignable n ≡ true → Closes ts rest
Within (Elements xs) ts rest = (n : ℕ) → 0 < n → literal_end (n + 1) ts ≡ literal_end n rest
Within (Piece n) ts rest = is_piece n ≡ true → Closes ts rest
Within (Pieces ns) ts rest = are_pieces (nodes ns) ≡ true → Closes ts rest
Within (Quoted ns) ts rest = are_pieces (nodes ns) ≡ true → Closes ts rest × (is_quoted_key ts ≡ false)
Within (Strings ns) ts rest = are_pieces (nodes ns) ≡ true → Closes ts rest × (is_quoted_key ts ≡ false)
Within (Part place owner p) ts rest = is_given p ≡ true → Closes ts rest
Within (Parts owner l) ts rest = is_clean l ≡ true → Closes ts rest
Within (Listing owner l) ts rest = is_clean l ≡ true → Closes ts rest
Within (Guarded test n) ts rest = is_bare n ≡ false
Within (Repeated test n) ts rest = is_bare n ≡ false
Within (Callee place owner c) ts rest = is_target (callee c) ≡ true → is_assignable (target_node (callee c)) ≡ true
    → Closes ts rest
Within (CommandArguments owner c n) ts rest = is_expression n ≡ false
Within (Command place owner n) ts rest = is_expression n ≡ false
Within (Called owner c n) ts rest = is_expression n ≡ false
Within (OnePostfix owner n m) ts rest = is_expression n ≡ false → is_expression m ≡ false
Within (Postfixes owner n m) ts rest = is_expression n ≡ false → is_expression m ≡ false
Within r ts rest = Unit {0}

within : (r : Rule) (names : Names) (ts : Tokens) (known : Names) (rest : Tokens) → Derives r names ts known rest
    → Within r ts rest
within _ _ _ _ _ (grammar.Separated names known ts rest ns d) =
    (refl, λ h k some. passes_separators (length ts) ts k some ∙ within _ _ _ _ _ d h k some)
within _ _ _ _ _ (grammar.NoMore names ts ends) = λ h k some. refl
within _ _ _ _ _ (grammar.OneMore names known later ts rest more n ns goes_on first_one ends others) = λ h.
    let p = and_parts (is_expression n) (are_expressions (nodes ns)) h in
    λ k some. within _ _ _ _ _ first_one p.0 k some ∙ passes_separators (length rest) rest k some
    ∙ within _ _ _ _ _ others p.1 k some
within _ _ _ _ _ (grammar.WithModifiers names known ts rest n d ends) = within _ _ _ _ _ d
within _ _ _ _ _ (grammar.Unmodified names known ts rest n d) = within _ _ _ _ _ d
within _ _ _ _ _ (grammar.Tested m names known later ts rest more n test left there plain right) = λ h.
    let p = modified_parts m n test h in
    λ k some. within _ _ _ _ _ left p.0 k some ∙ passes rest (modifier_keeps (first rest) m there) k some
    ∙ within _ _ _ _ _ right p.1 k some
within _ _ _ _ _ (grammar.Rescued names known later ts rest more n other left there right) = λ h.
    let p = and_parts (is_expression n) (is_expression other) h in
    λ k some. within _ _ _ _ _ left p.0 k some ∙ passes rest (modifier_keeps (first rest) modifiers.Rescue there) k some
    ∙ within _ _ _ _ _ right p.1 k some
within _ _ _ _ _ (grammar.Plain names known ts rest n d) = within _ _ _ _ _ d
within _ _ _ _ _ (grammar.Alias names ts is new old) = λ h. differs (sym h)
within _ _ _ _ _ (grammar.GlobalAlias names ts is new old) = λ h. differs (sym h)
within _ _ _ _ _ (grammar.Undef names known ts rest xs is d) = λ h. differs (sym h)
within _ _ _ _ _ (grammar.BeginBlock names known ts rest n is brace d closing) = λ h. differs (sym h)
within _ _ _ _ _ (grammar.EndBlock names known ts rest n is brace d closing) = λ h. differs (sym h)
within _ _ _ _ _ (grammar.AllJoined place owner names known ts rest n d ends) = within _ _ _ _ _ d
within _ _ _ _ _ (grammar.ListAssigned owner names known later ts rest more target n l group jump t there d side made) =
    λ h.
    let p = and_parts (is_assignable target) (is_expression n) h in
    let clean = clean_right l side (subst (λ (x : PhraseNode). is_expression x.0 ≡ true) (sym made) p.1) in
    λ k some. within _ _ _ _ _ t p.0 k some ∙ passes_word (words.Mark marks.Assign) rest there refl k some
    ∙ within _ _ _ _ _ d clean k some
within _ _ _ _ _ (grammar.SeveralAssigned owner names known later latest ts rest mid more target ms l group jump t there
    others many closing d side) = λ h. differs (sym h)
within _ _ _ _ _ (grammar.GroupsAssigned owner names known later ts rest more ms l begins others many closing d side) =
    λ h. differs (sym h)
within _ _ _ _ _ (grammar.Unjoined place owner names known ts rest n d) = within _ _ _ _ _ d
within _ _ _ _ _ (grammar.Junctioned place owner j names known later ts rest more a b left there right) = λ h.
    let p = junction_parts j a b h in
    λ k some. within _ _ _ _ _ left p.0 k some ∙ passes rest (junction_keeps (first rest) j there) k some
    ∙ within _ _ _ _ _ right p.1 k some
within _ _ _ _ _ (grammar.Negated place owner names known ts rest n is d) =
    λ h k some. passes_word (words.Key keywords.Not) ts is refl k some ∙ within _ _ _ _ _ d h k some
within _ _ _ _ _ (grammar.Unnegated place owner names known ts rest n group d) = within _ _ _ _ _ d
within _ _ _ _ _ (grammar.Commanded place owner names known ts rest n group d) =
    λ h. clash (is_expression n) h (within _ _ _ _ _ d)
within _ _ _ _ _ (grammar.Value place owner names known ts rest n jump d calm free) = within _ _ _ _ _ d
within _ _ _ _ _ (grammar.Conditional place owner names known later last ts rest more left n a b jump test asks chosen
    parts other) = λ h.
    let p = choice_parts n a b h in
    λ k some.
    within _ _ _ _ _ test p.0 k some ∙ passes_word (words.Mark marks.Question) rest asks refl k some
    ∙ within _ _ _ _ _ chosen p.1 k some
    ∙ passes_word (words.Mark marks.Colon) more parts refl k some ∙ within _ _ _ _ _ other p.2 k some
within _ _ _ _ _ (grammar.DefinedValue place owner names known ts rest n is closed d) =
    λ h k some. passes_word (words.Key keywords.Defined) ts is refl k some ∙ within _ _ _ _ _ d h k some
within _ _ _ _ _ (grammar.Assigned place owner a names known later ts rest more target n jump t there value calm alone)
    = λ h.
    let p = assignment_parts a target n h in
    λ k some. within _ _ _ _ _ t p.0 k some ∙ passes rest (assignment_keeps (first rest) a there) k some
    ∙ within _ _ _ _ _ value p.1 k some
within _ _ _ _ _ (grammar.AssignedOr place owner a names known later last ts rest more left target n other jump t there
    value rescue right) = λ h.
    let p = assignment_parts a target (rescued_node n other) h in
    let q = and_parts (is_expression n) (is_expression other) p.1 in
    λ k some.
    within _ _ _ _ _ t p.0 k some ∙ passes rest (assignment_keeps (first rest) a there) k some
    ∙ within _ _ _ _ _ value q.0 k some
    ∙ passes more (modifier_keeps (first more) modifiers.Rescue rescue) k some ∙ within _ _ _ _ _ right q.1 k some
within _ _ _ _ _ (grammar.NotAssignedValue place owner a names known later ts rest more target n is may t there value
    calm) = λ h.
    let p = assignment_parts a target n h in
    λ k some. passes_word (words.Mark marks.Not) ts is refl k some ∙ within _ _ _ _ _ t p.0 k some
    ∙ passes rest (assignment_keeps (first rest) a there) k some ∙ within _ _ _ _ _ value p.1 k some
within _ _ _ _ _ (grammar.NotAssignedValueOr place owner a names known later last ts rest more left target n other is may
    t there value rescue right) = λ h.
    let p = assignment_parts a target (rescued_node n other) h in
    let q = and_parts (is_expression n) (is_expression other) p.1 in
    λ k some.
    passes_word (words.Mark marks.Not) ts is refl k some ∙ within _ _ _ _ _ t p.0 k some
    ∙ passes rest (assignment_keeps (first rest) a there) k some ∙ within _ _ _ _ _ value q.0 k some
    ∙ passes more (modifier_keeps (first more) modifiers.Rescue rescue) k some ∙ within _ _ _ _ _ right q.1 k some
within _ _ _ _ _ (grammar.InnerAssigned owner a names known later ts rest more target n t there value calm) = λ h.
    let p = assignment_parts a target n h in
    λ k some. within _ _ _ _ _ t p.0 k some ∙ passes rest (assignment_keeps (first rest) a there) k some
    ∙ within _ _ _ _ _ value p.1 k some
within _ _ _ _ _ (grammar.InnerAssignedOr owner a names known later last ts rest more left target n other t there value
    rescue right) = λ h.
    let p = assignment_parts a target (rescued_node n other) h in
    let q = and_parts (is_expression n) (is_expression other) p.1 in
    λ k some.
    within _ _ _ _ _ t p.0 k some ∙ passes rest (assignment_keeps (first rest) a there) k some
    ∙ within _ _ _ _ _ value q.0 k some
    ∙ passes more (modifier_keeps (first more) modifiers.Rescue rescue) k some ∙ within _ _ _ _ _ right q.1 k some
within _ _ _ _ _ (grammar.LocalTarget owner names ts is) = λ h. passes_word words.Identifier ts is refl
within _ _ _ _ _ (grammar.InstanceTarget owner names ts is) = λ h. passes_word words.InstanceVariable ts is refl
within _ _ _ _ _ (grammar.GlobalTarget owner names ts is) = λ h. passes_word words.GlobalVariable ts is refl
within _ _ _ _ _ (grammar.ConstantTarget owner names ts is) = λ h. passes_word words.Constant ts is refl
within _ _ _ _ _ (grammar.PostfixTarget owner names known ts rest n is none d) =
    λ h. within _ _ _ _ _ d (place_is n is h)
within _ _ _ _ _ (grammar.MethodTarget owner names known ts rest n none d there is) = λ h k some.
    within _ _ _ _ _ d (receiver_is n (bytes_at (behind rest)) h) k some
    ∙ passes_word (words.Mark marks.Dot) rest there refl k some
    ∙ passes (behind rest) (name_keeps (first (behind rest)) is) k some
within _ _ _ _ _ (grammar.OutsideTarget owner o names ts is variable) = λ h. differs (sym h)
within _ _ _ _ _ (grammar.CalleeTarget owner names known ts rest o at ns none d) = λ h. differs (sym h)
within _ _ _ _ _ (grammar.AnyTarget owner names known ts rest n d) = within _ _ _ _ _ d
within _ _ _ _ _ (grammar.PostfixInnerTarget owner names known ts rest n is none d) =
    λ h. within _ _ _ _ _ d (place_is n is h)
within _ _ _ _ _ (grammar.CalleeInnerTarget owner names known ts rest c none d target) = within _ _ _ _ _ d target
within _ _ _ _ _ (grammar.AllOperators place loosest owner names known ts rest n d ends free) = within _ _ _ _ _ d
within _ _ _ _ _ (grammar.OneOperand place loosest owner names known ts rest n d) = within _ _ _ _ _ d
within _ _ _ _ _ (grammar.OperandAssigned loosest owner a names known later ts rest more target n inner t there value
    calm) = λ h.
    let p = assignment_parts a target n h in
    λ k some. within _ _ _ _ _ t p.0 k some ∙ passes rest (assignment_keeps (first rest) a there) k some
    ∙ within _ _ _ _ _ value p.1 k some
within _ _ _ _ _ (grammar.OperandAssignedOr loosest owner a names known later last ts rest more left target n other inner
    t there value rescue right) = λ h.
    let p = assignment_parts a target (rescued_node n other) h in
    let q = and_parts (is_expression n) (is_expression other) p.1 in
    λ k some.
    within _ _ _ _ _ t p.0 k some ∙ passes rest (assignment_keeps (first rest) a there) k some
    ∙ within _ _ _ _ _ value q.0 k some
    ∙ passes more (modifier_keeps (first more) modifiers.Rescue rescue) k some ∙ within _ _ _ _ _ right q.1 k some
within _ _ _ _ _ (grammar.Infixed place loosest owner o names known later ts rest more a b left there right calm) = λ h.
    let p = infix_parts o (place_at rest) a b h in
    λ k some. within _ _ _ _ _ left p.0 k some ∙ passes rest (infix_keeps loosest (first rest) o there) k some
    ∙ within _ _ _ _ _ right p.1 k some
within _ _ _ _ _ (grammar.Prefixed place owner o names known ts rest n there d) =
    λ h k some. passes ts (prefix_keeps ts o there) k some ∙ within _ _ _ _ _ d (prefix_part o n h) k some
within _ _ _ _ _ (grammar.NotPrefixed place owner o names known ts rest n is there d) =
    λ h k some. passes_word (words.Mark marks.Not) ts is refl k some ∙ within _ _ _ _ _ d h k some
within _ _ _ _ _ (grammar.WithPostfixes place owner names known ts rest n none d ends) = within _ _ _ _ _ d
within _ _ _ _ _ (grammar.Nil place owner names ts is) = λ h. passes_word (words.Key keywords.Nil) ts is refl
within _ _ _ _ _ (grammar.True place owner names ts is) = λ h. passes_word (words.Key keywords.True) ts is refl
within _ _ _ _ _ (grammar.False place owner names ts is) = λ h. passes_word (words.Key keywords.False) ts is refl
within _ _ _ _ _ (grammar.SelfReference place owner names ts is) =
    λ h. passes_word (words.Key keywords.SelfReference) ts is refl
within _ _ _ _ _ (grammar.Integer place owner names ts is) = λ h. passes_word words.Integer ts is refl
within _ _ _ _ _ (grammar.Negative place owner names ts is signed) =
    λ h k some. passes_word (words.Mark marks.Minus) ts is refl k some
    ∙ passes (behind ts) (sign_keeps (behind ts) signed) k some
within _ _ _ _ _ (grammar.Symbol place owner names ts is) = λ h. passes_word words.Symbol ts is refl
within _ _ _ _ _ (grammar.Local place owner names ts is known closed) = λ h. passes_word words.Identifier ts is refl
within _ _ _ _ _ (grammar.InstanceVariable place owner names ts is) = λ h. passes_word words.InstanceVariable ts is refl
within _ _ _ _ _ (grammar.GlobalVariable place owner names ts is) = λ h. passes_word words.GlobalVariable ts is refl
within _ _ _ _ _ (grammar.Constant place owner names ts is closed) = λ h. passes_word words.Constant ts is refl
within _ _ _ _ _ (grammar.Indexed place owner names known later ts rest more n ns left there values closing) = λ h.
    let p = and_parts (is_expression n) (are_expressions (nodes ns)) h in
    λ k some.
    within _ _ _ _ _ left p.0 k some ∙ passes_word (words.Mark marks.OpenBracket) rest there refl k some
    ∙ within _ _ _ _ _ values p.1 k some
    ∙ passes_newlines (length more) more k some
    ∙ passes_word (words.Mark marks.CloseBracket) (skip_newlines more) closing refl k some
within _ _ _ _ _ (grammar.ScopedConstant place owner names known ts rest n left there constant closed) = λ h k some.
    within _ _ _ _ _ left h k some ∙ passes_word (words.Mark marks.ColonColon) rest there refl k some
    ∙ passes_word words.Constant (behind rest) constant refl k some
within _ _ _ _ _ (grammar.NoValue place names ts none) = λ h k some. refl
within _ _ _ _ _ (grammar.LastValue place names known ts rest n d ends) =
    λ h. within _ _ _ _ _ d (and_parts (is_expression n) true h).0
within _ _ _ _ _ (grammar.MoreValues place names known later ts rest more n ns d there others) = λ h.
    let p = and_parts (is_expression n) (are_expressions (nodes ns)) h in
    λ k some. within _ _ _ _ _ d p.0 k some ∙ passes_word (words.Mark marks.Comma) rest there refl k some
    ∙ within _ _ _ _ _ others p.1 k some
within _ _ _ _ _ (grammar.Group place owner names known ts rest n is d closing) = λ h k some.
    passes_word (words.Mark marks.OpenParenthesis) ts is refl k some ∙ (within _ _ _ _ _ d).1 h k some
    ∙ passes_word (words.Mark marks.CloseParenthesis) rest closing refl k some
within _ _ _ _ _ (grammar.NoElement names ts is) = λ k some. leaves ts k is some
within _ _ _ _ _ (grammar.OneElement names ts rest xs is d) =
    λ k some. passes_word words.Element ts is refl (k + 1) (omega arith) ∙ within _ _ _ _ _ d k some
within _ _ _ _ _ (grammar.WordList place owner names ts rest xs is d) =
    λ h k some. enters words.WordsBegin ts k is refl refl ∙ within _ _ _ _ _ d k some
within _ _ _ _ _ (grammar.SymbolList place owner names ts rest xs is d) =
    λ h k some. enters words.SymbolsBegin ts k is refl refl ∙ within _ _ _ _ _ d k some
within _ _ _ _ _ (grammar.BytesPiece names ts is) = λ h. passes_word words.Piece ts is refl
within _ _ _ _ _ (grammar.StatementsPiece names known ts rest n is d closing) = λ h.
    let inner = within _ _ _ _ _ d in
    λ k some.
    passes_word words.InterpolationBegin ts is refl k some ∙ inner.1 (piece_is n inner.0 h) k some
    ∙ passes_word words.InterpolationEnd rest closing refl k some
within _ _ _ _ _ (grammar.InstanceVariablePiece names ts is) = λ h. passes_word words.InstanceVariable ts is refl
within _ _ _ _ _ (grammar.GlobalVariablePiece names ts is) = λ h. passes_word words.GlobalVariable ts is refl
within _ _ _ _ _ (grammar.OutsidePiece o names ts is alone) = λ h. differs (sym h)
within _ _ _ _ _ (grammar.NonAsciiPiece names ts is) = λ h. differs (sym h)
within _ _ _ _ _ (grammar.NoPiece names ts ends) = λ h k some. refl
within _ _ _ _ _ (grammar.OnePiece names known later ts rest more n ns d others) = λ h.
    let p = and_parts (is_piece n) (are_pieces (nodes ns)) h in
    λ k some. within _ _ _ _ _ d p.0 k some ∙ within _ _ _ _ _ others p.1 k some
within _ _ _ _ _ (grammar.StringLiteral names known ts rest ns is d closing) = λ h.
    let inner = within _ _ _ _ _ d h in
    (encloses words.StringBegin ts rest is refl refl closing inner, string_is_no_key ts rest is closing inner)
within _ _ _ _ _ (grammar.CharacterLiteral names ts is) =
    λ h. (passes_word words.Character ts is refl, character_is_no_key ts is)
within _ _ _ _ _ (grammar.LastString names known ts rest ns d none) = within _ _ _ _ _ d
within _ _ _ _ _ (grammar.NextString names known later ts rest more ns ms d others) = λ h.
    let p = pieces_parts ns ms h in
    let l = within _ _ _ _ _ d p.0 in
    let r = within _ _ _ _ _ others p.1 in
    (λ k some. l.0 k some ∙ r.0 k some, l.1)
within _ _ _ _ _ (grammar.Text place owner names known ts rest ns none d) = λ h. (within _ _ _ _ _ d h).0
within _ _ _ _ _ (grammar.QuotedSymbol place owner names known ts rest ns is d closing) =
    λ h. encloses words.SymbolBegin ts rest is refl refl closing (within _ _ _ _ _ d h)
within _ _ _ _ _ (grammar.DefinedGroup place owner names known ts rest n is opened d closing) = λ h k some.
    passes_word (words.Key keywords.Defined) ts is refl k some
    ∙ passes_word (words.Mark marks.OpenParenthesis) (behind ts) opened refl k some ∙ within _ _ _ _ _ d h k some
    ∙ passes_newlines (length rest) rest k some
    ∙ passes_word (words.Mark marks.CloseParenthesis) (skip_newlines rest) closing refl k some
within _ _ _ _ _ (grammar.TopConstant place owner names ts is there) = λ h k some.
    passes_word (words.Mark marks.ColonColon) ts is refl k some
    ∙ passes_word words.Constant (behind ts) there refl k some
within _ _ _ _ _ (grammar.OutsideToken place owner o names ts is alone) = λ h. differs (sym h)
within _ _ _ _ _ (grammar.FileKeyword place owner names ts is) = λ h. differs (sym h)
within _ _ _ _ _ (grammar.LineKeyword place owner names ts is) = λ h. differs (sym h)
within _ _ _ _ _ (grammar.EncodingKeyword place owner names ts is) = λ h. differs (sym h)
within _ _ _ _ _ (grammar.Redo place owner names ts is) = λ h. differs (sym h)
within _ _ _ _ _ (grammar.Retry place owner names ts is) = λ h. passes_word (words.Key keywords.Retry) ts is refl
within _ _ _ _ _ (grammar.Return place owner names ts is) = λ h. differs (sym h)
within _ _ _ _ _ (grammar.Break place owner names ts is) = λ h. differs (sym h)
within _ _ _ _ _ (grammar.Next place owner names ts is) = λ h. differs (sym h)
within _ _ _ _ _ (grammar.Yield place owner names ts is closed) = λ h. differs (sym h)
within _ _ _ _ _ (grammar.Array place owner names known ts rest l is d none closing) = λ h k some.
    passes_word (words.Mark marks.OpenBracket) ts is refl k some ∙ within _ _ _ _ _ d (clean_is l none h) k some
    ∙ passes_newlines (length rest) rest k some
    ∙ passes_word (words.Mark marks.CloseBracket) (skip_newlines rest) closing refl k some
within _ _ _ _ _ (grammar.Hash place owner names known ts rest l is d none alone closing) = λ h k some.
    passes_word (words.Mark marks.OpenBrace) ts is refl k some ∙ within _ _ _ _ _ d (clean_pairs l none alone h) k some
    ∙ passes_newlines (length rest) rest k some
    ∙ passes_word (words.Mark marks.CloseBrace) (skip_newlines rest) closing refl k some
within _ _ _ _ _ (grammar.YieldGroup place owner names known ts rest l is there d none closing) = λ h. differs (sym h)
within _ _ _ _ _ (grammar.Lambda place owner style names known ts rest b is there d) = λ h. differs (sym h)
within _ _ _ _ _ (grammar.LambdaBraces place owner names known later ts rest more l n is none d brace inner closing) =
    λ h. differs (sym h)
within _ _ _ _ _ (grammar.LambdaDo place owner names known later ts rest more l n is none d style inner) =
    λ h. differs (sym h)
within _ _ _ _ _ (grammar.If place owner names known later latest ts rest more last t n bs o is d others other ends) =
    λ h. differs (sym h ∙ branches_none (condition_node t) n (nodes bs) (option_node o) (within _ _ _ _ _ d))
within _ _ _ _ _ (grammar.Unless place owner names known later ts rest more t n o is d other ends) =
    λ h. differs (sym h ∙ unless_none (condition_node t) n (option_node o) (within _ _ _ _ _ d))
within _ _ _ _ _ (grammar.While place owner names known ts rest t n is d ends) =
    λ h. differs (sym h ∙ loop_none false (condition_node t) n (within _ _ _ _ _ d))
within _ _ _ _ _ (grammar.Until place owner names known ts rest t n is d ends) =
    λ h. differs (sym h ∙ loop_none true (condition_node t) n (within _ _ _ _ _ d))
within _ _ _ _ _ (grammar.For place owner names known later ts rest more xs e n is d there inner ends) =
    λ h. differs (sym h)
within _ _ _ _ _ (grammar.Case place owner names known later latest ts rest more last s o ws is head d other ends) =
    λ h. differs (sym h)
within _ _ _ _ _ (grammar.Begin place owner names known later ts rest more n cs o e is d handlers ends) =
    λ h. differs (sym h)
within _ _ _ _ _ (grammar.Define place owner names known inner later ts rest more last h l b is head d free body) =
    λ g. differs (sym g ∙ method_is_none h _)
within _ _ _ _ _ (grammar.EndlessDefine place owner names known inner later ts rest more last h l n is head d assigned
    value) = λ g. differs (sym g)
within _ _ _ _ _ (grammar.Class place owner names known inner ts rest last s x b is path separator body) =
    λ h. differs (sym h)
within _ _ _ _ _ (grammar.Subclass place owner names known later inner ts rest more last s x n b is path less parent
    separator body) = λ h. differs (sym h)
within _ _ _ _ _ (grammar.SingletonClass place owner names known inner ts rest last n b is shift value separator body) =
    λ h. differs (sym h)
within _ _ _ _ _ (grammar.Module place owner names known inner ts rest last s x b is path body) = λ h. differs (sym h)
within _ _ _ _ _ (grammar.CalleeAlone place owner names known ts rest c d alone free) =
    λ h. differs (sym h ∙ call_is_none c None None)
within _ _ _ _ _ (grammar.GroupCall place owner names known later ts rest more c l d opened inner closing unblocked) =
    λ h. differs (sym h ∙ call_is_none c _ None)
within _ _ _ _ _ (grammar.GroupBlockCall place owner style names known later last ts rest more left c l b d opened inner
    closing there none block) = λ h. differs (sym h ∙ call_is_none c _ (Some b))
within _ _ _ _ _ (grammar.BlockCall place owner style names known later ts rest more c b d closed there block) =
    λ h. differs (sym h ∙ call_is_none c None (Some b))
within _ _ _ _ _ (grammar.DotCall place owner names known later ts rest more n l d there opened inner closing) =
    λ h. differs (sym h)
within _ _ _ _ _ (grammar.SafeCall place owner names known later ts rest more n l d there opened inner closing) =
    λ h. differs (sym h)
within _ _ _ _ _ (grammar.ListIndexed place owner names known later ts rest more n l left there inner alone closing) =
    λ h.
    let p = and_parts (is_expression n) (are_expressions (items_of (whole_items l.items l.pairs))) h in
    let clean = clean_is l alone p.1 in
    λ k some.
    within _ _ _ _ _ left p.0 k some ∙ passes_word (words.Mark marks.OpenBracket) rest there refl k some
    ∙ within _ _ _ _ _ inner clean k some
    ∙ passes_newlines (length more) more k some
    ∙ passes_word (words.Mark marks.CloseBracket) (skip_newlines more) closing refl k some
within _ _ _ _ _ (grammar.GuardedBy names known later ts rest body more t n test there d) = (within _ _ _ _ _ d).0
within _ _ _ _ _ (grammar.Looped names known later ts rest body more t n test there d) = (within _ _ _ _ _ d).0
within _ _ _ _ _ (grammar.PlainPart place owner names known ts rest n d arrow) = within _ _ _ _ _ d
within _ _ _ _ _ (grammar.PairPart place owner names known later ts rest more key n d there value) = λ h.
    let p = and_parts (is_expression key) (is_expression n) h in
    λ k some. within _ _ _ _ _ d p.0 k some ∙ passes_word (words.Mark marks.Arrow) rest there refl k some
    ∙ within _ _ _ _ _ value p.1 k some
within _ _ _ _ _ (grammar.LabelPart place owner names known ts rest n is d) =
    λ h k some. passes_word words.Label ts is refl k some ∙ within _ _ _ _ _ d h k some
within _ _ _ _ _ (grammar.QuotedPart place owner names known later ts rest more ns n is key d closing value) =
    λ h. differs (sym h)
within _ _ _ _ _ (grammar.SplatPart place owner names known ts rest n is d) =
    λ h k some. passes_word (words.Mark marks.Star) ts is refl k some ∙ within _ _ _ _ _ d h k some
within _ _ _ _ _ (grammar.DoubleSplatPart place owner names known ts rest n is d) = λ h. differs (sym h)
within _ _ _ _ _ (grammar.BlockPart place owner names known ts rest n is d) = λ h. differs (sym h)
within _ _ _ _ _ (grammar.FirstPart owner names known ts rest p d) =
    λ h. within _ _ _ _ _ d (put_clean p nothing_listed h).1
within _ _ _ _ _ (grammar.NextPart owner names known later ts rest more p l before there d follows) = λ h.
    let c = put_clean p l h in
    λ k some. within _ _ _ _ _ before c.0 k some ∙ passes_word (words.Mark marks.Comma) rest there refl k some
    ∙ within _ _ _ _ _ d c.1 k some
within _ _ _ _ _ (grammar.NoPart owner names ts none) = λ h k some. refl
within _ _ _ _ _ (grammar.AllParts owner names known ts rest l d ends) = within _ _ _ _ _ d
within _ _ _ _ _ (grammar.LastComma owner names known ts rest l d there ends) = λ h k some. within _ _ _ _ _ d h k some
    ∙ passes_word (words.Mark marks.Comma) rest there refl k some
within _ _ _ _ _ (grammar.CommandPart owner names known ts rest n d ends) =
    λ h. clash (is_expression n) (put_clean (command_part n) nothing_listed h).1 (within _ _ _ _ _ d)
within _ _ _ _ _ (grammar.NameCallee place owner names ts is other) =
    λ target h. passes_word words.Identifier ts is refl
within _ _ _ _ _ (grammar.MethodNameCallee place owner names ts is) =
    λ target h. passes_word words.MethodName ts is refl
within _ _ _ _ _ (grammar.OpenedCallee place owner names ts is opened) =
    λ target h. passes ts (name_keeps (first ts) is)
within _ _ _ _ _ (grammar.SuperCallee place owner names ts is) = λ target h. differs (sym target)
within _ _ _ _ _ (grammar.NonAsciiCallee place owner names ts is) = λ target h. differs (sym h)
within _ _ _ _ _ (grammar.MethodCallee place owner names known ts rest n left there is) = λ target h k some.
    within _ _ _ _ _ left (receiver_is n (bytes_at (behind rest)) h) k some
    ∙ passes_word (words.Mark marks.Dot) rest there refl k some
    ∙ passes (behind rest) (name_keeps (first (behind rest)) is) k some
within _ _ _ _ _ (grammar.ScopeCallee place owner names known ts rest n left there is other) =
    λ target h. differs (sym target)
within _ _ _ _ _ (grammar.SafeCallee place owner names known ts rest n left there is) = λ target h. differs (sym h)
within _ _ _ _ _ (grammar.NonAsciiMethod place owner names known ts rest n left joins is) = λ target h. differs (sym h)
within _ _ _ _ _ (grammar.CommandList owner names known ts rest c l begins closed d none) = call_is_none c _ None
within _ _ _ _ _ (grammar.CommandBlock owner names known later ts rest more c l b begins closed d there none block ends)
    = call_is_none c _ (Some b)
within _ _ _ _ _ (grammar.CommandPostfixes owner names known later last ts rest more left c l b n begins closed d there
    none block others) = within _ _ _ _ _ others (call_is_none c _ (Some b))
within _ _ _ _ _ (grammar.LastPostfix owner names known ts rest n m d ends) = within _ _ _ _ _ d
within _ _ _ _ _ (grammar.MorePostfixes owner names known later ts rest more n m all d others) =
    λ h. within _ _ _ _ _ others (within _ _ _ _ _ d h)
within _ _ _ _ _ (grammar.IndexPostfix owner names known ts rest n l is d alone closing) = λ h. rw h refl
within _ _ _ _ _ (grammar.ConstantPostfix owner names ts n is constant closed) = λ h. h
within _ _ _ _ _ (grammar.MethodPostfix owner names known ts rest n m joins is other d) = λ h. within _ _ _ _ _ d
within _ _ _ _ _ (grammar.NonAsciiPostfix owner names known ts rest n m joins is d) = λ h. within _ _ _ _ _ d
within _ _ _ _ _ (grammar.CallPostfix owner names known ts rest n l joins opened d closing) =
    λ h. call_is_none (method_behind (first ts) n (codes "call") (place_at ts)) _ None
within _ _ _ _ _ (grammar.CalledAlone owner names ts c closed none) = call_is_none c None None
within _ _ _ _ _ (grammar.CalledWith owner names known ts rest c l opened d closing none) = call_is_none c _ None
within _ _ _ _ _ (grammar.CalledWithBlock owner style names known later ts rest more c l b opened d closing there none
    block) = call_is_none c _ (Some b)
within _ _ _ _ _ (grammar.CalledBlock owner style names known ts rest c b closed there block) =
    call_is_none c None (Some b)
within _ _ _ _ _ (grammar.CalleeCommand place owner names known later ts rest more c n may none jump d arguments) =
    within _ _ _ _ _ arguments
within _ _ _ _ _ (grammar.NotCommand place owner names known later ts rest more c n is may none d arguments) =
    within _ _ _ _ _ arguments
within _ _ _ _ _ (grammar.CommandAssigned place owner a names known later ts rest more target n jump t there d calm
    free) = assigned_none a target n (within _ _ _ _ _ d)
within _ _ _ _ _ (grammar.CommandAssignedOr place owner a names known later last ts rest more left target n other jump t
    there d rescue right) = assigned_none a target (rescued_node n other) (rw (within _ _ _ _ _ d) refl)
within _ _ _ _ _ (grammar.NotAssigned place owner a names known later ts rest more target n is may t there d calm) =
    assigned_none a target n (within _ _ _ _ _ d)
within _ _ _ _ _ (grammar.NotAssignedOr place owner a names known later last ts rest more left target n other is may t
    there d rescue right) = assigned_none a target (rescued_node n other) (rw (within _ _ _ _ _ d) refl)
within _ _ _ _ _ (grammar.JumpList place owner j names known ts rest l there may begins d none) =
    jump_none j (place_at ts) (whole_items l.items l.pairs)
within _ _ _ _ _ (grammar.YieldList place owner names known ts rest l is may begins d none) = refl
within _ _ _ _ _ d = tt

-- no command is an expression
pub no_expression : (place : Place) (owner : DoOwner) (names known : Names) (ts rest : Tokens) (n : Node)
    → Derives (Command place owner n) names ts known rest → is_expression n ≡ false
no_expression place owner names known ts rest n d = within _ _ _ _ _ d

-- a string that is derived is no key
pub no_key : (names known : Names) (ts rest : Tokens) (ns : List Node) → Derives (Quoted ns) names ts known rest
    → are_pieces (nodes ns) ≡ true → is_quoted_key ts ≡ false
no_key names known ts rest ns d is = (within _ _ _ _ _ d is).1
