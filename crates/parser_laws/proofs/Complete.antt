-- What is derived is read.
use Rattle.std.proofs.Common.{refl}
use Rattle.parser_forms.specs.Reading.{Names, Tokens}
use Rattle.parser_laws.specs.Rules.{Rule}
use Rattle.parser_laws.specs.Derives as grammar
use Rattle.parser_laws.specs.Derives.{Derives}
use Rattle.parser_laws.proofs.Facts.{Fact}
use Rattle.parser_ahead.specs.declared.primary.Place.TheVariants as places
use Rattle.parser_laws.proofs.Heads.{jump_front}
use Rattle.parser_laws.proofs.Fronts.{front}
use Rattle.parser_laws.proofs.CompletePrimary as primaries
use Rattle.parser_laws.proofs.CompletePostfixes as postfixes
use Rattle.parser_laws.proofs.CompleteCallees as callees
use Rattle.parser_laws.proofs.CompleteCalls as calls
use Rattle.parser_laws.proofs.CompleteCommands as commands
use Rattle.parser_laws.proofs.CompleteChains as chains
use Rattle.parser_laws.proofs.CompleteOperands as operands
use Rattle.parser_laws.proofs.CompleteValues as values
use Rattle.parser_laws.proofs.CompleteStatements as statements
use Rattle.parser_laws.proofs.CompleteTargets as targets
use Rattle.parser_laws.proofs.CompleteAssignments as assignments
use Rattle.parser_laws.proofs.CompleteLast as last_operands
use Rattle.parser_laws.proofs.CompleteLiterals as literals
use Rattle.parser_laws.proofs.CompleteWords as words
use Rattle.parser_laws.proofs.CompleteLists as lists
use Rattle.parser_laws.proofs.CompleteBrackets as brackets
use Rattle.parser_laws.proofs.CompleteJumps as jumps
use Rattle.parser_laws.proofs.CompleteSeveral as several
use Rattle.parser_laws.proofs.CompleteLambdas as lambdas
use Rattle.parser_laws.proofs.CompleteAlias as aliases
use Rattle.parser_laws.proofs.CompleteCompounds as compounds
use Rattle.parser_laws.proofs.CompleteClauses as clauses
use Rattle.parser_laws.proofs.CompleteBodies as bodies
use Rattle.parser_laws.proofs.CompleteLoops as loops
use Rattle.parser_laws.proofs.CompleteParameters as parameters
use Rattle.parser_laws.proofs.CompletePatterns as patterns
use Rattle.parser_laws.proofs.CompleteBlocks as blocks
use Rattle.parser_laws.proofs.CompleteDefinitions as definitions

pub complete : (r : Rule) (names : Names) (ts : Tokens) (known : Names) (rest : Tokens) → Derives r names ts known rest
    → Fact r names ts known rest
complete _ _ _ _ _ (grammar.Separated names known ts rest ns d) =
    statements.separated_fact names known ts rest ns (complete _ _ _ _ _ d)
complete _ _ _ _ _ (grammar.NoMore names ts ends) = statements.no_more names ts ends
complete _ _ _ _ _ (grammar.OneMore names known later ts rest more n ns goes_on one ends others) =
    statements.one_more names known later ts rest more n ns goes_on (complete _ _ _ _ _ one) ends
    (complete _ _ _ _ _ others)
complete _ _ _ _ _ (grammar.WithModifiers names known ts rest n d ends) =
    statements.with_modifiers names known ts rest n (complete _ _ _ _ _ d) ends
complete _ _ _ _ _ (grammar.Unmodified names known ts rest n d) =
    statements.unmodified names known ts rest n (complete _ _ _ _ _ d)
complete _ _ _ _ _ (grammar.Tested m names known later ts rest more n test left there plain right) =
    statements.tested m names known later ts rest more n test (complete _ _ _ _ _ left) there plain
    (complete _ _ _ _ _ right)
complete _ _ _ _ _ (grammar.Rescued names known later ts rest more n other left there right) =
    statements.rescued names known later ts rest more n other (complete _ _ _ _ _ left) there (complete _ _ _ _ _ right)
complete _ _ _ _ _ (grammar.Plain names known ts rest n d) =
    statements.plain names known ts rest n (complete _ _ _ _ _ d)
complete _ _ _ _ _ (grammar.AllJoined place owner names known ts rest n d ends) =
    statements.all_joined place owner names known ts rest n (complete _ _ _ _ _ d) ends
complete _ _ _ _ _ (grammar.Unjoined place owner names known ts rest n d) =
    statements.unjoined place owner names known ts rest n (complete _ _ _ _ _ d)
complete _ _ _ _ _ (grammar.Junctioned place owner j names known later ts rest more a b left there right) =
    statements.junctioned place owner j names known later ts rest more a b (complete _ _ _ _ _ left) there
    (complete _ _ _ _ _ right)
complete _ _ _ _ _ (grammar.Negated place owner names known ts rest n is d) =
    values.negated_fact place owner names known ts rest n is (complete _ _ _ _ _ d)
complete _ _ _ _ _ (grammar.Unnegated place owner names known ts rest n group d) =
    values.unnegated place owner names known ts rest n group (complete _ _ _ _ _ d)
complete _ _ _ _ _ (grammar.Value place owner names known ts rest n jump d calm free) =
    values.value place owner names known ts rest n (complete _ _ _ _ _ d)
    (jump_front place ts (front _ _ _ _ _ d refl) jump) calm free
complete _ _ _ _ _ (grammar.Conditional place owner names known later last ts rest more left n a b jump test asks chosen
    parts other) =
    values.conditional place owner names known later last ts rest more left n a b (complete _ _ _ _ _ test)
    (jump_front place ts (front _ _ _ _ _ test refl) jump) asks (complete _ _ _ _ _ chosen) parts
    (complete _ _ _ _ _ other)
complete _ _ _ _ _ (grammar.DefinedValue place owner names known ts rest n is closed d) =
    values.defined_value place owner names known ts rest n is closed (complete _ _ _ _ _ d)
complete _ _ _ _ _ (grammar.Assigned place owner a names known later ts rest more target n jump t there value calm
    alone) =
    assignments.assigned place owner a names known later ts rest more target n (complete _ _ _ _ _ t)
    (jump_front place ts (front _ _ _ _ _ t refl) jump) there (complete _ _ _ _ _ value)
    (front _ _ _ _ _ value refl) calm alone
complete _ _ _ _ _ (grammar.AssignedOr place owner a names known later last ts rest more tail target n other jump t
    there value rescue right) =
    assignments.assigned_or place owner a names known later last ts rest more tail target n other (complete _ _ _ _ _ t)
    (jump_front place ts (front _ _ _ _ _ t refl) jump) there (complete _ _ _ _ _ value)
    (front _ _ _ _ _ value refl) rescue (complete _ _ _ _ _ right)
complete _ _ _ _ _ (grammar.NotAssignedValue place owner a names known later ts rest more target n is may t there value
    calm) =
    assignments.not_assigned_value place owner a names known later ts rest more target n is may (complete _ _ _ _ _ t)
    there (complete _ _ _ _ _ value) (front _ _ _ _ _ value refl) calm
complete _ _ _ _ _ (grammar.NotAssignedValueOr place owner a names known later last ts rest more tail target n other is
    may t there value rescue right) =
    assignments.not_assigned_value_or place owner a names known later ts rest more target n is may
    (complete _ _ _ _ _ t) there (complete _ _ _ _ _ value) (front _ _ _ _ _ value refl) last tail other rescue
    (complete _ _ _ _ _ right)
complete _ _ _ _ _ (grammar.InnerAssigned owner a names known later ts rest more target n t there value calm) =
    assignments.inner_assigned owner a names known later ts rest more target n (complete _ _ _ _ _ t)
    (jump_front places.Argument ts (front _ _ _ _ _ t refl) refl) there (complete _ _ _ _ _ value)
    (front _ _ _ _ _ value refl) calm
complete _ _ _ _ _ (grammar.InnerAssignedOr owner a names known later last ts rest more tail target n other t there
    value rescue right) =
    assignments.inner_assigned_or owner a names known later last ts rest more tail target n other (complete _ _ _ _ _ t)
    (jump_front places.Argument ts (front _ _ _ _ _ t refl) refl) there (complete _ _ _ _ _ value)
    (front _ _ _ _ _ value refl) rescue (complete _ _ _ _ _ right)
complete _ _ _ _ _ (grammar.LocalTarget owner names ts is) = targets.local_target owner names ts is
complete _ _ _ _ _ (grammar.InstanceTarget owner names ts is) = targets.instance_target owner names ts is
complete _ _ _ _ _ (grammar.GlobalTarget owner names ts is) = targets.global_target owner names ts is
complete _ _ _ _ _ (grammar.ConstantTarget owner names ts is) = targets.constant_target owner names ts is
complete _ _ _ _ _ (grammar.PostfixTarget owner names known ts rest n is none d) =
    targets.postfix_target owner names known ts rest n is none (complete _ _ _ _ _ d)
complete _ _ _ _ _ (grammar.MethodTarget owner names known ts rest n none d there is) =
    targets.method_target owner names known ts rest n none (complete _ _ _ _ _ d) there is
complete _ _ _ _ _ (grammar.OutsideTarget owner o names ts is variable) =
    targets.outside_target owner names ts o is variable
complete _ _ _ _ _ (grammar.CalleeTarget owner names known ts rest o at ns none d) =
    targets.callee_target owner names known ts rest o at ns none (complete _ _ _ _ _ d)
complete _ _ _ _ _ (grammar.AnyTarget owner names known ts rest n d) =
    targets.any_target owner names known ts rest n (complete _ _ _ _ _ d)
complete _ _ _ _ _ (grammar.PostfixInnerTarget owner names known ts rest n is none d) =
    targets.postfix_inner_target owner names known ts rest n is none (complete _ _ _ _ _ d)
complete _ _ _ _ _ (grammar.CalleeInnerTarget owner names known ts rest c none d target) =
    targets.callee_inner_target owner names known ts rest c none (complete _ _ _ _ _ d) target
complete _ _ _ _ _ (grammar.AllOperators place loosest owner names known ts rest n d ends free) =
    operands.all_operators place loosest owner names known ts rest n (complete _ _ _ _ _ d) ends free
complete _ _ _ _ _ (grammar.OneOperand place loosest owner names known ts rest n d) =
    operands.one_operand place loosest owner names known ts rest n (complete _ _ _ _ _ d)
complete _ _ _ _ _ (grammar.OperandAssigned loosest owner a names known later ts rest more target n within t there
    value calm) =
    last_operands.operand_assigned loosest owner a names known later ts rest more target n within
    (complete _ _ _ _ _ t) there (complete _ _ _ _ _ value) calm
complete _ _ _ _ _ (grammar.OperandAssignedOr loosest owner a names known later last ts rest more tail target n other
    within t there value rescue right) =
    last_operands.operand_assigned_or loosest owner a names known later ts rest more target n within
    (complete _ _ _ _ _ t) there (complete _ _ _ _ _ value) last tail other rescue (complete _ _ _ _ _ right)
complete _ _ _ _ _ (grammar.Infixed place loosest owner o names known later ts rest more a b left there right calm) =
    operands.infixed place loosest owner o names known later ts rest more a b (complete _ _ _ _ _ left) there
    (complete _ _ _ _ _ right) calm
complete _ _ _ _ _ (grammar.Prefixed place owner o names known ts rest n there d) =
    operands.prefixed place owner o names known ts rest n there (complete _ _ _ _ _ d)
complete _ _ _ _ _ (grammar.NotPrefixed place owner o names known ts rest n is there d) =
    operands.not_prefixed place owner o names known ts rest n is there (complete _ _ _ _ _ d)
complete _ _ _ _ _ (grammar.WithPostfixes place owner names known ts rest n none d ends) =
    operands.with_postfixes place owner names known ts rest n none (complete _ _ _ _ _ d) ends
complete _ _ _ _ _ (grammar.Nil place owner names ts is) = primaries.nil place owner names ts is
complete _ _ _ _ _ (grammar.True place owner names ts is) = primaries.truth place owner names ts is
complete _ _ _ _ _ (grammar.False place owner names ts is) = primaries.falsehood place owner names ts is
complete _ _ _ _ _ (grammar.SelfReference place owner names ts is) = primaries.self_reference place owner names ts is
complete _ _ _ _ _ (grammar.Integer place owner names ts is) = primaries.integer place owner names ts is
complete _ _ _ _ _ (grammar.Negative place owner names ts is signed) = primaries.negative place owner names ts is signed
complete _ _ _ _ _ (grammar.Symbol place owner names ts is) = primaries.symbol place owner names ts is
complete _ _ _ _ _ (grammar.Local place owner names ts is known closed) =
    primaries.local place owner names ts is known closed
complete _ _ _ _ _ (grammar.InstanceVariable place owner names ts is) =
    primaries.instance_variable place owner names ts is
complete _ _ _ _ _ (grammar.GlobalVariable place owner names ts is) = primaries.global_variable place owner names ts is
complete _ _ _ _ _ (grammar.Constant place owner names ts is closed) = primaries.constant place owner names ts is closed
complete _ _ _ _ _ (grammar.Group place owner names known ts rest n is d closing) =
    primaries.group place owner names ts known rest n is (complete _ _ _ _ _ d) closing
complete _ _ _ _ _ (grammar.NoElement names ts is) = literals.no_element names ts is
complete _ _ _ _ _ (grammar.OneElement names ts rest xs is d) =
    literals.one_element names ts rest xs is (complete _ _ _ _ _ d)
complete _ _ _ _ _ (grammar.WordList place owner names ts rest xs is d) =
    literals.word_list place owner names ts rest xs is (complete _ _ _ _ _ d)
complete _ _ _ _ _ (grammar.SymbolList place owner names ts rest xs is d) =
    literals.symbol_list place owner names ts rest xs is (complete _ _ _ _ _ d)
complete _ _ _ _ _ (grammar.BytesPiece names ts is) = literals.bytes_piece names ts is
complete _ _ _ _ _ (grammar.StatementsPiece names known ts rest n is d closing) =
    literals.statements_piece names known ts rest n is (complete _ _ _ _ _ d) closing
complete _ _ _ _ _ (grammar.InstanceVariablePiece names ts is) = literals.instance_variable_piece names ts is
complete _ _ _ _ _ (grammar.GlobalVariablePiece names ts is) = literals.global_variable_piece names ts is
complete _ _ _ _ _ (grammar.OutsidePiece o names ts is alone) = literals.outside_piece o names ts is alone
complete _ _ _ _ _ (grammar.NonAsciiPiece names ts is) = literals.non_ascii_piece names ts is
complete _ _ _ _ _ (grammar.NoPiece names ts ends) = literals.no_piece names ts ends
complete _ _ _ _ _ (grammar.OnePiece names known later ts rest more n ns one others) =
    literals.one_piece names known later ts rest more n ns (complete _ _ _ _ _ one) (complete _ _ _ _ _ others)
complete _ _ _ _ _ (grammar.StringLiteral names known ts rest ns is d closing) =
    literals.string_literal names known ts rest ns is (complete _ _ _ _ _ d) closing
complete _ _ _ _ _ (grammar.CharacterLiteral names ts is) = literals.character_literal names ts is
complete _ _ _ _ _ (grammar.LastString names known ts rest ns d none) =
    literals.last_string names known ts rest ns (complete _ _ _ _ _ d) none
complete _ _ _ _ _ (grammar.NextString names known later ts rest more ns ms one others) =
    literals.next_string names known later ts rest more ns ms (complete _ _ _ _ _ one) (complete _ _ _ _ _ others)
complete _ _ _ _ _ (grammar.Text place owner names known ts rest ns none d) =
    literals.text place owner names ts known rest ns (complete _ _ _ _ _ d)
complete _ _ _ _ _ (grammar.QuotedSymbol place owner names known ts rest ns is d closing) =
    literals.quoted_symbol place owner names ts known rest ns is (complete _ _ _ _ _ d) closing
complete _ _ _ _ _ (grammar.TopConstant place owner names ts is there) =
    words.top_constant place owner names ts is there
complete _ _ _ _ _ (grammar.OutsideToken place owner o names ts is alone) =
    words.outside_token place owner names ts o is alone
complete _ _ _ _ _ (grammar.FileKeyword place owner names ts is) = words.file_keyword place owner names ts is
complete _ _ _ _ _ (grammar.LineKeyword place owner names ts is) = words.line_keyword place owner names ts is
complete _ _ _ _ _ (grammar.EncodingKeyword place owner names ts is) = words.encoding_keyword place owner names ts is
complete _ _ _ _ _ (grammar.Redo place owner names ts is) = words.redo place owner names ts is
complete _ _ _ _ _ (grammar.Retry place owner names ts is) = words.retry place owner names ts is
complete _ _ _ _ _ (grammar.Return place owner names ts is) = words.return_alone place owner names ts is
complete _ _ _ _ _ (grammar.Break place owner names ts is) = words.break_alone place owner names ts is
complete _ _ _ _ _ (grammar.Next place owner names ts is) = words.next_alone place owner names ts is
complete _ _ _ _ _ (grammar.Yield place owner names ts is closed) = words.yield_alone place owner names ts is closed
complete _ _ _ _ _ (grammar.PlainPart place owner names known ts rest n d arrow) =
    lists.plain_fact place owner names ts known rest n (complete _ _ _ _ _ d) (front _ _ _ _ _ d refl) arrow
complete _ _ _ _ _ (grammar.PairPart place owner names known later ts rest more key n d there value) =
    lists.pair_fact place owner names ts known later rest more key n (complete _ _ _ _ _ d) (front _ _ _ _ _ d refl)
    there (complete _ _ _ _ _ value)
complete _ _ _ _ _ (grammar.LabelPart place owner names known ts rest n is d) =
    lists.label_fact place owner names ts known rest n is (complete _ _ _ _ _ d)
complete _ _ _ _ _ (grammar.QuotedPart place owner names known later ts rest more ns n is key d closing value) =
    lists.quoted_fact place owner names ts known later rest more ns n is key (complete _ _ _ _ _ d) closing
    (complete _ _ _ _ _ value)
complete _ _ _ _ _ (grammar.SplatPart place owner names known ts rest n is d) =
    lists.splat_fact place owner names ts known rest n is (complete _ _ _ _ _ d)
complete _ _ _ _ _ (grammar.DoubleSplatPart place owner names known ts rest n is d) =
    lists.double_splat_fact place owner names ts known rest n is (complete _ _ _ _ _ d)
complete _ _ _ _ _ (grammar.BlockPart place owner names known ts rest n is d) =
    lists.block_fact place owner names ts known rest n is (complete _ _ _ _ _ d)
complete _ _ _ _ _ (grammar.FirstPart owner names known ts rest p d) =
    lists.first_part owner names known ts rest p (complete _ _ _ _ _ d)
complete _ _ _ _ _ (grammar.NextPart owner names known later ts rest more p l before there d follows) =
    lists.next_fact owner names known later ts rest more p l (complete _ _ _ _ _ before) there (complete _ _ _ _ _ d)
    follows
complete _ _ _ _ _ (grammar.NoPart owner names ts none) = lists.no_part owner names ts none
complete _ _ _ _ _ (grammar.AllParts owner names known ts rest l d ends) =
    lists.all_parts owner names known ts rest l (complete _ _ _ _ _ d) ends
complete _ _ _ _ _ (grammar.LastComma owner names known ts rest l d there ends) =
    lists.last_comma owner names known ts rest l (complete _ _ _ _ _ d) there ends
complete _ _ _ _ _ (grammar.Array place owner names known ts rest l is d none closing) =
    brackets.array place owner names ts known rest l is (complete _ _ _ _ _ d) none closing
complete _ _ _ _ _ (grammar.Hash place owner names known ts rest l is d none alone closing) =
    brackets.hash place owner names ts known rest l is (complete _ _ _ _ _ d) none alone closing
complete _ _ _ _ _ (grammar.YieldGroup place owner names known ts rest l is there d none closing) =
    brackets.yield_group place owner names ts known rest l is there (complete _ _ _ _ _ d) none closing
complete _ _ _ _ _ (grammar.JumpList place owner j names known ts rest l there may begins d none) =
    jumps.jump_list_fact place owner names ts j known rest l there may begins (complete _ _ _ _ _ d) none
complete _ _ _ _ _ (grammar.YieldList place owner names known ts rest l is may begins d none) =
    jumps.yield_list_fact place owner names ts known rest l is may begins (complete _ _ _ _ _ d) none
complete _ _ _ _ _ (grammar.ListAssigned owner names known later ts rest more target n l group jump t there d side made)
    =
    several.list_assigned owner names known later ts rest more target n l group (complete _ _ _ _ _ t)
    (jump_front places.Statement ts (front _ _ _ _ _ t refl) jump) there (complete _ _ _ _ _ d) side made
complete _ _ _ _ _ (grammar.SeveralAssigned owner names known later latest ts rest mid more target ms l group jump t
    there others many closing d side) =
    several.several_assigned owner names known later latest ts rest mid more target ms l group (complete _ _ _ _ _ t)
    (jump_front places.Statement ts (front _ _ _ _ _ t refl) jump) there (complete _ _ _ _ _ others) many closing
    (complete _ _ _ _ _ d) side
complete _ _ _ _ _ (grammar.GroupsAssigned owner names known later ts rest more ms l begins others many closing d side)
    =
    several.groups_assigned owner names known later ts rest more ms l begins (complete _ _ _ _ _ others) many closing
    (complete _ _ _ _ _ d) side
complete _ _ _ _ _ (grammar.PlaceTarget names known ts rest n group d) =
    several.place_target names known ts rest n group (complete _ _ _ _ _ d)
complete _ _ _ _ _ (grammar.StarTarget names known ts rest n is d) =
    several.star_target_fact names known ts rest n is (complete _ _ _ _ _ d)
complete _ _ _ _ _ (grammar.BareStar names ts is ends) = several.bare_star names ts is ends
complete _ _ _ _ _ (grammar.TargetGroup names known ts rest ms is nested d many closing) =
    several.target_group names known ts rest ms is nested (complete _ _ _ _ _ d) many closing
complete _ _ _ _ _ (grammar.NoTarget names ts ms ends) = several.no_target names ts ms ends
complete _ _ _ _ _ (grammar.LastTarget names known ts rest t ms d ends none follows) =
    several.last_target names known ts rest t ms (complete _ _ _ _ _ d) ends none follows
complete _ _ _ _ _ (grammar.NextTarget names known later ts rest more t ms all d there follows others) =
    several.next_target_fact names known later ts rest more t ms all (complete _ _ _ _ _ d) there follows
    (complete _ _ _ _ _ others)
complete _ _ _ _ _ (grammar.Lambda place owner style names known ts rest b is there d) =
    lambdas.lambda_fact place owner style names known ts rest b is there (complete _ _ _ _ _ d)
complete _ _ _ _ _ (grammar.Alias names ts is new old) = aliases.alias_fact names ts is new old
complete _ _ _ _ _ (grammar.GlobalAlias names ts is new old) = aliases.global_alias_fact names ts is new old
complete _ _ _ _ _ (grammar.Undef names known ts rest xs is d) =
    aliases.undef_fact names known ts rest xs is (complete _ _ _ _ _ d)
complete _ _ _ _ _ (grammar.LastMethodName names ts is alone) = aliases.last_method_name names ts is alone
complete _ _ _ _ _ (grammar.MoreMethodNames names known ts rest xs is comma d) =
    aliases.more_method_names names known ts rest xs is comma (complete _ _ _ _ _ d)
complete _ _ _ _ _ (grammar.BeginBlock names known ts rest n is opens d closes) =
    aliases.begin_block names known ts rest n is opens (complete _ _ _ _ _ d) closes
complete _ _ _ _ _ (grammar.EndBlock names known ts rest n is opens d closes) =
    aliases.end_block names known ts rest n is opens (complete _ _ _ _ _ d) closes
complete _ _ _ _ _ (grammar.If place owner names known later latest ts rest more last t n bs o is one others other ends)
    =
    compounds.if_fact place owner names ts known later latest rest more last t n bs o is (complete _ _ _ _ _ one)
    (complete _ _ _ _ _ others) (complete _ _ _ _ _ other) ends
complete _ _ _ _ _ (grammar.GuardedBy names known later ts rest body more t n test there d) =
    compounds.tested names known later ts rest body more t n (complete _ _ _ _ _ test) there (complete _ _ _ _ _ d)
complete _ _ _ _ _ (grammar.NoBranch names ts) = compounds.no_branch names ts
complete _ _ _ _ _ (grammar.MoreBranches names known later ts rest more t n bs is one others) =
    compounds.more_branches names known later ts rest more t n bs is (complete _ _ _ _ _ one)
    (complete _ _ _ _ _ others)
complete _ _ _ _ _ (grammar.NoElse names ts) = compounds.no_else names ts
complete _ _ _ _ _ (grammar.Else names known ts rest n is d) =
    compounds.else_fact names known ts rest n is (complete _ _ _ _ _ d)
complete _ _ _ _ _ (grammar.Unless place owner names known later ts rest more t n o is one other ends) =
    compounds.unless_fact place owner names ts known later rest more t n o is (complete _ _ _ _ _ one)
    (complete _ _ _ _ _ other) ends
complete _ _ _ _ _ (grammar.While place owner names known ts rest t n is one ends) =
    compounds.while_fact place owner names ts known rest t n is (complete _ _ _ _ _ one) ends
complete _ _ _ _ _ (grammar.Until place owner names known ts rest t n is one ends) =
    compounds.until_fact place owner names ts known rest t n is (complete _ _ _ _ _ one) ends
complete _ _ _ _ _ (grammar.For place owner names known later ts rest more xs e n is d there inner ends) =
    loops.for_fact place owner names ts known later rest more xs e n is (complete _ _ _ _ _ d) there
    (complete _ _ _ _ _ inner) ends
complete _ _ _ _ _ (grammar.LastLoopTarget names known ts rest x d) =
    loops.last_target names known ts rest x (complete _ _ _ _ _ d)
complete _ _ _ _ _ (grammar.MoreLoopTargets names known later ts rest more x xs d comma others) =
    loops.more_targets names known later ts rest more x xs (complete _ _ _ _ _ d) comma (complete _ _ _ _ _ others)
complete _ _ _ _ _ (grammar.Looped names known later ts rest body more t n test there d) =
    compounds.looped names known later ts rest body more t n (complete _ _ _ _ _ test) there (complete _ _ _ _ _ d)
complete _ _ _ _ _ (grammar.Case place owner names known later latest ts rest more last s o ws is head d other ends) =
    clauses.case_fact place owner names ts known later latest rest more last s o ws is (complete _ _ _ _ _ head)
    (complete _ _ _ _ _ d) (complete _ _ _ _ _ other) ends
complete _ _ _ _ _ (grammar.NoSubject names ts ends) = clauses.no_subject names ts ends
complete _ _ _ _ _ (grammar.WithSubject names known ts rest n d ends) =
    clauses.with_subject names known ts rest n (complete _ _ _ _ _ d) ends
complete _ _ _ _ _ (grammar.LastClause names known ts rest w d) =
    clauses.last_clause names known ts rest w (complete _ _ _ _ _ d)
complete _ _ _ _ _ (grammar.MoreClauses names known later ts rest more w ws one others) =
    clauses.more_clauses names known later ts rest more w ws (complete _ _ _ _ _ one) (complete _ _ _ _ _ others)
complete _ _ _ _ _ (grammar.When names known later ts rest body more vs n is values there d) =
    clauses.when_fact names known later ts rest body more vs n is (complete _ _ _ _ _ values) there
    (complete _ _ _ _ _ d)
complete _ _ _ _ _ (grammar.In names known later ts rest body more vs n is values there d) =
    clauses.in_fact names known later ts rest body more vs n is (complete _ _ _ _ _ values) there (complete _ _ _ _ _ d)
complete _ _ _ _ _ (grammar.LastWhenValue names known ts rest v d) =
    clauses.last_value names known ts rest v (complete _ _ _ _ _ d)
complete _ _ _ _ _ (grammar.MoreWhenValues names known later ts rest more v vs one comma others) =
    clauses.more_values names known later ts rest more v vs (complete _ _ _ _ _ one) comma (complete _ _ _ _ _ others)
complete _ _ _ _ _ (grammar.PlainValue names known ts rest n d) =
    clauses.plain_value names known ts rest n (complete _ _ _ _ _ d)
complete _ _ _ _ _ (grammar.SplatValue names known ts rest n is d) =
    clauses.splat_value names known ts rest n is (complete _ _ _ _ _ d)
complete _ _ _ _ _ (grammar.Begin place owner names known later ts rest more n cs o e is d handlers ends) =
    bodies.begin_fact place owner names ts known later rest more n cs o e is (complete _ _ _ _ _ d)
    (complete _ _ _ _ _ handlers) ends
complete _ _ _ _ _ (grammar.Handled names known later latest ts rest more last cs o e d other ensured) =
    bodies.handled names known later latest ts rest more last cs o e (complete _ _ _ _ _ d) (complete _ _ _ _ _ other)
    (complete _ _ _ _ _ ensured)
complete _ _ _ _ _ (grammar.NoRescue names ts) = bodies.no_rescue names ts
complete _ _ _ _ _ (grammar.MoreRescues names known later ts rest more c cs one others) =
    bodies.more_rescues names known later ts rest more c cs (complete _ _ _ _ _ one) (complete _ _ _ _ _ others)
complete _ _ _ _ _ (grammar.Rescue names known later ts rest body more cs n is d there inner) =
    bodies.rescue_fact names known later ts rest body more cs n is (complete _ _ _ _ _ d) there
    (complete _ _ _ _ _ inner)
complete _ _ _ _ _ (grammar.RescueInto names known later latest ts rest more body last cs x n is d arrow t there inner)
    =
    loops.rescue_into names known later latest ts rest more body last cs x n is (complete _ _ _ _ _ d) arrow
    (complete _ _ _ _ _ t) there (complete _ _ _ _ _ inner)
complete _ _ _ _ _ (grammar.NoClass names ts none) = bodies.no_class names ts none
complete _ _ _ _ _ (grammar.SomeClasses names known ts rest vs d) =
    bodies.some_classes names known ts rest vs (complete _ _ _ _ _ d)
complete _ _ _ _ _ (grammar.NoEnsure names ts) = bodies.no_ensure names ts
complete _ _ _ _ _ (grammar.Ensure names known ts rest n is d) =
    bodies.ensure_fact names known ts rest n is (complete _ _ _ _ _ d)
complete _ _ _ _ _ (grammar.Define place owner names known inner later ts rest more last h l b is head d free body) =
    definitions.define_fact place owner names ts known inner later rest more last h l b is (complete _ _ _ _ _ head)
    (complete _ _ _ _ _ d) free (complete _ _ _ _ _ body)
complete _ _ _ _ _ (grammar.EndlessDefine place owner names known inner later ts rest more last h l n is head d assigned
    value) =
    definitions.endless_fact place owner names ts known inner later rest more last h l n is (complete _ _ _ _ _ head)
    (complete _ _ _ _ _ d) assigned (complete _ _ _ _ _ value)
complete _ _ _ _ _ (grammar.PlainHead names ts x alone place) = definitions.plain_head names ts x alone place
complete _ _ _ _ _ (grammar.NamedHead names ts n x named place) = definitions.named_head names ts n x named place
complete _ _ _ _ _ (grammar.ValueHead names known ts rest closing last n x is d skips closes dot goes place) =
    definitions.value_head names known ts rest closing last n x is (complete _ _ _ _ _ d) skips closes dot goes place
complete _ _ _ _ _ (grammar.ClosedParameters names known ts rest l is d closing) =
    parameters.closed_parameters names known ts rest l is (complete _ _ _ _ _ d) closing
complete _ _ _ _ _ (grammar.BareParameters names known ts rest l other d) =
    parameters.bare_parameters names known ts rest l other (complete _ _ _ _ _ d)
complete _ _ _ _ _ (grammar.OpenLambda names known later ts rest more l is d variables closing) =
    parameters.open_lambda names known later ts rest more l is (complete _ _ _ _ _ d) (complete _ _ _ _ _ variables)
    closing
complete _ _ _ _ _ (grammar.BareLambda names known ts rest l other d) =
    parameters.bare_lambda names known ts rest l other (complete _ _ _ _ _ d)
complete _ _ _ _ _ (grammar.NoParameters names ts other) = parameters.no_parameters_fact names ts other
complete _ _ _ _ _ (grammar.AllParameters names known ts rest l d ends) =
    parameters.all_parameters names known ts rest l (complete _ _ _ _ _ d) ends
complete _ _ _ _ _ (grammar.OneParameter names known ts rest p d) =
    parameters.one_parameter names known ts rest p (complete _ _ _ _ _ d)
complete _ _ _ _ _ (grammar.MoreParameters names known later ts rest more l p before comma one follows) =
    parameters.more_parameters names known later ts rest more l p (complete _ _ _ _ _ before) comma
    (complete _ _ _ _ _ one) follows
complete _ _ _ _ _ (grammar.RequiredParameter names ts is alone) = parameters.required_parameter names ts is alone
complete _ _ _ _ _ (grammar.OptionalParameter names known ts rest n is assigned d) =
    parameters.optional_parameter names ts known rest n is assigned (complete _ _ _ _ _ d)
complete _ _ _ _ _ (grammar.RestParameter names ts is named) = parameters.rest_parameter names ts is named
complete _ _ _ _ _ (grammar.UnnamedRest names ts is unnamed) = parameters.unnamed_rest names ts is unnamed
complete _ _ _ _ _ (grammar.BlockParameter names ts is named) = parameters.block_parameter names ts is named
complete _ _ _ _ _ (grammar.KeywordRest names ts is named) = parameters.keyword_rest names ts is named
complete _ _ _ _ _ (grammar.UnnamedKeywordRest names ts is unnamed) =
    parameters.unnamed_keyword_rest names ts is unnamed
complete _ _ _ _ _ (grammar.KeywordParameter names ts is alone) = parameters.keyword_parameter names ts is alone
complete _ _ _ _ _ (grammar.KeywordDefault names known ts rest n is d) =
    parameters.keyword_default names ts known rest n is (complete _ _ _ _ _ d)
complete _ _ _ _ _ (grammar.NonAsciiParameter names ts is) = parameters.non_ascii_parameter names ts is
complete _ _ _ _ _ (grammar.PatternParameter names known ts rest t is d several closing) =
    patterns.pattern_parameter names known ts rest t is (complete _ _ _ _ _ d) several closing
complete _ _ _ _ _ (grammar.LastPattern names known ts rest found x d follows ends) =
    patterns.last_pattern names known ts rest found x (complete _ _ _ _ _ d) follows ends
complete _ _ _ _ _ (grammar.CommaPattern names known ts rest found x d follows comma ends) =
    patterns.comma_pattern names known ts rest found x (complete _ _ _ _ _ d) follows comma ends
complete _ _ _ _ _ (grammar.MorePatterns names known later ts rest more found t x d follows comma others) =
    patterns.more_patterns names known later ts rest more found t x (complete _ _ _ _ _ d) follows comma
    (complete _ _ _ _ _ others)
complete _ _ _ _ _ (grammar.NamedTarget names known ts rest x d) =
    patterns.named_target names known ts rest x (complete _ _ _ _ _ d)
complete _ _ _ _ _ (grammar.StarPattern names known ts rest x is d) =
    patterns.star_fact names known ts rest x is (complete _ _ _ _ _ d)
complete _ _ _ _ _ (grammar.UnnamedStar names ts is alone) = patterns.unnamed_star names ts is alone
complete _ _ _ _ _ (grammar.GroupTarget names known ts rest t is d several closing) =
    patterns.group_fact names known ts rest t is (complete _ _ _ _ _ d) several closing
complete _ _ _ _ _ (grammar.PatternLocal names ts is) = patterns.pattern_local names ts is
complete _ _ _ _ _ (grammar.NonAsciiTarget names ts is) = patterns.non_ascii_target names ts is
complete _ _ _ _ _ (grammar.BraceBlock names known later ts rest more l n is d inner closes) =
    blocks.brace_block names known later ts rest more l n is (complete _ _ _ _ _ d) (complete _ _ _ _ _ inner) closes
complete _ _ _ _ _ (grammar.DoBlock names known later ts rest last l n is d inner) =
    blocks.do_block names known later ts rest last l n is (complete _ _ _ _ _ d) (complete _ _ _ _ _ inner)
complete _ _ _ _ _ (grammar.NoBars names ts other) = blocks.no_bars names ts other
complete _ _ _ _ _ (grammar.Bars names known later ts rest more l is d variables closes) =
    blocks.bars names known later ts rest more l is (complete _ _ _ _ _ d) (complete _ _ _ _ _ variables) closes
complete _ _ _ _ _ (grammar.PlainBarred names known ts rest l d) =
    blocks.plain_barred names known ts rest l (complete _ _ _ _ _ d)
complete _ _ _ _ _ (grammar.CommaBarred names known ts rest l d comma ends) =
    blocks.comma_barred names known ts rest l (complete _ _ _ _ _ d) comma ends
complete _ _ _ _ _ (grammar.NoLocals names ts other) = blocks.no_locals names ts other
complete _ _ _ _ _ (grammar.SomeLocals names known ts rest there d) =
    blocks.some_locals names known ts rest there (complete _ _ _ _ _ d)
complete _ _ _ _ _ (grammar.LastLocal names ts is ends) = blocks.last_local names ts is ends
complete _ _ _ _ _ (grammar.MoreLocals names known ts rest is comma d) =
    blocks.more_locals names known ts rest is comma (complete _ _ _ _ _ d)
complete _ _ _ _ _ (grammar.Class place owner names known inner ts rest last s x b is path separator body) =
    definitions.class_fact place owner names ts known inner rest last s x b is (complete _ _ _ _ _ path) separator
    (complete _ _ _ _ _ body)
complete _ _ _ _ _ (grammar.Subclass place owner names known later inner ts rest more last s x n b is path less parent
    separator body) =
    definitions.subclass_fact place owner names ts known later inner rest more last s x n b is (complete _ _ _ _ _ path)
    less (complete _ _ _ _ _ parent) separator (complete _ _ _ _ _ body)
complete _ _ _ _ _ (grammar.SingletonClass place owner names known inner ts rest last n b is shift value separator body)
    =
    definitions.singleton_fact place owner names ts known inner rest last n b is shift (complete _ _ _ _ _ value)
    separator (complete _ _ _ _ _ body)
complete _ _ _ _ _ (grammar.Module place owner names known inner ts rest last s x b is path body) =
    definitions.module_fact place owner names ts known inner rest last s x b is (complete _ _ _ _ _ path)
    (complete _ _ _ _ _ body)
complete _ _ _ _ _ (grammar.Path names known ts rest n s x d there) =
    definitions.path_fact names known ts rest n s x (complete _ _ _ _ _ d) there
complete _ _ _ _ _ (grammar.PlainBody names known ts rest n d ends) =
    definitions.plain_body names known ts rest n (complete _ _ _ _ _ d) ends
complete _ _ _ _ _ (grammar.HandledBody names known later ts rest more n cs o e d handlers some ends) =
    definitions.handled_body names known later ts rest more n cs o e (complete _ _ _ _ _ d)
    (complete _ _ _ _ _ handlers) some ends
complete _ _ _ _ _ (grammar.DefinedGroup place owner names known ts rest n is opened d closing) =
    primaries.defined_group place owner names ts known rest n is opened (complete _ _ _ _ _ d) closing
complete _ _ _ _ _ (grammar.Indexed place owner names known later ts rest more n ns left there values closing) =
    postfixes.indexed place owner names known later ts rest more n ns (complete _ _ _ _ _ left) there
    (complete _ _ _ _ _ values) closing
complete _ _ _ _ _ (grammar.ScopedConstant place owner names known ts rest n left there constant closed) =
    postfixes.scoped_constant place owner names known ts rest n (complete _ _ _ _ _ left) there constant closed
complete _ _ _ _ _ (grammar.NoValue place names ts ends) = postfixes.no_value place names ts ends
complete _ _ _ _ _ (grammar.LastValue place names known ts rest n d ends) =
    postfixes.last_value place names known ts rest n (complete _ _ _ _ _ d) (front _ _ _ _ _ d refl) ends
complete _ _ _ _ _ (grammar.MoreValues place names known later ts rest more n ns d there others) =
    postfixes.more_values place names known later ts rest more n ns (complete _ _ _ _ _ d) (front _ _ _ _ _ d refl)
    there (complete _ _ _ _ _ others)
complete _ _ _ _ _ (grammar.LambdaBraces place owner names known later ts rest more l n is none d brace inner closing) =
    lambdas.lambda_braces place owner names known later ts rest more l n is none (complete _ _ _ _ _ d) brace
    (complete _ _ _ _ _ inner) closing
complete _ _ _ _ _ (grammar.LambdaDo place owner names known later ts rest more l n is none d style inner) =
    lambdas.lambda_do place owner names known later ts rest more l n is none (complete _ _ _ _ _ d) style
    (complete _ _ _ _ _ inner)
complete _ _ _ _ _ (grammar.NameCallee place owner names ts is other) = callees.name_fact place owner names ts is other
complete _ _ _ _ _ (grammar.MethodNameCallee place owner names ts is) = callees.method_name_fact place owner names ts is
complete _ _ _ _ _ (grammar.OpenedCallee place owner names ts is opened) =
    callees.opened_fact place owner names ts is opened
complete _ _ _ _ _ (grammar.SuperCallee place owner names ts is) = callees.super_fact place owner names ts is
complete _ _ _ _ _ (grammar.NonAsciiCallee place owner names ts is) = callees.non_ascii_fact place owner names ts is
complete _ _ _ _ _ (grammar.MethodCallee place owner names known ts rest n left there is) =
    callees.method_fact place owner names known ts rest n (complete _ _ _ _ _ left) is there
complete _ _ _ _ _ (grammar.ScopeCallee place owner names known ts rest n left there is other) =
    callees.scope_fact place owner names known ts rest n (complete _ _ _ _ _ left) is there other
complete _ _ _ _ _ (grammar.SafeCallee place owner names known ts rest n left there is) =
    callees.safe_fact place owner names known ts rest n (complete _ _ _ _ _ left) is there
complete _ _ _ _ _ (grammar.NonAsciiMethod place owner names known ts rest n left there is) =
    callees.non_ascii_method place owner names known ts rest n (complete _ _ _ _ _ left) there is
complete _ _ _ _ _ (grammar.CalleeAlone place owner names known ts rest c d alone free) =
    calls.alone_call place owner names known ts rest c (complete _ _ _ _ _ d) alone free
complete _ _ _ _ _ (grammar.GroupCall place owner names known later ts rest more c l d opened inner closing unblocked) =
    calls.group_call place owner names known ts rest c (complete _ _ _ _ _ d) later more l opened
    (complete _ _ _ _ _ inner) closing unblocked
complete _ _ _ _ _ (grammar.GroupBlockCall place owner style names known later last ts rest more left c l b d opened
    inner closing there none block) =
    calls.group_block_call place owner names known ts rest c (complete _ _ _ _ _ d) style later last more left l b
    opened (complete _ _ _ _ _ inner) closing there none (complete _ _ _ _ _ block)
complete _ _ _ _ _ (grammar.BlockCall place owner style names known later ts rest more c b d closed there block) =
    calls.block_call place owner names known ts rest c (complete _ _ _ _ _ d) style later more b closed there
    (complete _ _ _ _ _ block)
complete _ _ _ _ _ (grammar.DotCall place owner names known later ts rest more n l d there opened inner closing) =
    calls.dot_call place owner names known later ts rest more n l (complete _ _ _ _ _ d) there opened
    (complete _ _ _ _ _ inner) closing
complete _ _ _ _ _ (grammar.SafeCall place owner names known later ts rest more n l d there opened inner closing) =
    calls.safe_call place owner names known later ts rest more n l (complete _ _ _ _ _ d) there opened
    (complete _ _ _ _ _ inner) closing
complete _ _ _ _ _ (grammar.ListIndexed place owner names known later ts rest more n l d there inner none closing) =
    calls.list_indexed place owner names known later ts rest more n l (complete _ _ _ _ _ d) there
    (complete _ _ _ _ _ inner) none closing
complete _ _ _ _ _ (grammar.CommandList owner names known ts rest c l begun closed d unblocked) =
    commands.list_fact owner names known ts rest c l begun closed (complete _ _ _ _ _ d) unblocked
complete _ _ _ _ _ (grammar.CommandBlock owner names known later ts rest more c l b begun closed d there alone block
    ends) =
    commands.block_fact owner names known later ts rest more c l b begun closed (complete _ _ _ _ _ d) there alone
    (complete _ _ _ _ _ block) ends
complete _ _ _ _ _ (grammar.CommandPostfixes owner names known later last ts rest more left c l b n begun closed d there
    alone block others) =
    chains.postfixes_fact owner names known later last ts rest more left c l b n begun closed (complete _ _ _ _ _ d)
    there alone (complete _ _ _ _ _ block) (complete _ _ _ _ _ others)
complete _ _ _ _ _ (grammar.LastPostfix owner names known ts rest n m d ends) =
    chains.last_postfix owner names known ts rest n m (complete _ _ _ _ _ d) ends
complete _ _ _ _ _ (grammar.MorePostfixes owner names known later ts rest more n m all d others) =
    chains.more_postfixes owner names known later ts rest more n m all (complete _ _ _ _ _ d)
    (complete _ _ _ _ _ others)
complete _ _ _ _ _ (grammar.IndexPostfix owner names known ts rest n l there d none closing) =
    chains.index_postfix owner names ts n known rest l there (complete _ _ _ _ _ d) none closing
complete _ _ _ _ _ (grammar.ConstantPostfix owner names ts n there constant closed) =
    chains.constant_postfix owner names ts n there constant closed
complete _ _ _ _ _ (grammar.MethodPostfix owner names known ts rest n m there is other d) =
    chains.method_postfix owner names ts n known rest m there is other (complete _ _ _ _ _ d)
complete _ _ _ _ _ (grammar.NonAsciiPostfix owner names known ts rest n m there is d) =
    chains.non_ascii_postfix owner names ts n known rest m there is (complete _ _ _ _ _ d)
complete _ _ _ _ _ (grammar.CallPostfix owner names known ts rest n l there opened d closing) =
    chains.call_postfix owner names ts n known rest l there opened (complete _ _ _ _ _ d) closing
complete _ _ _ _ _ (grammar.CalledAlone owner names ts c closed unblocked) =
    chains.called_alone owner names ts c closed unblocked
complete _ _ _ _ _ (grammar.CalledWith owner names known ts rest c l opened d closing unblocked) =
    chains.called_with owner names ts c known rest l opened (complete _ _ _ _ _ d) closing unblocked
complete _ _ _ _ _ (grammar.CalledWithBlock owner style names known later ts rest more c l b opened d closing there none
    block) =
    chains.called_with_block owner names ts c known rest l opened (complete _ _ _ _ _ d) closing style later more b
    there none (complete _ _ _ _ _ block)
complete _ _ _ _ _ (grammar.CalledBlock owner style names known ts rest c b closed there block) =
    chains.called_block owner names ts c style known rest b closed there (complete _ _ _ _ _ block)
complete _ _ _ _ _ (grammar.CalleeCommand place owner names known later ts rest more c n may none jump d arguments) =
    commands.callee_command place owner names known later ts rest more c n may none (complete _ _ _ _ _ d)
    (jump_front place ts (front _ _ _ _ _ d refl) jump) (complete _ _ _ _ _ arguments)
complete _ _ _ _ _ (grammar.NotCommand place owner names known later ts rest more c n is may none d arguments) =
    commands.not_command place owner names known later ts rest more c n is may none (complete _ _ _ _ _ d)
    (complete _ _ _ _ _ arguments)
complete _ _ _ _ _ (grammar.CommandAssigned place owner a names known later ts rest more target n jump t there d calm
    alone) =
    commands.command_assigned place owner a names known later ts rest more target n (complete _ _ _ _ _ t) there
    (complete _ _ _ _ _ d) alone (jump_front place ts (front _ _ _ _ _ t refl) jump) calm
complete _ _ _ _ _ (grammar.CommandAssignedOr place owner a names known later last ts rest more tail target n other jump
    t there d rescue right) =
    commands.command_assigned_or place owner a names known later last ts rest more tail target n other
    (complete _ _ _ _ _ t) (jump_front place ts (front _ _ _ _ _ t refl) jump) there (complete _ _ _ _ _ d) rescue
    (complete _ _ _ _ _ right)
complete _ _ _ _ _ (grammar.NotAssigned place owner a names known later ts rest more target n is may t there d calm) =
    commands.not_assigned place owner a names known later ts rest more target n is may (complete _ _ _ _ _ t) there
    (complete _ _ _ _ _ d) calm
complete _ _ _ _ _ (grammar.NotAssignedOr place owner a names known later last ts rest more tail target n other is may t
    there d rescue right) =
    commands.not_assigned_or place owner a names known later ts rest more target n is may (complete _ _ _ _ _ t) there
    (complete _ _ _ _ _ d) last tail other rescue (complete _ _ _ _ _ right)
complete _ _ _ _ _ (grammar.Commanded place owner names known ts rest n group d) =
    commands.commanded place owner names known ts rest n group (complete _ _ _ _ _ d)
complete _ _ _ _ _ (grammar.CommandPart owner names known ts rest n d alone) =
    commands.command_part_fact owner names known ts rest n (complete _ _ _ _ _ d) alone
