-- Primaries with their postfixes, and operators between operands, name known locals.
use Rattle.std.proofs.Common.{◌≡◌, ◌∙◌, ℕ, zero, suc, ◌+◌, Bool, true, false, not, ◌&&◌, if◌then◌else◌, [], length, codes, Option, Some, None, refl, sym}
use Rattle.rb_syntax.specs.declared.keyword.Keyword.{Keyword}
use Rattle.rb_syntax.specs.declared.keyword.Keyword.TheVariants as keywords
use Rattle.rb_syntax.specs.declared.outside.Outside.{Outside}
use Rattle.rb_syntax.specs.declared.outside.Outside.TheVariants as outsides
use Rattle.rb_syntax.specs.declared.punctuator.Punctuator.{Punctuator}
use Rattle.rb_syntax.specs.declared.punctuator.Punctuator.TheVariants as marks
use Rattle.parser_tree.specs.Node.{Name, Node}
use Rattle.parser_tokens.specs.Tokens.{first, behind, bytes_at, place_at}
use Rattle.parser_tokens.specs.Expect.{expect, expect_closing}
use Rattle.parser_tokens.specs.Operators.{prefix_at, infix_at, right_level, clashes}
use Rattle.parser_tokens.specs.Starts.{opens_arguments, is_open_parenthesis, makes_call, modifier_at}
use Rattle.parser_tokens.specs.declared.expect.Wanted.TheVariants as wanted
use Rattle.parser_tokens.specs.declared.operators.Assignment.{Assignment}
use Rattle.parser_tokens.specs.declared.operators.Infix.{Infix}
use Rattle.parser_tokens.specs.declared.operators.Prefix.{Prefix}
use Rattle.parser_tokens.specs.declared.starts.Postfix.{Postfix}
use Rattle.parser_tokens.specs.declared.starts.Postfix.TheVariants as postfixes
use Rattle.parser_tokens.specs.declared.word.Word.{Word}
use Rattle.parser_tokens.specs.declared.word.Word.TheVariants as words
use Rattle.parser_ahead.specs.Names.{is_known}
use Rattle.parser_ahead.specs.Primary.{mark_primary, keyword_primary, primary_of, primary_at, block_at, is_name_word}
use Rattle.parser_ahead.specs.declared.primary.DoOwner.{DoOwner}
use Rattle.parser_ahead.specs.declared.primary.DoOwner.TheVariants as owners
use Rattle.parser_ahead.specs.declared.primary.BlockStyle.{BlockStyle}
use Rattle.parser_ahead.specs.declared.primary.Place.TheVariants as places
use Rattle.parser_ahead.specs.declared.primary.Primary.{Primary}
use Rattle.parser_ahead.specs.declared.primary.Primary.TheVariants as primaries
use Rattle.parser_nodes.specs.Calls.{CalleeNode, name_callee, super_callee, outside_callee, OperandNode, Given, operand_node, target_node, target_names}
use Rattle.parser_forms.specs.Reading.{Names, Tokens, Read, Inside}
use Rattle.parser_forms.specs.Literals.{pieces, string, strings, is_literal_end}
use Rattle.parser_forms.specs.Brackets.{call_arguments, elements}
use Rattle.parser_operands.specs.Operands.{operand_level, is_identifier, is_outside_name, continues, has_block, unblocked, scoped, is_scoped_constant, postfix_callee, outside_name, with_block_at, suffix, text, quoted_symbol, group, array, defined, compound, wrapped, primary_by, primary, indexed, called, plain_named, named, dotted, postfixed, chain_turn, chain_within, chain_from, chain, operand_with, operand}
use Rattle.parser_operands.specs.Operators.{is_rescue, assignment_to, rescued, assigned_value, assigned, operators_turn, operators_from, operators, operation_by, operation, choice, question_at, value_from}
use Rattle.name_laws.proofs.Growing.{known_among, same, Knows, KnowsEach, still}
use Rattle.name_laws.proofs.Keeping.{Keeps, later, step, skip, either, KnowsBlock, KnowsItems, KeepsNames}
use Rattle.name_laws.proofs.Literals.{leaf_keeps, pieces_keep, string_keeps, strings_keep}
use Rattle.name_laws.proofs.Bracketed.{KnowsArguments, arguments_keep, elements_keep, hash_keeps, yielded_keeps, sectioned_keeps}
use Rattle.name_laws.proofs.Defining.{lambda_keeps, define_keeps, class_keeps, module_keeps}
use Rattle.name_laws.proofs.Calling.{KnowsCallee, KnowsOperand, KnowsGiven, callee_still, given_still, call_known, operand_known, target_grows, target_known, prefix_known, infix_known, assignment_known, choice_known}

-- only a name that is known is a local
not_mark : (p : Punctuator) → mark_primary p ≡ primaries.Local → ⊥
not_mark marks.OpenParenthesis h = cc
not_mark marks.OpenBracket h = cc
not_mark marks.OpenBrace h = cc
not_mark marks.LambdaArrow h = cc
not_mark p h = cc

not_chosen : (b : Bool) → (if b then primaries.Defined else primaries.Leaf) ≡ primaries.Local → ⊥
not_chosen true h = cc
not_chosen false h = cc

not_key : (k : Keyword) (ts : Tokens) → keyword_primary k ts ≡ primaries.Local → ⊥
not_key keywords.Super ts h = cc
not_key keywords.Yield ts h = cc
not_key keywords.Def ts h = cc
not_key keywords.Class ts h = cc
not_key keywords.Module ts h = cc
not_key keywords.Defined ts h = not_chosen (is_open_parenthesis (first ts)) h
not_key keywords.If ts h = cc
not_key keywords.Unless ts h = cc
not_key keywords.While ts h = cc
not_key keywords.Until ts h = cc
not_key keywords.For ts h = cc
not_key keywords.Case ts h = cc
not_key keywords.Begin ts h = cc
not_key k ts h = cc

by_test : (b c : Bool) → (if b then
    (if c then primaries.Name else primaries.Local) else primaries.Name) ≡ primaries.Local
    → b ≡ true
by_test true c h = refl
by_test false c h = absurd (cc)

not_constant : (b : Bool) → (if b then primaries.Name else primaries.Leaf) ≡ primaries.Local → ⊥
not_constant true h = cc
not_constant false h = cc

not_other : (o : Outside) (names : Names) (ts : Tokens) → primary_of (words.Other o) names ts ≡ primaries.Local → ⊥
not_other outsides.NonAsciiName names ts h = cc
not_other o names ts h = cc

by_word : (w : Word) (names : Names) (ts : Tokens) → primary_of w names ts ≡ primaries.Local
    → is_known (bytes_at ts) names ≡ true
by_word words.Identifier names ts h = by_test (is_known (bytes_at ts) names) (makes_call (behind ts)) h
by_word words.MethodName names ts h = absurd (cc)
by_word words.Constant names ts h = absurd (not_constant (makes_call (behind ts)) h)
by_word (words.Other o) names ts h = absurd (not_other o names ts h)
by_word words.StringBegin names ts h = absurd (cc)
by_word words.Character names ts h = absurd (cc)
by_word words.SymbolBegin names ts h = absurd (cc)
by_word (words.Mark p) names ts h = absurd (not_mark p h)
by_word (words.Key k) names ts h = absurd (not_key k (behind ts) h)
by_word w names ts h = absurd (cc)

local_known : (names : Names) (ts : Tokens) → primary_at names ts ≡ primaries.Local
    → is_known (bytes_at ts) names ≡ true
unfolding primary_at
local_known names ts h = by_word (first ts) names ts h

postfix_known : (names : Names) (r : Node) (x : Name) (p : Postfix) (at : ℕ) → Knows names r
    → KnowsCallee names (postfix_callee r x p at)
postfix_known names r x postfixes.Safe at h = tt
postfix_known names r x postfixes.Scope at h = h
postfix_known names r x postfixes.Dot at h = h
postfix_known names r x postfixes.Index at h = h

module _ (i : Inside) (k : KeepsNames i) where
  unblocked_known : (names : Names) (c : CalleeNode) (given : Given) → KnowsCallee names c → KnowsGiven names given
      → KnowsOperand names (unblocked c given)
  unblocked_known names c None h g = h
  unblocked_known names c (Some a) h g = call_known names c (Some a) None h g tt

  block_at_keeps : (style : Option BlockStyle) (c : CalleeNode) (given : Given) (names : Names) (ts : Tokens)
      → KnowsCallee names c → KnowsGiven names given → Keeps KnowsOperand names (with_block_at i style c given names ts)
  block_at_keeps None c given names ts h g = (same names, unblocked_known names c given h g)
  block_at_keeps (Some style) c given names ts h g =
      either KnowsOperand names (has_block given) _ _ tt
      (step KnowsBlock KnowsOperand names (i.block names ts style) _ (k.block names ts style) (λ r f b.
      (same r.1, call_known r.1 c given (Some r.0) (callee_still names r.1 c f h) (given_still names r.1 given f g) b)))

  suffix_keeps : (c : CalleeNode) (names : Names) (ts : Tokens) (owner : DoOwner) → KnowsCallee names c
      → Keeps KnowsOperand names (suffix i c names ts owner)
  unfolding suffix
  suffix_keeps c names ts owner h =
      either KnowsOperand names (opens_arguments ts) _ _
      (step KnowsArguments KnowsOperand names (call_arguments i names (behind ts)) _ (arguments_keep i k names
      (behind ts))
      (λ r f g. block_at_keeps (block_at owner r.2) c (Some r.0) r.1 r.2 (callee_still names r.1 c f h) g))
      (block_at_keeps (block_at owner ts) c None names ts h tt)

  text_keeps : (names : Names) (ts : Tokens) → Keeps Knows names (text i names ts)
  text_keeps names ts =
      step KnowsEach Knows names (string i [] names ts) _ (string_keeps i k [] names ts tt) (λ found g h.
      step KnowsEach Knows found.1 (strings i found.0 found.1 found.2) _
      (strings_keep i k found.0 found.1 found.2 h) (λ r f n. (same r.1, n)))

  symbol_keeps : (names : Names) (ts : Tokens) → Keeps Knows names (quoted_symbol i names ts)
  symbol_keeps names ts =
      step KnowsEach Knows names (pieces i [] names ts) _ (pieces_keep i k [] names ts tt)
      (λ r g h. either Knows r.1 (is_literal_end (first r.2)) _ _ (same r.1, h) tt)

  group_keeps : (names : Names) (ts : Tokens) → Keeps Knows names (group i names ts)
  group_keeps names ts =
      step Knows Knows names (i.statements names ts) _ (k.statements names ts) (λ r g h.
      skip Knows r.1 (expect wanted.CloseParenthesis r.2) _ (λ rest. (same r.1, h)))

  array_keeps : (names : Names) (ts : Tokens) → Keeps Knows names (array i names ts)
  array_keeps names ts =
      step KnowsItems Knows names (elements i names ts wanted.CloseBracket) _
      (elements_keep i k names ts wanted.CloseBracket) (λ r g h. (same r.1, h))

  defined_keeps : (names : Names) (ts : Tokens) → Keeps Knows names (defined i names ts)
  defined_keeps names ts =
      step Knows Knows names (i.expression names ts places.Command owners.Call) _
      (k.expression names ts places.Command owners.Call) (λ r g h.
      skip Knows r.1 (expect_closing wanted.CloseParenthesis r.2) _ (λ rest. (same r.1, h)))

  compound_keeps : (p : Primary) (names : Names) (ts : Tokens) (owner : DoOwner)
      → Keeps Knows names (compound i p names ts owner)
  unfolding compound
  compound_keeps primaries.Text names ts owner = text_keeps names ts
  compound_keeps primaries.QuotedSymbol names ts owner = symbol_keeps names (behind ts)
  compound_keeps primaries.Group names ts owner = group_keeps names (behind ts)
  compound_keeps primaries.Bracket names ts owner = array_keeps names (behind ts)
  compound_keeps primaries.Brace names ts owner = hash_keeps i k names (behind ts)
  compound_keeps primaries.Lambda names ts owner = lambda_keeps i k (place_at ts) names (behind ts) owner
  compound_keeps primaries.Defined names ts owner = defined_keeps names (behind (behind ts))
  compound_keeps (primaries.Compound form) names ts owner = sectioned_keeps i k names form (behind ts)
  compound_keeps primaries.Define names ts owner = define_keeps i k (place_at ts) names (behind ts)
  compound_keeps primaries.Class names ts owner = class_keeps i k names (behind ts)
  compound_keeps primaries.Module names ts owner = module_keeps i k names (behind ts)
  compound_keeps primaries.Yield names ts owner = yielded_keeps i k (place_at ts) names (behind ts)
  compound_keeps primaries.Leaf names ts owner = leaf_keeps names ts
  compound_keeps primaries.Local names ts owner = leaf_keeps names ts
  compound_keeps primaries.Name names ts owner = leaf_keeps names ts
  compound_keeps primaries.OutsideName names ts owner = leaf_keeps names ts
  compound_keeps primaries.Super names ts owner = leaf_keeps names ts

  wrapped_keeps : (names : Names) (read : Read Node) → Keeps Knows names read
      → Keeps KnowsOperand names (wrapped i read)
  wrapped_keeps names read h = step Knows KnowsOperand names read _ h (λ r g n. (same r.1, n))

  by_keeps : (p : Primary) (names : Names) (ts : Tokens) (owner : DoOwner)
      → (p ≡ primaries.Local → is_known (bytes_at ts) names ≡ true)
      → Keeps KnowsOperand names (primary_by i p names ts owner)
  unfolding primary_by
  by_keeps primaries.Local names ts owner is = (same names, sym (known_among (bytes_at ts) names) ∙ is refl)
  by_keeps primaries.Name names ts owner is =
      suffix_keeps (name_callee (bytes_at ts) (is_identifier (first ts))) names (behind ts) owner tt
  by_keeps primaries.OutsideName names ts owner is =
      suffix_keeps (outside_callee outsides.NonAsciiName (place_at ts) []) names (behind ts) owner tt
  by_keeps primaries.Super names ts owner is = suffix_keeps (super_callee (place_at ts)) names (behind ts) owner tt
  by_keeps p names ts owner is = wrapped_keeps names (compound i p names ts owner) (compound_keeps p names ts owner)

  primary_keeps : (names : Names) (ts : Tokens) (owner : DoOwner) → Keeps KnowsOperand names (primary i names ts owner)
  primary_keeps names ts owner = by_keeps (primary_at names ts) names ts owner (local_known names ts)

  indexed_keeps : (r : Node) (names : Names) (ts : Tokens) → Knows names r
      → Keeps KnowsOperand names (indexed i r names ts)
  indexed_keeps e names ts h =
      step KnowsItems KnowsOperand names (elements i names (behind ts) wanted.CloseBracket) _
      (elements_keep i k names (behind ts) wanted.CloseBracket) (λ r g is. (same r.1, (still names r.1 e g h, is)))

  called_keeps : (r : Node) (p : Postfix) (names : Names) (ts : Tokens) → Knows names r
      → Keeps KnowsOperand names (called i r p names ts)
  called_keeps e p names ts h =
      step KnowsArguments KnowsOperand names (call_arguments i names (behind (behind ts))) _
      (arguments_keep i k names (behind (behind ts))) (λ r g a. (
        same r.1,
        call_known r.1 (postfix_callee e (codes "call") p (place_at ts)) (Some r.0) None
            (postfix_known r.1 e (codes "call") p (place_at ts) (still names r.1 e g h)) a tt,
      ))

  plain_keeps : (r : Node) (p : Postfix) (names : Names) (ts : Tokens) (owner : DoOwner) → Knows names r
      → Keeps KnowsOperand names (plain_named i r p names ts owner)
  plain_keeps e p names ts owner h =
      let x = bytes_at (behind ts) in
      either KnowsOperand names (is_scoped_constant p (behind ts)) _ _ (same names, h)
      (suffix_keeps (postfix_callee e x p (place_at ts)) names (behind (behind ts)) owner
      (postfix_known names e x p (place_at ts) h))

  named_keeps : (r : Node) (p : Postfix) (names : Names) (ts : Tokens) (owner : DoOwner) → Knows names r
      → Keeps KnowsOperand names (named i r p names ts owner)
  named_keeps e p names ts owner h =
      either KnowsOperand names (is_outside_name (first (behind ts))) _ _
      (suffix_keeps (outside_name (place_at (behind ts)) e) names (behind (behind ts)) owner tt)
      (either KnowsOperand names (is_name_word (first (behind ts))) _ _ (plain_keeps e p names ts owner h) tt)

  dotted_keeps : (r : Node) (p : Postfix) (names : Names) (ts : Tokens) (owner : DoOwner) → Knows names r
      → Keeps KnowsOperand names (dotted i r p names ts owner)
  dotted_keeps e p names ts owner h =
      either KnowsOperand names (not (scoped p) && is_open_parenthesis (first (behind ts))) _ _
      (called_keeps e p names ts h) (named_keeps e p names ts owner h)

  postfixed_keeps : (r : Node) (p : Postfix) (names : Names) (ts : Tokens) (owner : DoOwner) → Knows names r
      → Keeps KnowsOperand names (postfixed i r p names ts owner)
  unfolding postfixed
  postfixed_keeps e postfixes.Index names ts owner h = indexed_keeps e names ts h
  postfixed_keeps e postfixes.Dot names ts owner h = dotted_keeps e postfixes.Dot names ts owner h
  postfixed_keeps e postfixes.Safe names ts owner h = dotted_keeps e postfixes.Safe names ts owner h
  postfixed_keeps e postfixes.Scope names ts owner h = dotted_keeps e postfixes.Scope names ts owner h

  turn_keeps : (p : Option Postfix) (go : OperandNode → Names → Tokens → Read OperandNode) (o : OperandNode)
      (names : Names) (ts : Tokens) (owner : DoOwner) → KnowsOperand names o
      → ((q : OperandNode) (known : Names) (rest : Tokens) → KnowsOperand known q → Keeps KnowsOperand known
      (go q known rest))
      → Keeps KnowsOperand names (chain_turn i p go o names ts owner)
  turn_keeps None go o names ts owner h f = (same names, h)
  turn_keeps (Some p) go o names ts owner h f =
      step KnowsOperand KnowsOperand names (postfixed i (operand_node o) p names ts owner) _
      (postfixed_keeps (operand_node o) p names ts owner (operand_known names o h)) (λ r g n. f r.0 r.1 r.2 n)

  within_keeps : (n : ℕ) (commands : Bool) (owner : DoOwner) (o : OperandNode) (names : Names) (ts : Tokens)
      → KnowsOperand names o → Keeps KnowsOperand names (chain_within i n commands owner o names ts)
  unfolding chain_within
  within_keeps zero commands owner o names ts h = tt
  within_keeps (suc n) commands owner o names ts h =
      turn_keeps (continues o ts commands) (chain_within i n commands owner) o names ts owner h
      (λ q known rest g. within_keeps n commands owner q known rest g)

  pub chain_from_keeps : (o : OperandNode) (names : Names) (ts : Tokens) (commands : Bool) (owner : DoOwner)
      → KnowsOperand names o → Keeps KnowsOperand names (chain_from i o names ts commands owner)
  chain_from_keeps o names ts commands owner h = within_keeps (length ts + 1) commands owner o names ts h

  pub chain_keeps : (names : Names) (ts : Tokens) (commands : Bool) (owner : DoOwner)
      → Keeps KnowsOperand names (chain i names ts commands owner)
  unfolding chain
  chain_keeps names ts commands owner =
      step KnowsOperand KnowsOperand names (primary i names ts owner) _ (primary_keeps names ts owner)
      (λ r g h. chain_from_keeps r.0 r.1 r.2 commands owner h)

  with_keeps : (p : Option Prefix) (names : Names) (ts : Tokens) (commands : Bool) (owner : DoOwner)
      → Keeps KnowsOperand names (operand_with i p names ts commands owner)
  with_keeps (Some p) names ts commands owner =
      step Knows KnowsOperand names (i.operation names (behind ts) (operand_level p) owner) _
      (k.operation names (behind ts) (operand_level p) owner) (λ r g h. (same r.1, prefix_known r.1 p r.0 h))
  with_keeps None names ts commands owner = chain_keeps names ts commands owner

  pub operand_keeps : (names : Names) (ts : Tokens) (commands : Bool) (owner : DoOwner)
      → Keeps KnowsOperand names (operand i names ts commands owner)
  unfolding operand
  operand_keeps names ts commands owner = with_keeps (prefix_at ts) names ts commands owner

  pub rescued_keeps : (v : Node) (names : Names) (ts : Tokens) (owner : DoOwner) → Knows names v
      → Keeps Knows names (rescued i v names ts owner)
  rescued_keeps v names ts owner h =
      step Knows Knows names (i.argument names (behind ts) owner) _ (k.argument names (behind ts) owner)
      (λ r g n. (same r.1, (still names r.1 v g h, n)))

  value_keeps : (names : Names) (ts : Tokens) (owner : DoOwner) → Keeps Knows names (assigned_value i names ts owner)
  value_keeps names ts owner =
      step Knows Knows names (i.argument names ts owner) _ (k.argument names ts owner) (λ v g h.
      either Knows v.1 (is_rescue (modifier_at (first v.2))) _ _ (rescued_keeps v.0 v.1 v.2 owner h) (same v.1, h))

  assigned_keeps : (t : Node) (names : Names) (a : Assignment) (ts : Tokens) (owner : DoOwner) → Knows names t
      → Keeps Knows names (assigned i t names a ts owner)
  unfolding assigned
  assigned_keeps t names a ts owner h =
      step Knows Knows names (assigned_value i names ts owner) _ (value_keeps names ts owner)
      (λ r g n. (same r.1, assignment_known r.1 a t r.0 (still names r.1 t g h) n))

  operators_turn_keeps : (o : Option Infix) (go : Node → Names → Tokens → Read Node) (left : Node) (names : Names)
      (ts : Tokens) (owner : DoOwner) → Knows names left
      → ((n : Node) (known : Names) (rest : Tokens) → Knows known n → Keeps Knows known (go n known rest))
      → Keeps Knows names (operators_turn i o go left names ts owner)
  operators_turn_keeps None go left names ts owner h f = (same names, h)
  operators_turn_keeps (Some o) go left names ts owner h f =
      step Knows Knows names (i.operation names (behind ts) (right_level o) owner) _
      (k.operation names (behind ts) (right_level o) owner) (λ r g n.
      either Knows r.1 (clashes o (first r.2)) _ _ tt (f (_) r.1 r.2
      (infix_known r.1 o (place_at ts) left r.0 (still names r.1 left g h) n)))

  operators_from_keep : (n loosest : ℕ) (owner : DoOwner) (left : Node) (names : Names) (ts : Tokens)
      → Knows names left → Keeps Knows names (operators_from i n loosest owner left names ts)
  unfolding operators_from
  operators_from_keep zero loosest owner left names ts h = tt
  operators_from_keep (suc n) loosest owner left names ts h =
      operators_turn_keeps (infix_at loosest (first ts)) (operators_from i n loosest owner) left names ts owner h
      (λ m known rest g. operators_from_keep n loosest owner m known rest g)

  operators_keep : (left : Node) (names : Names) (ts : Tokens) (loosest : ℕ) (owner : DoOwner) → Knows names left
      → Keeps Knows names (operators i left names ts loosest owner)
  operators_keep left names ts loosest owner h =
      operators_from_keep (length ts + 1) loosest owner left names ts h

  operation_by_keeps : (a : Option Assignment) (o : OperandNode) (names : Names) (ts : Tokens) (loosest : ℕ)
      (owner : DoOwner) → KnowsOperand names o → Keeps Knows names (operation_by i a o names ts loosest owner)
  operation_by_keeps None o names ts loosest owner h =
      operators_keep (operand_node o) names ts loosest owner (operand_known names o h)
  operation_by_keeps (Some a) o names ts loosest owner h =
      later Knows names (target_names o names) _ (target_grows names o)
      (assigned_keeps (target_node o) (target_names o names) a (behind ts) owner (target_known names o h))

  pub operation_keeps : (names : Names) (ts : Tokens) (loosest : ℕ) (owner : DoOwner)
      → Keeps Knows names (operation i names ts loosest owner)
  unfolding operation
  operation_keeps names ts loosest owner =
      step KnowsOperand Knows names (operand i names ts false owner) _ (operand_keeps names ts false owner)
      (λ r g h. operation_by_keeps (assignment_to r.0 r.2) r.0 r.1 r.2 loosest owner h)

  choice_keeps : (t : Node) (names : Names) (ts : Tokens) (owner : DoOwner) → Knows names t
      → Keeps Knows names (choice i t names ts owner)
  choice_keeps t names ts owner h =
      step Knows Knows names (i.argument names ts owner) _ (k.argument names ts owner) (λ a g n.
      skip Knows a.1 (expect wanted.Colon a.2) _ (λ rest.
      step Knows Knows a.1 (i.argument a.1 rest owner) _ (k.argument a.1 rest owner) (λ b f m. (
        same b.1,
        choice_known b.1 t a.0 b.0 (still a.1 b.1 t f (still names a.1 t g h)) (still a.1 b.1 a.0 f n) m,
      ))))

  question_keeps : (w : Word) (t : Node) (names : Names) (ts : Tokens) (owner : DoOwner) → Knows names t
      → Keeps Knows names (question_at i w t names ts owner)
  question_keeps (words.Mark marks.Question) t names ts owner h = choice_keeps t names (behind ts) owner h
  question_keeps w t names ts owner h = (same names, h)

  pub value_from_keeps : (left : Node) (names : Names) (ts : Tokens) (owner : DoOwner) → Knows names left
      → Keeps Knows names (value_from i left names ts owner)
  unfolding value_from
  value_from_keeps left names ts owner h =
      step Knows Knows names (operators i left names ts 13 owner) _ (operators_keep left names ts 13 owner h)
      (λ r g n. question_keeps (first r.2) r.0 r.1 r.2 owner n)
