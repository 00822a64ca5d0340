-- A primary that is read as an expression is derived.
use Rattle.std.proofs.Common.{◌≡◌, ℕ, Bool, true, false, [], length, Option, Some, None, is_some, Ok, if◌then◌else◌, refl, sym, ap, subst}
use Rattle.rb_syntax.specs.declared.keyword.Keyword.{Keyword}
use Rattle.rb_syntax.specs.declared.keyword.Keyword.TheVariants as keywords
use Rattle.rb_syntax.specs.declared.outside.Outside.{Outside}
use Rattle.rb_syntax.specs.declared.outside.Outside.TheVariants as outsides
use Rattle.rb_syntax.specs.declared.punctuator.Punctuator.{Punctuator}
use Rattle.rb_syntax.specs.declared.punctuator.Punctuator.TheVariants as marks
use Rattle.parser_tree.specs.Node as node
use Rattle.parser_tree.specs.Node.{Node}
use Rattle.parser_tokens.specs.Tokens.{first, behind, bytes_at, place_at}
use Rattle.parser_tokens.specs.Expect.{skip_newlines, expect, expect_closing, is_wanted}
use Rattle.parser_tokens.specs.Starts.{makes_call, opens_arguments, is_open_parenthesis}
use Rattle.parser_tokens.specs.declared.expect.Wanted.TheVariants as wanted
use Rattle.parser_tokens.specs.declared.word.Word.{Word}
use Rattle.parser_tokens.specs.declared.word.Word.TheVariants as words
use Rattle.parser_ahead.specs.Names.{is_known}
use Rattle.parser_ahead.specs.Primary.{primary_at, primary_of, block_at, lambda_block_at}
use Rattle.parser_ahead.specs.declared.primary.DoOwner.TheVariants as owners
use Rattle.parser_ahead.specs.declared.primary.Place.TheVariants as places
use Rattle.parser_ahead.specs.declared.primary.DoOwner.{DoOwner}
use Rattle.parser_ahead.specs.declared.primary.Place.{Place}
use Rattle.parser_ahead.specs.declared.primary.BlockStyle.{BlockStyle}
use Rattle.parser_ahead.specs.declared.primary.Primary.TheVariants as primaries
use Rattle.parser_nodes.specs.Leaf.{leaf}
use Rattle.parser_nodes.specs.Calls.{CalleeNode, name_callee, super_callee, outside_callee, OperandNode, whole, Given, operand_node}
use Rattle.parser_forms.specs.Brackets.{call_arguments, elements, yielded, sectioned}
use Rattle.parser_forms.specs.Definitions.{lambda, lambda_by, lambda_body, define, method_rest, method_head, body, class_form, singleton_class, separated_body, named_class, path, parent, class_body, is_shift, module_form}
use Rattle.parser_forms.specs.Parameters.{lambda_parameters, open_parameters, is_assign}
use Rattle.parser_form_nodes.specs.Definitions.{HeadNode}
use Rattle.parser_form_nodes.specs.Sections.{is_whole, compound_node}
use Rattle.parser_ahead.specs.declared.sections.Compound.{Compound}
use Rattle.parser_ahead.specs.declared.sections.Compound.TheVariants as compounds
use Rattle.parser_form_nodes.specs.Parameters.{ParameterNodes}
use Rattle.parser_operands.specs.Operands.{unblocked, with_block_at, suffix, compound, primary_by, primary, wrapped, defined, group, leaf_primary, is_identifier}
use Rattle.parser_forms.specs.Reading.{Names, Tokens, Read, Inside}
use Rattle.parser_laws.specs.Derives.{Derives}
use Rattle.parser_laws.specs.Expressions.{is_expression}
use Rattle.parser_laws.proofs.Results.{bind_ok, then_ok, read_same, ok_is, carry, clash, Never, never_bind, never_passed, never_ok, never_error, never_if}
use Rattle.parser_laws.proofs.ExpressionParts.{call_is_none, method_is_none}
use Rattle.parser_laws.proofs.Sound.{IsSound}
use Rattle.parser_laws.proofs.SoundLeaf.{itself, leaf_sound}
use Rattle.parser_laws.proofs.SoundLiterals.{text_sound, symbol_sound}
use Rattle.parser_laws.proofs.SoundBrackets.{array_sound, hash_sound}
use Rattle.parser_laws.specs.Rules.{Primary as PrimaryRule, begins_string}
use Rattle.parser_laws.specs.Derives.{Local, Group, DefinedGroup}

unblocked_is_none : (c : CalleeNode) (given : Given) → is_expression (operand_node (unblocked c given)) ≡ false
unblocked_is_none c None = call_is_none c None None
unblocked_is_none c (Some g) = call_is_none c (Some g) None

closes_key : (k : Keyword) → is_wanted wanted.CloseParenthesis (words.Key k) ≡ true → ⊥
closes_key keywords.End h = cc
closes_key k h = cc

pub closes : (w : Word) → is_wanted wanted.CloseParenthesis w ≡ true → w ≡ words.Mark marks.CloseParenthesis
closes (words.Mark marks.CloseParenthesis) h = refl
closes (words.Key k) h = absurd (closes_key k h)
closes w h = absurd (cc)

pub an_open : (w : Word) → is_open_parenthesis w ≡ true → w ≡ words.Mark marks.OpenParenthesis
an_open (words.Mark marks.OpenParenthesis) h = refl
an_open w h = absurd (cc)

module _ (i : Inside) where
  with_block_never : (style : Option BlockStyle) (c : CalleeNode) (given : Given) (names : Names) (ts : Tokens)
      → Never operand_node (with_block_at i style c given names ts)
  with_block_never None c given names ts = never_ok operand_node _ names ts (unblocked_is_none c given)
  with_block_never (Some style) c given names ts =
      never_if operand_node _ _ _ (never_error operand_node (length ts))
      (never_bind operand_node (i.block names ts style) _
      (λ r. never_ok operand_node _ _ _ (call_is_none c given (Some r.0))))

  pub suffix_never : (c : CalleeNode) (names : Names) (ts : Tokens) (owner : DoOwner)
      → Never operand_node (suffix i c names ts owner)
  unfolding suffix
  suffix_never c names ts owner =
      never_if operand_node (opens_arguments ts) _ _
      (never_bind operand_node (call_arguments i names (behind ts)) _
      (λ r. with_block_never (block_at owner r.2) c (Some r.0) r.1 r.2))
      (with_block_never (block_at owner ts) c None names ts)

  yielded_never : (at : ℕ) (names : Names) (ts : Tokens) → Never itself (yielded i at names ts)
  yielded_never at names ts =
      never_if itself (opens_arguments ts) _ _
      (never_bind itself (elements i names (behind ts) wanted.CloseParenthesis) _ (λ r. never_ok itself _ r.1 r.2 refl))
      (never_ok itself _ names ts refl)

  lambda_by_never : (style : Option BlockStyle) (bare : Bool) (at mark : ℕ) (l : ParameterNodes) (names : Names)
      (ts : Tokens) → Never itself (lambda_by i style bare at mark l names ts)
  lambda_by_never None bare at mark l names ts = never_error itself (length ts)
  lambda_by_never (Some style) bare at mark l names ts =
      never_bind itself (lambda_body i bare style at mark l names ts) _ (λ r. never_ok itself _ r.1 r.2 refl)

  lambda_never : (at : ℕ) (names : Names) (ts : Tokens) (owner : DoOwner) → Never itself (lambda i at names ts owner)
  unfolding lambda
  lambda_never at names ts owner =
      never_bind itself (lambda_parameters i names ts) _
      (λ r. lambda_by_never (lambda_block_at owner r.2) (is_some (lambda_block_at owner ts)) at (length names) r.0 r.1
      r.2)

  rest_never : (at : ℕ) (h : HeadNode) (l : ParameterNodes) (names : Names) (ts : Tokens)
      → Never itself (method_rest i at h l names ts)
  rest_never at h l names ts =
      never_if itself (is_assign (first ts)) _ _
      (never_bind itself (i.argument names (behind ts) owners.Call) _ (λ r. never_ok itself _ r.1 r.2 refl))
      (never_bind itself (body i names ts) _ (λ r. never_ok itself _ _ _ (method_is_none h _)))

  define_never : (at : ℕ) (names : Names) (ts : Tokens) → Never itself (define i at names ts)
  unfolding define
  define_never at names ts =
      never_bind itself (method_head i names ts) _ (λ h.
      never_bind itself (open_parameters i [] h.2) _
      (λ l. never_passed itself (method_rest i at h.0 l.0 l.1 l.2) (λ r. h.1) (rest_never at h.0 l.0 l.1 l.2)))

  singleton_never : (names : Names) (ts : Tokens) → Never itself (singleton_class i names ts)
  singleton_never names ts =
      never_bind itself (i.expression names (behind ts) places.Command owners.Call) _ (λ r.
      never_bind itself (separated_body i r.2) _ (λ b. never_ok itself _ r.1 b.1 refl))

  named_never : (names : Names) (ts : Tokens) → Never itself (named_class i names ts)
  named_never names ts =
      never_bind itself (path i names ts) _ (λ p. never_bind itself (parent i p.1 p.2) _ (λ s.
      never_bind itself (separated_body i s.2) _ (λ b. never_ok itself _ s.1 b.1 refl)))

  class_never : (names : Names) (ts : Tokens) → Never itself (class_form i names ts)
  unfolding class_form
  class_never names ts = never_if itself (is_shift (first ts)) _ _ (singleton_never names ts) (named_never names ts)

  module_never : (names : Names) (ts : Tokens) → Never itself (module_form i names ts)
  unfolding module_form
  module_never names ts = never_bind itself (path i names ts) _
      (λ p. never_bind itself (class_body i p.2) _ (λ b. never_ok itself _ p.1 b.1 refl))

  module _ (sound : IsSound i) where
    sectioned_never : (names : Names) (form : Compound) (ts : Tokens) → Never itself (sectioned i names form ts)
    sectioned_never names form ts n known rest h is =
        let r = bind_ok (i.sections names form ts) _ (n, known, rest) h in
        let w = then_ok (is_whole form r.0.0) _ (length r.0.2) (n, known, rest) r.2 in
        let e = read_same (compound_node form r.0.0) n r.0.1 known r.0.2 rest w.1 in
        clash (is_expression n) is (subst (λ m. is_expression m ≡ false) e.0
        (sound.sections names r.0.1 ts r.0.2 form r.0.0 r.1 w.0))

    module _ (place : Place) (owner : DoOwner) (names : Names) (ts : Tokens) where
      abbrev Sound : OperandNode → Names → Tokens → Type 0
      Sound o known rest = (n : Node) × (o ≡ whole n) × Derives (PrimaryRule place owner n) names ts known rest

      abbrev Goal : Read OperandNode → Type 0
      Goal read = (o : OperandNode) (known : Names) (rest : Tokens) → read ≡ Ok (o, known, rest)
          → is_expression (operand_node o) ≡ true → Sound o known rest

      goal_never : (read : Read OperandNode) → Never operand_node read → Goal read
      goal_never read never o known rest h is = absurd (never o known rest h is)

      goal_wrapped : (read : Read Node) → ((n : Node) (known : Names) (rest : Tokens) → read ≡ Ok (n, known, rest)
          → is_expression n ≡ true → Derives (PrimaryRule place owner n) names ts known rest) → Goal (wrapped i read)
      goal_wrapped read derived o known rest h is =
          let r = bind_ok read _ (o, known, rest) h in
          let e = read_same (whole r.0.0) o r.0.1 known r.0.2 rest r.2 in
          let there : is_expression r.0.0 ≡ true = subst (λ p. is_expression (operand_node p) ≡ true) (sym e.0) is in
          let d = derived r.0.0 r.0.1 r.0.2 r.1 there in (
            r.0.0,
            sym e.0,
            carry (λ (p : OperandNode) (k : Names) (m : Tokens). Derives (PrimaryRule place owner r.0.0)
                names ts k m) (whole r.0.0) o r.0.1 known r.0.2 rest r.2 d,
          )

      not_wrapped : (read : Read Node) → Never itself read → Goal (wrapped i read)
      not_wrapped read never = goal_wrapped read (λ n known rest h is. absurd (never n known rest h is))

      leafy : (w : Word) → first ts ≡ w → primary_of w names ts ≡ primaries.Leaf
          → Goal (wrapped i (leaf_primary (leaf ts) names ts))
      leafy w is alone = goal_wrapped _ (leaf_sound place owner names ts w is alone)

      grouped : first ts ≡ words.Mark marks.OpenParenthesis → Goal (wrapped i (group i names (behind ts)))
      grouped is = goal_wrapped _ (λ n known rest h whole.
          let r = bind_ok (i.statements names (behind ts)) _ (n, known, rest) h in
          let x = bind_ok (expect wanted.CloseParenthesis r.0.2) _ (n, known, rest) r.2 in
          let c = then_ok (is_wanted wanted.CloseParenthesis (first r.0.2)) (Ok (behind r.0.2)) (length r.0.2) x.0 x.1
          in
          let e = read_same r.0.0 n r.0.1 known x.0 rest x.2 in
          let there : is_expression r.0.0 ≡ true = subst (λ m. is_expression m ≡ true) (sym e.0) whole in
          let inner = sound.statements names r.0.1 (behind ts) r.0.2 r.0.0 r.1 there in
          let closing = Group place owner names r.0.1 ts r.0.2 r.0.0 is inner (closes (first r.0.2) c.0) in
          let last : behind r.0.2 ≡ x.0 = ok_is c.1 in
          carry (λ (m : Node) (k : Names) (left : Tokens). Derives (PrimaryRule place owner m) names ts k left) r.0.0 n
          r.0.1 known x.0 rest x.2
          (subst (λ left. Derives (PrimaryRule place owner r.0.0) names ts r.0.1 left) last closing))

      defined_goal : first ts ≡ words.Key keywords.Defined → first (behind ts) ≡ words.Mark marks.OpenParenthesis
          → Goal (wrapped i (defined i names (behind (behind ts))))
      defined_goal is opened = goal_wrapped _ (λ n known rest h whole.
          let r = bind_ok (i.expression names (behind (behind ts)) places.Command owners.Call) _ (n, known, rest) h in
          let x = bind_ok (expect_closing wanted.CloseParenthesis r.0.2) _ (n, known, rest) r.2 in
          let c = then_ok (is_wanted wanted.CloseParenthesis (first (skip_newlines r.0.2)))
          (Ok (behind (skip_newlines r.0.2))) (length (skip_newlines r.0.2)) x.0 x.1 in
          let e = read_same (node.defined r.0.0) n r.0.1 known x.0 rest x.2 in
          let there : is_expression r.0.0 ≡ true = subst (λ m. is_expression m ≡ true) (sym e.0) whole in
          let inner = sound.expression names r.0.1 (behind (behind ts)) r.0.2 owners.Call r.0.0 r.1 there in
          let closing = DefinedGroup place owner names r.0.1 ts r.0.2 r.0.0 is opened inner
          (closes (first (skip_newlines r.0.2)) c.0) in
          let last : behind (skip_newlines r.0.2) ≡ x.0 = ok_is c.1 in
          carry (λ (m : Node) (k : Names) (left : Tokens). Derives (PrimaryRule place owner m) names ts k left)
          (node.defined r.0.0) n r.0.1 known x.0 rest x.2
          (subst (λ left. Derives (PrimaryRule place owner (node.defined r.0.0)) names ts r.0.1 left) last closing))

      named : (c : CalleeNode) → Goal (suffix i c names (behind ts) owner)
      named c = goal_never _ (suffix_never c names (behind ts) owner)

      by_identifier : (known opened : Bool) → is_known (bytes_at ts) names ≡ known
          → makes_call (behind ts) ≡ opened → first ts ≡ words.Identifier
          → Goal (primary_by i (if known then (if opened then primaries.Name else primaries.Local) else primaries.Name)
          names ts owner)
      unfolding primary_by
      by_identifier false opened k a is = named (name_callee (bytes_at ts) (is_identifier (first ts)))
      by_identifier true true k a is = named (name_callee (bytes_at ts) (is_identifier (first ts)))
      by_identifier true false k a is = λ o later rest h whole_is.
          let e = read_same (whole (node.local (bytes_at ts))) o names later (behind ts) rest h in (
            node.local (bytes_at ts),
            sym e.0,
            carry (λ (p : OperandNode) (l : Names) (m : Tokens). Derives
                (PrimaryRule place owner (node.local (bytes_at ts))) names ts l m)
                (whole (node.local (bytes_at ts))) o names later (behind ts) rest h (Local place owner names ts is k a),
          )

      by_constant : (opened : Bool) → makes_call (behind ts) ≡ opened → first ts ≡ words.Constant
          → primary_of words.Constant names ts ≡ (if opened then primaries.Name else primaries.Leaf)
          → Goal (primary_by i (if opened then primaries.Name else primaries.Leaf) names ts owner)
      unfolding primary_by compound
      by_constant true a is p = named (name_callee (bytes_at ts) (is_identifier (first ts)))
      by_constant false a is p = leafy words.Constant is p

      by_defined : (opened : Bool) → is_open_parenthesis (first (behind ts)) ≡ opened
          → first ts ≡ words.Key keywords.Defined
          → primary_of (words.Key keywords.Defined) names ts ≡ (if opened then primaries.Defined else primaries.Leaf)
          → Goal (primary_by i (if opened then primaries.Defined else primaries.Leaf) names ts owner)
      unfolding primary_by compound
      by_defined true a is p = defined_goal is (an_open (first (behind ts)) a)
      by_defined false a is p = leafy (words.Key keywords.Defined) is p

      by_key : (k : Keyword) → first ts ≡ words.Key k
          → Goal (primary_by i (primary_of (words.Key k) names ts) names ts owner)
      unfolding primary_by compound
      by_key keywords.Super is = named (super_callee (place_at ts))
      by_key keywords.Yield is = not_wrapped _ (yielded_never (place_at ts) names (behind ts))
      by_key keywords.Def is = not_wrapped _ (define_never (place_at ts) names (behind ts))
      by_key keywords.Class is = not_wrapped _ (class_never names (behind ts))
      by_key keywords.Module is = not_wrapped _ (module_never names (behind ts))
      by_key keywords.Defined is = by_defined (is_open_parenthesis (first (behind ts))) refl is refl
      by_key keywords.If is = not_wrapped _ (sectioned_never names compounds.If (behind ts))
      by_key keywords.Unless is = not_wrapped _ (sectioned_never names compounds.Unless (behind ts))
      by_key keywords.While is = not_wrapped _ (sectioned_never names compounds.While (behind ts))
      by_key keywords.Until is = not_wrapped _ (sectioned_never names compounds.Until (behind ts))
      by_key keywords.For is = not_wrapped _ (sectioned_never names compounds.For (behind ts))
      by_key keywords.Case is = not_wrapped _ (sectioned_never names compounds.Case (behind ts))
      by_key keywords.Begin is = not_wrapped _ (sectioned_never names compounds.Body (behind ts))
      by_key k is = leafy (words.Key k) is refl

      by_mark : (p : Punctuator) → first ts ≡ words.Mark p
          → Goal (primary_by i (primary_of (words.Mark p) names ts) names ts owner)
      unfolding primary_by compound
      by_mark marks.OpenParenthesis is = grouped is
      by_mark marks.OpenBracket is = goal_wrapped _ (array_sound i sound place owner names ts is)
      by_mark marks.OpenBrace is = goal_wrapped _ (hash_sound i sound place owner names ts is)
      by_mark marks.LambdaArrow is = not_wrapped _ (lambda_never (place_at ts) names (behind ts) owner)
      by_mark p is = leafy (words.Mark p) is refl

      by_outside : (o : Outside) → first ts ≡ words.Other o
          → Goal (primary_by i (primary_of (words.Other o) names ts) names ts owner)
      unfolding primary_by compound
      by_outside outsides.NonAsciiName is = named (outside_callee outsides.NonAsciiName (place_at ts) [])
      by_outside o is = leafy (words.Other o) is refl

      by_word : (w : Word) → first ts ≡ w → Goal (primary_by i (primary_of w names ts) names ts owner)
      unfolding primary_by compound
      by_word words.Identifier is = by_identifier (is_known (bytes_at ts) names) (makes_call (behind ts)) refl refl is
      by_word words.MethodName is = named (name_callee (bytes_at ts) (is_identifier (first ts)))
      by_word words.Constant is = by_constant (makes_call (behind ts)) refl is refl
      by_word (words.Other o) is = by_outside o is
      by_word words.StringBegin is = goal_wrapped _ (text_sound i sound place owner names ts (ap begins_string is))
      by_word words.Character is = goal_wrapped _ (text_sound i sound place owner names ts (ap begins_string is))
      by_word words.SymbolBegin is = goal_wrapped _ (symbol_sound i sound place owner names ts is)
      by_word (words.Mark p) is = by_mark p is
      by_word (words.Key k) is = by_key k is
      by_word w is = leafy w is refl

      pub primary_sound : Goal (primary i names ts owner)
      unfolding primary_at
      primary_sound = by_word (first ts) refl
