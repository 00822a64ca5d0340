-- What is read before an assignment is derived as a target.
use Rattle.std.proofs.Common.{◌≡◌, ℕ, zero, suc, ◌+◌, pos, neg_ℤ, nat_lt, nat_le, Bool, true, false, not, ◌&&◌, length, Option, Some, None, Ok, if◌then◌else◌, refl, sym, ap, subst, ◌∙◌}
use Rattle.std.proofs.lemmas.Bool.{and_parts}
use Rattle.parser_tree.specs.Node as node
use Rattle.parser_tree.specs.Node.{Name, Node, nodes}
use Rattle.parser_tokens.specs.Tokens.{first, behind, bytes_at, integer_at, place_at}
use Rattle.parser_tokens.specs.Expect.{skip_newlines}
use Rattle.parser_tokens.specs.Operators.{prefix_at}
use Rattle.parser_tokens.specs.Starts.{is_open_parenthesis}
use Rattle.parser_tokens.specs.declared.expect.Wanted.TheVariants as wanted
use Rattle.parser_tokens.specs.declared.operators.Prefix.{Prefix}
use Rattle.parser_tokens.specs.declared.operators.Prefix.TheVariants as prefixes
use Rattle.parser_tokens.specs.declared.starts.Postfix.{Postfix}
use Rattle.parser_tokens.specs.declared.starts.Postfix.TheVariants as postfixes
use Rattle.parser_tokens.specs.declared.word.Word.{Word}
use Rattle.parser_tokens.specs.declared.word.Word.TheVariants as words
use Rattle.rb_syntax.specs.declared.outside.Outside.TheVariants as outsides
use Rattle.parser_ahead.specs.Names.{learned}
use Rattle.parser_ahead.specs.Primary.{primary_at, is_name_word}
use Rattle.parser_ahead.specs.declared.primary.DoOwner.{DoOwner}
use Rattle.parser_ahead.specs.declared.primary.Place.TheVariants as places
use Rattle.parser_ahead.specs.declared.primary.Primary.{Primary}
use Rattle.parser_ahead.specs.declared.primary.Primary.TheVariants as primaries
use Rattle.parser_nodes.specs.Leaf.{bare, positive_node, negative_node}
use Rattle.parser_nodes.specs.Nodes.{shape, prefix_node}
use Rattle.parser_nodes.specs.Calls.{Given, Block, call_node, CalleeNode, name_callee, method_callee, super_callee, outside_callee, OperandNode, whole, callee, operand_node, is_target, target_node, target_names}
use Rattle.parser_tree.specs.View.{items_of}
use Rattle.parser_nodes.specs.Listed.{whole_items}
use Rattle.parser_forms.specs.Brackets.{call_arguments, elements}
use Rattle.parser_form_nodes.specs.Definitions.{HeadNode, method_by, method_node}
use Rattle.parser_form_nodes.specs.Parameters.{BlockNode}
use Rattle.parser_operands.specs.Operands as operands
use Rattle.parser_operands.specs.Operands.{continues, is_identifier, postfix_callee, outside_name, scoped, is_scoped_constant, is_outside_name, suffix, compound, wrapped, primary_by, primary, named, dotted, postfixed, chain_turn, chain_within, chain, operand_with, operand}
use Rattle.parser_forms.specs.Reading.{Names, Tokens, Read, Inside}
use Rattle.parser_laws.specs.Rules.{Rule, Statements, Operand, Primary as PrimaryRule, Target}
use Rattle.parser_laws.specs.Derives as grammar
use Rattle.parser_laws.specs.Derives.{Derives}
use Rattle.parser_laws.specs.Expressions.{is_assigned, is_assignable, is_expression}
use Rattle.parser_laws.proofs.Results.{bind_ok, read_same, carry, clash, differs, both, err_is_none, same_read, Always, always_bind, always_after, always_ok, always_error, always_if}
use Rattle.parser_laws.proofs.Sound.{IsSound}
use Rattle.parser_laws.proofs.OperatorFacts.{prefix_no_target}
use Rattle.parser_laws.proofs.SoundPostfix.{Plainly, operand_sound}
use Rattle.parser_laws.proofs.SoundAttributes.{is_whole, attribute_is, is_attribute, suffix_alone, chain_target}

either_none : (b : Bool) (x y : Node) → is_assigned x ≡ false → is_assigned y ≡ false
    → is_assigned (if b then x else y) ≡ false
either_none true x y f g = f
either_none false x y f g = g

positive_is_none : (n at : ℕ) → is_assigned (positive_node n at) ≡ false
positive_is_none n at = either_none (nat_lt n 9223372036854775808) (node.integer (pos n)) (bare outsides.WideInteger at)
    refl refl

negative_is_none : (n at : ℕ) → is_assigned (negative_node n at) ≡ false
negative_is_none n at = either_none (nat_le n 9223372036854775808) (node.integer (neg_ℤ (pos n)))
    (bare outsides.WideInteger at) refl refl

prefix_is_none : (o : Prefix) (n : Node) → is_assigned (prefix_node o n) ≡ false
prefix_is_none prefixes.Not n = refl
prefix_is_none (prefixes.Operation o) n = refl

method_is_none : (h : HeadNode) (d : BlockNode) → is_assigned (method_node h d) ≡ false
method_is_none h d = by_name h.outside
  where
    by_name : (o : Option ℕ) → is_assigned (method_by o h d) ≡ false
    by_name None = refl
    by_name (Some at) = refl

-- no call is a target of an assignment
call_is_none : (c : CalleeNode) (g : Given) (b : Option Block) → is_assigned (call_node c g b) ≡ false
call_is_none (name_callee x i) g b = refl
call_is_none (method_callee r x s) g b = refl
call_is_none (super_callee at) g b = refl
call_is_none (outside_callee o at es) g b = refl

-- what may stand before an assignment and is derived as an operand is derived as a target
abbrev TargetOf : Rule → Names → Tokens → Names → Tokens → Type 0
TargetOf (Statements n) names ts known rest = is_assigned n ≡ false
TargetOf (Operand place owner n) names ts known rest = place ≡ places.Command → is_assigned n ≡ true
    → Derives (Target owner n) names ts known rest
TargetOf (PrimaryRule place owner n) names ts known rest = place ≡ places.Command → prefix_at ts ≡ None
    → is_assigned n ≡ true → Derives (Target owner n) names ts known rest
TargetOf r names ts known rest = Unit {0}

target_of : (r : Rule) (names : Names) (ts : Tokens) (known : Names) (rest : Tokens) → Derives r names ts known rest
    → TargetOf r names ts known rest
target_of _ _ _ _ _ (grammar.Separated names known ts rest ns d) = refl
target_of _ _ _ _ _ (grammar.Prefixed place owner o names known ts rest n there d) =
    λ at h. differs (sym h ∙ prefix_is_none o n)
target_of _ _ _ _ _ (grammar.NotPrefixed place owner o names known ts rest n is there d) = λ at h. differs (sym h)
target_of _ _ _ _ _ (grammar.WithPostfixes place owner names known ts rest n none d ends) =
    λ at h. target_of _ _ _ _ _ d at none h
target_of _ _ _ _ _ (grammar.Nil place owner names ts is) = λ at none h. differs (sym h)
target_of _ _ _ _ _ (grammar.True place owner names ts is) = λ at none h. differs (sym h)
target_of _ _ _ _ _ (grammar.False place owner names ts is) = λ at none h. differs (sym h)
target_of _ _ _ _ _ (grammar.SelfReference place owner names ts is) = λ at none h. differs (sym h)
target_of _ _ _ _ _ (grammar.Integer place owner names ts is) =
    λ at none h. differs (sym h ∙ positive_is_none (integer_at ts) (place_at ts))
target_of _ _ _ _ _ (grammar.Negative place owner names ts is signed) =
    λ at none h. differs (sym h ∙ negative_is_none (integer_at (behind ts)) (place_at ts))
target_of _ _ _ _ _ (grammar.Symbol place owner names ts is) = λ at none h. differs (sym h)
target_of _ _ _ _ _ (grammar.Local place owner names ts is known closed) = λ at none h.
    let same : learned names (bytes_at ts) ≡ names = rw known refl in
    subst (λ (k : Names). Derives (Target owner (node.local (bytes_at ts))) names ts k (behind ts)) same
    (grammar.LocalTarget owner names ts is)
target_of _ _ _ _ _ (grammar.InstanceVariable place owner names ts is) =
    λ at none h. grammar.InstanceTarget owner names ts is
target_of _ _ _ _ _ (grammar.GlobalVariable place owner names ts is) =
    λ at none h. grammar.GlobalTarget owner names ts is
target_of _ _ _ _ _ (grammar.Constant place owner names ts is closed) =
    λ at none h. grammar.ConstantTarget owner names ts is
target_of _ _ _ _ _ (grammar.Group place owner names known ts rest n is d closing) =
    λ at none h. clash (is_assigned n) h (target_of _ _ _ _ _ d)
target_of _ _ _ _ _ (grammar.DefinedGroup place owner names known ts rest n is opened d closing) =
    λ at none h. differs (sym h)
target_of _ _ _ _ _ (grammar.Indexed place owner names known later ts rest more n ns left there values closing) =
    λ at none h. grammar.PostfixTarget owner names later ts _ (node.index n (nodes ns)) refl none
    (subst (λ p. Derives (PrimaryRule p owner (node.index n (nodes ns))) names ts later (behind (skip_newlines more)))
    at (grammar.Indexed place owner names known later ts rest more n ns left there values closing))
target_of _ _ _ _ _ (grammar.ScopedConstant place owner names known ts rest n left there constant closed) =
    λ at none h. grammar.PostfixTarget owner names known ts _ (node.scoped_constant n (bytes_at (behind rest))) refl
    none
    (subst (λ p. Derives (PrimaryRule p owner (node.scoped_constant n (bytes_at (behind rest)))) names ts known
    (behind (behind rest))) at (grammar.ScopedConstant place owner names known ts rest n left there constant
    closed))
target_of _ _ _ _ _ (grammar.WordList place owner names ts rest xs is d) = λ at none g. differs (sym g)
target_of _ _ _ _ _ (grammar.SymbolList place owner names ts rest xs is d) = λ at none g. differs (sym g)
target_of _ _ _ _ _ (grammar.Text place owner names known ts rest ns none d) = λ at none g. differs (sym g)
target_of _ _ _ _ _ (grammar.QuotedSymbol place owner names known ts rest ns is d closing) =
    λ at none g. differs (sym g)
target_of _ _ _ _ _ (grammar.TopConstant place owner names ts is there) = λ at none g. differs (sym g)
target_of _ _ _ _ _ (grammar.OutsideToken place owner o names ts is alone) = λ at none g. differs (sym g)
target_of _ _ _ _ _ (grammar.FileKeyword place owner names ts is) = λ at none g. differs (sym g)
target_of _ _ _ _ _ (grammar.LineKeyword place owner names ts is) = λ at none g. differs (sym g)
target_of _ _ _ _ _ (grammar.EncodingKeyword place owner names ts is) = λ at none g. differs (sym g)
target_of _ _ _ _ _ (grammar.Redo place owner names ts is) = λ at none g. differs (sym g)
target_of _ _ _ _ _ (grammar.Retry place owner names ts is) = λ at none g. differs (sym g)
target_of _ _ _ _ _ (grammar.Return place owner names ts is) = λ at none g. differs (sym g)
target_of _ _ _ _ _ (grammar.Break place owner names ts is) = λ at none g. differs (sym g)
target_of _ _ _ _ _ (grammar.Next place owner names ts is) = λ at none g. differs (sym g)
target_of _ _ _ _ _ (grammar.Yield place owner names ts is closed) = λ at none g. differs (sym g)
target_of _ _ _ _ _ (grammar.Array place owner names known ts rest l is d none closing) = λ at none g. differs (sym g)
target_of _ _ _ _ _ (grammar.Hash place owner names known ts rest l is d none alone closing) =
    λ at none g. differs (sym g)
target_of _ _ _ _ _ (grammar.YieldGroup place owner names known ts rest l is there d none closing) =
    λ at none g. differs (sym g)
target_of _ _ _ _ _ (grammar.Lambda place owner style names known ts rest b is there d) = λ at none g. differs (sym g)
target_of _ _ _ _ _ (grammar.If place owner names known later latest ts rest more last t n bs o is one others other
    ends) = λ at none g. differs (sym g)
target_of _ _ _ _ _ (grammar.Unless place owner names known later ts rest more t n o is one other ends) =
    λ at none g. differs (sym g)
target_of _ _ _ _ _ (grammar.While place owner names known ts rest t n is one ends) = λ at none g. differs (sym g)
target_of _ _ _ _ _ (grammar.Until place owner names known ts rest t n is one ends) = λ at none g. differs (sym g)
target_of _ _ _ _ _ (grammar.Case place owner names known later latest ts rest more last s o ws is head d other ends) =
    λ at none g. differs (sym g)
target_of _ _ _ _ _ (grammar.Begin place owner names known later ts rest more n cs o e is d handlers ends) =
    λ at none g. differs (sym g)
target_of _ _ _ _ _ (grammar.Define place owner names known inner later ts rest more last h l b is head d free body) =
    λ at none g. differs (sym g ∙ method_is_none h _)
target_of _ _ _ _ _ (grammar.EndlessDefine place owner names known inner later ts rest more last h l n is head d
    assigned value) = λ at none g. differs (sym g)
target_of _ _ _ _ _ (grammar.Class place owner names known inner ts rest last s x b is path separator body) =
    λ at none g. differs (sym g)
target_of _ _ _ _ _ (grammar.Subclass place owner names known later inner ts rest more last s x n b is path less parent
    separator body) = λ at none g. differs (sym g)
target_of _ _ _ _ _ (grammar.SingletonClass place owner names known inner ts rest last n b is shift value separator
    body) = λ at none g. differs (sym g)
target_of _ _ _ _ _ (grammar.Module place owner names known inner ts rest last s x b is path body) =
    λ at none g. differs (sym g)
target_of _ _ _ _ _ (grammar.For place owner names known later ts rest more xs e n is d there inner ends) =
    λ at none g. differs (sym g)
target_of _ _ _ _ _ (grammar.LambdaBraces place owner names known later ts rest more l n is none d brace inner closing)
    = λ at free g. differs (sym g)
target_of _ _ _ _ _ (grammar.LambdaDo place owner names known later ts rest more l n is none d style inner) =
    λ at free g. differs (sym g)
target_of _ _ _ _ _ (grammar.CalleeAlone place owner names known ts rest c d alone free) =
    λ at none g. differs (sym g ∙ call_is_none c None None)
target_of _ _ _ _ _ (grammar.GroupCall place owner names known later ts rest more c l d opened inner closing unblocked)
    = λ at none g. differs (sym g ∙ call_is_none c _ None)
target_of _ _ _ _ _ (grammar.GroupBlockCall place owner style names known later last ts rest more left c l b d opened
    inner closing there none block) = λ at free g. differs (sym g ∙ call_is_none c _ (Some b))
target_of _ _ _ _ _ (grammar.BlockCall place owner style names known later ts rest more c b d closed there block) =
    λ at none g. differs (sym g ∙ call_is_none c None (Some b))
target_of _ _ _ _ _ (grammar.DotCall place owner names known later ts rest more n l d there opened inner closing) =
    λ at none g. differs (sym g)
target_of _ _ _ _ _ (grammar.SafeCall place owner names known later ts rest more n l d there opened inner closing) =
    λ at none g. differs (sym g)
target_of _ _ _ _ _ (grammar.ListIndexed place owner names known later ts rest more n l left there inner alone closing)
    =
    λ at none h. grammar.PostfixTarget owner names later ts _ (node.index n (items_of (whole_items l.items l.pairs)))
    refl none
    (subst (λ p. Derives (PrimaryRule p owner (node.index n (items_of (whole_items l.items l.pairs)))) names ts later
    (behind (skip_newlines more))) at (grammar.ListIndexed place owner names known later ts rest more n l left there
    inner alone closing))
target_of _ _ _ _ _ d = tt

-- an operand that is no name alone
abbrev unnamed : OperandNode → Bool
unnamed (whole n) = true
unnamed (callee (name_callee x b)) = false
unnamed (callee (method_callee r x s)) = true
unnamed (callee (super_callee at)) = true
unnamed (callee (outside_callee o at es)) = true

name_alone : (o : OperandNode) → unnamed o ≡ false → is_whole o ≡ false
name_alone (whole n) h = differs h
name_alone (callee c) h = refl

postfix_unnamed : (r : Node) (x : Name) (p : Postfix) (at : ℕ) → unnamed (callee (postfix_callee r x p at)) ≡ true
postfix_unnamed r x postfixes.Index at = refl
postfix_unnamed r x postfixes.Dot at = refl
postfix_unnamed r x postfixes.Safe at = refl
postfix_unnamed r x postfixes.Scope at = refl

an_identifier : (w : Word) → is_identifier w ≡ true → w ≡ words.Identifier
an_identifier words.Identifier h = refl
an_identifier w h = differs (sym h)

module _ (i : Inside) where
  suffix_unnamed : (c : CalleeNode) (names : Names) (ts : Tokens) (owner : DoOwner) → unnamed (callee c) ≡ true
      → Always unnamed (suffix i c names ts owner)
  suffix_unnamed c names ts owner is o known rest h = by_name (unnamed o) refl
    where
      by_name : (b : Bool) → unnamed o ≡ b → unnamed o ≡ true
      by_name true there = there
      by_name false there = clash (unnamed o)
          (subst (λ p. unnamed p ≡ true) (read_same (callee c) o names known ts rest
          (suffix_alone i c names ts owner o known rest h (name_alone o there))).0 is) there

  named_unnamed : (receiver : Node) (p : Postfix) (names : Names) (ts : Tokens) (owner : DoOwner)
      → Always unnamed (named i receiver p names ts owner)
  named_unnamed receiver p names ts owner =
      always_if unnamed (is_outside_name (first (behind ts))) _ _
      (suffix_unnamed (outside_name (place_at (behind ts)) receiver) names (behind (behind ts)) owner refl)
      (always_if unnamed (is_name_word (first (behind ts))) _ _
      (always_if unnamed (is_scoped_constant p (behind ts)) _ _ (always_ok unnamed _ names (behind (behind ts)) refl)
      (suffix_unnamed (postfix_callee receiver (bytes_at (behind ts)) p (place_at ts)) names (behind (behind ts)) owner
      (postfix_unnamed receiver (bytes_at (behind ts)) p (place_at ts))))
      (always_error unnamed (length (behind ts))))

  dotted_unnamed : (receiver : Node) (p : Postfix) (names : Names) (ts : Tokens) (owner : DoOwner)
      → Always unnamed (dotted i receiver p names ts owner)
  dotted_unnamed receiver p names ts owner =
      always_if unnamed (not (scoped p) && is_open_parenthesis (first (behind ts))) _ _
      (always_bind unnamed (call_arguments i names (behind (behind ts))) _ (λ r. always_ok unnamed _ r.1 r.2 refl))
      (named_unnamed receiver p names ts owner)

  postfixed_unnamed : (receiver : Node) (p : Postfix) (names : Names) (ts : Tokens) (owner : DoOwner)
      → Always unnamed (postfixed i receiver p names ts owner)
  unfolding postfixed
  postfixed_unnamed receiver postfixes.Index names ts owner =
      always_bind unnamed (elements i names (behind ts) wanted.CloseBracket) _ (λ r. always_ok unnamed _ r.1 r.2 refl)
  postfixed_unnamed receiver postfixes.Dot names ts owner = dotted_unnamed receiver postfixes.Dot names ts owner
  postfixed_unnamed receiver postfixes.Safe names ts owner = dotted_unnamed receiver postfixes.Safe names ts owner
  postfixed_unnamed receiver postfixes.Scope names ts owner = dotted_unnamed receiver postfixes.Scope names ts owner

  turn_unnamed : (n : ℕ) (commands : Bool) (owner : DoOwner) (p : Option Postfix) (o : OperandNode) (names : Names)
      (ts : Tokens)
      → ((x : OperandNode) (k : Names) (m : Tokens) → unnamed x ≡ true
      → Always unnamed (chain_within i n commands owner x k m)) → unnamed o ≡ true
      → Always unnamed (chain_turn i p (chain_within i n commands owner) o names ts owner)
  turn_unnamed n commands owner None o names ts again is = always_ok unnamed o names ts is
  turn_unnamed n commands owner (Some p) o names ts again is =
      always_after unnamed (postfixed i (operand_node o) p names ts owner) _
      (λ x k m h. again x k m (postfixed_unnamed (operand_node o) p names ts owner x k m h))

  chain_unnamed : (n : ℕ) (commands : Bool) (owner : DoOwner) (o : OperandNode) (names : Names) (ts : Tokens)
      → unnamed o ≡ true → Always unnamed (chain_within i n commands owner o names ts)
  unfolding chain_within
  chain_unnamed zero commands owner o names ts is = always_error unnamed 0
  chain_unnamed (suc n) commands owner o names ts is =
      turn_unnamed n commands owner (continues o ts commands) o names ts
      (λ x k m other. chain_unnamed n commands owner x k m other) is

  chain_alone : (n : ℕ) (commands : Bool) (owner : DoOwner) (o : OperandNode) (names : Names) (ts : Tokens)
      (x : OperandNode) (known : Names) (rest : Tokens)
      → chain_within i n commands owner o names ts ≡ Ok (x, known, rest) → unnamed x ≡ false
      → same_read (Ok (o, names, ts)) (Ok (x, known, rest))
  unfolding chain_within
  chain_alone zero commands owner o names ts x known rest h other = err_is_none 0 (x, known, rest) h
  chain_alone (suc n) commands owner o names ts x known rest h other = by_postfix (continues o ts commands) h
    where
      by_postfix : (p : Option Postfix) → chain_turn i p (chain_within i n commands owner) o names ts owner ≡ Ok
          (x, known, rest) → same_read (Ok (o, names, ts)) (Ok (x, known, rest))
      by_postfix None same = same
      by_postfix (Some p) same =
          let always = always_after unnamed (postfixed i (operand_node o) p names ts owner)
          (λ r. chain_within i n commands owner r.0 r.1 r.2)
          (λ y k m e. chain_unnamed n commands owner y k m
          (postfixed_unnamed (operand_node o) p names ts owner y k m e)) in
          clash (unnamed x) (always x known rest same) other

  wrapped_unnamed : (read : Read Node) → Always unnamed (wrapped i read)
  wrapped_unnamed read = always_bind unnamed read _ (λ r. always_ok unnamed _ r.1 r.2 refl)

  primary_alone : (p : Primary) (names : Names) (ts : Tokens) (owner : DoOwner) (o : OperandNode) (known : Names)
      (rest : Tokens) → primary_by i p names ts owner ≡ Ok (o, known, rest) → unnamed o ≡ false
      → same_read (Ok (callee (name_callee (bytes_at ts) (is_identifier (first ts))), names, behind ts))
      (Ok (o, known, rest))
  unfolding primary_by
  primary_alone primaries.Name names ts owner o known rest h other =
      suffix_alone i (name_callee (bytes_at ts) (is_identifier (first ts))) names (behind ts) owner o known rest h
      (name_alone o other)
  primary_alone primaries.Local names ts owner o known rest h other =
      clash (unnamed o) (always_ok unnamed (whole (node.local (bytes_at ts))) names (behind ts) refl o known rest h)
      other
  primary_alone primaries.OutsideName names ts owner o known rest h other =
      clash (unnamed o) (suffix_unnamed _ names (behind ts) owner refl o known rest h) other
  primary_alone primaries.Super names ts owner o known rest h other =
      clash (unnamed o) (suffix_unnamed (super_callee (place_at ts)) names (behind ts) owner refl o known rest h) other
  primary_alone p names ts owner o known rest h other =
      clash (unnamed o) (wrapped_unnamed (compound i p names ts owner) o known rest h) other

  -- a name alone is the word at the front
  operand_alone : (names : Names) (ts : Tokens) (commands : Bool) (owner : DoOwner) (o : OperandNode) (known : Names)
      (rest : Tokens) → operand i names ts commands owner ≡ Ok (o, known, rest) → unnamed o ≡ false
      → same_read (Ok (callee (name_callee (bytes_at ts) (is_identifier (first ts))), names, behind ts))
      (Ok (o, known, rest))
  unfolding operand chain primary_at
  operand_alone names ts commands owner o known rest h other = by_prefix (prefix_at ts) h
    where
      by_prefix : (p : Option Prefix) → operand_with i p names ts commands owner ≡ Ok (o, known, rest)
          → same_read (Ok (callee (name_callee (bytes_at ts) (is_identifier (first ts))), names, behind ts))
          (Ok (o, known, rest))
      by_prefix (Some p) read =
          let always = always_bind unnamed (i.operation names (behind ts) (operands.operand_level p) owner)
          (λ r. Ok (whole (prefix_node p r.0), r.1, r.2)) (λ r. always_ok unnamed _ r.1 r.2 refl) in
          clash (unnamed o) (always o known rest read) other
      by_prefix None read =
          let r = bind_ok (primary i names ts owner) _ (o, known, rest) read in
          let stays = chain_alone (length r.0.2 + 1) commands owner r.0.0 r.0.1 r.0.2 o known rest r.2 other in
          let e = read_same r.0.0 o r.0.1 known r.0.2 rest stays in
          let named_still : unnamed r.0.0 ≡ false = subst (λ p. unnamed p ≡ false) (sym e.0) other in
          primary_alone (primary_at names ts) names ts owner r.0.0 r.0.1 r.0.2 r.1 named_still ∙ stays

  name_target : (names : Names) (ts : Tokens) (commands : Bool) (owner : DoOwner) (o : OperandNode) (known : Names)
      (rest : Tokens) → operand i names ts commands owner ≡ Ok (o, known, rest) → unnamed o ≡ false → is_target o ≡ true
      → Derives (Target owner (target_node o)) names ts (target_names o known) rest
  name_target names ts commands owner o known rest h other target =
      let word : OperandNode = callee (name_callee (bytes_at ts) (is_identifier (first ts))) in
      let same = operand_alone names ts commands owner o known rest h other in
      let e = read_same word o names known (behind ts) rest same in
      let is : is_target word ≡ true = subst (λ p. is_target p ≡ true) (sym e.0) target in
      carry (λ (p : OperandNode) (k : Names) (m : Tokens). Derives (Target owner (target_node p)) names ts
      (target_names p k) m) word o names known (behind ts) rest same
      (grammar.LocalTarget owner names ts (an_identifier (first ts) is))

-- a whole operand that may stand before an assignment
assigned_parts : (n : Node) → is_target (whole n) ≡ true → is_assignable n ≡ true → (is_assigned n ≡ true)
    × (is_expression n ≡ true)
unfolding shape
assigned_parts (node.local x) target is = (refl, refl)
assigned_parts (node.instance_variable x) target is = (refl, refl)
assigned_parts (node.global_variable x) target is = (refl, refl)
assigned_parts (node.constant x) target is = (refl, refl)
assigned_parts (node.scoped_constant e x) target is = (refl, is)
assigned_parts (node.index e is_in) target is = (refl, is)
assigned_parts (node.call r x a b) target is = differs (sym target)
assigned_parts n target is = differs (sym is)

module _ (i : Inside) (sound : IsSound i) (owner : DoOwner) (names : Names) (ts : Tokens) where
  by_prefix : (p : Option Prefix) → prefix_at ts ≡ p
      → (commands : Bool) (o : OperandNode) (known : Names) (rest : Tokens)
      → operand_with i p names ts commands owner ≡ Ok (o, known, rest) → is_attribute o ≡ true
      → Derives (Target owner (target_node o)) names ts (target_names o known) rest
  by_prefix None there commands o known rest h is = chain_target i sound owner names ts there commands o known rest h is
  by_prefix (Some p) there commands o known rest h is =
      let always = always_bind is_whole (i.operation names (behind ts) (operands.operand_level p) owner)
      (λ r. Ok (whole (prefix_node p r.0), r.1, r.2)) (λ r. always_ok is_whole _ r.1 r.2 refl) in
      clash (is_whole o) (always o known rest h) (attribute_is o is)

  -- what has an operator before it is no target
  prefix_none : (p : Prefix) (commands : Bool) (o : OperandNode) (known : Names) (rest : Tokens)
      → prefix_at ts ≡ Some p → operand i names ts commands owner ≡ Ok (o, known, rest) → is_target o ≡ false
  unfolding operand
  prefix_none p commands o known rest there h =
      let made : operand_with i (Some p) names ts commands owner ≡ Ok (o, known, rest) =
      subst (λ (q : Option Prefix). operand_with i q names ts commands owner ≡ Ok (o, known, rest)) there h in
      let r = bind_ok (i.operation names (behind ts) (operands.operand_level p) owner) _ (o, known, rest) made in
      carry (λ (q : OperandNode) (k : Names) (m : Tokens). is_target q ≡ false) (whole (prefix_node p r.0.0)) o r.0.1
      known r.0.2 rest r.2 (prefix_no_target p r.0.0)

  -- an operand before an assignment
  pub target_sound : (commands : Bool) (o : OperandNode) (known : Names) (rest : Tokens)
      → operand i names ts commands owner ≡ Ok (o, known, rest) → is_target o ≡ true
      → is_assignable (target_node o) ≡ true
      → Derives (Target owner (target_node o)) names ts (target_names o known) rest
  unfolding operand
  target_sound commands (whole n) known rest h target is =
      let parts = assigned_parts n target is in
      let plain : Plainly places.Command ts =
      λ e. clash (is_target (whole n)) target (prefix_none prefixes.Not commands (whole n) known rest e h) in
      let o = operand_sound i sound places.Command owner names ts plain commands (whole n) known rest h parts.1 in
      let same : n ≡ o.0 = ap operand_node o.1 in
      let d : Derives (Operand places.Command owner n) names ts known rest =
      subst (λ m. Derives (Operand places.Command owner m) names ts known rest) (sym same) o.2 in
      target_of _ _ _ _ _ d refl parts.0
  target_sound commands (callee (name_callee x b)) known rest h target is =
      name_target i names ts commands owner (callee (name_callee x b)) known rest h refl target
  target_sound commands (callee (method_callee r x s)) known rest h target is =
      let part = and_parts (true && (is_expression r && true)) true is in
      by_prefix (prefix_at ts) refl commands (callee (method_callee r x s)) known rest h
      (both (not s) (is_expression r) target (and_parts (is_expression r) true part.0).0)
  target_sound commands (callee (super_callee at)) known rest h target is = differs (sym is)
  target_sound commands (callee (outside_callee o at es)) known rest h target is = differs (sym is)
