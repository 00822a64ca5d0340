-- An operand that is read as an expression is derived: of those with postfixes an index and a constant of a value are ones.
use Rattle.std.proofs.Common.{◌≡◌, ℕ, zero, suc, ◌+◌, Bool, true, false, not, ◌&&◌, List, [], ◌∷◌, map, length, codes, Option, Some, None, Ok, Err, if◌then◌else◌, inl, inr, refl, sym, ap, subst, ◌∙◌}
use Rattle.std.proofs.lemmas.Bool.{cases_Bool, and_parts}
use Rattle.rb_syntax.specs.declared.core_form.Item.{Item}
use Rattle.rb_syntax.specs.declared.core_form.Item.TheVariants.{Plain}
use Rattle.rb_syntax.specs.declared.punctuator.Punctuator.{Punctuator}
use Rattle.rb_syntax.specs.declared.punctuator.Punctuator.TheVariants as marks
use Rattle.parser_tree.specs.Node as node
use Rattle.parser_tree.specs.View.{items_of}
use Rattle.parser_tokens.specs.Expect.{skip_newlines}
use Rattle.parser_tokens.specs.declared.word.Word.{Word}
use Rattle.parser_tokens.specs.declared.word.Word.TheVariants as words
use Rattle.parser_nodes.specs.Listed.{whole_items}
use Rattle.parser_tree.specs.Node.{Node, nodes}
use Rattle.parser_tokens.specs.Tokens.{first, behind, bytes_at, place_at}
use Rattle.parser_tokens.specs.Operators.{prefix_at}
use Rattle.parser_tokens.specs.Starts.{postfix_at, is_open_parenthesis, opens_arguments}
use Rattle.parser_tokens.specs.declared.expect.Wanted.TheVariants as wanted
use Rattle.parser_tokens.specs.declared.operators.Prefix.{Prefix}
use Rattle.parser_tokens.specs.declared.operators.Prefix.TheVariants as prefixes
use Rattle.parser_tokens.specs.declared.starts.Postfix.{Postfix}
use Rattle.parser_tokens.specs.declared.starts.Postfix.TheVariants as postfixes
use Rattle.parser_ahead.specs.Primary.{is_name_word, of_value}
use Rattle.parser_ahead.specs.declared.primary.DoOwner.{DoOwner}
use Rattle.parser_ahead.specs.declared.primary.Place.{Place}
use Rattle.parser_ahead.specs.declared.primary.Place.TheVariants as places
use Rattle.parser_nodes.specs.Nodes.{prefix_node}
use Rattle.parser_nodes.specs.Calls.{OperandNode, whole, operand_node}
use Rattle.parser_forms.specs.Brackets.{call_arguments, elements}
use Rattle.parser_operands.specs.Operands as operands
use Rattle.parser_operands.specs.Operands.{continues, is_constant, suffix, postfix_callee, outside_name, scoped, is_scoped_constant, is_outside_name, primary, indexed, called, plain_named, named, dotted, postfixed, chain_turn, chain_within, chain, operand_with, operand}
use Rattle.parser_forms.specs.Reading.{Names, Tokens, Read, Inside}
use Rattle.parser_laws.specs.Rules.{Primary, Operand, Operation, is_inner, operand_level, operand_place}
use Rattle.parser_laws.specs.Derives.{Derives, Prefixed, WithPostfixes, ListIndexed, ScopedConstant}
use Rattle.parser_laws.specs.Expressions.{is_expression, are_expressions}
use Rattle.parser_laws.proofs.Results.{bind_ok, read_same, carry, differs, not_true, Never, never_bind, never_after, never_false, never_ok, never_error, never_if, err_is_none}
use Rattle.parser_laws.proofs.ExpressionParts.{prefix_part, call_is_none}
use Rattle.parser_laws.proofs.OperatorFacts.{same_level, inner_level}
use Rattle.parser_laws.proofs.Sound.{IsSound}
use Rattle.parser_laws.proofs.SoundBrackets.{closes_bracket, elements_sound}
use Rattle.parser_laws.proofs.SoundPrimary.{suffix_never, primary_sound}

-- behind ! stands no operand where a command may begin
abbrev pub Plainly : Place → Tokens → Type 0
Plainly place ts = prefix_at ts ≡ Some prefixes.Not → place ≡ places.Argument

plain_place : (p : Prefix) (place : Place) → (p ≡ prefixes.Not → place ≡ places.Argument)
    → operand_place p place ≡ places.Argument
plain_place prefixes.Not place plain = ap of_value (plain refl)
plain_place (prefixes.Operation o) place plain = refl

pub whole_continues : (n : Node) (ts : Tokens) (commands : Bool)
    → continues (whole n) ts commands ≡ postfix_at (first ts)
whole_continues n ts true = refl
whole_continues n ts false = refl

pub items_plain : (ns : List Node) → items_of (map Plain ns) ≡ nodes ns
items_plain [] = refl
items_plain (n ∷ ns) = ap (λ ms. node.more n ms) (items_plain ns)

abbrev is_index : Option Postfix → Bool
is_index (Some postfixes.Index) = true
is_index (Some postfixes.Dot) = false
is_index (Some postfixes.Safe) = false
is_index (Some postfixes.Scope) = false
is_index None = false

abbrev is_scope : Option Postfix → Bool
is_scope (Some postfixes.Scope) = true
is_scope (Some postfixes.Index) = false
is_scope (Some postfixes.Dot) = false
is_scope (Some postfixes.Safe) = false
is_scope None = false

mark_index : (p : Punctuator) → is_index (postfix_at (words.Mark p)) ≡ true
    → words.Mark p ≡ words.Mark marks.OpenBracket
mark_index marks.OpenBracket h = refl
mark_index p h = differs (sym h)

index_word : (w : Word) → is_index (postfix_at w) ≡ true → w ≡ words.Mark marks.OpenBracket
index_word (words.Mark p) h = mark_index p h
index_word w h = differs (sym h)

mark_scope : (p : Punctuator) → is_scope (postfix_at (words.Mark p)) ≡ true → words.Mark p ≡ words.Mark marks.ColonColon
mark_scope marks.ColonColon h = refl
mark_scope p h = differs (sym h)

scope_word : (w : Word) → is_scope (postfix_at w) ≡ true → w ≡ words.Mark marks.ColonColon
scope_word (words.Mark p) h = mark_scope p h
scope_word w h = differs (sym h)

a_constant : (w : Word) → is_constant w ≡ true → w ≡ words.Constant
a_constant words.Constant h = refl
a_constant w h = differs (sym h)

module _ (i : Inside) where
  indexed_never : (receiver : Node) (names : Names) (ts : Tokens) → is_expression receiver ≡ false
      → Never operand_node (indexed i receiver names ts)
  indexed_never receiver names ts other = never_bind operand_node (elements i names (behind ts) wanted.CloseBracket) _
      (λ r. never_ok operand_node _ r.1 r.2 (rw other refl))

  called_never : (receiver : Node) (p : Postfix) (names : Names) (ts : Tokens)
      → Never operand_node (called i receiver p names ts)
  called_never receiver p names ts =
      never_bind operand_node (call_arguments i names (behind (behind ts))) _
      (λ r. never_ok operand_node _ r.1 r.2 (call_is_none (postfix_callee receiver (codes "call") p (place_at ts))
      (Some r.0) None))

  plain_never : (receiver : Node) (p : Postfix) (names : Names) (ts : Tokens) (owner : DoOwner)
      → (is_scoped_constant p (behind ts) ≡ true → is_expression receiver ≡ false)
      → Never operand_node (plain_named i receiver p names ts owner)
  plain_never receiver p names ts owner other = by_constant (is_scoped_constant p (behind ts)) refl
    where
      by_constant : (b : Bool) → is_scoped_constant p (behind ts) ≡ b
          → Never operand_node (if b then Ok (
            whole (node.scoped_constant receiver (bytes_at (behind ts))),
            names,
            behind (behind ts),
          ) else suffix i (postfix_callee receiver (bytes_at (behind ts)) p (place_at ts)) names
          (behind (behind ts)) owner)
      by_constant true there = never_ok operand_node _ names (behind (behind ts)) (other there)
      by_constant false there = suffix_never i (postfix_callee receiver (bytes_at (behind ts)) p (place_at ts)) names
          (behind (behind ts)) owner

  named_never : (receiver : Node) (p : Postfix) (names : Names) (ts : Tokens) (owner : DoOwner)
      → (is_scoped_constant p (behind ts) ≡ true → is_expression receiver ≡ false)
      → Never operand_node (named i receiver p names ts owner)
  named_never receiver p names ts owner other =
      never_if operand_node (is_outside_name (first (behind ts))) _ _
      (suffix_never i (outside_name (place_at (behind ts)) receiver) names (behind (behind ts)) owner)
      (never_if operand_node (is_name_word (first (behind ts))) _ _ (plain_never receiver p names ts owner other)
      (never_error operand_node (length (behind ts))))

  dotted_never : (receiver : Node) (p : Postfix) (names : Names) (ts : Tokens) (owner : DoOwner)
      → (is_scoped_constant p (behind ts) ≡ true → is_expression receiver ≡ false)
      → Never operand_node (dotted i receiver p names ts owner)
  dotted_never receiver p names ts owner other =
      never_if operand_node (not (scoped p) && is_open_parenthesis (first (behind ts))) _ _
      (called_never receiver p names ts) (named_never receiver p names ts owner other)

  pub postfixed_never : (receiver : Node) (p : Postfix) (names : Names) (ts : Tokens) (owner : DoOwner)
      → is_expression receiver ≡ false → Never operand_node (postfixed i receiver p names ts owner)
  unfolding postfixed
  postfixed_never receiver postfixes.Index names ts owner other = indexed_never receiver names ts other
  postfixed_never receiver postfixes.Dot names ts owner other =
      dotted_never receiver postfixes.Dot names ts owner (λ h. other)
  postfixed_never receiver postfixes.Safe names ts owner other =
      dotted_never receiver postfixes.Safe names ts owner (λ h. other)
  postfixed_never receiver postfixes.Scope names ts owner other =
      dotted_never receiver postfixes.Scope names ts owner (λ h. other)

  turn_never : (p : Option Postfix) (go : OperandNode → Names → Tokens → Read OperandNode) (o : OperandNode)
      (names : Names) (ts : Tokens) (owner : DoOwner)
      → ((x : OperandNode) (k : Names) (m : Tokens) → is_expression (operand_node x) ≡ false
      → Never operand_node (go x k m)) → is_expression (operand_node o) ≡ false
      → Never operand_node (chain_turn i p go o names ts owner)
  turn_never None go o names ts owner again other = never_ok operand_node o names ts other
  turn_never (Some p) go o names ts owner again other =
      never_after operand_node (postfixed i (operand_node o) p names ts owner) _
      (λ x k m h. again x k m (never_false operand_node _ x k m
      (postfixed_never (operand_node o) p names ts owner other) h))

  pub chain_never : (n : ℕ) (commands : Bool) (owner : DoOwner) (o : OperandNode) (names : Names) (ts : Tokens)
      → is_expression (operand_node o) ≡ false → Never operand_node (chain_within i n commands owner o names ts)
  unfolding chain_within
  chain_never zero commands owner o names ts other = never_error operand_node 0
  chain_never (suc n) commands owner o names ts other =
      turn_never (continues o ts commands) (chain_within i n commands owner) o names ts owner
      (λ x k m no. chain_never n commands owner x k m no) other

  module _ (sound : IsSound i) (place : Place) (owner : DoOwner) (names : Names) (ts : Tokens) where
    -- a primary with postfixes
    abbrev SoundPrimary : OperandNode → Names → Tokens → Type 0
    SoundPrimary o known rest = (n : Node) × (o ≡ whole n) × Derives (Primary place owner n) names ts known rest

    indexed_sound : (left : Node) (k : Names) (m : Tokens) (o : OperandNode) (known : Names) (rest : Tokens)
        → Derives (Primary place owner left) names ts k m → first m ≡ words.Mark marks.OpenBracket
        → indexed i left k m ≡ Ok (o, known, rest) → is_expression (operand_node o) ≡ true → SoundPrimary o known rest
    indexed_sound left k m o known rest derived there h is =
        let r = bind_ok (elements i k (behind m) wanted.CloseBracket) _ (o, known, rest) h in
        let made : Node = node.index left (items_of r.0.0) in
        let e = read_same (whole made) o r.0.1 known r.0.2 rest r.2 in
        let whole_is : is_expression made ≡ true = subst (λ p. is_expression (operand_node p) ≡ true) (sym e.0) is in
        let l = elements_sound i sound k (behind m) wanted.CloseBracket r.0.0 r.0.1 r.0.2 r.1
        (and_parts (is_expression left) (are_expressions (items_of r.0.0)) whole_is).1 in
        let d = ListIndexed place owner names k r.0.1 ts m l.1 left l.0 derived there l.4 l.3
        (closes_bracket (first (skip_newlines l.1)) l.5) in
        let last = subst (λ (q : Tokens). Derives
        (Primary place owner (node.index left (items_of (whole_items l.0.items l.0.pairs)))) names ts r.0.1 q) l.6 d
        in
        let same = subst (λ (is : List (Item Node)). Derives (Primary place owner (node.index left (items_of is))) names
        ts r.0.1 r.0.2) l.2 last in
        carry SoundPrimary (whole made) o r.0.1 known r.0.2 rest r.2 (made, refl, same)

    scoped_sound : (left : Node) (k : Names) (m : Tokens) (o : OperandNode) (known : Names) (rest : Tokens)
        → Derives (Primary place owner left) names ts k m → first m ≡ words.Mark marks.ColonColon
        → named i left postfixes.Scope k m owner ≡ Ok (o, known, rest) → is_expression (operand_node o) ≡ true
        → SoundPrimary o known rest
    scoped_sound left k m o known rest derived there h is =
        by_name (is_outside_name (first (behind m))) (is_name_word (first (behind m))) h
      where
        by_constant : (b : Bool) → is_scoped_constant postfixes.Scope (behind m) ≡ b
            → (if b then Ok (whole (node.scoped_constant left (bytes_at (behind m))), k, behind (behind m)) else suffix
            i (postfix_callee left (bytes_at (behind m)) postfixes.Scope (place_at m)) k (behind (behind m)) owner)
            ≡ Ok (o, known, rest)
            → SoundPrimary o known rest
        by_constant true constant read =
            let p = and_parts (is_constant (first (behind m))) (not (opens_arguments (behind (behind m)))) constant in
            let d = ScopedConstant place owner names k ts m left derived there (a_constant (first (behind m)) p.0)
            (not_true (opens_arguments (behind (behind m))) p.1) in
            carry SoundPrimary (whole (node.scoped_constant left (bytes_at (behind m)))) o k known (behind (behind m))
            rest read (node.scoped_constant left (bytes_at (behind m)), refl, d)
        by_constant false constant read = absurd
            (suffix_never i (postfix_callee left (bytes_at (behind m)) postfixes.Scope (place_at m)) k
            (behind (behind m)) owner o known rest read is)

        by_name : (a b : Bool) → (if a then suffix i (outside_name (place_at (behind m)) left) k (behind (behind m))
            owner else (if b then plain_named i left postfixes.Scope k m owner else Err (length (behind m)))) ≡ Ok
            (o, known, rest) → SoundPrimary o known rest
        by_name true b read = absurd (suffix_never i (outside_name (place_at (behind m)) left) k (behind (behind m))
            owner o known rest read is)
        by_name false true read = by_constant (is_scoped_constant postfixes.Scope (behind m)) refl read
        by_name false false read = err_is_none (length (behind m)) (o, known, rest) read

    pub postfix_sound : (p : Postfix) (left : Node) (k : Names) (m : Tokens) (o : OperandNode) (known : Names)
        (rest : Tokens) → Derives (Primary place owner left) names ts k m → postfix_at (first m) ≡ Some p
        → postfixed i left p k m owner ≡ Ok (o, known, rest) → is_expression (operand_node o) ≡ true
        → SoundPrimary o known rest
    unfolding postfixed
    postfix_sound postfixes.Index left k m o known rest derived there h is =
        indexed_sound left k m o known rest derived (index_word (first m) (ap is_index there)) h is
    postfix_sound postfixes.Scope left k m o known rest derived there h is =
        scoped_sound left k m o known rest derived (scope_word (first m) (ap is_scope there)) h is
    postfix_sound postfixes.Dot left k m o known rest derived there h is =
        absurd (dotted_never left postfixes.Dot k m owner (λ e. differs (sym e)) o known rest h is)
    postfix_sound postfixes.Safe left k m o known rest derived there h is =
        absurd (dotted_never left postfixes.Safe k m owner (λ e. differs (sym e)) o known rest h is)

    abbrev pub SoundOperand : OperandNode → Names → Tokens → Type 0
    SoundOperand o known rest = (n : Node) × (o ≡ whole n) × Derives (Operand place owner n) names ts known rest

    turn_sound : prefix_at ts ≡ None → (n : ℕ) (commands : Bool) (p : Option Postfix) (left : Node) (k : Names)
        (m : Tokens) (o : OperandNode) (known : Names) (rest : Tokens)
        → ((x : Node) (l : Names) (q : Tokens) → Derives (Primary place owner x) names ts l q
        → chain_within i n commands owner (whole x) l q ≡ Ok (o, known, rest) → SoundOperand o known rest)
        → postfix_at (first m) ≡ p → Derives (Primary place owner left) names ts k m
        → chain_turn i p (chain_within i n commands owner) (whole left) k m owner ≡ Ok (o, known, rest)
        → is_expression (operand_node o) ≡ true → SoundOperand o known rest
    turn_sound none n commands None left k m o known rest again there derived h is =
        carry SoundOperand (whole left) o k known m rest h
        (left, refl, WithPostfixes place owner names k ts m left none derived there)
    turn_sound none n commands (Some p) left k m o known rest again there derived h is =
        let r = bind_ok (postfixed i left p k m owner) _ (o, known, rest) h in
        elim (cases_Bool (is_expression (operand_node r.0.0))) [
          | inl inner ↦
              let d = postfix_sound p left k m r.0.0 r.0.1 r.0.2 derived there r.1 inner in
              again d.0 r.0.1 r.0.2 d.2 (subst
              (λ q. chain_within i n commands owner q r.0.1 r.0.2 ≡ Ok (o, known, rest)) d.1 r.2)
          | inr other ↦ absurd (chain_never n commands owner r.0.0 r.0.1 r.0.2 other o known rest r.2 is)
        ]

    tail_sound : prefix_at ts ≡ None → (n : ℕ) (commands : Bool) (left : Node) (k : Names) (m : Tokens)
        (o : OperandNode) (known : Names) (rest : Tokens)
        → Derives (Primary place owner left) names ts k m
        → chain_within i n commands owner (whole left) k m ≡ Ok (o, known, rest)
        → is_expression (operand_node o) ≡ true → SoundOperand o known rest
    unfolding chain_within
    tail_sound none zero commands left k m o known rest derived h is = err_is_none 0 (o, known, rest) h
    tail_sound none (suc n) commands left k m o known rest derived h is =
        let turned : chain_turn i (postfix_at (first m)) (chain_within i n commands owner) (whole left) k m owner ≡ Ok
        (o, known, rest) =
        subst (λ p. chain_turn i p (chain_within i n commands owner) (whole left) k m owner ≡ Ok (o, known, rest))
        (whole_continues left m commands) h in
        turn_sound none n commands (postfix_at (first m)) left k m o known rest
        (λ x l q d e. tail_sound none n commands x l q o known rest d e is) refl derived turned is

    chain_sound : prefix_at ts ≡ None → (commands : Bool) (o : OperandNode) (known : Names) (rest : Tokens)
        → chain i names ts commands owner ≡ Ok (o, known, rest) → is_expression (operand_node o) ≡ true
        → SoundOperand o known rest
    unfolding chain
    chain_sound none commands o known rest h is =
        let r = bind_ok (primary i names ts owner) _ (o, known, rest) h in
        elim (cases_Bool (is_expression (operand_node r.0.0))) [
          | inl there ↦
              let p = primary_sound i sound place owner names ts r.0.0 r.0.1 r.0.2 r.1 there in
              tail_sound none (length r.0.2 + 1) commands p.0 r.0.1 r.0.2 o known rest p.2
              (subst (λ q. chain_within i (length r.0.2 + 1) commands owner q r.0.1 r.0.2 ≡ Ok (o, known, rest)) p.1
              r.2) is
          | inr other ↦ absurd (chain_never (length r.0.2 + 1) commands owner r.0.0 r.0.1 r.0.2 other o known rest r.2
              is)
        ]

    by_prefix : (p : Option Prefix) → Plainly place ts → prefix_at ts ≡ p
        → (commands : Bool) (o : OperandNode) (known : Names) (rest : Tokens)
        → operand_with i p names ts commands owner ≡ Ok (o, known, rest) → is_expression (operand_node o) ≡ true
        → SoundOperand o known rest
    by_prefix None plain there commands o known rest h is = chain_sound there commands o known rest h is
    by_prefix (Some p) plain there commands o known rest h is =
        let r = bind_ok (i.operation names (behind ts) (operands.operand_level p) owner) _ (o, known, rest) h in
        let e = read_same (whole (prefix_node p r.0.0)) o r.0.1 known r.0.2 rest r.2 in
        let part = prefix_part p r.0.0 (subst (λ q. is_expression (operand_node q) ≡ true) (sym e.0) is) in
        let tight : is_inner (operands.operand_level p) ≡ true = rw (same_level p) (inner_level p) in
        let inner = sound.operation names r.0.1 (behind ts) r.0.2 (operands.operand_level p) owner r.0.0 tight r.1 part
        in
        let level = subst (λ l. Derives (Operation places.Argument l owner r.0.0) names (behind ts) r.0.1 r.0.2)
        (same_level p) inner in
        let placed = subst (λ q. Derives (Operation q (operand_level p) owner r.0.0) names (behind ts) r.0.1 r.0.2)
        (sym (plain_place p place (λ e. plain (there ∙ ap Some e)))) level in
        carry SoundOperand (whole (prefix_node p r.0.0)) o r.0.1 known r.0.2 rest r.2
        (prefix_node p r.0.0, refl, Prefixed place owner p names r.0.1 ts r.0.2 r.0.0 there placed)

    pub operand_sound : Plainly place ts → (commands : Bool) (o : OperandNode) (known : Names) (rest : Tokens)
        → operand i names ts commands owner ≡ Ok (o, known, rest) → is_expression (operand_node o) ≡ true
        → SoundOperand o known rest
    unfolding operand
    operand_sound plain commands o known rest h is = by_prefix (prefix_at ts) plain refl commands o known rest h is
