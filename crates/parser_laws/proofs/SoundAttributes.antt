-- A method of a value before an assignment is derived as a target.
use Rattle.std.proofs.Common.{◌≡◌, ℕ, zero, suc, ◌+◌, Bool, true, false, not, ◌&&◌, List, length, Option, Some, None, Ok, Err, if◌then◌else◌, inl, inr, refl, sym, subst, ◌∙◌}
use Rattle.std.proofs.lemmas.Bool.{cases_Bool}
use Rattle.rb_syntax.specs.declared.core_form.Item.{Item}
use Rattle.rb_syntax.specs.declared.punctuator.Punctuator.{Punctuator}
use Rattle.rb_syntax.specs.declared.punctuator.Punctuator.TheVariants as marks
use Rattle.parser_tree.specs.Node as node
use Rattle.parser_tree.specs.Node.{Name, Node, Nodes}
use Rattle.parser_tokens.specs.Tokens.{first, behind, bytes_at, place_at}
use Rattle.parser_tokens.specs.Operators.{prefix_at}
use Rattle.parser_tokens.specs.Starts.{opens_arguments, is_open_parenthesis, postfix_at}
use Rattle.parser_tokens.specs.declared.expect.Wanted.TheVariants as wanted
use Rattle.parser_tokens.specs.declared.starts.Postfix.{Postfix}
use Rattle.parser_tokens.specs.declared.starts.Postfix.TheVariants as postfixes
use Rattle.parser_tokens.specs.declared.word.Word.{Word}
use Rattle.parser_tokens.specs.declared.word.Word.TheVariants as words
use Rattle.parser_ahead.specs.Primary.{primary_at, block_at, is_name_word}
use Rattle.parser_ahead.specs.declared.primary.BlockStyle.{BlockStyle}
use Rattle.parser_ahead.specs.declared.primary.DoOwner.{DoOwner}
use Rattle.parser_ahead.specs.declared.primary.Place.TheVariants as places
use Rattle.parser_ahead.specs.declared.primary.Primary.{Primary}
use Rattle.parser_ahead.specs.declared.primary.Primary.TheVariants as primaries
use Rattle.parser_nodes.specs.Calls.{CalleeNode, name_callee, method_callee, super_callee, outside_callee, OperandNode, whole, callee, Given, operand_node, target_node, target_names}
use Rattle.parser_forms.specs.Brackets.{call_arguments, elements}
use Rattle.parser_operands.specs.Operands.{continues, has_block, postfix_callee, outside_name, scoped, is_scoped_constant, is_outside_name, with_block_at, suffix, compound, primary_by, primary, called, plain_named, named, dotted, postfixed, chain_turn, chain_within, chain}
use Rattle.parser_forms.specs.Reading.{Names, Tokens, Inside}
use Rattle.rb_base.specs.Result.{◌>>=◌}
use Rattle.parser_laws.specs.Rules.{Primary as PrimaryRule, Target}
use Rattle.parser_laws.specs.Derives.{Derives, MethodTarget}
use Rattle.parser_laws.specs.Expressions.{is_expression}
use Rattle.parser_laws.proofs.Results.{bind_ok, read_same, carry, clash, differs, never_false, err_is_none, same_read, Always, always_bind, always_ok, always_error, always_if}
use Rattle.parser_laws.proofs.Sound.{IsSound}
use Rattle.parser_laws.proofs.SoundPrimary.{primary_sound}
use Rattle.parser_laws.proofs.SoundPostfix.{whole_continues, postfixed_never, postfix_sound}

abbrev pub is_whole : OperandNode → Bool
is_whole (whole n) = true
is_whole (callee c) = false

-- a method of a value that is an expression, not behind ::
abbrev pub is_attribute : OperandNode → Bool
is_attribute (whole n) = false
is_attribute (callee (name_callee x b)) = false
is_attribute (callee (method_callee r x s)) = not s && is_expression r
is_attribute (callee (super_callee at)) = false
is_attribute (callee (outside_callee o at es)) = false

pub attribute_is : (o : OperandNode) → is_attribute o ≡ true → is_whole o ≡ false
attribute_is (whole n) h = differs (sym h)
attribute_is (callee c) h = refl

abbrev is_dot : Option Postfix → Bool
is_dot (Some postfixes.Dot) = true
is_dot (Some postfixes.Safe) = false
is_dot (Some postfixes.Scope) = false
is_dot (Some postfixes.Index) = false
is_dot None = false

mark_dot : (p : Punctuator) → is_dot (postfix_at (words.Mark p)) ≡ true → words.Mark p ≡ words.Mark marks.Dot
mark_dot marks.Dot h = refl
mark_dot p h = differs (sym h)

dot_word : (w : Word) → is_dot (postfix_at w) ≡ true → w ≡ words.Mark marks.Dot
dot_word (words.Mark p) h = mark_dot p h
dot_word w h = differs (sym h)

module _ (i : Inside) where
  taken_whole : (style : BlockStyle) (c : CalleeNode) (given : Given) (names : Names) (ts : Tokens)
      → Always is_whole (with_block_at i (Some style) c given names ts)
  taken_whole style c given names ts =
      always_if is_whole (has_block given) _ _ (always_error is_whole (length ts))
      (always_bind is_whole (i.block names ts style) _ (λ r. always_ok is_whole _ r.1 r.2 refl))

  given_whole : (style : Option BlockStyle) (c : CalleeNode) (g : List (Item Node) × Nodes) (names : Names)
      (ts : Tokens) → Always is_whole (with_block_at i style c (Some g) names ts)
  given_whole None c g names ts = always_ok is_whole _ names ts refl
  given_whole (Some style) c g names ts = taken_whole style c (Some g) names ts

  -- a callee without arguments and without a block stays itself
  alone : (style : Option BlockStyle) (c : CalleeNode) (names : Names) (ts : Tokens) (o : OperandNode) (known : Names)
      (rest : Tokens)
      → with_block_at i style c None names ts ≡ Ok (o, known, rest) → is_whole o ≡ false
      → same_read (Ok (callee c, names, ts)) (Ok (o, known, rest))
  alone None c names ts o known rest h other = h
  alone (Some style) c names ts o known rest h other =
      clash (is_whole o) (taken_whole style c None names ts o known rest h) other

  pub suffix_alone : (c : CalleeNode) (names : Names) (ts : Tokens) (owner : DoOwner) (o : OperandNode) (known : Names)
      (rest : Tokens)
      → suffix i c names ts owner ≡ Ok (o, known, rest) → is_whole o ≡ false
      → same_read (Ok (callee c, names, ts)) (Ok (o, known, rest))
  unfolding suffix
  suffix_alone c names ts owner o known rest = by_test (opens_arguments ts)
    where
      by_test : (b : Bool) → (if b then (call_arguments i names (behind ts) >>=
          (λ r. with_block_at i (block_at owner r.2) c (Some r.0) r.1 r.2)) else with_block_at i (block_at owner ts) c
          None names ts) ≡ Ok (o, known, rest)
          → is_whole o ≡ false → same_read (Ok (callee c, names, ts)) (Ok (o, known, rest))
      by_test true h other =
          clash (is_whole o) (always_bind is_whole (call_arguments i names (behind ts))
          (λ r. with_block_at i (block_at owner r.2) c (Some r.0) r.1 r.2)
          (λ r. given_whole (block_at owner r.2) c r.0 r.1 r.2) o known rest h) other
      by_test false h other = alone (block_at owner ts) c names ts o known rest h other

  -- a method that is read is the callee that was given
  suffix_attribute : (c : CalleeNode) (names : Names) (ts : Tokens) (owner : DoOwner) (o : OperandNode) (known : Names)
      (rest : Tokens)
      → suffix i c names ts owner ≡ Ok (o, known, rest) → is_attribute o ≡ true → (is_attribute (callee c) ≡ true)
      × same_read (Ok (callee c, names, ts)) (Ok (o, known, rest))
  suffix_attribute c names ts owner o known rest h is =
      let same = suffix_alone c names ts owner o known rest h (attribute_is o is) in
      (subst (λ p. is_attribute p ≡ true) (sym (read_same (callee c) o names known ts rest same).0) is, same)

  -- a method behind . is one of what stands before it
  abbrev Dotted : Node → Postfix → Names → Tokens → OperandNode → Names → Tokens → Type 0
  Dotted receiver p k m o known rest =
      (is_name_word (first (behind m)) ≡ true)
      × (is_attribute (callee (postfix_callee receiver (bytes_at (behind m)) p (place_at m))) ≡ true)
      × same_read (Ok (callee (postfix_callee receiver (bytes_at (behind m)) p (place_at m)), k, behind (behind m)))
      (Ok (o, known, rest))

  not_whole : (o : OperandNode) {A : Type 0} → is_attribute o ≡ true → is_whole o ≡ true → A
  not_whole o is there = clash (is_whole o) there (attribute_is o is)

  named_attribute : (receiver : Node) (p : Postfix) (k : Names) (m : Tokens) (owner : DoOwner) (o : OperandNode)
      (known : Names) (rest : Tokens)
      → named i receiver p k m owner ≡ Ok (o, known, rest) → is_attribute o ≡ true → Dotted receiver p k m o known rest
  named_attribute receiver p k m owner o known rest h is =
      by_name (is_outside_name (first (behind m))) (is_name_word (first (behind m))) refl h
    where
      by_constant : (b : Bool) → is_name_word (first (behind m)) ≡ true
          → (if b then Ok (whole (node.scoped_constant receiver (bytes_at (behind m))), k, behind (behind m)) else
          suffix i (postfix_callee receiver (bytes_at (behind m)) p (place_at m)) k (behind (behind m)) owner) ≡ Ok
          (o, known, rest)
          → Dotted receiver p k m o known rest
      by_constant true there read = not_whole o is
          (always_ok is_whole (whole (node.scoped_constant receiver (bytes_at (behind m)))) k (behind (behind m)) refl o
          known rest read)
      by_constant false there read =
          let s = suffix_attribute (postfix_callee receiver (bytes_at (behind m)) p (place_at m)) k (behind (behind m))
          owner o known rest read is in
          (there, s.0, s.1)

      by_name : (a b : Bool) → is_name_word (first (behind m)) ≡ b
          → (if a then suffix i (outside_name (place_at (behind m)) receiver) k (behind (behind m)) owner else
          (if b then plain_named i receiver p k m owner else Err (length (behind m)))) ≡ Ok (o, known, rest)
          → Dotted receiver p k m o known rest
      by_name true b there read = differs (sym
          (suffix_attribute (outside_name (place_at (behind m)) receiver) k (behind (behind m)) owner o known rest read
          is).0)
      by_name false true there read = by_constant (is_scoped_constant p (behind m)) there read
      by_name false false there read = err_is_none (length (behind m)) (o, known, rest) read

  dotted_attribute : (receiver : Node) (p : Postfix) (k : Names) (m : Tokens) (owner : DoOwner) (o : OperandNode)
      (known : Names) (rest : Tokens)
      → dotted i receiver p k m owner ≡ Ok (o, known, rest) → is_attribute o ≡ true → Dotted receiver p k m o known rest
  dotted_attribute receiver p k m owner o known rest h is =
      by_call (not (scoped p) && is_open_parenthesis (first (behind m))) h
    where
      by_call : (b : Bool) → (if b then called i receiver p k m else named i receiver p k m owner) ≡ Ok (o, known, rest)
          → Dotted receiver p k m o known rest
      by_call true read = not_whole o is (always_bind is_whole (call_arguments i k (behind (behind m))) _
          (λ r. always_ok is_whole _ r.1 r.2 refl) o known rest read)
      by_call false read = named_attribute receiver p k m owner o known rest read is

  -- which it is behind a dot alone, and of an expression
  postfixed_attribute : (receiver : Node) (p : Postfix) (k : Names) (m : Tokens) (owner : DoOwner) (o : OperandNode)
      (known : Names) (rest : Tokens)
      → postfixed i receiver p k m owner ≡ Ok (o, known, rest) → is_attribute o ≡ true → (is_dot (Some p) ≡ true)
      × (is_expression receiver ≡ true) × Dotted receiver postfixes.Dot k m o known rest
  unfolding postfixed
  postfixed_attribute receiver postfixes.Index k m owner o known rest h is =
      not_whole o is (always_bind is_whole (elements i k (behind m) wanted.CloseBracket) _
      (λ r. always_ok is_whole _ r.1 r.2 refl) o known rest h)
  postfixed_attribute receiver postfixes.Dot k m owner o known rest h is = let d =
      dotted_attribute receiver postfixes.Dot k m owner o known rest h is in (refl, d.1, d)
  postfixed_attribute receiver postfixes.Safe k m owner o known rest h is =
      differs (sym (dotted_attribute receiver postfixes.Safe k m owner o known rest h is).1)
  postfixed_attribute receiver postfixes.Scope k m owner o known rest h is =
      differs (sym (dotted_attribute receiver postfixes.Scope k m owner o known rest h is).1)

  turn_stays : (n : ℕ) (commands : Bool) (owner : DoOwner) (p : Option Postfix) (o : OperandNode) (k : Names)
      (m : Tokens) (x : OperandNode) (known : Names) (rest : Tokens)
      → ((y : OperandNode) (l : Names) (q : Tokens) → is_expression (operand_node y) ≡ false
      → chain_within i n commands owner y l q ≡ Ok (x, known, rest)
      → same_read (Ok (y, l, q)) (Ok (x, known, rest)))
      → chain_turn i p (chain_within i n commands owner) o k m owner ≡ Ok (x, known, rest)
      → is_expression (operand_node o) ≡ false → is_attribute x ≡ true
      → same_read (Ok (o, k, m)) (Ok (x, known, rest))
  turn_stays n commands owner None o k m x known rest again h other is = h
  turn_stays n commands owner (Some p) o k m x known rest again h other is =
      let r = bind_ok (postfixed i (operand_node o) p k m owner) _ (x, known, rest) h in
      let no_expression = never_false operand_node (postfixed i (operand_node o) p k m owner) r.0.0 r.0.1 r.0.2
      (postfixed_never i (operand_node o) p k m owner other) r.1 in
      let same = again r.0.0 r.0.1 r.0.2 no_expression r.2 in
      let there : is_attribute r.0.0 ≡ true =
      subst (λ y. is_attribute y ≡ true) (sym (read_same r.0.0 x r.0.1 known r.0.2 rest same).0) is in
      clash (is_expression (operand_node o)) (postfixed_attribute (operand_node o) p k m owner r.0.0 r.0.1 r.0.2 r.1
      there).1 other

  -- behind what is no expression no postfix makes a method of one
  chain_stays : (n : ℕ) (commands : Bool) (owner : DoOwner) (o : OperandNode) (k : Names) (m : Tokens) (x : OperandNode)
      (known : Names) (rest : Tokens)
      → chain_within i n commands owner o k m ≡ Ok (x, known, rest) → is_expression (operand_node o) ≡ false
      → is_attribute x ≡ true → same_read (Ok (o, k, m)) (Ok (x, known, rest))
  unfolding chain_within
  chain_stays zero commands owner o k m x known rest h other is = err_is_none 0 (x, known, rest) h
  chain_stays (suc n) commands owner o k m x known rest h other is =
      turn_stays n commands owner (continues o m commands) o k m x known rest
      (λ y l q no h. chain_stays n commands owner y l q x known rest h no is) h other is

  -- no primary is a method of a value
  suffix_other : (c : CalleeNode) (names : Names) (ts : Tokens) (owner : DoOwner) (o : OperandNode) (known : Names)
      (rest : Tokens) {A : Type 0} → is_attribute (callee c) ≡ false → suffix i c names ts owner ≡ Ok (o, known, rest)
      → is_attribute o ≡ true → A
  suffix_other c names ts owner o known rest other h is =
      clash (is_attribute (callee c)) (suffix_attribute c names ts owner o known rest h is).0 other

  primary_other : (p : Primary) (names : Names) (ts : Tokens) (owner : DoOwner) (o : OperandNode) (known : Names)
      (rest : Tokens) {A : Type 0} → primary_by i p names ts owner ≡ Ok (o, known, rest) → is_attribute o ≡ true → A
  unfolding primary_by
  primary_other primaries.Name names ts owner o known rest h is =
      suffix_other _ names (behind ts) owner o known rest refl h is
  primary_other primaries.Local names ts owner o known rest h is =
      not_whole o is (always_ok is_whole (whole (node.local (bytes_at ts))) names (behind ts) refl o known rest h)
  primary_other primaries.OutsideName names ts owner o known rest h is =
      suffix_other _ names (behind ts) owner o known rest refl h is
  primary_other primaries.Super names ts owner o known rest h is =
      suffix_other (super_callee (place_at ts)) names (behind ts) owner o known rest refl h is
  primary_other p names ts owner o known rest h is =
      not_whole o is (always_bind is_whole (compound i p names ts owner) _ (λ r. always_ok is_whole _ r.1 r.2 refl) o
      known rest h)

  module _ (sound : IsSound i) (owner : DoOwner) (names : Names) (ts : Tokens) (start : prefix_at ts ≡ None) where
    abbrev AsTarget : OperandNode → Names → Tokens → Type 0
    AsTarget x known rest = Derives (Target owner (target_node x)) names ts (target_names x known) rest

    turn_target : (n : ℕ) (commands : Bool) (p : Option Postfix) (left : Node) (k : Names) (m : Tokens)
        (x : OperandNode) (known : Names) (rest : Tokens)
        → ((y : Node) (l : Names) (q : Tokens) → Derives (PrimaryRule places.Command owner y) names ts l q
        → chain_within i n commands owner (whole y) l q ≡ Ok (x, known, rest) → AsTarget x known rest)
        → postfix_at (first m) ≡ p → Derives (PrimaryRule places.Command owner left) names ts k m
        → chain_turn i p (chain_within i n commands owner) (whole left) k m owner ≡ Ok (x, known, rest)
        → is_attribute x ≡ true → AsTarget x known rest
    turn_target n commands None left k m x known rest again there derived h is =
        not_whole x is (always_ok is_whole (whole left) k m refl x known rest h)
    turn_target n commands (Some p) left k m x known rest again there derived h is =
        let r = bind_ok (postfixed i left p k m owner) _ (x, known, rest) h in
        elim (cases_Bool (is_expression (operand_node r.0.0))) [
          | inl inner ↦
              let d = postfix_sound i sound places.Command owner names ts p left k m r.0.0 r.0.1 r.0.2 derived there r.1
              inner in
              again d.0 r.0.1 r.0.2 d.2 (subst
              (λ q. chain_within i n commands owner q r.0.1 r.0.2 ≡ Ok (x, known, rest)) d.1 r.2)
          | inr other ↦
              let same = chain_stays n commands owner r.0.0 r.0.1 r.0.2 x known rest r.2 other is in
              let method : is_attribute r.0.0 ≡ true =
              subst (λ y. is_attribute y ≡ true) (sym (read_same r.0.0 x r.0.1 known r.0.2 rest same).0) is in
              let a = postfixed_attribute left p k m owner r.0.0 r.0.1 r.0.2 r.1 method in
              let dot : first m ≡ words.Mark marks.Dot =
              dot_word (first m) (subst (λ q. is_dot q ≡ true) (sym there) a.0) in
              let d = MethodTarget owner names k ts m left start derived dot a.2.0 in
              carry AsTarget (callee (method_callee left (bytes_at (behind m)) false)) x k known (behind (behind m))
              rest (a.2.2 ∙ same) d
        ]

    tail_target : (n : ℕ) (commands : Bool) (left : Node) (k : Names) (m : Tokens) (x : OperandNode) (known : Names)
        (rest : Tokens)
        → Derives (PrimaryRule places.Command owner left) names ts k m
        → chain_within i n commands owner (whole left) k m ≡ Ok (x, known, rest) → is_attribute x ≡ true
        → AsTarget x known rest
    unfolding chain_within
    tail_target zero commands left k m x known rest derived h is = err_is_none 0 (x, known, rest) h
    tail_target (suc n) commands left k m x known rest derived h is =
        let turned : chain_turn i (postfix_at (first m)) (chain_within i n commands owner) (whole left) k m owner ≡ Ok
        (x, known, rest) =
        subst (λ p. chain_turn i p (chain_within i n commands owner) (whole left) k m owner ≡ Ok (x, known, rest))
        (whole_continues left m commands) h in
        turn_target n commands (postfix_at (first m)) left k m x known rest
        (λ y l q d e. tail_target n commands y l q x known rest d e is) refl derived turned is

    -- a primary with postfixes that ends with a method of a value
    pub chain_target : (commands : Bool) (x : OperandNode) (known : Names) (rest : Tokens)
        → chain i names ts commands owner ≡ Ok (x, known, rest) → is_attribute x ≡ true → AsTarget x known rest
    unfolding chain
    chain_target commands x known rest h is =
        let r = bind_ok (primary i names ts owner) _ (x, known, rest) h in
        elim (cases_Bool (is_expression (operand_node r.0.0))) [
          | inl inner ↦
              let p = primary_sound i sound places.Command owner names ts r.0.0 r.0.1 r.0.2 r.1 inner in
              tail_target (length r.0.2 + 1) commands p.0 r.0.1 r.0.2 x known rest p.2
              (subst (λ q. chain_within i (length r.0.2 + 1) commands owner q r.0.1 r.0.2 ≡ Ok (x, known, rest)) p.1
              r.2) is
          | inr other ↦
              let same = chain_stays (length r.0.2 + 1) commands owner r.0.0 r.0.1 r.0.2 x known rest r.2 other is in
              let method : is_attribute r.0.0 ≡ true =
              subst (λ y. is_attribute y ≡ true) (sym (read_same r.0.0 x r.0.1 known r.0.2 rest same).0) is in
              primary_other (primary_at names ts) names ts owner r.0.0 r.0.1 r.0.2 r.1 method
        ]
