-- A primary that is derived is read.
use Rattle.std.proofs.Common.{◌≡◌, ◌-◌, ◌≤◌, true, false, length, Ok, refl, sym, ap, subst, ◌∙◌, arith}
use Rattle.rb_syntax.specs.declared.keyword.Keyword.TheVariants as keywords
use Rattle.rb_syntax.specs.declared.punctuator.Punctuator.TheVariants as marks
use Rattle.parser_tree.specs.Node as node
use Rattle.parser_tree.specs.Node.{Node}
use Rattle.parser_tokens.specs.Tokens.{first, behind, bytes_at, integer_at, place_at}
use Rattle.parser_tokens.specs.Expect.{skip_newlines}
use Rattle.parser_tokens.specs.Operators.{is_sign}
use Rattle.parser_tokens.specs.Starts.{makes_call}
use Rattle.parser_tokens.specs.declared.word.Word.{Word}
use Rattle.parser_tokens.specs.declared.word.Word.TheVariants as words
use Rattle.parser_ahead.specs.Names.{is_known}
use Rattle.parser_ahead.specs.Primary.{primary_at}
use Rattle.parser_ahead.specs.declared.primary.DoOwner.{DoOwner}
use Rattle.parser_ahead.specs.declared.primary.DoOwner.TheVariants as owners
use Rattle.parser_ahead.specs.declared.primary.Place.{Place}
use Rattle.parser_ahead.specs.declared.primary.Place.TheVariants as places
use Rattle.parser_nodes.specs.Leaf.{leaf, positive_node, negative_node}
use Rattle.parser_nodes.specs.Calls.{whole}
use Rattle.parser_operands.specs.Operands.{compound, primary_by, primary}
use Rattle.parser_forms.specs.Reading.{Names, Tokens, Inside}
use Rattle.rb_parser.specs.Levels.{levels}
use Rattle.parser_laws.specs.Rules.{Primary as PrimaryRule, Statements, Expression}
use Rattle.parser_laws.proofs.Newlines.{newlines_within, newline_calm}
use Rattle.parser_laws.proofs.Facts.{is_head, Fact, levels_at, word_taken, behind_within, at_once}
use Rattle.parser_laws.proofs.Heads.{head_not_finish, head_opens}

module _ (place : Place) (owner : DoOwner) (names : Names) (ts : Tokens) where
  -- a primary of one word
  abbrev pub Alone : Node → Type 0
  Alone n = Fact (PrimaryRule place owner n) names ts names (behind ts)

  pub word_fact : (w : Word) (n : Node) → first ts ≡ w → is_head w ≡ true
      → ((i : Inside) → primary i names ts owner ≡ Ok (whole n, names, behind ts)) → Alone n
  word_fact w n there h read = (
    word_taken w ts there (head_not_finish w h),
    head_opens ts (subst (λ x. is_head x ≡ true) (sym there) h),
    λ d room. at_once (levels d) place owner names names ts (behind ts) n (read (levels d)),
  )

  pub nil : first ts ≡ words.Key keywords.Nil → Alone node.nil
  unfolding primary_at primary_by compound leaf
  nil is = word_fact _ _ is refl (λ i. rw is (rw is refl))

  pub truth : first ts ≡ words.Key keywords.True → Alone node.truth
  unfolding primary_at primary_by compound leaf
  truth is = word_fact _ _ is refl (λ i. rw is (rw is refl))

  pub falsehood : first ts ≡ words.Key keywords.False → Alone node.falsehood
  unfolding primary_at primary_by compound leaf
  falsehood is = word_fact _ _ is refl (λ i. rw is (rw is refl))

  pub self_reference : first ts ≡ words.Key keywords.SelfReference → Alone node.self_reference
  unfolding primary_at primary_by compound leaf
  self_reference is = word_fact _ _ is refl (λ i. rw is (rw is refl))

  pub integer : first ts ≡ words.Integer → Alone (positive_node (integer_at ts) (place_at ts))
  unfolding primary_at primary_by compound leaf
  integer is = word_fact _ _ is refl (λ i. rw is (rw is refl))

  pub symbol : first ts ≡ words.Symbol → Alone (node.symbol (bytes_at ts))
  unfolding primary_at primary_by compound leaf
  symbol is = word_fact _ _ is refl (λ i. rw is (rw is refl))

  pub instance_variable : first ts ≡ words.InstanceVariable → Alone (node.instance_variable (bytes_at ts))
  unfolding primary_at primary_by compound leaf
  instance_variable is = word_fact _ _ is refl (λ i. rw is (rw is refl))

  pub global_variable : first ts ≡ words.GlobalVariable → Alone (node.global_variable (bytes_at ts))
  unfolding primary_at primary_by compound leaf
  global_variable is = word_fact _ _ is refl (λ i. rw is (rw is refl))

  pub constant : first ts ≡ words.Constant → makes_call (behind ts) ≡ false → Alone (node.constant (bytes_at ts))
  unfolding primary_at primary_by compound leaf
  constant is closed = word_fact _ _ is refl (λ i. rw (is, closed) (rw is refl))

  pub local : first ts ≡ words.Identifier → is_known (bytes_at ts) names ≡ true → makes_call (behind ts) ≡ false
      → Alone (node.local (bytes_at ts))
  unfolding primary_at primary_by compound leaf
  local is known closed = word_fact _ _ is refl (λ i. rw (is, known, closed) refl)

  pub negative : first ts ≡ words.Mark marks.Minus → is_sign (behind ts) ≡ true
      → Fact (PrimaryRule place owner (negative_node (integer_at (behind ts)) (place_at ts))) names ts names
      (behind (behind ts))
  unfolding primary_at primary_by compound leaf
  negative is signed =
      let one = word_taken (words.Mark marks.Minus) ts is refl in
      let two : length (behind (behind ts)) ≤ length (behind ts) = behind_within (behind ts) in (
        omega arith,
        rw is refl,
        λ d room. at_once (levels d) place owner names names ts (behind (behind ts))
            (negative_node (integer_at (behind ts)) (place_at ts)) (rw is (rw (is, signed) refl)),
      )

  pub group : (known : Names) (rest : Tokens) (n : Node) → first ts ≡ words.Mark marks.OpenParenthesis
      → Fact (Statements n) names (behind ts) known rest → first rest ≡ words.Mark marks.CloseParenthesis
      → Fact (PrimaryRule place owner n) names ts known (behind rest)
  unfolding primary_at primary_by compound leaf
  group known rest n is inner closing =
      let one = word_taken (words.Mark marks.OpenParenthesis) ts is refl in
      let last = word_taken (words.Mark marks.CloseParenthesis) rest closing refl in
      let fewer = inner.0 in (
        omega arith,
        rw is refl,
        λ d room.
            let below : (levels d).statements names (behind ts) ≡ Ok (n, known, rest) =
            ap (λ (i : Inside). i.statements names (behind ts)) (levels_at d (omega arith))
            ∙ inner.2 (d - 1) (omega arith) in
            at_once (levels d) place owner names known ts (behind rest) n (rw (is, below, closing) refl),
      )

  pub defined_group : (known : Names) (rest : Tokens) (n : Node) → first ts ≡ words.Key keywords.Defined
      → first (behind ts) ≡ words.Mark marks.OpenParenthesis
      → Fact (Expression places.Command owners.Call n) names (behind (behind ts)) known rest
      → first (skip_newlines rest) ≡ words.Mark marks.CloseParenthesis
      → Fact (PrimaryRule place owner (node.defined n)) names ts known (behind (skip_newlines rest))
  unfolding primary_at primary_by compound
  defined_group known rest n is opened inner closing =
      let one = word_taken (words.Key keywords.Defined) ts is refl in
      let two = word_taken (words.Mark marks.OpenParenthesis) (behind ts) opened refl in
      let last = word_taken (words.Mark marks.CloseParenthesis) (skip_newlines rest) closing refl in
      let skipped = newlines_within (length rest) rest in
      let fewer = inner.0 in (
        omega arith,
        rw (is, opened) refl,
        λ d room.
            let below : (levels d).expression names (behind (behind ts)) places.Command owners.Call ≡ Ok
            (n, known, rest) =
            ap (λ (i : Inside). i.expression names (behind (behind ts)) places.Command owners.Call)
            (levels_at d (omega arith)) ∙ inner.2 (d - 1) (omega arith)
            (newline_calm (words.Mark marks.CloseParenthesis) refl (length rest) rest closing) in
            at_once (levels d) place owner names known ts (behind (skip_newlines rest)) (node.defined n)
            (rw (is, opened, below, closing) refl),
      )
