-- Values that are read as an expression are derived.
use Rattle.std.proofs.Common.{◌≡◌, ◌+◌, true, false, length, Ok, inl, inr, refl, sym, subst}
use Rattle.std.proofs.lemmas.Bool.{cases_Bool}
use Rattle.rb_syntax.specs.declared.keyword.Keyword.{Keyword}
use Rattle.rb_syntax.specs.declared.keyword.Keyword.TheVariants as keywords
use Rattle.rb_syntax.specs.declared.punctuator.Punctuator.TheVariants as marks
use Rattle.parser_tree.specs.Node.{Node}
use Rattle.parser_tokens.specs.Tokens.{first, behind}
use Rattle.parser_tokens.specs.Expect.{expect, is_wanted}
use Rattle.parser_tokens.specs.declared.expect.Wanted.TheVariants as wanted
use Rattle.parser_tokens.specs.declared.word.Word.{Word}
use Rattle.parser_tokens.specs.declared.word.Word.TheVariants as words
use Rattle.parser_ahead.specs.declared.primary.DoOwner.{DoOwner}
use Rattle.parser_ahead.specs.declared.primary.Place.{Place}
use Rattle.parser_ahead.specs.declared.primary.Place.TheVariants as places
use Rattle.parser_nodes.specs.Nodes.{choice_node}
use Rattle.parser_operands.specs.Operators.{operators, choice, question_at, value_from}
use Rattle.parser_forms.specs.Reading.{Names, Tokens, Inside}
use Rattle.parser_laws.specs.Rules.{Operand, Operation, Argument, is_question, is_taken, begins_jump}
use Rattle.parser_laws.specs.Derives.{Derives, OneOperand, Value, Conditional}
use Rattle.parser_laws.specs.Expressions.{is_expression}
use Rattle.parser_laws.proofs.Results.{bind_ok, then_ok, read_same, ok_is, carry, clash, Never, never_bind, never_after, never_ok}
use Rattle.parser_laws.proofs.ExpressionParts.{choice_parts}
use Rattle.parser_laws.proofs.Sound.{IsSound}
use Rattle.parser_laws.proofs.SoundLeaf.{itself}
use Rattle.parser_laws.proofs.SoundOperators.{operators_never, tail_sound}

colon_key : (k : Keyword) → is_wanted wanted.Colon (words.Key k) ≡ true → ⊥
colon_key keywords.End h = cc
colon_key k h = cc

a_colon : (w : Word) → is_wanted wanted.Colon w ≡ true → w ≡ words.Mark marks.Colon
a_colon (words.Mark marks.Colon) h = refl
a_colon (words.Key k) h = absurd (colon_key k h)
a_colon w h = absurd (cc)

choice_none : (test a b : Node) → is_expression test ≡ false → is_expression (choice_node test a b) ≡ false
choice_none test a b other =
    elim (cases_Bool (is_expression (choice_node test a b))) [
      | inl is ↦ clash (is_expression test) (choice_parts test a b is).0 other
      | inr other_is ↦ other_is
    ]

module _ (i : Inside) (owner : DoOwner) where
  choice_never : (test : Node) (names : Names) (ts : Tokens) → is_expression test ≡ false
      → Never itself (choice i test names ts owner)
  choice_never test names ts no_expression =
      never_bind itself (i.argument names ts owner) _
      (λ chosen. never_bind itself (expect wanted.Colon chosen.2) _ (λ rest.
      never_bind itself (i.argument chosen.1 rest owner) _
      (λ other. never_ok itself _ other.1 other.2 (choice_none test chosen.0 other.0 no_expression))))

  question_never : (w : Word) (test : Node) (names : Names) (ts : Tokens) → is_expression test ≡ false
      → Never itself (question_at i w test names ts owner)
  question_never (words.Mark marks.Question) test names ts other = choice_never test names (behind ts) other
  question_never w test names ts other = never_ok itself test names ts other

  pub value_never : (left : Node) (names : Names) (ts : Tokens) → is_expression left ≡ false
      → Never itself (value_from i left names ts owner)
  unfolding value_from
  value_never left names ts other =
      never_after itself (operators i left names ts 13 owner) _ (λ x k m h.
      question_never (first m) x k m (elim (cases_Bool (is_expression x)) [
        | inl is ↦ absurd (operators_never i 13 owner (length ts + 1) left names ts other x k m h is)
        | inr other_is ↦ other_is
      ]))

  module _ (sound : IsSound i) (place : Place) (before : Names) (start : Tokens)
      (jump : begins_jump place start ≡ false) where
    abbrev Sound : Node → Names → Tokens → Type 0
    Sound x known rest = Derives (Argument place owner x) before start known rest

    choice_sound : (test : Node) (names : Names) (ts : Tokens) (x : Node) (known : Names) (rest : Tokens)
        → Derives (Operation place 13 owner test) before start names ts → first ts ≡ words.Mark marks.Question
        → choice i test names (behind ts) owner ≡ Ok (x, known, rest) → is_expression x ≡ true → Sound x known rest
    choice_sound test names ts x known rest derived asks h is =
        let a = bind_ok (i.argument names (behind ts) owner) _ (x, known, rest) h in
        let c = bind_ok (expect wanted.Colon a.0.2) _ (x, known, rest) a.2 in
        let w = then_ok (is_wanted wanted.Colon (first a.0.2)) (Ok (behind a.0.2)) (length a.0.2) c.0 c.1 in
        let b = bind_ok (i.argument a.0.1 c.0 owner) _ (x, known, rest) c.2 in
        let e = read_same (choice_node test a.0.0 b.0.0) x b.0.1 known b.0.2 rest b.2 in
        let parts = choice_parts test a.0.0 b.0.0 (subst (λ y. is_expression y ≡ true) (sym e.0) is) in
        let chosen = sound.argument names a.0.1 (behind ts) a.0.2 owner a.0.0 a.1 parts.1 in
        let last : behind a.0.2 ≡ c.0 = ok_is w.1 in
        let other = subst (λ (m : Tokens). Derives (Argument places.Argument owner b.0.0) a.0.1 m b.0.1 b.0.2)
        (sym last) (sound.argument a.0.1 b.0.1 c.0 b.0.2 owner b.0.0 b.1 parts.2) in
        let d = Conditional place owner before names a.0.1 b.0.1 start ts a.0.2 b.0.2 test a.0.0 b.0.0 jump derived asks
        chosen (a_colon (first a.0.2) w.0) other in
        carry Sound (choice_node test a.0.0 b.0.0) x b.0.1 known b.0.2 rest b.2 d

    question_sound : (w : Word) (test : Node) (names : Names) (ts : Tokens) (x : Node) (known : Names) (rest : Tokens)
        → first ts ≡ w → Derives (Operation place 13 owner test) before start names ts
        → is_taken place test (first ts) ≡ false
        → question_at i w test names ts owner ≡ Ok (x, known, rest) → is_expression x ≡ true → Sound x known rest
    question_sound (words.Mark marks.Question) test names ts x known rest there derived free h is =
        choice_sound test names ts x known rest derived there h is
    question_sound w test names ts x known rest there derived free h is =
        let calm : is_question (first ts) ≡ false = rw there refl in
        carry Sound test x names known ts rest h (Value place owner before names start ts test jump derived calm free)

    -- a value, behind an operand that is no target by the word behind it
    pub value_sound : (left : Node) (names : Names) (ts : Tokens) (x : Node) (known : Names) (rest : Tokens)
        → Derives (Operand place owner left) before start names ts → is_taken place left (first ts) ≡ false
        → value_from i left names ts owner ≡ Ok (x, known, rest) → is_expression x ≡ true → Sound x known rest
    unfolding value_from
    value_sound left names ts x known rest derived free h is =
        let r = bind_ok (operators i left names ts 13 owner) _ (x, known, rest) h in
        elim (cases_Bool (is_expression r.0.0)) [
          | inl there ↦
              let one = OneOperand place 13 owner before names start ts left derived in
              let tail = tail_sound i 13 owner sound place before start (length ts + 1) left names ts r.0.0 r.0.1 r.0.2
              refl one r.1 there in
              let untaken : is_taken place r.0.0 (first r.0.2) ≡ false = elim tail.1 [
                | inl kept ↦ subst (λ y. is_taken place y (first r.0.2) ≡ false) (sym kept.0)
                    (subst (λ m. is_taken place left (first m) ≡ false) (sym kept.1) free)
                | inr other ↦ rw other refl
              ] in
              question_sound (first r.0.2) r.0.0 r.0.1 r.0.2 x known rest refl tail.0 untaken r.2 is
          | inr other ↦ absurd (question_never (first r.0.2) r.0.0 r.0.1 r.0.2 other x known rest r.2 is)
        ]
