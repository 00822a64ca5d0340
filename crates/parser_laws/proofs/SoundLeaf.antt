-- A primary of one word that is read as an expression is derived.
use Rattle.std.proofs.Common.{◌≡◌, Bool, true, false, List, [], ◌∷◌, ◌++◌, length, Option, Some, None, is_some, Ok, if◌then◌else◌, inl, inr, refl, sym, ap, subst, ◌∙◌}
use Rattle.std.proofs.lemmas.Bool.{cases_Bool}
use Rattle.std.proofs.lemmas.List.{append_assoc, append-nil}
use Rattle.rb_syntax.specs.declared.keyword.Keyword.{Keyword}
use Rattle.rb_syntax.specs.declared.keyword.Keyword.TheVariants as keywords
use Rattle.rb_syntax.specs.declared.outside.Outside.{Outside}
use Rattle.rb_syntax.specs.declared.outside.Outside.TheVariants as outsides
use Rattle.rb_syntax.specs.declared.punctuator.Punctuator.{Punctuator}
use Rattle.rb_syntax.specs.declared.punctuator.Punctuator.TheVariants as marks
use Rattle.rb_syntax.specs.declared.token.Token.{Token}
use Rattle.parser_tree.specs.Node as node
use Rattle.parser_tree.specs.Node.{Node, Name}
use Rattle.parser_tokens.specs.Tokens.{first, behind, word_of, bytes_of, bytes_at, place_at}
use Rattle.parser_tokens.specs.Operators.{is_sign}
use Rattle.parser_tokens.specs.Starts.{makes_call}
use Rattle.parser_tokens.specs.declared.word.Word.{Word}
use Rattle.parser_tokens.specs.declared.word.Word.TheVariants as words
use Rattle.parser_ahead.specs.Primary.{primary_of}
use Rattle.parser_ahead.specs.declared.primary.DoOwner.{DoOwner}
use Rattle.parser_ahead.specs.declared.primary.Place.{Place}
use Rattle.parser_ahead.specs.declared.primary.Primary.TheVariants as primaries
use Rattle.parser_nodes.specs.Leaf.{leaf, is_element, is_literal_end, elements_from, elements, with_elements, top_constant}
use Rattle.parser_operands.specs.Operands.{leaf_primary}
use Rattle.parser_forms.specs.Reading.{Names, Tokens, Read}
use Rattle.parser_laws.specs.Rules.{Primary as PrimaryRule, Elements}
use Rattle.parser_laws.specs.Derives.{Derives, Nil, True, False, SelfReference, Integer, Negative, Symbol, InstanceVariable, GlobalVariable, Constant, NoElement, OneElement, WordList, SymbolList, TopConstant, Retry}
use Rattle.parser_laws.specs.Expressions.{is_expression}
use Rattle.parser_laws.proofs.Results.{carry, differs, Never, never_ok, never_error}

abbrev pub itself : Node → Node
itself n = n

an_element : (w : Word) → is_element w ≡ true → w ≡ words.Element
an_element words.Element h = refl
an_element w h = differs (sym h)

a_literal_end : (w : Word) → is_literal_end w ≡ true → w ≡ words.LiteralEnd
a_literal_end words.LiteralEnd h = refl
a_literal_end w h = differs (sym h)

abbrev or_some : {A : Type 0} → A → Option A → A
or_some x (Some y) = y
or_some x None = x

-- the elements behind those that were found
abbrev Listed : List Name → Names → Tokens → List Name → Tokens → Type 0
Listed found names ts all rest = (xs : List Name) × (all ≡ found ++ xs) × Derives (Elements xs) names ts names rest

by_element : (b c : Bool) (found : List Name) (names : Names) (t : Token) (ts : Tokens) (all : List Name)
    (rest : Tokens) → is_element (word_of t) ≡ b → is_literal_end (word_of t) ≡ c
    → ((more : List Name) → elements_from more ts ≡ Some (all, rest) → Listed more names ts all rest)
    → (if b then elements_from (found ++ bytes_of t.kind ∷ []) ts else if c then Some (found, ts) else None) ≡ Some
    (all, rest) → Listed found names (t ∷ ts) all rest
unfolding first behind bytes_at
by_element true c found names t ts all rest there last again h =
    let l = again (found ++ bytes_of t.kind ∷ []) h in (
      bytes_of t.kind ∷ l.0,
      l.1 ∙ append_assoc found (bytes_of t.kind ∷ []) l.0,
      OneElement names (t ∷ ts) rest l.0 (an_element (word_of t) there) l.2,
    )
by_element false true found names t ts all rest there last again h =
    let e : (found, ts) ≡ (all, rest) = ap (or_some (found, ts)) h in
    let one = NoElement names (t ∷ ts) (a_literal_end (word_of t) last) in (
      [],
      sym (ap (λ p. p.0) e) ∙ sym (append-nil found),
      subst (λ (q : Tokens). Derives (Elements []) names (t ∷ ts) names q) (ap (λ p. p.1) e) one,
    )
by_element false false found names t ts all rest there last again h = differs (sym (ap is_some h))

elements_sound : (names : Names) (found : List Name) (ts : Tokens) (all : List Name) (rest : Tokens)
    → elements_from found ts ≡ Some (all, rest) → Listed found names ts all rest
unfolding elements_from
elements_sound names found [] all rest h = differs (sym (ap is_some h))
elements_sound names found (t ∷ ts) all rest h =
    by_element (is_element (word_of t)) (is_literal_end (word_of t)) found names t ts all rest refl refl
    (λ more e. elements_sound names more ts all rest e) h

module _ (place : Place) (owner : DoOwner) (names : Names) (ts : Tokens) where
  abbrev Sound : Node → Names → Tokens → Type 0
  Sound n known rest = Derives (PrimaryRule place owner n) names ts known rest

  abbrev Goal : Read Node → Type 0
  Goal read = (n : Node) (known : Names) (rest : Tokens) → read ≡ Ok (n, known, rest) → is_expression n ≡ true
      → Sound n known rest

  sound_ok : (n : Node) (known : Names) (rest : Tokens) → Sound n known rest → Goal (Ok (n, known, rest))
  sound_ok n known rest derived m later more h is = carry Sound n m known later rest more h derived

  pub sound_never : (read : Read Node) → Never itself read → Goal read
  sound_never read never n known rest h is = absurd (never n known rest h is)

  listed : (f : List Name → Node) (o : Option (List Name × Tokens))
      → ((xs : List Name) (rest : Tokens) → o ≡ Some (xs, rest) → Sound (f xs) names rest)
      → Goal (leaf_primary (with_elements f o) names ts)
  listed f None derived = sound_never _ (never_error itself (length ts))
  listed f (Some r) derived = sound_ok (f r.0) names r.1 (derived r.0 r.1 refl)

  -- the elements behind the first word
  its_elements : (xs : List Name) (rest : Tokens) → elements (behind ts) ≡ Some (xs, rest)
      → Derives (Elements xs) names (behind ts) names rest
  its_elements xs rest read =
      let l = elements_sound names [] (behind ts) xs rest read in
      subst (λ (ys : List Name). Derives (Elements ys) names (behind ts) names rest) (sym l.1) l.2

  top_sound : (w : Word) → first ts ≡ words.Mark marks.ColonColon → first (behind ts) ≡ w
      → Goal (leaf_primary (top_constant w (behind ts)) names ts)
  top_sound words.Constant is there = sound_ok (node.top_constant (bytes_at (behind ts))) names (behind (behind ts))
      (TopConstant place owner names ts is there)
  top_sound w is there = sound_never _ (never_error itself (length ts))

  by_key : (k : Keyword) → first ts ≡ words.Key k → Goal (leaf_primary (leaf ts) names ts)
  unfolding leaf
  by_key keywords.Nil is = rw is (sound_ok node.nil names (behind ts) (Nil place owner names ts is))
  by_key keywords.True is = rw is (sound_ok node.truth names (behind ts) (True place owner names ts is))
  by_key keywords.False is = rw is (sound_ok node.falsehood names (behind ts) (False place owner names ts is))
  by_key keywords.SelfReference is = rw is (sound_ok node.self_reference names (behind ts)
      (SelfReference place owner names ts is))
  by_key keywords.Retry is = rw is (sound_ok (node.retry (place_at ts)) names (behind ts) (Retry place owner names ts is))
  by_key keywords.Redo is = rw is (sound_never _ (never_ok itself _ names _ refl))
  by_key keywords.FileName is = rw is (sound_never _ (never_ok itself _ names _ refl))
  by_key keywords.LineNumber is = rw is (sound_never _ (never_ok itself _ names _ refl))
  by_key keywords.EncodingName is = rw is (sound_never _ (never_ok itself _ names _ refl))
  by_key keywords.Return is = rw is (sound_never _ (never_ok itself _ names _ refl))
  by_key keywords.Break is = rw is (sound_never _ (never_ok itself _ names _ refl))
  by_key keywords.Next is = rw is (sound_never _ (never_ok itself _ names _ refl))
  by_key k is = rw is (sound_never _ (never_error itself (length ts)))

  by_mark : (p : Punctuator) → first ts ≡ words.Mark p → Goal (leaf_primary (leaf ts) names ts)
  unfolding leaf
  by_mark marks.Minus is =
      elim (cases_Bool (is_sign (behind ts))) [
        | inl signed ↦ rw (is, signed) (sound_ok _ names (behind (behind ts)) (Negative place owner names ts is signed))
        | inr other ↦ rw (is, other) (sound_never _ (never_error itself (length ts)))
      ]
  by_mark marks.ColonColon is = rw is (top_sound (first (behind ts)) is refl)
  by_mark p is = rw is (sound_never _ (never_error itself (length ts)))

  by_outside : (o : Outside) → first ts ≡ words.Other o → Goal (leaf_primary (leaf ts) names ts)
  unfolding leaf
  by_outside outsides.Ambiguous is = rw is (sound_never _ (never_error itself (length ts)))
  by_outside outsides.QuotedLabel is = rw is (sound_never _ (never_error itself (length ts)))
  by_outside o is = rw is (sound_never _ (never_ok itself _ names _ refl))

  closed : (b : Bool) → (if b then primaries.Name else primaries.Leaf) ≡ primaries.Leaf → b ≡ false
  closed true h = absurd (cc)
  closed false h = refl

  pub leaf_sound : (w : Word) → first ts ≡ w → primary_of w names ts ≡ primaries.Leaf
      → Goal (leaf_primary (leaf ts) names ts)
  unfolding leaf
  leaf_sound words.Constant is alone = rw is (sound_ok _ names (behind ts)
      (Constant place owner names ts is (closed (makes_call (behind ts)) alone)))
  leaf_sound words.InstanceVariable is alone =
      rw is (sound_ok _ names (behind ts) (InstanceVariable place owner names ts is))
  leaf_sound words.GlobalVariable is alone = rw is
      (sound_ok _ names (behind ts) (GlobalVariable place owner names ts is))
  leaf_sound words.Symbol is alone = rw is (sound_ok _ names (behind ts) (Symbol place owner names ts is))
  leaf_sound words.Integer is alone = rw is (sound_ok _ names (behind ts) (Integer place owner names ts is))
  leaf_sound words.WordsBegin is alone = rw is
      (listed node.words (elements (behind ts))
      (λ xs rest read. WordList place owner names ts rest xs is (its_elements xs rest read)))
  leaf_sound words.SymbolsBegin is alone = rw is
      (listed node.symbols (elements (behind ts))
      (λ xs rest read. SymbolList place owner names ts rest xs is (its_elements xs rest read)))
  leaf_sound (words.Key k) is alone = by_key k is
  leaf_sound (words.Mark p) is alone = by_mark p is
  leaf_sound (words.Other o) is alone = by_outside o is
  leaf_sound w is alone = rw is (sound_never _ (never_error itself (length ts)))
