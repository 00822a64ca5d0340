-- What is called, without arguments and a block, that is derived is read.
use Rattle.std.proofs.Common.{◌≡◌, ◌-◌, ◌<◌, Bool, true, false, not, ◌&&◌, [], ◌∷◌, length, Some, Ok, refl, ◌∙◌, arith}
use Rattle.rb_syntax.specs.declared.keyword.Keyword.TheVariants as keywords
use Rattle.rb_syntax.specs.declared.outside.Outside.TheVariants as outsides
use Rattle.rb_syntax.specs.declared.punctuator.Punctuator.TheVariants as marks
use Rattle.parser_tree.specs.Node.{Node}
use Rattle.parser_tokens.specs.Tokens.{first, behind, bytes_at, place_at}
use Rattle.parser_tokens.specs.Starts.{makes_call, opens_arguments, postfix_at}
use Rattle.parser_tokens.specs.declared.starts.Postfix.{Postfix}
use Rattle.parser_tokens.specs.declared.starts.Postfix.TheVariants as postfixes
use Rattle.parser_tokens.specs.declared.word.Word.{Word}
use Rattle.parser_tokens.specs.declared.word.Word.TheVariants as words
use Rattle.parser_ahead.specs.Names.{is_known}
use Rattle.parser_ahead.specs.Primary.{primary_at, is_name_word}
use Rattle.parser_ahead.specs.declared.primary.DoOwner.{DoOwner}
use Rattle.parser_ahead.specs.declared.primary.Place.{Place}
use Rattle.parser_ahead.specs.declared.primary.Primary.TheVariants as primaries
use Rattle.parser_nodes.specs.Calls.{CalleeNode, name_callee, method_callee, super_callee, outside_callee}
use Rattle.parser_operands.specs.Operands as operands
use Rattle.parser_operands.specs.Operands.{continues, suffix, primary_by, primary, postfixed, chain_turn, chain_within}
use Rattle.parser_operands.proofs.Turns.{chain_step}
use Rattle.parser_forms.specs.Reading.{Names, Tokens, Inside}
use Rattle.rb_parser.specs.Levels.{levels}
use Rattle.parser_laws.specs.Rules.{Primary as PrimaryRule, Callee, is_identifier, is_constant, joins_name}
use Rattle.parser_laws.proofs.Facts.{is_head, is_finish, Fact, word_taken}
use Rattle.parser_laws.proofs.Heads.{head_not_finish, head_opens}
use Rattle.parser_laws.proofs.CompletePostfixes.{continues_there}
use Rattle.parser_laws.proofs.CompleteNames.{name_head, name_primary, dot_named, safe_named, scope_named, joins}

-- the questions of the rules are those of the parser
same_identifier : (w : Word) → operands.is_identifier w ≡ is_identifier w
same_identifier words.Identifier = refl
same_identifier w = refl

module _ (place : Place) (owner : DoOwner) (names : Names) (ts : Tokens) where
  -- what begins with a word that is called
  word_fact : (c : CalleeNode) → is_head (first ts) ≡ true
      → ((i : Inside) → primary i names ts owner ≡ suffix i c names (behind ts) owner)
      → Fact (Callee place owner c) names ts names (behind ts)
  word_fact c h same = (
    word_taken (first ts) ts refl (head_not_finish (first ts) h),
    head_opens ts h,
    λ d room o later more within read. (
      o,
      later,
      more,
      same (levels d) ∙ read,
      λ n enough. (n, enough, λ commands allowed. refl),
    ),
  )

  -- a name, as it is read
  named_read : (i : Inside) (b : Bool) → primary_at names ts ≡ primaries.Name → operands.is_identifier (first ts) ≡ b
      → primary i names ts owner ≡ suffix i (name_callee (bytes_at ts) b) names (behind ts) owner
  unfolding primary_by
  named_read i b named sort = rw named (rw sort refl)

  pub name_fact : first ts ≡ words.Identifier → is_known (bytes_at ts) names ≡ false
      → Fact (Callee place owner (name_callee (bytes_at ts) true)) names ts names (behind ts)
  unfolding primary_at
  name_fact is other =
      let named : primary_at names ts ≡ primaries.Name = rw (is, other) refl in
      let sort : operands.is_identifier (first ts) ≡ true = rw is refl in
      word_fact (name_callee (bytes_at ts) true) (rw is refl) (λ i. named_read i true named sort)

  pub method_name_fact : first ts ≡ words.MethodName
      → Fact (Callee place owner (name_callee (bytes_at ts) false)) names ts names (behind ts)
  unfolding primary_at
  method_name_fact is =
      let named : primary_at names ts ≡ primaries.Name = rw is refl in
      let sort : operands.is_identifier (first ts) ≡ false = rw is refl in
      word_fact (name_callee (bytes_at ts) false) (rw is refl) (λ i. named_read i false named sort)

  pub opened_fact : is_name_word (first ts) ≡ true → makes_call (behind ts) ≡ true
      → Fact (Callee place owner (name_callee (bytes_at ts) (is_identifier (first ts)))) names ts names (behind ts)
  opened_fact is opened =
      word_fact (name_callee (bytes_at ts) (is_identifier (first ts))) (name_head (first ts) is)
      (λ i. named_read i (is_identifier (first ts)) (name_primary names ts (first ts) refl is opened)
      (same_identifier (first ts)))

  pub super_fact : first ts ≡ words.Key keywords.Super
      → Fact (Callee place owner (super_callee (place_at ts))) names ts names (behind ts)
  unfolding primary_at primary_by
  super_fact is = word_fact (super_callee (place_at ts)) (rw is refl) (λ i. rw is refl)

  pub non_ascii_fact : first ts ≡ words.Other outsides.NonAsciiName
      → Fact (Callee place owner (outside_callee outsides.NonAsciiName (place_at ts) [])) names ts names (behind ts)
  unfolding primary_at primary_by
  non_ascii_fact is = word_fact (outside_callee outsides.NonAsciiName (place_at ts) []) (rw is refl) (λ i. rw is refl)

module _ (place : Place) (owner : DoOwner) (names known : Names) (ts rest : Tokens) (n : Node)
    (left : Fact (PrimaryRule place owner n) names ts known rest) where
  -- a name behind a value
  behind_value : (p : Postfix) (w : Word) (c : CalleeNode) → first rest ≡ w → postfix_at w ≡ Some p
      → length (behind (behind rest)) < length rest
      → ((i : Inside) → postfixed i n p known rest owner ≡ suffix i c known (behind (behind rest)) owner)
      → Fact (Callee place owner c) names ts known (behind (behind rest))
  behind_value p w c there goes_on fewer same =
      let l = left.0 in (
        omega arith,
        left.1,
        λ d room o later more within read.
            let f = left.2 d room in
            let got : postfixed (levels d) n p known rest owner ≡ Ok (o, later, more) = same (levels d) ∙ read in (
              f.0,
              f.1,
              f.2,
              f.3,
              λ k enough.
                  let t = f.7 k enough in
                  let some = t.1 in (
                    t.0 - 1,
                    omega arith,
                    λ commands allowed.
                        let turned : chain_turn (levels d) (continues f.4 rest commands)
                        (chain_within (levels d) (t.0 - 1) commands owner) f.4 known rest owner ≡ chain_within
                        (levels d) (t.0 - 1) commands owner o later more =
                        rw (continues_there f.4 place rest commands f.6 allowed, there, goes_on) (rw (f.5, got) refl) in
                        t.2 commands allowed ∙ chain_step (levels d) t.0 commands owner f.4 known rest (omega arith)
                        ∙ turned,
                  ),
            ),
      )

  -- the tokens of a name behind a value
  named_taken : (w : Word) → first rest ≡ w → is_finish w ≡ false → is_name_word (first (behind rest)) ≡ true
      → length (behind (behind rest)) < length rest
  named_taken w there some is =
      let one = word_taken w rest there some in
      let two = word_taken (first (behind rest)) (behind rest) refl
      (head_not_finish (first (behind rest)) (name_head (first (behind rest)) is)) in
      omega arith

  pub method_fact : is_name_word (first (behind rest)) ≡ true → first rest ≡ words.Mark marks.Dot
      → Fact (Callee place owner (method_callee n (bytes_at (behind rest)) false)) names ts known (behind (behind rest))
  method_fact is there =
      behind_value postfixes.Dot (words.Mark marks.Dot) (method_callee n (bytes_at (behind rest)) false) there refl
      (named_taken (words.Mark marks.Dot) there refl is) (λ i. dot_named i n known rest owner is)

  pub scope_fact : is_name_word (first (behind rest)) ≡ true → first rest ≡ words.Mark marks.ColonColon
      → (is_constant (first (behind rest)) && not (opens_arguments (behind (behind rest)))) ≡ false
      → Fact (Callee place owner (method_callee n (bytes_at (behind rest)) true)) names ts known (behind (behind rest))
  scope_fact is there other =
      behind_value postfixes.Scope (words.Mark marks.ColonColon) (method_callee n (bytes_at (behind rest)) true) there
      refl (named_taken (words.Mark marks.ColonColon) there refl is)
      (λ i. scope_named i n known rest owner is other)

  pub safe_fact : is_name_word (first (behind rest)) ≡ true → first rest ≡ words.Mark marks.AmpersandDot
      → Fact (Callee place owner (outside_callee outsides.SafeNavigation (place_at rest) (n ∷ []))) names ts known
      (behind (behind rest))
  safe_fact is there =
      behind_value postfixes.Safe (words.Mark marks.AmpersandDot)
      (outside_callee outsides.SafeNavigation (place_at rest) (n ∷ [])) there refl
      (named_taken (words.Mark marks.AmpersandDot) there refl is)
      (λ i. safe_named i n known rest owner is)

  pub non_ascii_method : joins_name (first rest) ≡ true → first (behind rest) ≡ words.Other outsides.NonAsciiName
      → Fact (Callee place owner (outside_callee outsides.NonAsciiName (place_at (behind rest)) (n ∷ []))) names ts
      known (behind (behind rest))
  non_ascii_method there is =
      let j = joins (first rest) there in
      let one = word_taken (first rest) rest refl j.some in
      let two = word_taken (words.Other outsides.NonAsciiName) (behind rest) is refl in
      behind_value j.mark (first rest) (outside_callee outsides.NonAsciiName (place_at (behind rest)) (n ∷ [])) refl
      j.there (omega arith) (λ i. j.outside i n known rest owner is)
