-- Parameters that are derived are read.
use Rattle.std.proofs.Common.{◌≡◌, ℕ, zero, suc, ◌+◌, ◌-◌, ◌<◌, ◌≤◌, Bool, true, false, None, is_some, length, Ok, refl, sym, ap, ◌∙◌, arith}
use Rattle.rb_syntax.specs.declared.outside.Outside.TheVariants as outsides
use Rattle.rb_syntax.specs.declared.punctuator.Punctuator.TheVariants as marks
use Rattle.parser_tree.specs.declared.tree.RestParameter.TheVariants as rests
use Rattle.parser_tree.specs.Node as node
use Rattle.parser_tree.specs.Node.{Node, none}
use Rattle.parser_tokens.specs.Tokens.{first, behind, skip_if, bytes_at, place_at}
use Rattle.parser_tokens.specs.Expect.{newlines_from, skip_newlines}
use Rattle.parser_tokens.specs.Operators.{assignment_at}
use Rattle.parser_tokens.specs.Starts.{begins_value, is_newline, is_open_parenthesis}
use Rattle.parser_tokens.specs.declared.word.Word.{Word}
use Rattle.parser_tokens.specs.declared.word.Word.TheVariants as words
use Rattle.parser_ahead.specs.Names.{declared}
use Rattle.parser_ahead.specs.Primary.{is_comma_word}
use Rattle.parser_ahead.specs.declared.primary.DoOwner.TheVariants as owners
use Rattle.parser_ahead.specs.declared.primary.Place.TheVariants as places
use Rattle.parser_nodes.specs.Nodes.{outside_node}
use Rattle.parser_form_nodes.specs.Parameters.{ParameterNode, ParameterNodes, required, optional, rest_of, block_name, outside_parameter, no_parameters, may_follow, put_parameter, begins_parameter}
use Rattle.parser_forms.specs.Parameters.{is_identifier as identifies, is_assign, parameter, parameter_at, parameters_from, open_parameters, lambda_parameters}
use Rattle.parser_forms.proofs.Turns.{parameters_step}
use Rattle.parser_forms.specs.Reading.{Names, Tokens, Inside}
use Rattle.rb_parser.specs.Levels.{level_above, levels}
use Rattle.parser_laws.specs.Rules.{Argument, Parameter, ParameterList, Parameters, MethodParameters, LambdaParameters, BarredLocals, is_identifier}
use Rattle.parser_laws.proofs.Facts.{is_finish, Fact, word_taken, behind_within}
use Rattle.parser_laws.proofs.Facts.{skip_one}
use Rattle.parser_laws.proofs.Heads.{word_begins}
use Rattle.parser_laws.proofs.CompleteCompounds.{itself_within}

differs : {A : Type 0} → true ≡ false → A
differs h = absurd (cc)

pub no_default : (w : Word) → assignment_at w ≡ None → is_assign w ≡ false
no_default (words.Mark marks.Assign) h = differs (ap is_some h)
no_default w h = refl

same_identifier : (w : Word) → is_identifier w ≡ false → identifies w ≡ false
same_identifier words.Identifier h = differs h
same_identifier w h = refl

module _ (names : Names) (ts : Tokens) where
  abbrev Two : ParameterNode → Type 0
  Two p = Fact (Parameter p) names ts (declared names (bytes_at (behind ts)) true) (behind (behind ts))

  pub required_parameter : first ts ≡ words.Identifier → assignment_at (first (behind ts)) ≡ None
      → Fact (Parameter (required (node.name_parameter (bytes_at ts)))) names ts (declared names (bytes_at ts) true)
      (behind ts)
  unfolding parameter_at
  required_parameter is alone = (
    word_taken words.Identifier ts is refl,
    rw is refl,
    λ d room. rw is (rw (no_default (first (behind ts)) alone) refl),
  )

  pub optional_parameter : (known : Names) (rest : Tokens) (n : Node) → first ts ≡ words.Identifier
      → first (behind ts) ≡ words.Mark marks.Assign
      → Fact (Argument places.Argument owners.Call n) (declared names (bytes_at ts) true) (behind (behind ts)) known
      rest → Fact (Parameter (optional (bytes_at ts) n)) names ts known rest
  unfolding parameter_at
  optional_parameter known rest n is assigned inner =
      let one = word_taken words.Identifier ts is refl in
      let two = behind_within (behind ts) in
      let fewer = inner.0 in
      (omega arith, rw is refl, λ d room. rw is (rw assigned (rw (inner.2 d (omega arith) refl refl) refl)))

  two_taken : (w : Word) → first ts ≡ w → is_finish w ≡ false → length (behind (behind ts)) < length ts
  two_taken w is other =
      let one = word_taken w ts is other in
      let two = behind_within (behind ts) in
      omega arith

  pub rest_parameter : first ts ≡ words.Mark marks.Star → first (behind ts) ≡ words.Identifier
      → Two (rest_of (rests.Named (bytes_at (behind ts))))
  unfolding parameter_at
  rest_parameter is named = (two_taken (words.Mark marks.Star) is refl, rw is refl, λ d room. rw is (rw named refl))

  pub unnamed_rest : first ts ≡ words.Mark marks.Star → is_identifier (first (behind ts)) ≡ false
      → Fact (Parameter (rest_of rests.Unnamed)) names ts names (behind ts)
  unfolding parameter_at
  unnamed_rest is unnamed = (
    word_taken (words.Mark marks.Star) ts is refl,
    rw is refl,
    λ d room. rw is (rw (same_identifier (first (behind ts)) unnamed) refl),
  )

  pub block_parameter : first ts ≡ words.Mark marks.Ampersand → first (behind ts) ≡ words.Identifier
      → Two (block_name (bytes_at (behind ts)))
  unfolding parameter_at
  block_parameter is named = (
    two_taken (words.Mark marks.Ampersand) is refl,
    rw is refl,
    λ d room. rw is (rw named refl),
  )

  pub keyword_rest : first ts ≡ words.Mark marks.StarStar → first (behind ts) ≡ words.Identifier
      → Two (outside_parameter (node.outside outsides.DoubleSplat (place_at ts) none))
  unfolding parameter_at
  keyword_rest is named = (two_taken (words.Mark marks.StarStar) is refl, rw is refl, λ d room. rw is (rw named refl))

  pub unnamed_keyword_rest : first ts ≡ words.Mark marks.StarStar → is_identifier (first (behind ts)) ≡ false
      → Fact (Parameter (outside_parameter (node.outside outsides.DoubleSplat (place_at ts) none))) names ts names
      (behind ts)
  unfolding parameter_at
  unnamed_keyword_rest is unnamed = (
    word_taken (words.Mark marks.StarStar) ts is refl,
    rw is refl,
    λ d room. rw is (rw (same_identifier (first (behind ts)) unnamed) refl),
  )

  pub keyword_parameter : first ts ≡ words.Label → begins_value (first (behind ts)) ≡ false
      → Fact (Parameter (outside_parameter (node.outside outsides.KeywordParameter (place_at ts) none))) names ts
      (declared names (bytes_at ts) true) (behind ts)
  unfolding parameter_at
  keyword_parameter is alone = (word_taken words.Label ts is refl, rw is refl, λ d room. rw is (rw alone refl))

  pub keyword_default : (known : Names) (rest : Tokens) (n : Node) → first ts ≡ words.Label
      → Fact (Argument places.Argument owners.Call n) (declared names (bytes_at ts) true) (behind ts) known rest
      → Fact (Parameter (outside_parameter (outside_node outsides.KeywordParameter (place_at ts) n))) names ts known
      rest
  unfolding parameter_at
  keyword_default known rest n is inner =
      let one = word_taken words.Label ts is refl in
      let fewer = inner.0 in (
        omega arith,
        rw is refl,
        λ d room. rw is
            (rw (word_begins (first (behind ts)) inner.1) (rw (inner.2 d (omega arith) refl refl) refl)),
      )

  pub non_ascii_parameter : first ts ≡ words.Other outsides.NonAsciiName
      → Fact (Parameter (outside_parameter (node.outside outsides.NonAsciiName (place_at ts) none))) names ts names
      (behind ts)
  unfolding parameter_at
  non_ascii_parameter is = (word_taken (words.Other outsides.NonAsciiName) ts is refl, rw is refl, λ d room. rw is refl)

-- any parameter may be the first
first_follows : (p : ParameterNode) → may_follow p no_parameters ≡ true
first_follows (required n) = refl
first_follows (optional x n) = refl
first_follows (rest_of r) = refl
first_follows (block_name x) = refl
first_follows (outside_parameter n) = refl

-- a parameter that may follow those that were found
parameter_turn : (i : Inside) (n : ℕ) (comma : Bool) (l : ParameterNodes) (p : ParameterNode) (names known : Names)
    (ts rest : Tokens) → 0 < n → begins_parameter (first ts) ≡ true → parameter i names ts ≡ Ok (p, known, rest)
    → may_follow p l ≡ true → parameters_from i n true comma l names ts
    ≡ parameters_from i (n - 1) (is_comma_word (first rest)) (is_comma_word (first rest)) (put_parameter p l) known
    (skip_if (is_comma_word (first rest)) rest)
parameter_turn i n comma l p names known ts rest some begins read follows =
    parameters_step i n true comma l names ts some ∙ rw begins (rw read (rw follows refl))

pub one_parameter : (names known : Names) (ts rest : Tokens) (p : ParameterNode)
    → Fact (Parameter p) names ts known rest → Fact (ParameterList (put_parameter p no_parameters)) names ts known rest
one_parameter names known ts rest p inner =
    let fewer = inner.0 in (
      fewer,
      inner.1,
      λ d room n enough. (
        n - 1,
        omega arith,
        parameter_turn (level_above (levels d)) n false no_parameters p names known ts rest (omega arith) inner.1
            (inner.2 d room) (first_follows p),
      ),
    )

comma_word : (w : Word) → is_comma_word w ≡ true → is_finish w ≡ false
comma_word words.Finish h = differs (sym h)
comma_word w h = refl

pub more_parameters : (names known later : Names) (ts rest more : Tokens) (l : ParameterNodes) (p : ParameterNode)
    → Fact (ParameterList l) names ts known rest → is_comma_word (first rest) ≡ true
    → Fact (Parameter p) known (behind rest) later more → may_follow p l ≡ true
    → Fact (ParameterList (put_parameter p l)) names ts later more
more_parameters names known later ts rest more l p before comma one follows =
    let a = before.0 in
    let b = word_taken (first rest) rest refl (comma_word (first rest) comma) in
    let c = one.0 in (
      omega arith,
      before.1,
      λ d room n enough.
          let f = before.2 d room n enough in
          let some = f.1 in
          let turned = parameter_turn (level_above (levels d)) f.0 true l p known later (behind rest) more (omega arith)
          one.1 (one.2 d (omega arith)) follows in
          (f.0 - 1, omega arith, f.2 ∙ rw comma turned),
    )

pub all_parameters : (names known : Names) (ts rest : Tokens) (l : ParameterNodes)
    → Fact (ParameterList l) names ts known rest → is_comma_word (first rest) ≡ false
    → Fact (Parameters l) names ts known rest
all_parameters names known ts rest l inner ends =
    let fewer = inner.0 in (
      omega arith,
      refl,
      λ d room.
          let f = inner.2 d room (length ts + 1) (omega arith) in
          let some = f.1 in
          f.2 ∙ rw ends (parameters_step (level_above (levels d)) f.0 false false l known rest (omega arith)),
    )

pub no_parameters_fact : (names : Names) (ts : Tokens) → begins_parameter (first ts) ≡ false
    → Fact (Parameters no_parameters) names ts names ts
no_parameters_fact names ts other = (
  itself_within ts,
  refl,
  λ d room. parameters_step (level_above (levels d)) (length ts + 1) true false no_parameters
      names ts (omega arith) ∙ rw other refl,
)

newlines_within : (n : ℕ) (ts : Tokens) → length (newlines_from n ts) ≤ length ts
unfolding newlines_from
newlines_within zero ts = itself_within ts
newlines_within (suc n) ts =
    let h = newlines_within n (behind ts) in
    let g = behind_within ts in
    skip_one (is_newline (first ts)) ts (newlines_from n (behind ts)) ts (omega arith) (omega arith)

pub newlines_skipped : (ts : Tokens) → length (skip_newlines ts) ≤ length ts
newlines_skipped ts = newlines_within (length ts) ts

pub closed_parameters : (names known : Names) (ts rest : Tokens) (l : ParameterNodes)
    → first ts ≡ words.Mark marks.OpenParenthesis → Fact (Parameters l) names (behind ts) known rest
    → first (skip_newlines rest) ≡ words.Mark marks.CloseParenthesis
    → Fact (MethodParameters l) names ts known (behind (skip_newlines rest))
unfolding open_parameters
closed_parameters names known ts rest l is inner closing =
    let one = word_taken (words.Mark marks.OpenParenthesis) ts is refl in
    let a = newlines_skipped rest in
    let b = behind_within (skip_newlines rest) in
    let fewer = inner.0 in
    (omega arith, refl, λ d room. rw is (rw (inner.2 d (omega arith)) (rw closing refl)))

pub bare_parameters : (names known : Names) (ts rest : Tokens) (l : ParameterNodes)
    → is_open_parenthesis (first ts) ≡ false → Fact (Parameters l) names ts known rest
    → Fact (MethodParameters l) names ts known rest
unfolding open_parameters
bare_parameters names known ts rest l other inner = (inner.0, refl, λ d room. rw other (rw (inner.2 d room) refl))

pub open_lambda : (names known later : Names) (ts rest more : Tokens) (l : ParameterNodes)
    → first ts ≡ words.Mark marks.OpenParenthesis → Fact (Parameters l) names (behind ts) known rest
    → Fact BarredLocals known rest later more
    → first (skip_newlines more) ≡ words.Mark marks.CloseParenthesis
    → Fact (LambdaParameters l) names ts later (behind (skip_newlines more))
unfolding lambda_parameters
open_lambda names known later ts rest more l is inner variables closing =
    let one = word_taken (words.Mark marks.OpenParenthesis) ts is refl in
    let a = newlines_skipped more in
    let b = behind_within (skip_newlines more) in
    let fewer = inner.0 in
    let less = variables.0 in (
      omega arith,
      refl,
      λ d room. rw is (rw (inner.2 d (omega arith)) (rw (variables.2 d (omega arith)) (rw closing refl))),
    )

pub bare_lambda : (names known : Names) (ts rest : Tokens) (l : ParameterNodes)
    → is_open_parenthesis (first ts) ≡ false → Fact (Parameters l) names ts known rest
    → Fact (LambdaParameters l) names ts known rest
unfolding lambda_parameters
bare_lambda names known ts rest l other inner = (inner.0, refl, λ d room. rw other (rw (inner.2 d room) refl))
