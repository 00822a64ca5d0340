-- Patterns in parentheses that are derived are read.
use Rattle.std.proofs.Common.{◌≡◌, ℕ, ◌+◌, ◌-◌, ◌<◌, true, false, length, Some, None, Ok, refl, sym, ap, ◌∙◌, arith}
use Rattle.rb_syntax.specs.declared.outside.Outside.TheVariants as outsides
use Rattle.rb_syntax.specs.declared.punctuator.Punctuator.TheVariants as marks
use Rattle.parser_tree.specs.Node as node
use Rattle.parser_tree.specs.Node.{Node, none}
use Rattle.parser_tokens.specs.Tokens.{first, behind, skip_if, bytes_at, place_at}
use Rattle.parser_tokens.specs.Expect.{skip_newlines}
use Rattle.parser_tokens.specs.declared.word.Word.{Word}
use Rattle.parser_tokens.specs.declared.word.Word.TheVariants as words
use Rattle.parser_ahead.specs.Groups.{opens_group, begins_pattern}
use Rattle.parser_ahead.specs.Names.{declared}
use Rattle.parser_ahead.specs.Primary.{is_comma_word}
use Rattle.parser_ahead.specs.declared.groups.TargetUse.TheVariants as uses
use Rattle.parser_form_nodes.specs.Targets.{TargetNode, one_target, group_target, star_target, TargetsNode, no_targets, list_node, may_follow, put}
use Rattle.parser_form_nodes.specs.Parameters.{required}
use Rattle.parser_forms.specs.Parameters.{parameter_at}
use Rattle.parser_phrases.specs.Targets.{is_star, alone, target, next_target, targets_from, targets}
use Rattle.parser_phrases.proofs.Turns.{targets_step}
use Rattle.parser_forms.specs.Reading.{Names, Tokens, Inside}
use Rattle.rb_parser.specs.Levels.{levels}
use Rattle.parser_laws.specs.Rules.{Parameter, Pattern, PatternTarget, PatternName}
use Rattle.parser_laws.proofs.Facts.{is_pattern_name, Fact, levels_at, word_taken, behind_within}
use Rattle.parser_laws.proofs.CompleteLoops.{comma_word}
use Rattle.parser_laws.proofs.CompleteParameters.{newlines_skipped}

differs : {A : Type 0} → true ≡ false → A
differs h = absurd (cc)

pub pattern_local : (names : Names) (ts : Tokens) → first ts ≡ words.Identifier
    → Fact (PatternName (node.local (bytes_at ts))) names ts (declared names (bytes_at ts) false) (behind ts)
unfolding alone
pattern_local names ts is = (word_taken words.Identifier ts is refl, rw is refl, λ d room. rw is refl)

pub non_ascii_target : (names : Names) (ts : Tokens) → first ts ≡ words.Other outsides.NonAsciiName
    → Fact (PatternName (node.outside outsides.NonAsciiName (place_at ts) none)) names ts names (behind ts)
unfolding alone
non_ascii_target names ts is = (
  word_taken (words.Other outsides.NonAsciiName) ts is refl,
  rw is refl,
  λ d room. rw is refl,
)

-- a name begins with neither a star nor a parenthesis
name_begins : (w : Word) → is_pattern_name w ≡ true → (is_star w ≡ false) × (opens_group w ≡ false)
    × (begins_pattern w ≡ true)
name_begins words.Identifier h = (refl, refl, refl)
name_begins (words.Other outsides.NonAsciiName) h = (refl, refl, refl)
name_begins w h = differs (sym h)

pub named_target : (names known : Names) (ts rest : Tokens) (x : Node) → Fact (PatternName x) names ts known rest
    → Fact (PatternTarget (one_target x)) names ts known rest
unfolding target
named_target names known ts rest x inner =
    let v = name_begins (first ts) inner.1 in
    (inner.0, v.2, λ d room. rw v.0 (rw v.1 (rw (inner.2 d room) refl)))

pub star_fact : (names known : Names) (ts rest : Tokens) (x : Node) → first ts ≡ words.Mark marks.Star
    → Fact (PatternName x) names (behind ts) known rest
    → Fact (PatternTarget (star_target (Some x))) names ts known rest
unfolding target
star_fact names known ts rest x is inner =
    let one = word_taken (words.Mark marks.Star) ts is refl in
    let v = name_begins (first (behind ts)) inner.1 in
    let fewer = inner.0 in
    (omega arith, rw is refl, λ d room. rw is (rw v.2 (rw (inner.2 d (omega arith)) refl)))

pub unnamed_star : (names : Names) (ts : Tokens) → first ts ≡ words.Mark marks.Star
    → begins_pattern (first (behind ts)) ≡ false → Fact (PatternTarget (star_target None)) names ts names (behind ts)
unfolding target
unnamed_star names ts is alone_there = (
  word_taken (words.Mark marks.Star) ts is refl,
  rw is refl,
  λ d room. rw is (rw alone_there refl),
)

pub group_fact : (names known : Names) (ts rest : Tokens) (t : TargetsNode)
    → first ts ≡ words.Mark marks.OpenParenthesis → Fact (Pattern no_targets t) names (behind ts) known rest
    → t.several ≡ true
    → first (skip_newlines rest) ≡ words.Mark marks.CloseParenthesis
    → Fact (PatternTarget (group_target t.list)) names ts known (behind (skip_newlines rest))
unfolding target
group_fact names known ts rest t is inner several closing =
    let one = word_taken (words.Mark marks.OpenParenthesis) ts is refl in
    let a = newlines_skipped rest in
    let b = behind_within (skip_newlines rest) in
    let fewer = inner.0 in (
      omega arith,
      rw is refl,
      λ d room.
          let below : (levels d).targets names no_targets (behind ts) uses.Pattern ≡ Ok (t, known, rest) =
          ap (λ (i : Inside). i.targets names no_targets (behind ts) uses.Pattern) (levels_at d (omega arith))
          ∙ inner.2 (d - 1) (omega arith) (length (behind ts) + 1) (omega arith) in
          rw is (rw below (rw several (rw closing refl))),
    )

pub pattern_parameter : (names known : Names) (ts rest : Tokens) (t : TargetsNode)
    → first ts ≡ words.Mark marks.OpenParenthesis → Fact (Pattern no_targets t) names (behind ts) known rest
    → t.several ≡ true
    → first (skip_newlines rest) ≡ words.Mark marks.CloseParenthesis
    → Fact (Parameter (required (list_node t.list))) names ts known (behind (skip_newlines rest))
unfolding parameter_at
pattern_parameter names known ts rest t is inner several closing =
    let one = word_taken (words.Mark marks.OpenParenthesis) ts is refl in
    let a = newlines_skipped rest in
    let b = behind_within (skip_newlines rest) in
    let fewer = inner.0 in (
      omega arith,
      rw is refl,
      λ d room.
          let read : targets (levels d) names no_targets (behind ts) uses.Pattern ≡ Ok (t, known, rest) =
          inner.2 d (omega arith) (length (behind ts) + 1) (omega arith) in
          rw is (rw read (rw several (rw closing refl))),
    )

-- a target behind those that were found
pattern_turn : (i : Inside) (n : ℕ) (found : TargetsNode) (x : TargetNode) (names known : Names) (ts rest : Tokens)
    → 0 < n → target i uses.Pattern names ts ≡ Ok (x, known, rest) → begins_pattern (first ts) ≡ true
    → may_follow x found ≡ true → targets_from i n uses.Pattern true found names ts
    ≡ targets_from i (n - 1) uses.Pattern (is_comma_word (first rest)) (put x (is_comma_word (first rest)) found) known
    (skip_if (is_comma_word (first rest)) rest)
unfolding next_target
pattern_turn i n found x names known ts rest some read begins follows =
    targets_step i n uses.Pattern true found names ts some ∙ rw begins (rw read (rw follows refl))

pub last_pattern : (names known : Names) (ts rest : Tokens) (found : TargetsNode) (x : TargetNode)
    → Fact (PatternTarget x) names ts known rest → may_follow x found ≡ true → is_comma_word (first rest) ≡ false
    → Fact (Pattern found (put x false found)) names ts known rest
last_pattern names known ts rest found x inner follows ends =
    let fewer = inner.0 in (
      fewer,
      inner.1,
      λ d room n enough. pattern_turn (levels d) n found x names known ts rest (omega arith) (inner.2 d room) inner.1
          follows
          ∙ rw ends (targets_step (levels d) (n - 1) uses.Pattern false (put x false found) known rest (omega arith)),
    )

pub comma_pattern : (names known : Names) (ts rest : Tokens) (found : TargetsNode) (x : TargetNode)
    → Fact (PatternTarget x) names ts known rest → may_follow x found ≡ true → is_comma_word (first rest) ≡ true
    → begins_pattern (first (behind rest)) ≡ false
    → Fact (Pattern found (put x true found)) names ts known (behind rest)
comma_pattern names known ts rest found x inner follows comma ends =
    let fewer = inner.0 in
    let less = behind_within rest in (
      omega arith,
      inner.1,
      λ d room n enough.
          let stops : targets_from (levels d) (n - 1) uses.Pattern true (put x true found) known (behind rest) ≡ Ok
          (put x true found, known, behind rest) =
          targets_step (levels d) (n - 1) uses.Pattern true (put x true found) known (behind rest) (omega arith)
          ∙ rw ends refl in
          pattern_turn (levels d) n found x names known ts rest (omega arith) (inner.2 d room) inner.1 follows
          ∙ rw comma stops,
    )

pub more_patterns : (names known later : Names) (ts rest more : Tokens) (found t : TargetsNode) (x : TargetNode)
    → Fact (PatternTarget x) names ts known rest → may_follow x found ≡ true → is_comma_word (first rest) ≡ true
    → Fact (Pattern (put x true found) t) known (behind rest) later more → Fact (Pattern found t) names ts later more
more_patterns names known later ts rest more found t x inner follows comma others =
    let a = inner.0 in
    let b = word_taken (first rest) rest refl (comma_word (first rest) comma).0 in
    let c = others.0 in (
      omega arith,
      inner.1,
      λ d room n enough. pattern_turn (levels d) n found x names known ts rest (omega arith) (inner.2 d room) inner.1
          follows ∙ rw comma (others.2 d (omega arith) (n - 1) (omega arith)),
    )
