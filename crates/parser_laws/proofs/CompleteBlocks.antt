-- Blocks with their parameters that are derived are read.
use Rattle.std.proofs.Common.{◌≡◌, ◌+◌, ◌-◌, true, false, length, Ok, refl, ap, ◌∙◌, ℕ, subst, sym, ◌<◌, ◌≤◌, arith}
use Rattle.std.specs.Prelude.{take}
use Rattle.rb_syntax.specs.declared.keyword.Keyword.TheVariants as keywords
use Rattle.rb_syntax.specs.declared.punctuator.Punctuator.TheVariants as marks
use Rattle.parser_tree.specs.Node.{Node}
use Rattle.parser_tokens.specs.Tokens.{first, behind, bytes_at, place_at}
use Rattle.parser_tokens.specs.declared.word.Word.{Word}
use Rattle.parser_tokens.specs.declared.word.Word.TheVariants as words
use Rattle.parser_ahead.specs.Names.{declared, locals_from}
use Rattle.parser_ahead.specs.Primary.{is_comma_word}
use Rattle.parser_ahead.specs.declared.primary.BlockStyle.TheVariants as styles
use Rattle.parser_form_nodes.specs.Parameters.{ParameterNodes, no_parameters, begins_parameter, with_comma, block_of}
use Rattle.parser_forms.specs.Definitions.{body, block}
use Rattle.parser_forms.specs.Parameters as forms
use Rattle.parser_forms.specs.Parameters.{is_open_bar, parameters, parameters_from, block_parameters}
use Rattle.parser_forms.proofs.Turns.{parameters_step, locals_step}
use Rattle.parser_forms.specs.Reading.{Names, Tokens, Inside}
use Rattle.rb_parser.specs.Levels.{level_above, levels}
use Rattle.parser_laws.specs.Rules.{Statements, Parameters, ParameterList, BlockParameters, BarredParameters, BarredLocals, BlockLocals, Block, Body, opens_bars, is_semicolon}
use Rattle.parser_laws.proofs.Facts.{Fact, levels_at, word_taken, behind_within}
use Rattle.parser_laws.proofs.CompleteCompounds.{itself_within}

-- the same words
same_bars : (w : Word) → opens_bars w ≡ false → is_open_bar w ≡ false
same_bars (words.Mark marks.OpenBar) h = h
same_bars w h = refl

same_semicolon : (w : Word) → forms.is_semicolon w ≡ is_semicolon w
same_semicolon words.Semicolon = refl
same_semicolon w = refl

pub last_local : (names : Names) (ts : Tokens) → first (behind ts) ≡ words.Identifier
    → is_comma_word (first (behind (behind ts))) ≡ false
    → Fact BlockLocals names ts (declared names (bytes_at (behind ts)) false) (behind (behind ts))
last_local names ts is ends =
    let one = behind_within ts in
    let two = word_taken words.Identifier (behind ts) is refl in (
      omega arith,
      refl,
      λ d room n enough.
          let last : forms.locals_from (n - 1) false (declared names (bytes_at (behind ts)) false)
          (behind (behind ts)) ≡ Ok (declared names (bytes_at (behind ts)) false, behind (behind ts)) =
          locals_step (n - 1) false (declared names (bytes_at (behind ts)) false) (behind (behind ts)) (omega arith) in
          locals_step n true names ts (omega arith) ∙ rw is (rw ends last),
    )

pub more_locals : (names known : Names) (ts rest : Tokens) → first (behind ts) ≡ words.Identifier
    → is_comma_word (first (behind (behind ts))) ≡ true
    → Fact BlockLocals (declared names (bytes_at (behind ts)) false) (behind (behind ts)) known rest
    → Fact BlockLocals names ts known rest
more_locals names known ts rest is comma others =
    let one = behind_within ts in
    let two = word_taken words.Identifier (behind ts) is refl in
    let fewer = others.0 in (
      omega arith,
      refl,
      λ d room n enough. locals_step n true names ts (omega arith)
          ∙ rw is (rw comma (others.2 d (omega arith) (n - 1) (omega arith))),
    )

pub no_locals : (names : Names) (ts : Tokens) → is_semicolon (first ts) ≡ false → Fact BarredLocals names ts names ts
no_locals names ts other = (
  itself_within ts,
  refl,
  λ d room. rw (same_semicolon (first ts) ∙ other)
      (locals_step (length ts + 1) false names ts (omega arith)),
)

pub some_locals : (names known : Names) (ts rest : Tokens) → is_semicolon (first ts) ≡ true
    → Fact BlockLocals names ts known rest → Fact BarredLocals names ts known rest
some_locals names known ts rest there inner =
    let fewer = inner.0 in
    (omega arith, refl, λ d room. rw (same_semicolon (first ts) ∙ there) (inner.2 d room (length ts + 1) (omega arith)))

pub plain_barred : (names known : Names) (ts rest : Tokens) (l : ParameterNodes)
    → Fact (Parameters l) names ts known rest → Fact (BarredParameters l) names ts known rest
plain_barred names known ts rest l inner = (inner.0, refl, λ d room. (false, l, inner.2 d room, refl))

pub comma_barred : (names known : Names) (ts rest : Tokens) (l : ParameterNodes)
    → Fact (ParameterList l) names ts known rest → is_comma_word (first rest) ≡ true
    → begins_parameter (first (behind rest)) ≡ false
    → Fact (BarredParameters (with_comma l)) names ts known (behind rest)
comma_barred names known ts rest l inner comma ends =
    let fewer = inner.0 in
    let less = behind_within rest in (
      omega arith,
      refl,
      λ d room.
          let f = inner.2 d room (length ts + 1) (omega arith) in
          let some = f.1 in
          let last : parameters_from (level_above (levels d)) f.0 true true l known (behind rest) ≡ Ok
          ((l, true), known, behind rest) =
          parameters_step (level_above (levels d)) f.0 true true l known (behind rest) (omega arith) ∙ rw ends refl in
          (true, l, f.2 ∙ rw comma last, refl),
    )

pub no_bars : (names : Names) (ts : Tokens) → opens_bars (first ts) ≡ false
    → Fact (BlockParameters no_parameters) names ts names ts
no_bars names ts other = (itself_within ts, refl, λ d room. rw (same_bars (first ts) other) refl)

pub bars : (names known later : Names) (ts rest more : Tokens) (l : ParameterNodes)
    → first ts ≡ words.Mark marks.OpenBar → Fact (BarredParameters l) names (behind ts) known rest
    → Fact BarredLocals known rest later more
    → first more ≡ words.Mark marks.CloseBar → Fact (BlockParameters l) names ts later (behind more)
bars names known later ts rest more l is inner variables closes =
    let one = word_taken (words.Mark marks.OpenBar) ts is refl in
    let two = behind_within more in
    let a = inner.0 in
    let b = variables.0 in (
      omega arith,
      refl,
      λ d room.
          let r = inner.2 d (omega arith) in
          rw is (rw r.2 (rw (variables.2 d (omega arith))
          (rw closes (ap (λ (k : ParameterNodes). Ok (k, later, behind more)) r.3)))),
    )

-- the parameters of a block, by the rules a level deeper
parameters_below : (d : ℕ) (names known : Names) (ts rest : Tokens) (l : ParameterNodes) → 0 < d
    → Fact (BlockParameters l) names ts known rest → length ts ≤ d - 1
    → block_parameters (levels d) names ts ≡ Ok (l, known, rest)
parameters_below d names known ts rest l some inner room =
    subst (λ (i : Inside). block_parameters i names ts ≡ Ok (l, known, rest)) (sym (levels_at d some))
    (inner.2 (d - 1) room)

pub brace_block : (names known later : Names) (ts rest more : Tokens) (l : ParameterNodes) (n : Node)
    → first ts ≡ words.Mark marks.OpenBrace → Fact (BlockParameters l) names (behind ts) known rest
    → Fact (Statements n) known rest later more → first more ≡ words.Mark marks.CloseBrace
    → Fact (Block styles.Brace (block_of (place_at ts) l (locals_from (length names) later) n)) names ts
    (take (length names) later) (behind more)
unfolding block
brace_block names known later ts rest more l n is parameters_there inner closes =
    let one = word_taken (words.Mark marks.OpenBrace) ts is refl in
    let two = behind_within more in
    let a = parameters_there.0 in
    let b = inner.0 in (
      omega arith,
      refl,
      λ d room.
          let read : (levels d).statements known rest ≡ Ok (n, later, more) =
          ap (λ (i : Inside). i.statements known rest) (levels_at d (omega arith))
          ∙ inner.2 (d - 1) (omega arith) in
          rw (parameters_below d names known (behind ts) rest l (omega arith) parameters_there (omega arith))
          (rw read (rw closes refl)),
    )

pub do_block : (names known later : Names) (ts rest last : Tokens) (l : ParameterNodes) (n : Node)
    → first ts ≡ words.Key keywords.Do → Fact (BlockParameters l) names (behind ts) known rest
    → Fact (Body n) known rest later last
    → Fact (Block styles.Do (block_of (place_at ts) l (locals_from (length names) later) n))
    names ts (take (length names) later) last
unfolding block
do_block names known later ts rest last l n is parameters_there inner =
    let one = word_taken (words.Key keywords.Do) ts is refl in
    let a = parameters_there.0 in
    let b = inner.0 in (
      omega arith,
      refl,
      λ d room.
          let read : body (levels d) known rest ≡ Ok (n, later, last) =
          subst (λ (i : Inside). body i known rest ≡ Ok (n, later, last)) (sym (levels_at d (omega arith)))
          (inner.2 (d - 1) (omega arith)) in
          rw (parameters_below d names known (behind ts) rest l (omega arith) parameters_there (omega arith))
          (rw read refl),
    )
