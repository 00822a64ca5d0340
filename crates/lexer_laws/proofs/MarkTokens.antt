-- Which token a mark is.
use Rattle.std.proofs.Common.{◌≡◌, ℕ, ◌+◌, List, refl, sym, ap, ◌∙◌, subst, Bool, true, Option, Some, None}
use Rattle.rb_syntax.specs.declared.punctuator.Punctuator.{Punctuator}
use Rattle.rb_syntax.specs.declared.punctuator.Punctuator.TheVariants as marks
use Rattle.rb_syntax.specs.declared.token.TokenKind.TheVariants as kinds
use Rattle.lexer_tables.specs.declared.marks.Mark.{Mark}
use Rattle.lexer_steps.specs.State.{State}
use Rattle.lexer_steps.specs.Signs.{marked, mark_step}
use Rattle.lexer_laws.specs.Operators.{is_operator, LongestOperator}
use Rattle.lexer_laws.specs.Place.{after}
use Rattle.lexer_laws.specs.Reads.{value_at, is_newline, bars_behind, bars_after}
use Rattle.lexer_laws.specs.Taking.{took}
use Rattle.lexer_laws.proofs.Operators.{operator_sound, operator_complete}
use Rattle.lexer_laws.proofs.FoundMarks.{mark_at}
use Rattle.lexer_laws.proofs.Steps.{passed, both_are}

bars_same : (q : Punctuator) (b : Bool) → is_operator q ≡ true → bars_behind b q ≡ b
unfolding is_operator bars_behind
bars_same marks.Plus b h = refl
bars_same marks.Minus b h = refl
bars_same marks.Star b h = refl
bars_same marks.Slash b h = refl
bars_same marks.Percent b h = refl
bars_same marks.StarStar b h = refl
bars_same marks.Not b h = refl
bars_same marks.Tilde b h = refl
bars_same marks.Equal b h = refl
bars_same marks.CaseEqual b h = refl
bars_same marks.NotEqual b h = refl
bars_same marks.Match b h = refl
bars_same marks.NotMatch b h = refl
bars_same marks.Less b h = refl
bars_same marks.LessEqual b h = refl
bars_same marks.Greater b h = refl
bars_same marks.GreaterEqual b h = refl
bars_same marks.Compare b h = refl
bars_same marks.ShiftLeft b h = refl
bars_same marks.ShiftRight b h = refl
bars_same marks.Ampersand b h = refl
bars_same marks.Bar b h = refl
bars_same marks.OpenBar b h = absurd (cc)
bars_same marks.CloseBar b h = absurd (cc)
bars_same marks.Caret b h = refl
bars_same marks.AndAnd b h = refl
bars_same marks.OrOr b h = refl
bars_same marks.Assign b h = refl
bars_same marks.PlusAssign b h = refl
bars_same marks.MinusAssign b h = refl
bars_same marks.StarAssign b h = refl
bars_same marks.SlashAssign b h = refl
bars_same marks.PercentAssign b h = refl
bars_same marks.StarStarAssign b h = refl
bars_same marks.ShiftLeftAssign b h = refl
bars_same marks.ShiftRightAssign b h = refl
bars_same marks.AmpersandAssign b h = refl
bars_same marks.BarAssign b h = refl
bars_same marks.CaretAssign b h = refl
bars_same marks.AndAndAssign b h = refl
bars_same marks.OrOrAssign b h = refl
bars_same marks.DotDot b h = refl
bars_same marks.DotDotDot b h = refl
bars_same marks.Question b h = refl
bars_same marks.Colon b h = refl
bars_same marks.ColonColon b h = refl
bars_same marks.Arrow b h = refl
bars_same marks.LambdaArrow b h = refl
bars_same marks.Dot b h = refl
bars_same marks.AmpersandDot b h = refl
bars_same marks.Comma b h = refl
bars_same marks.OpenParenthesis b h = refl
bars_same marks.CloseParenthesis b h = refl
bars_same marks.OpenBracket b h = refl
bars_same marks.CloseBracket b h = refl
bars_same marks.OpenBrace b h = refl
bars_same marks.CloseBrace b h = refl

marked_is : (text : List ℕ) (at : ℕ) (m : Mark) (q : Punctuator) (end : ℕ) (s : State) → is_operator q ≡ true
    → m.punctuator ≡ q → at + m.length ≡ end → marked (Some m) at s ≡ passed (took s at (kinds.Punctuator q)) end
unfolding after value_at is_newline bars_after
marked_is text at m q end s o p e = rw (p, e, bars_same q s.bars o) refl

pub mark_read : (text : List ℕ) (at end : ℕ) (q : Punctuator) (s : State) → LongestOperator text at q end
    → mark_step text at s ≡ passed (took s at (kinds.Punctuator q)) end
unfolding mark_step
mark_read text at end q s l =
    let f = operator_complete text at q end l in
    ap (λ (o : Option Mark). marked o at s) f.1 ∙ marked_is text at (f.0) q end s l.there.operator f.2 f.3

mark_from : (text : List ℕ) (at end : ℕ) (s t : State) (o : Option Mark) → mark_at text at ≡ o
    → marked o at s ≡ passed t end → (q : Punctuator) × LongestOperator text at q end
    × (t ≡ took s at (kinds.Punctuator q))
mark_from text at end s t None found h = absurd (cc)
mark_from text at end s t (Some m) found h =
    let l = operator_sound text at m found in
    let p = both_are t (took s at (kinds.Punctuator m.punctuator)) end (at + m.length) (sym h
    ∙ marked_is text at m m.punctuator (at + m.length) s l.there.operator refl refl) in
    (m.punctuator, subst (λ (e : ℕ). LongestOperator text at m.punctuator e) (sym p.1) l, p.0)

pub mark_token : (text : List ℕ) (at end : ℕ) (s t : State) → mark_step text at s ≡ passed t end
    → (q : Punctuator) × LongestOperator text at q end × (t ≡ took s at (kinds.Punctuator q))
unfolding mark_step
mark_token text at end s t h = mark_from text at end s t (mark_at text at) refl h
