-- A mark that stands at a place is found by the table, or a longer one.
use Rattle.std.proofs.Common.{◌≡◌, ℕ, ◌+◌, ◌<◌, ◌≤◌, List, [], ◌∷◌, length, get_or, arith, refl, Bool, true, false, if◌then◌else◌, Option, Some}
use Rattle.rb_syntax.specs.declared.punctuator.Punctuator.{Punctuator}
use Rattle.rb_syntax.specs.declared.punctuator.Punctuator.TheVariants as marks
use Rattle.lexer_tables.specs.declared.marks.Mark.{Mark}
use Rattle.lexer_tables.specs.Marks.{mark_with, mark_of, single_mark, plus_mark, minus_mark, star_mark, slash_mark, percent_mark, caret_mark, equal_mark, not_mark, less_mark, greater_mark, ampersand_mark, bar_mark, dot_mark, colon_mark}
use Rattle.lexer_laws.specs.Longest.{Stands}
use Rattle.lexer_laws.specs.Operators.{spelling, is_operator}

abbrev pub mark_at : List ℕ → ℕ → Option Mark
mark_at text at = mark_of (get_or text at 0) (get_or text (at + 1) 0) (get_or text (at + 2) 0)

pub record Finds (n : ℕ) (q : Punctuator) (m : Mark) : Type 0 where
  pub far : n ≤ m.length
  pub same : m.length ≡ n → m.punctuator ≡ q

either : (n : ℕ) (q : Punctuator) (t : Bool) (x y : Mark) → Finds n q x → Finds n q y → Finds n q (if t then x else y)
either n q true x y a b = a
either n q false x y a b = b

longer : (n k : ℕ) (p q : Punctuator) → n < k → Finds n q (mark_with p k)
longer n k p q h = record { far = omega (arith, h); same = λ e. absurd (omega (arith, h, e)) }

exactly : (n : ℕ) (q : Punctuator) → Finds n q (mark_with q n)
exactly n q = record { far = omega arith; same = λ e. refl }

abbrev pub Found : ℕ → Punctuator → Option Mark → Type 0
Found n q o = (m : Mark) × (o ≡ Some m) × Finds n q m

has_Plus : (b c : ℕ) → Found 1 marks.Plus (mark_of 43 b c)
unfolding mark_of plus_mark
has_Plus b c = (
  (plus_mark b),
  refl,
  (either 1 marks.Plus _ _ _ (longer 1 2 marks.PlusAssign marks.Plus (omega arith))
      (exactly 1 marks.Plus)),
)

has_Minus : (b c : ℕ) → Found 1 marks.Minus (mark_of 45 b c)
unfolding mark_of minus_mark
has_Minus b c = (
  (minus_mark b),
  refl,
  (either 1 marks.Minus _ _ _
      (longer 1 2 marks.LambdaArrow marks.Minus (omega arith))
      (either 1 marks.Minus _ _ _ (longer 1 2 marks.MinusAssign marks.Minus (omega arith)) (exactly 1 marks.Minus))),
)

has_Star : (b c : ℕ) → Found 1 marks.Star (mark_of 42 b c)
unfolding mark_of star_mark
has_Star b c = (
  (star_mark b c),
  refl,
  (either 1 marks.Star _ _ _
      (longer 1 3 marks.StarStarAssign marks.Star (omega arith))
      (either 1 marks.Star _ _ _ (longer 1 2 marks.StarStar marks.Star (omega arith))
      (either 1 marks.Star _ _ _ (longer 1 2 marks.StarAssign marks.Star (omega arith)) (exactly 1 marks.Star)))),
)

has_Slash : (b c : ℕ) → Found 1 marks.Slash (mark_of 47 b c)
unfolding mark_of slash_mark
has_Slash b c = (
  (slash_mark b),
  refl,
  (either 1 marks.Slash _ _ _
      (longer 1 2 marks.SlashAssign marks.Slash (omega arith)) (exactly 1 marks.Slash)),
)

has_Percent : (b c : ℕ) → Found 1 marks.Percent (mark_of 37 b c)
unfolding mark_of percent_mark
has_Percent b c = (
  (percent_mark b),
  refl,
  (either 1 marks.Percent _ _ _
      (longer 1 2 marks.PercentAssign marks.Percent (omega arith)) (exactly 1 marks.Percent)),
)

has_StarStar : (c : ℕ) → Found 2 marks.StarStar (mark_of 42 42 c)
unfolding mark_of star_mark
has_StarStar c = (
  (star_mark 42 c),
  refl,
  (either 2 marks.StarStar _ _ _
      (longer 2 3 marks.StarStarAssign marks.StarStar (omega arith)) (exactly 2 marks.StarStar)),
)

has_Not : (b c : ℕ) → Found 1 marks.Not (mark_of 33 b c)
unfolding mark_of not_mark
has_Not b c = (
  (not_mark b),
  refl,
  (either 1 marks.Not _ _ _ (longer 1 2 marks.NotEqual marks.Not (omega arith))
      (either 1 marks.Not _ _ _ (longer 1 2 marks.NotMatch marks.Not (omega arith)) (exactly 1 marks.Not))),
)

has_Tilde : (b c : ℕ) → Found 1 marks.Tilde (mark_of 126 b c)
unfolding mark_of single_mark
has_Tilde b c = ((mark_with marks.Tilde 1), refl, (exactly 1 marks.Tilde))

has_Equal : (c : ℕ) → Found 2 marks.Equal (mark_of 61 61 c)
unfolding mark_of equal_mark
has_Equal c = (
  (equal_mark 61 c),
  refl,
  (either 2 marks.Equal _ _ _
      (longer 2 3 marks.CaseEqual marks.Equal (omega arith)) (exactly 2 marks.Equal)),
)

has_CaseEqual : Found 3 marks.CaseEqual (mark_of 61 61 61)
unfolding mark_of equal_mark
has_CaseEqual = ((equal_mark 61 61), refl, (exactly 3 marks.CaseEqual))

has_NotEqual : (c : ℕ) → Found 2 marks.NotEqual (mark_of 33 61 c)
unfolding mark_of not_mark
has_NotEqual c = ((not_mark 61), refl, (exactly 2 marks.NotEqual))

has_Match : (c : ℕ) → Found 2 marks.Match (mark_of 61 126 c)
unfolding mark_of equal_mark
has_Match c = ((equal_mark 126 c), refl, (exactly 2 marks.Match))

has_NotMatch : (c : ℕ) → Found 2 marks.NotMatch (mark_of 33 126 c)
unfolding mark_of not_mark
has_NotMatch c = ((not_mark 126), refl, (exactly 2 marks.NotMatch))

has_Less : (b c : ℕ) → Found 1 marks.Less (mark_of 60 b c)
unfolding mark_of less_mark
has_Less b c = (
  (less_mark b c),
  refl,
  (either 1 marks.Less _ _ _ (longer 1 3 marks.Compare marks.Less (omega arith))
      (either 1 marks.Less _ _ _ (longer 1 2 marks.LessEqual marks.Less (omega arith))
      (either 1 marks.Less _ _ _ (longer 1 3 marks.ShiftLeftAssign marks.Less (omega arith))
      (either 1 marks.Less _ _ _ (longer 1 2 marks.ShiftLeft marks.Less (omega arith)) (exactly 1 marks.Less))))),
)

has_LessEqual : (c : ℕ) → Found 2 marks.LessEqual (mark_of 60 61 c)
unfolding mark_of less_mark
has_LessEqual c = (
  (less_mark 61 c),
  refl,
  (either 2 marks.LessEqual _ _ _
      (longer 2 3 marks.Compare marks.LessEqual (omega arith)) (exactly 2 marks.LessEqual)),
)

has_Greater : (b c : ℕ) → Found 1 marks.Greater (mark_of 62 b c)
unfolding mark_of greater_mark
has_Greater b c = (
  (greater_mark b c),
  refl,
  (either 1 marks.Greater _ _ _
      (longer 1 2 marks.GreaterEqual marks.Greater (omega arith))
      (either 1 marks.Greater _ _ _ (longer 1 3 marks.ShiftRightAssign marks.Greater (omega arith))
      (either 1 marks.Greater _ _ _ (longer 1 2 marks.ShiftRight marks.Greater (omega arith))
      (exactly 1 marks.Greater)))),
)

has_GreaterEqual : (c : ℕ) → Found 2 marks.GreaterEqual (mark_of 62 61 c)
unfolding mark_of greater_mark
has_GreaterEqual c = ((greater_mark 61 c), refl, (exactly 2 marks.GreaterEqual))

has_Compare : Found 3 marks.Compare (mark_of 60 61 62)
unfolding mark_of less_mark
has_Compare = ((less_mark 61 62), refl, (exactly 3 marks.Compare))

has_ShiftLeft : (c : ℕ) → Found 2 marks.ShiftLeft (mark_of 60 60 c)
unfolding mark_of less_mark
has_ShiftLeft c = (
  (less_mark 60 c),
  refl,
  (either 2 marks.ShiftLeft _ _ _
      (longer 2 3 marks.ShiftLeftAssign marks.ShiftLeft (omega arith)) (exactly 2 marks.ShiftLeft)),
)

has_ShiftRight : (c : ℕ) → Found 2 marks.ShiftRight (mark_of 62 62 c)
unfolding mark_of greater_mark
has_ShiftRight c = (
  (greater_mark 62 c),
  refl,
  (either 2 marks.ShiftRight _ _ _
      (longer 2 3 marks.ShiftRightAssign marks.ShiftRight (omega arith)) (exactly 2 marks.ShiftRight)),
)

has_Ampersand : (b c : ℕ) → Found 1 marks.Ampersand (mark_of 38 b c)
unfolding mark_of ampersand_mark
has_Ampersand b c = (
  (ampersand_mark b c),
  refl,
  (either 1 marks.Ampersand _ _ _
      (longer 1 3 marks.AndAndAssign marks.Ampersand (omega arith))
      (either 1 marks.Ampersand _ _ _ (longer 1 2 marks.AndAnd marks.Ampersand (omega arith))
      (either 1 marks.Ampersand _ _ _ (longer 1 2 marks.AmpersandAssign marks.Ampersand (omega arith))
      (either 1 marks.Ampersand _ _ _ (longer 1 2 marks.AmpersandDot marks.Ampersand (omega arith))
      (exactly 1 marks.Ampersand))))),
)

has_Bar : (b c : ℕ) → Found 1 marks.Bar (mark_of 124 b c)
unfolding mark_of bar_mark
has_Bar b c = (
  (bar_mark b c),
  refl,
  (either 1 marks.Bar _ _ _ (longer 1 3 marks.OrOrAssign marks.Bar (omega arith))
      (either 1 marks.Bar _ _ _ (longer 1 2 marks.OrOr marks.Bar (omega arith))
      (either 1 marks.Bar _ _ _ (longer 1 2 marks.BarAssign marks.Bar (omega arith)) (exactly 1 marks.Bar)))),
)

has_Caret : (b c : ℕ) → Found 1 marks.Caret (mark_of 94 b c)
unfolding mark_of caret_mark
has_Caret b c = (
  (caret_mark b),
  refl,
  (either 1 marks.Caret _ _ _
      (longer 1 2 marks.CaretAssign marks.Caret (omega arith)) (exactly 1 marks.Caret)),
)

has_AndAnd : (c : ℕ) → Found 2 marks.AndAnd (mark_of 38 38 c)
unfolding mark_of ampersand_mark
has_AndAnd c = (
  (ampersand_mark 38 c),
  refl,
  (either 2 marks.AndAnd _ _ _
      (longer 2 3 marks.AndAndAssign marks.AndAnd (omega arith)) (exactly 2 marks.AndAnd)),
)

has_OrOr : (c : ℕ) → Found 2 marks.OrOr (mark_of 124 124 c)
unfolding mark_of bar_mark
has_OrOr c = (
  (bar_mark 124 c),
  refl,
  (either 2 marks.OrOr _ _ _ (longer 2 3 marks.OrOrAssign marks.OrOr (omega arith))
      (exactly 2 marks.OrOr)),
)

has_Assign : (b c : ℕ) → Found 1 marks.Assign (mark_of 61 b c)
unfolding mark_of equal_mark
has_Assign b c = (
  (equal_mark b c),
  refl,
  (either 1 marks.Assign _ _ _
      (longer 1 3 marks.CaseEqual marks.Assign (omega arith))
      (either 1 marks.Assign _ _ _ (longer 1 2 marks.Equal marks.Assign (omega arith))
      (either 1 marks.Assign _ _ _ (longer 1 2 marks.Match marks.Assign (omega arith))
      (either 1 marks.Assign _ _ _ (longer 1 2 marks.Arrow marks.Assign (omega arith)) (exactly 1 marks.Assign))))),
)

has_PlusAssign : (c : ℕ) → Found 2 marks.PlusAssign (mark_of 43 61 c)
unfolding mark_of plus_mark
has_PlusAssign c = ((plus_mark 61), refl, (exactly 2 marks.PlusAssign))

has_MinusAssign : (c : ℕ) → Found 2 marks.MinusAssign (mark_of 45 61 c)
unfolding mark_of minus_mark
has_MinusAssign c = ((minus_mark 61), refl, (exactly 2 marks.MinusAssign))

has_StarAssign : (c : ℕ) → Found 2 marks.StarAssign (mark_of 42 61 c)
unfolding mark_of star_mark
has_StarAssign c = ((star_mark 61 c), refl, (exactly 2 marks.StarAssign))

has_SlashAssign : (c : ℕ) → Found 2 marks.SlashAssign (mark_of 47 61 c)
unfolding mark_of slash_mark
has_SlashAssign c = ((slash_mark 61), refl, (exactly 2 marks.SlashAssign))

has_PercentAssign : (c : ℕ) → Found 2 marks.PercentAssign (mark_of 37 61 c)
unfolding mark_of percent_mark
has_PercentAssign c = ((percent_mark 61), refl, (exactly 2 marks.PercentAssign))

has_StarStarAssign : Found 3 marks.StarStarAssign (mark_of 42 42 61)
unfolding mark_of star_mark
has_StarStarAssign = ((star_mark 42 61), refl, (exactly 3 marks.StarStarAssign))

has_ShiftLeftAssign : Found 3 marks.ShiftLeftAssign (mark_of 60 60 61)
unfolding mark_of less_mark
has_ShiftLeftAssign = ((less_mark 60 61), refl, (exactly 3 marks.ShiftLeftAssign))

has_ShiftRightAssign : Found 3 marks.ShiftRightAssign (mark_of 62 62 61)
unfolding mark_of greater_mark
has_ShiftRightAssign = ((greater_mark 62 61), refl, (exactly 3 marks.ShiftRightAssign))

has_AmpersandAssign : (c : ℕ) → Found 2 marks.AmpersandAssign (mark_of 38 61 c)
unfolding mark_of ampersand_mark
has_AmpersandAssign c = ((ampersand_mark 61 c), refl, (exactly 2 marks.AmpersandAssign))

has_BarAssign : (c : ℕ) → Found 2 marks.BarAssign (mark_of 124 61 c)
unfolding mark_of bar_mark
has_BarAssign c = ((bar_mark 61 c), refl, (exactly 2 marks.BarAssign))

has_CaretAssign : (c : ℕ) → Found 2 marks.CaretAssign (mark_of 94 61 c)
unfolding mark_of caret_mark
has_CaretAssign c = ((caret_mark 61), refl, (exactly 2 marks.CaretAssign))

has_AndAndAssign : Found 3 marks.AndAndAssign (mark_of 38 38 61)
unfolding mark_of ampersand_mark
has_AndAndAssign = ((ampersand_mark 38 61), refl, (exactly 3 marks.AndAndAssign))

has_OrOrAssign : Found 3 marks.OrOrAssign (mark_of 124 124 61)
unfolding mark_of bar_mark
has_OrOrAssign = ((bar_mark 124 61), refl, (exactly 3 marks.OrOrAssign))

has_DotDot : (c : ℕ) → Found 2 marks.DotDot (mark_of 46 46 c)
unfolding mark_of dot_mark
has_DotDot c = (
  (dot_mark 46 c),
  refl,
  (either 2 marks.DotDot _ _ _
      (longer 2 3 marks.DotDotDot marks.DotDot (omega arith)) (exactly 2 marks.DotDot)),
)

has_DotDotDot : Found 3 marks.DotDotDot (mark_of 46 46 46)
unfolding mark_of dot_mark
has_DotDotDot = ((dot_mark 46 46), refl, (exactly 3 marks.DotDotDot))

has_Question : (b c : ℕ) → Found 1 marks.Question (mark_of 63 b c)
unfolding mark_of single_mark
has_Question b c = ((mark_with marks.Question 1), refl, (exactly 1 marks.Question))

has_Colon : (b c : ℕ) → Found 1 marks.Colon (mark_of 58 b c)
unfolding mark_of colon_mark
has_Colon b c = (
  (colon_mark b),
  refl,
  (either 1 marks.Colon _ _ _
      (longer 1 2 marks.ColonColon marks.Colon (omega arith)) (exactly 1 marks.Colon)),
)

has_ColonColon : (c : ℕ) → Found 2 marks.ColonColon (mark_of 58 58 c)
unfolding mark_of colon_mark
has_ColonColon c = ((colon_mark 58), refl, (exactly 2 marks.ColonColon))

has_Arrow : (c : ℕ) → Found 2 marks.Arrow (mark_of 61 62 c)
unfolding mark_of equal_mark
has_Arrow c = ((equal_mark 62 c), refl, (exactly 2 marks.Arrow))

has_LambdaArrow : (c : ℕ) → Found 2 marks.LambdaArrow (mark_of 45 62 c)
unfolding mark_of minus_mark
has_LambdaArrow c = ((minus_mark 62), refl, (exactly 2 marks.LambdaArrow))

has_Dot : (b c : ℕ) → Found 1 marks.Dot (mark_of 46 b c)
unfolding mark_of dot_mark
has_Dot b c = (
  (dot_mark b c),
  refl,
  (either 1 marks.Dot _ _ _ (longer 1 3 marks.DotDotDot marks.Dot (omega arith))
      (either 1 marks.Dot _ _ _ (longer 1 2 marks.DotDot marks.Dot (omega arith)) (exactly 1 marks.Dot))),
)

has_AmpersandDot : (c : ℕ) → Found 2 marks.AmpersandDot (mark_of 38 46 c)
unfolding mark_of ampersand_mark
has_AmpersandDot c = ((ampersand_mark 46 c), refl, (exactly 2 marks.AmpersandDot))

has_Comma : (b c : ℕ) → Found 1 marks.Comma (mark_of 44 b c)
unfolding mark_of single_mark
has_Comma b c = ((mark_with marks.Comma 1), refl, (exactly 1 marks.Comma))

has_OpenParenthesis : (b c : ℕ) → Found 1 marks.OpenParenthesis (mark_of 40 b c)
unfolding mark_of single_mark
has_OpenParenthesis b c = ((mark_with marks.OpenParenthesis 1), refl, (exactly 1 marks.OpenParenthesis))

has_CloseParenthesis : (b c : ℕ) → Found 1 marks.CloseParenthesis (mark_of 41 b c)
unfolding mark_of single_mark
has_CloseParenthesis b c = ((mark_with marks.CloseParenthesis 1), refl, (exactly 1 marks.CloseParenthesis))

has_OpenBracket : (b c : ℕ) → Found 1 marks.OpenBracket (mark_of 91 b c)
unfolding mark_of single_mark
has_OpenBracket b c = ((mark_with marks.OpenBracket 1), refl, (exactly 1 marks.OpenBracket))

has_CloseBracket : (b c : ℕ) → Found 1 marks.CloseBracket (mark_of 93 b c)
unfolding mark_of single_mark
has_CloseBracket b c = ((mark_with marks.CloseBracket 1), refl, (exactly 1 marks.CloseBracket))

has_OpenBrace : (b c : ℕ) → Found 1 marks.OpenBrace (mark_of 123 b c)
unfolding mark_of single_mark
has_OpenBrace b c = ((mark_with marks.OpenBrace 1), refl, (exactly 1 marks.OpenBrace))

has_CloseBrace : (b c : ℕ) → Found 1 marks.CloseBrace (mark_of 125 b c)
unfolding mark_of single_mark
has_CloseBrace b c = ((mark_with marks.CloseBrace 1), refl, (exactly 1 marks.CloseBrace))

stands_one : (text : List ℕ) (at x : ℕ) (q : Punctuator) → ((b c : ℕ) → Found 1 q (mark_of x b c))
    → Stands text at (x ∷ []) → Found 1 q (mark_at text at)
stands_one text at x q has s = rw (s.1) (has (get_or text (at + 1) 0) (get_or text (at + 2) 0))

stands_two : (text : List ℕ) (at x y : ℕ) (q : Punctuator) → ((c : ℕ) → Found 2 q (mark_of x y c))
    → Stands text at (x ∷ y ∷ []) → Found 2 q (mark_at text at)
stands_two text at x y q has s = rw (s.1, s.2.1) (has (get_or text (at + 2) 0))

stands_three : (text : List ℕ) (at x y z : ℕ) (q : Punctuator) → Found 3 q (mark_of x y z)
    → Stands text at (x ∷ y ∷ z ∷ []) → Found 3 q (mark_at text at)
stands_three text at x y z q has s =
    let e : at + 1 + 1 ≡ at + 2 = omega arith in
    let third : get_or text (at + 2) 0 ≡ z = rw (← e) (s.2.2.1) in
    rw (s.1, s.2.1, third) has

pub finds : (text : List ℕ) (at : ℕ) (q : Punctuator) → is_operator q ≡ true → Stands text at (spelling q)
    → Found (length (spelling q)) q (mark_at text at)
unfolding spelling is_operator
finds text at marks.Plus o s = stands_one text at 43 marks.Plus has_Plus s
finds text at marks.Minus o s = stands_one text at 45 marks.Minus has_Minus s
finds text at marks.Star o s = stands_one text at 42 marks.Star has_Star s
finds text at marks.Slash o s = stands_one text at 47 marks.Slash has_Slash s
finds text at marks.Percent o s = stands_one text at 37 marks.Percent has_Percent s
finds text at marks.StarStar o s = stands_two text at 42 42 marks.StarStar has_StarStar s
finds text at marks.Not o s = stands_one text at 33 marks.Not has_Not s
finds text at marks.Tilde o s = stands_one text at 126 marks.Tilde has_Tilde s
finds text at marks.Equal o s = stands_two text at 61 61 marks.Equal has_Equal s
finds text at marks.CaseEqual o s = stands_three text at 61 61 61 marks.CaseEqual has_CaseEqual s
finds text at marks.NotEqual o s = stands_two text at 33 61 marks.NotEqual has_NotEqual s
finds text at marks.Match o s = stands_two text at 61 126 marks.Match has_Match s
finds text at marks.NotMatch o s = stands_two text at 33 126 marks.NotMatch has_NotMatch s
finds text at marks.Less o s = stands_one text at 60 marks.Less has_Less s
finds text at marks.LessEqual o s = stands_two text at 60 61 marks.LessEqual has_LessEqual s
finds text at marks.Greater o s = stands_one text at 62 marks.Greater has_Greater s
finds text at marks.GreaterEqual o s = stands_two text at 62 61 marks.GreaterEqual has_GreaterEqual s
finds text at marks.Compare o s = stands_three text at 60 61 62 marks.Compare has_Compare s
finds text at marks.ShiftLeft o s = stands_two text at 60 60 marks.ShiftLeft has_ShiftLeft s
finds text at marks.ShiftRight o s = stands_two text at 62 62 marks.ShiftRight has_ShiftRight s
finds text at marks.Ampersand o s = stands_one text at 38 marks.Ampersand has_Ampersand s
finds text at marks.Bar o s = stands_one text at 124 marks.Bar has_Bar s
finds text at marks.OpenBar o s = absurd (cc)
finds text at marks.CloseBar o s = absurd (cc)
finds text at marks.Caret o s = stands_one text at 94 marks.Caret has_Caret s
finds text at marks.AndAnd o s = stands_two text at 38 38 marks.AndAnd has_AndAnd s
finds text at marks.OrOr o s = stands_two text at 124 124 marks.OrOr has_OrOr s
finds text at marks.Assign o s = stands_one text at 61 marks.Assign has_Assign s
finds text at marks.PlusAssign o s = stands_two text at 43 61 marks.PlusAssign has_PlusAssign s
finds text at marks.MinusAssign o s = stands_two text at 45 61 marks.MinusAssign has_MinusAssign s
finds text at marks.StarAssign o s = stands_two text at 42 61 marks.StarAssign has_StarAssign s
finds text at marks.SlashAssign o s = stands_two text at 47 61 marks.SlashAssign has_SlashAssign s
finds text at marks.PercentAssign o s = stands_two text at 37 61 marks.PercentAssign has_PercentAssign s
finds text at marks.StarStarAssign o s = stands_three text at 42 42 61 marks.StarStarAssign has_StarStarAssign s
finds text at marks.ShiftLeftAssign o s = stands_three text at 60 60 61 marks.ShiftLeftAssign has_ShiftLeftAssign s
finds text at marks.ShiftRightAssign o s = stands_three text at 62 62 61 marks.ShiftRightAssign has_ShiftRightAssign s
finds text at marks.AmpersandAssign o s = stands_two text at 38 61 marks.AmpersandAssign has_AmpersandAssign s
finds text at marks.BarAssign o s = stands_two text at 124 61 marks.BarAssign has_BarAssign s
finds text at marks.CaretAssign o s = stands_two text at 94 61 marks.CaretAssign has_CaretAssign s
finds text at marks.AndAndAssign o s = stands_three text at 38 38 61 marks.AndAndAssign has_AndAndAssign s
finds text at marks.OrOrAssign o s = stands_three text at 124 124 61 marks.OrOrAssign has_OrOrAssign s
finds text at marks.DotDot o s = stands_two text at 46 46 marks.DotDot has_DotDot s
finds text at marks.DotDotDot o s = stands_three text at 46 46 46 marks.DotDotDot has_DotDotDot s
finds text at marks.Question o s = stands_one text at 63 marks.Question has_Question s
finds text at marks.Colon o s = stands_one text at 58 marks.Colon has_Colon s
finds text at marks.ColonColon o s = stands_two text at 58 58 marks.ColonColon has_ColonColon s
finds text at marks.Arrow o s = stands_two text at 61 62 marks.Arrow has_Arrow s
finds text at marks.LambdaArrow o s = stands_two text at 45 62 marks.LambdaArrow has_LambdaArrow s
finds text at marks.Dot o s = stands_one text at 46 marks.Dot has_Dot s
finds text at marks.AmpersandDot o s = stands_two text at 38 46 marks.AmpersandDot has_AmpersandDot s
finds text at marks.Comma o s = stands_one text at 44 marks.Comma has_Comma s
finds text at marks.OpenParenthesis o s = stands_one text at 40 marks.OpenParenthesis has_OpenParenthesis s
finds text at marks.CloseParenthesis o s = stands_one text at 41 marks.CloseParenthesis has_CloseParenthesis s
finds text at marks.OpenBracket o s = stands_one text at 91 marks.OpenBracket has_OpenBracket s
finds text at marks.CloseBracket o s = stands_one text at 93 marks.CloseBracket has_CloseBracket s
finds text at marks.OpenBrace o s = stands_one text at 123 marks.OpenBrace has_OpenBrace s
finds text at marks.CloseBrace o s = stands_one text at 125 marks.CloseBrace has_CloseBrace s
