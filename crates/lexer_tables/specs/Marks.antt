-- Marks by longest match: each function has the bytes after the first one.
use Rattle.std.specs.Prelude.{ℕ, ◌==◌, ◌||◌, ◌&&◌, if◌then◌else◌, Option, Some, None, Bool}
use Rattle.rb_syntax.specs.declared.punctuator.Punctuator.{Punctuator}
use Rattle.rb_syntax.specs.declared.punctuator.Punctuator.TheVariants as marks
use Rattle.lexer_tables.specs.declared.marks.Mark.{Mark}

abbrev pub mark_with : Punctuator → ℕ → Mark
mark_with p n = record { punctuator = p; length = n }

unfoldable pub plus_mark : ℕ → Mark
plus_mark second =
    if second == 61 then mark_with marks.PlusAssign 2
    else mark_with marks.Plus 1

unfoldable pub minus_mark : ℕ → Mark
minus_mark second =
    if second == 62 then mark_with marks.LambdaArrow 2
    else if second == 61 then mark_with marks.MinusAssign 2
    else mark_with marks.Minus 1

unfoldable pub star_mark : ℕ → ℕ → Mark
star_mark second third =
    if (second == 42) && (third == 61) then mark_with marks.StarStarAssign 3
    else if second == 42 then mark_with marks.StarStar 2
    else if second == 61 then mark_with marks.StarAssign 2
    else mark_with marks.Star 1

unfoldable pub slash_mark : ℕ → Mark
slash_mark second =
    if second == 61 then mark_with marks.SlashAssign 2
    else mark_with marks.Slash 1

unfoldable pub percent_mark : ℕ → Mark
percent_mark second =
    if second == 61 then mark_with marks.PercentAssign 2
    else mark_with marks.Percent 1

unfoldable pub caret_mark : ℕ → Mark
caret_mark second =
    if second == 61 then mark_with marks.CaretAssign 2
    else mark_with marks.Caret 1

unfoldable pub equal_mark : ℕ → ℕ → Mark
equal_mark second third =
    if (second == 61) && (third == 61) then mark_with marks.CaseEqual 3
    else if second == 61 then mark_with marks.Equal 2
    else if second == 126 then mark_with marks.Match 2
    else if second == 62 then mark_with marks.Arrow 2
    else mark_with marks.Assign 1

unfoldable pub not_mark : ℕ → Mark
not_mark second =
    if second == 61 then mark_with marks.NotEqual 2
    else if second == 126 then mark_with marks.NotMatch 2
    else mark_with marks.Not 1

unfoldable pub less_mark : ℕ → ℕ → Mark
less_mark second third =
    if (second == 61) && (third == 62) then mark_with marks.Compare 3
    else if second == 61 then mark_with marks.LessEqual 2
    else if (second == 60) && (third == 61) then mark_with marks.ShiftLeftAssign 3
    else if second == 60 then mark_with marks.ShiftLeft 2
    else mark_with marks.Less 1

unfoldable pub greater_mark : ℕ → ℕ → Mark
greater_mark second third =
    if second == 61 then mark_with marks.GreaterEqual 2
    else if (second == 62) && (third == 61) then mark_with marks.ShiftRightAssign 3
    else if second == 62 then mark_with marks.ShiftRight 2
    else mark_with marks.Greater 1

unfoldable pub ampersand_mark : ℕ → ℕ → Mark
ampersand_mark second third =
    if (second == 38) && (third == 61) then mark_with marks.AndAndAssign 3
    else if second == 38 then mark_with marks.AndAnd 2
    else if second == 61 then mark_with marks.AmpersandAssign 2
    else if second == 46 then mark_with marks.AmpersandDot 2
    else mark_with marks.Ampersand 1

unfoldable pub bar_mark : ℕ → ℕ → Mark
bar_mark second third =
    if (second == 124) && (third == 61) then mark_with marks.OrOrAssign 3
    else if second == 124 then mark_with marks.OrOr 2
    else if second == 61 then mark_with marks.BarAssign 2
    else mark_with marks.Bar 1

unfoldable pub dot_mark : ℕ → ℕ → Mark
dot_mark second third =
    if (second == 46) && (third == 46) then mark_with marks.DotDotDot 3
    else if second == 46 then mark_with marks.DotDot 2
    else mark_with marks.Dot 1

unfoldable pub colon_mark : ℕ → Mark
colon_mark second =
    if second == 58 then mark_with marks.ColonColon 2
    else mark_with marks.Colon 1

-- marks that begin no longer one
unfoldable pub single_mark : ℕ → Option Mark
single_mark first =
    if first == 126 then Some (mark_with marks.Tilde 1)
    else if first == 63 then Some (mark_with marks.Question 1)
    else if first == 44 then Some (mark_with marks.Comma 1)
    else if first == 40 then Some (mark_with marks.OpenParenthesis 1)
    else if first == 41 then Some (mark_with marks.CloseParenthesis 1)
    else if first == 91 then Some (mark_with marks.OpenBracket 1)
    else if first == 93 then Some (mark_with marks.CloseBracket 1)
    else if first == 123 then Some (mark_with marks.OpenBrace 1)
    else if first == 125 then Some (mark_with marks.CloseBrace 1)
    else None

-- the longest mark that begins with these bytes
unfoldable pub mark_of : ℕ → ℕ → ℕ → Option Mark
mark_of first second third =
    if first == 43 then Some (plus_mark second)
    else if first == 45 then Some (minus_mark second)
    else if first == 42 then Some (star_mark second third)
    else if first == 47 then Some (slash_mark second)
    else if first == 37 then Some (percent_mark second)
    else if first == 94 then Some (caret_mark second)
    else if first == 61 then Some (equal_mark second third)
    else if first == 33 then Some (not_mark second)
    else if first == 60 then Some (less_mark second third)
    else if first == 62 then Some (greater_mark second third)
    else if first == 38 then Some (ampersand_mark second third)
    else if first == 124 then Some (bar_mark second third)
    else if first == 46 then Some (dot_mark second third)
    else if first == 58 then Some (colon_mark second)
    else single_mark first

abbrev pub one_more : Bool → ℕ
one_more b = if b then 2 else 1

-- == and ===
abbrev pub equality_name : ℕ → ℕ → ℕ
equality_name second third = if second == 61 then (if third == 61 then 3 else 2) else 0

-- <, <=, << and <=>
abbrev pub less_name : ℕ → ℕ → ℕ
less_name second third =
    if second == 61 then (if third == 62 then 3 else 2)
    else if second == 60 then 2
    else 1

-- [] and []=
abbrev pub index_name : ℕ → ℕ → ℕ
index_name second third = if second == 93 then (if third == 61 then 3 else 2) else 0

-- how many bytes the name of an operator's method has; 0 for none
unfoldable pub operator_name : ℕ → ℕ → ℕ → ℕ
operator_name first second third =
    if (first == 43) || (first == 45) then one_more (second == 64)
    else if first == 42 then one_more (second == 42)
    else if first == 33 then one_more (second == 61)
    else if (first == 47) || (first == 37) || (first == 126) || (first == 38) || (first == 124) || (first == 94) then 1
    else if first == 61 then equality_name second third
    else if first == 60 then less_name second third
    else if first == 62 then one_more ((second == 61) || (second == 62))
    else if first == 91 then index_name second third
    else 0
