-- What the tokens before a place say of the token there.
use Rattle.std.specs.Prelude.{Bool, true, false, ◌&&◌, not}
use Rattle.rb_syntax.specs.declared.keyword.Keyword.{Keyword}
use Rattle.rb_syntax.specs.declared.keyword.Keyword.TheVariants as keys
use Rattle.rb_syntax.specs.declared.punctuator.Punctuator.{Punctuator}
use Rattle.rb_syntax.specs.declared.punctuator.Punctuator.TheVariants as marks
use Rattle.lexer_tables.specs.declared.context.Context.{Context}
use Rattle.lexer_tables.specs.declared.context.Context.TheVariants as contexts

-- a value is expected at the start, after what can't end a statement, after `rescue` and its kin, and after a jump
abbrev pub expects_value : Context → Bool
expects_value contexts.Start = true
expects_value contexts.Question = true
expects_value contexts.Block = true
expects_value contexts.Value = true
expects_value contexts.Jump = true
expects_value contexts.Name = false
expects_value contexts.Operand = false
expects_value contexts.Def = false
expects_value contexts.DefName = false
expects_value contexts.DefDot = true
expects_value contexts.Dot = true
expects_value contexts.Alias = true
expects_value contexts.AliasName = false
expects_value contexts.Undef = true
expects_value contexts.UndefName = false

-- a newline is a token where the token before it can end a statement
abbrev pub can_end : Context → Bool
can_end contexts.Start = false
can_end contexts.Question = false
can_end contexts.Block = false
can_end contexts.Value = true
can_end contexts.Jump = true
can_end contexts.Name = true
can_end contexts.Operand = true
can_end contexts.Def = true
can_end contexts.DefName = true
can_end contexts.DefDot = false
can_end contexts.Dot = false
can_end contexts.Alias = false
can_end contexts.AliasName = true
can_end contexts.Undef = false
can_end contexts.UndefName = true

-- keywords and operators are names after def, a dot, alias and undef
abbrev pub wants_name : Context → Bool
wants_name contexts.Start = false
wants_name contexts.Question = false
wants_name contexts.Block = false
wants_name contexts.Value = false
wants_name contexts.Jump = false
wants_name contexts.Name = false
wants_name contexts.Operand = false
wants_name contexts.Def = true
wants_name contexts.DefName = false
wants_name contexts.DefDot = true
wants_name contexts.Dot = true
wants_name contexts.Alias = true
wants_name contexts.AliasName = true
wants_name contexts.Undef = true
wants_name contexts.UndefName = false

-- the name of the method that def makes
abbrev pub is_def : Context → Bool
is_def contexts.Start = false
is_def contexts.Question = false
is_def contexts.Block = false
is_def contexts.Value = false
is_def contexts.Jump = false
is_def contexts.Name = false
is_def contexts.Operand = false
is_def contexts.Def = true
is_def contexts.DefName = false
is_def contexts.DefDot = true
is_def contexts.Dot = false
is_def contexts.Alias = false
is_def contexts.AliasName = false
is_def contexts.Undef = false
is_def contexts.UndefName = false

-- an identifier or the name of a method stands before
abbrev pub is_name : Context → Bool
is_name contexts.Start = false
is_name contexts.Question = false
is_name contexts.Block = false
is_name contexts.Value = false
is_name contexts.Jump = false
is_name contexts.Name = true
is_name contexts.Operand = false
is_name contexts.Def = false
is_name contexts.DefName = false
is_name contexts.DefDot = false
is_name contexts.Dot = false
is_name contexts.Alias = false
is_name contexts.AliasName = false
is_name contexts.Undef = false
is_name contexts.UndefName = false

-- { or do stands before
abbrev pub is_block : Context → Bool
is_block contexts.Start = false
is_block contexts.Question = false
is_block contexts.Block = true
is_block contexts.Value = false
is_block contexts.Jump = false
is_block contexts.Name = false
is_block contexts.Operand = false
is_block contexts.Def = false
is_block contexts.DefName = false
is_block contexts.DefDot = false
is_block contexts.Dot = false
is_block contexts.Alias = false
is_block contexts.AliasName = false
is_block contexts.Undef = false
is_block contexts.UndefName = false

-- return, break, next or yield stands before
abbrev pub is_jump : Context → Bool
is_jump contexts.Start = false
is_jump contexts.Question = false
is_jump contexts.Block = false
is_jump contexts.Value = false
is_jump contexts.Jump = true
is_jump contexts.Name = false
is_jump contexts.Operand = false
is_jump contexts.Def = false
is_jump contexts.DefName = false
is_jump contexts.DefDot = false
is_jump contexts.Dot = false
is_jump contexts.Alias = false
is_jump contexts.AliasName = false
is_jump contexts.Undef = false
is_jump contexts.UndefName = false

-- after a name
abbrev pub after_name : Context → Context
after_name contexts.Start = contexts.Name
after_name contexts.Question = contexts.Name
after_name contexts.Block = contexts.Name
after_name contexts.Value = contexts.Name
after_name contexts.Jump = contexts.Name
after_name contexts.Name = contexts.Name
after_name contexts.Operand = contexts.Name
after_name contexts.Def = contexts.DefName
after_name contexts.DefName = contexts.Name
after_name contexts.DefDot = contexts.Operand
after_name contexts.Dot = contexts.Name
after_name contexts.Alias = contexts.AliasName
after_name contexts.AliasName = contexts.Name
after_name contexts.Undef = contexts.UndefName
after_name contexts.UndefName = contexts.Name

-- after a constant
abbrev pub after_constant : Context → Context
after_constant contexts.Start = contexts.Operand
after_constant contexts.Question = contexts.Operand
after_constant contexts.Block = contexts.Operand
after_constant contexts.Value = contexts.Operand
after_constant contexts.Jump = contexts.Operand
after_constant contexts.Name = contexts.Operand
after_constant contexts.Operand = contexts.Operand
after_constant contexts.Def = contexts.DefName
after_constant contexts.DefName = contexts.Operand
after_constant contexts.DefDot = contexts.Operand
after_constant contexts.Dot = contexts.Operand
after_constant contexts.Alias = contexts.AliasName
after_constant contexts.AliasName = contexts.Operand
after_constant contexts.Undef = contexts.UndefName
after_constant contexts.UndefName = contexts.Operand

-- after a dot
abbrev pub after_dot : Context → Context
after_dot contexts.Start = contexts.Dot
after_dot contexts.Question = contexts.Dot
after_dot contexts.Block = contexts.Dot
after_dot contexts.Value = contexts.Dot
after_dot contexts.Jump = contexts.Dot
after_dot contexts.Name = contexts.Dot
after_dot contexts.Operand = contexts.Dot
after_dot contexts.Def = contexts.Dot
after_dot contexts.DefName = contexts.DefDot
after_dot contexts.DefDot = contexts.Dot
after_dot contexts.Dot = contexts.Dot
after_dot contexts.Alias = contexts.Dot
after_dot contexts.AliasName = contexts.Dot
after_dot contexts.Undef = contexts.Dot
after_dot contexts.UndefName = contexts.Dot

-- after a comma
abbrev pub after_comma : Context → Context
after_comma contexts.Start = contexts.Start
after_comma contexts.Question = contexts.Start
after_comma contexts.Block = contexts.Start
after_comma contexts.Value = contexts.Start
after_comma contexts.Jump = contexts.Start
after_comma contexts.Name = contexts.Start
after_comma contexts.Operand = contexts.Start
after_comma contexts.Def = contexts.Start
after_comma contexts.DefName = contexts.Start
after_comma contexts.DefDot = contexts.Start
after_comma contexts.Dot = contexts.Start
after_comma contexts.Alias = contexts.Start
after_comma contexts.AliasName = contexts.Start
after_comma contexts.Undef = contexts.Start
after_comma contexts.UndefName = contexts.Undef

-- after a mark
unfoldable pub after_mark : Context → Punctuator → Context
after_mark c marks.Plus = contexts.Start
after_mark c marks.Minus = contexts.Start
after_mark c marks.Star = contexts.Start
after_mark c marks.Slash = contexts.Start
after_mark c marks.Percent = contexts.Start
after_mark c marks.StarStar = contexts.Start
after_mark c marks.Not = contexts.Start
after_mark c marks.Tilde = contexts.Start
after_mark c marks.Equal = contexts.Start
after_mark c marks.CaseEqual = contexts.Start
after_mark c marks.NotEqual = contexts.Start
after_mark c marks.Match = contexts.Start
after_mark c marks.NotMatch = contexts.Start
after_mark c marks.Less = contexts.Start
after_mark c marks.LessEqual = contexts.Start
after_mark c marks.Greater = contexts.Start
after_mark c marks.GreaterEqual = contexts.Start
after_mark c marks.Compare = contexts.Start
after_mark c marks.ShiftLeft = contexts.Start
after_mark c marks.ShiftRight = contexts.Start
after_mark c marks.Ampersand = contexts.Start
after_mark c marks.Bar = contexts.Start
after_mark c marks.OpenBar = contexts.Start
after_mark c marks.CloseBar = contexts.Value
after_mark c marks.Caret = contexts.Start
after_mark c marks.AndAnd = contexts.Start
after_mark c marks.OrOr = contexts.Start
after_mark c marks.Assign = contexts.Start
after_mark c marks.PlusAssign = contexts.Start
after_mark c marks.MinusAssign = contexts.Start
after_mark c marks.StarAssign = contexts.Start
after_mark c marks.SlashAssign = contexts.Start
after_mark c marks.PercentAssign = contexts.Start
after_mark c marks.StarStarAssign = contexts.Start
after_mark c marks.ShiftLeftAssign = contexts.Start
after_mark c marks.ShiftRightAssign = contexts.Start
after_mark c marks.AmpersandAssign = contexts.Start
after_mark c marks.BarAssign = contexts.Start
after_mark c marks.CaretAssign = contexts.Start
after_mark c marks.AndAndAssign = contexts.Start
after_mark c marks.OrOrAssign = contexts.Start
after_mark c marks.DotDot = contexts.Start
after_mark c marks.DotDotDot = contexts.Start
after_mark c marks.Question = contexts.Question
after_mark c marks.Colon = contexts.Start
after_mark c marks.ColonColon = contexts.Dot
after_mark c marks.Arrow = contexts.Start
after_mark c marks.LambdaArrow = contexts.Start
after_mark c marks.Dot = after_dot c
after_mark c marks.AmpersandDot = contexts.Dot
after_mark c marks.Comma = after_comma c
after_mark c marks.OpenParenthesis = contexts.Start
after_mark c marks.CloseParenthesis = contexts.Operand
after_mark c marks.OpenBracket = contexts.Start
after_mark c marks.CloseBracket = contexts.Operand
after_mark c marks.OpenBrace = contexts.Block
after_mark c marks.CloseBrace = contexts.Operand

-- a modifier where no value is expected
unfoldable pub can_modify : Keyword → Bool
can_modify keys.EncodingName = false
can_modify keys.FileName = false
can_modify keys.LineNumber = false
can_modify keys.BeginBlock = false
can_modify keys.EndBlock = false
can_modify keys.Alias = false
can_modify keys.And = false
can_modify keys.Begin = false
can_modify keys.Break = false
can_modify keys.Case = false
can_modify keys.Class = false
can_modify keys.Def = false
can_modify keys.Defined = false
can_modify keys.Do = false
can_modify keys.Else = false
can_modify keys.Elsif = false
can_modify keys.End = false
can_modify keys.Ensure = false
can_modify keys.False = false
can_modify keys.For = false
can_modify keys.If = true
can_modify keys.In = false
can_modify keys.Module = false
can_modify keys.Next = false
can_modify keys.Nil = false
can_modify keys.Not = false
can_modify keys.Or = false
can_modify keys.Redo = false
can_modify keys.Rescue = true
can_modify keys.Retry = false
can_modify keys.Return = false
can_modify keys.SelfReference = false
can_modify keys.Super = false
can_modify keys.Then = false
can_modify keys.True = false
can_modify keys.Undef = false
can_modify keys.Unless = true
can_modify keys.Until = true
can_modify keys.When = false
can_modify keys.While = true
can_modify keys.Yield = false

-- after a symbol: alias and undef take symbols for names
abbrev pub after_symbol : Context → Context
after_symbol contexts.Start = contexts.Operand
after_symbol contexts.Question = contexts.Operand
after_symbol contexts.Block = contexts.Operand
after_symbol contexts.Value = contexts.Operand
after_symbol contexts.Jump = contexts.Operand
after_symbol contexts.Name = contexts.Operand
after_symbol contexts.Operand = contexts.Operand
after_symbol contexts.Def = contexts.Operand
after_symbol contexts.DefName = contexts.Operand
after_symbol contexts.DefDot = contexts.Operand
after_symbol contexts.Dot = contexts.Operand
after_symbol contexts.Alias = contexts.AliasName
after_symbol contexts.AliasName = contexts.Operand
after_symbol contexts.Undef = contexts.UndefName
after_symbol contexts.UndefName = contexts.Operand

-- after a keyword
unfoldable pub after_keyword : Keyword → Context
after_keyword keys.EncodingName = contexts.Operand
after_keyword keys.FileName = contexts.Operand
after_keyword keys.LineNumber = contexts.Operand
after_keyword keys.BeginBlock = contexts.Operand
after_keyword keys.EndBlock = contexts.Operand
after_keyword keys.Alias = contexts.Alias
after_keyword keys.And = contexts.Start
after_keyword keys.Begin = contexts.Start
after_keyword keys.Break = contexts.Jump
after_keyword keys.Case = contexts.Value
after_keyword keys.Class = contexts.Operand
after_keyword keys.Def = contexts.Def
after_keyword keys.Defined = contexts.Start
after_keyword keys.Do = contexts.Block
after_keyword keys.Else = contexts.Start
after_keyword keys.Elsif = contexts.Start
after_keyword keys.End = contexts.Operand
after_keyword keys.Ensure = contexts.Start
after_keyword keys.False = contexts.Operand
after_keyword keys.For = contexts.Operand
after_keyword keys.If = contexts.Start
after_keyword keys.In = contexts.Start
after_keyword keys.Module = contexts.Start
after_keyword keys.Next = contexts.Jump
after_keyword keys.Nil = contexts.Operand
after_keyword keys.Not = contexts.Start
after_keyword keys.Or = contexts.Start
after_keyword keys.Redo = contexts.Operand
after_keyword keys.Rescue = contexts.Value
after_keyword keys.Retry = contexts.Operand
after_keyword keys.Return = contexts.Jump
after_keyword keys.SelfReference = contexts.Operand
after_keyword keys.Super = contexts.Operand
after_keyword keys.Then = contexts.Start
after_keyword keys.True = contexts.Operand
after_keyword keys.Undef = contexts.Undef
after_keyword keys.Unless = contexts.Start
after_keyword keys.Until = contexts.Start
after_keyword keys.When = contexts.Start
after_keyword keys.While = contexts.Start
after_keyword keys.Yield = contexts.Operand

-- what can be a modifier is one after return, break and next
abbrev pub is_cut_off : Context → Keyword → Bool
is_cut_off c k = is_jump c && can_modify k

-- whether a value is expected at a keyword
abbrev pub expects_value_at : Context → Keyword → Bool
expects_value_at c k = expects_value c && not (is_cut_off c k)

-- the ? of a conditional stands before
abbrev pub is_question : Context → Bool
is_question contexts.Start = false
is_question contexts.Question = true
is_question contexts.Block = false
is_question contexts.Value = false
is_question contexts.Jump = false
is_question contexts.Name = false
is_question contexts.Operand = false
is_question contexts.Def = false
is_question contexts.DefName = false
is_question contexts.DefDot = false
is_question contexts.Dot = false
is_question contexts.Alias = false
is_question contexts.AliasName = false
is_question contexts.Undef = false
is_question contexts.UndefName = false
