-- What the tokens before a place say of the token there.
use Rattle.std.specs.Prelude.{ℕ, Bool, true, false}
use Rattle.rb_syntax.specs.declared.outside.Outside.{Outside}
use Rattle.rb_syntax.specs.declared.outside.Outside.TheVariants as outsides
use Rattle.rb_syntax.specs.declared.token.TokenKind.{TokenKind}
use Rattle.rb_syntax.specs.declared.token.TokenKind.TheVariants as kinds
use Rattle.lexer_tables.specs.declared.context.Context.{Context}
use Rattle.lexer_tables.specs.declared.context.Context.TheVariants as contexts
use Rattle.lexer_tables.specs.Following.{after_name, after_symbol, after_constant, after_keyword, after_mark}

pub record Place : Type 0 where
  pub at : ℕ
  pub context : Context
  -- white space, a comment or the end of a line stands directly before
  pub space : Bool
  -- no token stands before on its line
  pub line_start : Bool
  -- the parameters of a block are open
  pub bars : Bool

abbrev pub start : Place
start = record { at = 0; context = contexts.Start; space = false; line_start = true; bars = false }

-- after white space or a comment
abbrev pub spaced_to : Place → ℕ → Place
spaced_to p end = record p { at = end; space = true }

-- after the end of a line
abbrev pub lined_to : Place → ℕ → Place
lined_to p end = record p { at = end; space = true; line_start = true }

unfoldable pub after_outside : Context → Outside → Context
after_outside c outsides.Float = contexts.Operand
after_outside c outsides.Rational = contexts.Operand
after_outside c outsides.Imaginary = contexts.Operand
after_outside c outsides.WideInteger = contexts.Operand
after_outside c outsides.Regexp = contexts.Operand
after_outside c outsides.Backquote = contexts.Operand
after_outside c outsides.PercentLiteral = contexts.Operand
after_outside c outsides.Ambiguous = contexts.Start
after_outside c outsides.QuotedLabel = contexts.Value
after_outside c outsides.NonAsciiName = after_name c
after_outside c outsides.SquigglyHeredoc = contexts.Operand
after_outside c outsides.ClassVariable = contexts.Operand
after_outside c outsides.SpecialGlobal = contexts.Operand
after_outside c outsides.MatchOperator = contexts.Operand
after_outside c outsides.SafeNavigation = contexts.Operand
after_outside c outsides.DoubleSplat = contexts.Operand
after_outside c outsides.Redo = contexts.Operand
after_outside c outsides.FileKeyword = contexts.Operand
after_outside c outsides.LineKeyword = contexts.Operand
after_outside c outsides.EncodingKeyword = contexts.Operand
after_outside c outsides.BeginBlock = contexts.Operand
after_outside c outsides.EndBlock = contexts.Operand
after_outside c outsides.KeywordParameter = contexts.Operand
after_outside c outsides.EndlessMethod = contexts.Operand
after_outside c outsides.GlobalAlias = contexts.Operand
after_outside c outsides.FlipFlop = contexts.Operand
after_outside c outsides.SplatClause = contexts.Operand
after_outside c outsides.PatternMatch = contexts.Operand
after_outside c outsides.Unbuilt = contexts.Operand

-- what a token says of the next one
unfoldable pub after : Context → TokenKind → Context
after c kinds.Newline = contexts.Start
after c kinds.Semicolon = contexts.Start
after c (kinds.Identifier bytes) = after_name c
after c (kinds.Constant bytes) = after_constant c
after c (kinds.MethodName bytes) = after_name c
after c (kinds.InstanceVariable bytes) = contexts.Operand
after c (kinds.GlobalVariable bytes) = contexts.Operand
after c (kinds.Label bytes) = contexts.Start
after c (kinds.Keyword k) = after_keyword k
after c (kinds.Punctuator m) = after_mark c m
after c (kinds.Integer n) = contexts.Operand
after c (kinds.Character b) = contexts.Operand
after c (kinds.Symbol bytes) = after_symbol c
after c kinds.StringBegin = contexts.Operand
after c kinds.SymbolBegin = contexts.Operand
after c kinds.WordsBegin = contexts.Operand
after c kinds.SymbolsBegin = contexts.Operand
after c (kinds.Piece bytes) = contexts.Operand
after c (kinds.Word bytes) = contexts.Operand
after c kinds.InterpolationBegin = contexts.Start
after c kinds.InterpolationEnd = contexts.Operand
after c kinds.LiteralEnd = contexts.Operand
after c (kinds.Outside o) = after_outside c o
