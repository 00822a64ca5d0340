-- The error of the front for one of its parts, and of a text for its lines.
use Rattle.std.specs.Prelude.{ℕ, List}
use Rattle.line_ends.specs.Lines.{place_in}
use Rattle.lexer_steps.specs.declared.error.LexError.{LexError}
use Rattle.lexer_steps.specs.declared.error.LexError.TheVariants as lexing
use Rattle.rb_parser.specs.declared.error.ParseError.{ParseError}
use Rattle.rb_parser.specs.declared.error.ParseError.TheVariants as parsing
use Rattle.rb_lower.specs.declared.error.LowerError.{LowerError}
use Rattle.rb_lower.specs.declared.error.LowerError.TheVariants as lowering
use Rattle.rb_front.specs.declared.error.FrontError.{FrontError}
use Rattle.rb_front.specs.declared.error.FrontError.TheVariants.{TooLong, Syntax, TooDeep, Outside, NoMemory}

abbrev pub lex_error : LexError → FrontError
lex_error (lexing.Syntax at) = Syntax at
lex_error lexing.NoMemory = NoMemory

abbrev pub parse_error : ParseError → FrontError
parse_error (parsing.Syntax at) = Syntax at
parse_error parsing.NoMemory = NoMemory

abbrev pub lower_error : LowerError → FrontError
lower_error (lowering.Outside what at) = Outside what at
lower_error lowering.NoMemory = NoMemory

-- what is wrong at a place of the lines is wrong at the place of that in the text
abbrev pub placed : List ℕ → FrontError → FrontError
placed text TooLong = TooLong
placed text (Syntax at) = Syntax (place_in text at)
placed text TooDeep = TooDeep
placed text (Outside what at) = Outside what (place_in text at)
placed text NoMemory = NoMemory
