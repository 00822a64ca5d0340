-- The core of a text, and why it has none. Its lines are the text as it is read, and are what has tokens.
use Rattle.std.specs.Prelude.{◌≡◌, ℕ, ◌≤◌, ◌<◌, nat_le, if◌then◌else◌, List, length, Option, None, Some, Result, Ok, Err}
use Rattle.line_ends.specs.Lines.{as_read, place_in}
use Rattle.rb_syntax.specs.declared.outside.Outside.{Outside as Construct}
use Rattle.rb_syntax.specs.declared.token.Token.{Token}
use Rattle.rb_lexer.specs.Lexing.{tokens_of}
use Rattle.lexer_depth.specs.Levels.{deep}
use Rattle.parser_tree.specs.Parts.{PlainNode}
use Rattle.parser_checks.specs.Places.{misplaced}
use Rattle.rb_parser.specs.Program.{tree_of, Misses}
use Rattle.lower_outside.specs.Search.{found}
use Rattle.lower_outside.specs.declared.construct.Found.{Found}
use Rattle.ir_core.specs.CoreForm.{Body}
use Rattle.lower_table.specs.Lowering.{program}
use Rattle.rb_front.specs.declared.error.FrontError.{FrontError}
use Rattle.rb_front.specs.declared.error.FrontError.TheVariants.{TooLong, Syntax, TooDeep, Outside, NoMemory}

-- the tokens, at most 256 deep, have the tree, and each word in it may stand where it stands
abbrev pub IsTree : Result (List Token) ℕ → ℕ → PlainNode → Type 0
IsTree (Err place) size n = ⊥
IsTree (Ok tokens) size n = (deep tokens ≤ 256) × (tree_of tokens size ≡ Ok n) × (misplaced n.1 ≡ None)

abbrev pub HasTree : List ℕ → PlainNode → Type 0
HasTree lines n = IsTree (tokens_of lines) (length lines) n

-- there are no tokens, for a cause at that place, or they are at most 256 deep and are refused for that place
abbrev pub IsNoProgram : Result (List Token) ℕ → ℕ → ℕ → Type 0
IsNoProgram (Err place) size at = at ≡ place
IsNoProgram (Ok tokens) size at = (deep tokens ≤ 256) × Misses tokens size at (tree_of tokens size)

abbrev pub IsTooDeep : Result (List Token) ℕ → Type 0
IsTooDeep (Err place) = ⊥
IsTooDeep (Ok tokens) = 256 < deep tokens

abbrev pub HasNoTree : List ℕ → FrontError → Type 0
HasNoTree lines TooLong = ⊥
HasNoTree lines (Syntax at) = IsNoProgram (tokens_of lines) (length lines) at
HasNoTree lines TooDeep = IsTooDeep (tokens_of lines)
HasNoTree lines (Outside what at) = ⊥
HasNoTree lines NoMemory = Unit {0}

-- the least place of a construct outside the language
abbrev pub IsOutside : List ℕ → Construct → ℕ → Type 0
IsOutside lines what at = (n : PlainNode) × HasTree lines n × (found None n.1 ≡ Some (record { what = what; at = at }))

abbrev pub HasNoCore : List ℕ → FrontError → Type 0
HasNoCore lines (Outside what at) = IsOutside lines what at
HasNoCore lines TooLong = HasNoTree lines TooLong
HasNoCore lines (Syntax at) = HasNoTree lines (Syntax at)
HasNoCore lines TooDeep = HasNoTree lines TooDeep
HasNoCore lines NoMemory = HasNoTree lines NoMemory

-- Each cause holds of other texts than the next, and of none that has a core. Its place in the text is that of its place in
-- the lines.

abbrev pub IsSyntax : List ℕ → ℕ → Type 0
IsSyntax text at = (k : ℕ) × HasNoCore (as_read text) (Syntax k) × (at ≡ place_in text k) × (at ≤ length text)

abbrev pub IsBeyond : List ℕ → Construct → ℕ → Type 0
IsBeyond text what at = (k : ℕ) × HasNoCore (as_read text) (Outside what k) × (at ≡ place_in text k)

abbrev pub Refuses : List ℕ → FrontError → Type 0
Refuses text TooLong = 16777216 < length text
Refuses text (Syntax at) = (length text ≤ 16777216) × IsSyntax text at
Refuses text TooDeep = (length text ≤ 16777216) × HasNoCore (as_read text) TooDeep
Refuses text (Outside what at) = (length text ≤ 16777216) × IsBeyond text what at
Refuses text NoMemory = Unit {0}

-- the core of a source in whose tree each word may stand where it stands and no construct is outside the language
abbrev pub core_within : Option ℕ → Option Found → PlainNode → Option Body
core_within None None n = Some (program n.0 n.1)
core_within None (Some f) n = None
core_within (Some word) f n = None

abbrev pub core_of_tree : Result PlainNode ℕ → Option Body
core_of_tree (Err place) = None
core_of_tree (Ok n) = core_within (misplaced n.1) (found None n.1) n

-- the core of tokens at most 256 deep
abbrev pub core_of_tokens : Result (List Token) ℕ → ℕ → Option Body
core_of_tokens (Err place) size = None
core_of_tokens (Ok tokens) size = if nat_le (deep tokens) 256 then core_of_tree (tree_of tokens size) else None

abbrev pub core_of_lines : List ℕ → Option Body
core_of_lines lines = core_of_tokens (tokens_of lines) (length lines)

-- the core of a text of at most 16777216 bytes
unfoldable pub core_of : List ℕ → Option Body
core_of text = if nat_le (length text) 16777216 then core_of_lines (as_read text) else None
