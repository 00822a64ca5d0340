-- What a primary, a phrase or a part of a list begins with.
use Rattle.std.specs.Prelude.{Bool, true, false, ◌&&◌, if◌then◌else◌, List, Option, Some, None}
use Rattle.rb_syntax.specs.declared.keyword.Keyword.{Keyword}
use Rattle.rb_syntax.specs.declared.keyword.Keyword.TheVariants as keywords
use Rattle.rb_syntax.specs.declared.outside.Outside.TheVariants as outsides
use Rattle.rb_syntax.specs.declared.punctuator.Punctuator.{Punctuator}
use Rattle.rb_syntax.specs.declared.punctuator.Punctuator.TheVariants as marks
use Rattle.rb_syntax.specs.declared.token.Token.{Token}
use Rattle.parser_tokens.specs.Tokens.{first, behind, bytes_at}
use Rattle.parser_tokens.specs.Starts.{begins_argument, begins_value, makes_call, is_open_parenthesis, jump_at}
use Rattle.parser_ahead.specs.Names.{is_known}
use Rattle.parser_ahead.specs.Groups.{is_target_group, is_quoted_key}
use Rattle.parser_ahead.specs.declared.names.Variable.{Variable}
use Rattle.parser_tokens.specs.declared.word.Word.{Word}
use Rattle.parser_tokens.specs.declared.word.Word.TheVariants as words
use Rattle.parser_ahead.specs.declared.sections.Compound.TheVariants as compounds
use Rattle.parser_tokens.specs.declared.starts.Jump.{Jump}
use Rattle.parser_ahead.specs.declared.primary.Primary.{Primary}
use Rattle.parser_ahead.specs.declared.primary.Primary.TheVariants as primaries
use Rattle.parser_ahead.specs.declared.primary.Place.{Place}
use Rattle.parser_ahead.specs.declared.primary.Place.TheVariants as places
use Rattle.parser_ahead.specs.declared.primary.Start.{Start}
use Rattle.parser_ahead.specs.declared.primary.Start.TheVariants as starts
use Rattle.parser_ahead.specs.declared.primary.PartStart.{PartStart}
use Rattle.parser_ahead.specs.declared.primary.PartStart.TheVariants as parts
use Rattle.parser_ahead.specs.declared.primary.DoOwner.{DoOwner}
use Rattle.parser_ahead.specs.declared.primary.DoOwner.TheVariants as owners
use Rattle.parser_ahead.specs.declared.primary.BlockStyle.{BlockStyle}
use Rattle.parser_ahead.specs.declared.primary.BlockStyle.TheVariants as styles

abbrev pub mark_primary : Punctuator → Primary
mark_primary marks.OpenParenthesis = primaries.Group
mark_primary marks.OpenBracket = primaries.Bracket
mark_primary marks.OpenBrace = primaries.Brace
mark_primary marks.LambdaArrow = primaries.Lambda
mark_primary _ = primaries.Leaf

abbrev pub keyword_primary : Keyword → List Token → Primary
keyword_primary keywords.Super ts = primaries.Super
keyword_primary keywords.Yield ts = primaries.Yield
keyword_primary keywords.Def ts = primaries.Define
keyword_primary keywords.Class ts = primaries.Class
keyword_primary keywords.Module ts = primaries.Module
keyword_primary keywords.Defined ts = if is_open_parenthesis (first ts) then primaries.Defined else primaries.Leaf
keyword_primary keywords.If ts = primaries.Compound compounds.If
keyword_primary keywords.Unless ts = primaries.Compound compounds.Unless
keyword_primary keywords.While ts = primaries.Compound compounds.While
keyword_primary keywords.Until ts = primaries.Compound compounds.Until
keyword_primary keywords.For ts = primaries.Compound compounds.For
keyword_primary keywords.Case ts = primaries.Compound compounds.Case
keyword_primary keywords.Begin ts = primaries.Compound compounds.Body
keyword_primary _ ts = primaries.Leaf

abbrev pub primary_of : Word → List Variable → List Token → Primary
primary_of words.Identifier names ts =
    if is_known (bytes_at ts) names then (if makes_call (behind ts) then primaries.Name else primaries.Local) else
    primaries.Name
primary_of words.MethodName names ts = primaries.Name
primary_of words.Constant names ts = if makes_call (behind ts) then primaries.Name else primaries.Leaf
primary_of (words.Other outsides.NonAsciiName) names ts = primaries.OutsideName
primary_of words.StringBegin names ts = primaries.Text
primary_of words.Character names ts = primaries.Text
primary_of words.SymbolBegin names ts = primaries.QuotedSymbol
primary_of (words.Mark p) names ts = mark_primary p
primary_of (words.Key k) names ts = keyword_primary k (behind ts)
primary_of _ names ts = primaries.Leaf

unfoldable pub primary_at : List Variable → List Token → Primary
primary_at names ts = primary_of (first ts) names ts

abbrev pub allows_command : Place → Bool
allows_command places.Statement = true
allows_command places.Command = true
allows_command places.Argument = false

abbrev pub is_statement : Place → Bool
is_statement places.Statement = true
is_statement places.Command = false
is_statement places.Argument = false

-- the place of an assigned value
abbrev pub of_value : Place → Place
of_value places.Statement = places.Command
of_value places.Command = places.Command
of_value places.Argument = places.Argument

abbrev pub yield_start : List Token → Start
yield_start ts = if begins_argument ts then starts.Yield else starts.Operand

abbrev pub jump_start : Jump → List Token → Start
jump_start j ts = if begins_value (first ts) then starts.Jump j else starts.Operand

abbrev pub word_start : Word → List Token → Start
word_start (words.Mark marks.Not) ts = starts.Not
word_start (words.Key keywords.Yield) ts = yield_start ts
word_start _ ts = starts.Operand

abbrev pub command_or_jump : Option Jump → Word → List Token → Start
command_or_jump (Some j) w ts = jump_start j ts
command_or_jump None w ts = word_start w ts

unfoldable pub command_start : List Token → Start
command_start ts = command_or_jump (jump_at (first ts)) (first ts) (behind ts)

abbrev pub other_start : Place → List Token → Start
other_start place ts =
    if is_statement place && is_target_group ts then starts.Targets
    else if allows_command place then command_start ts else starts.Operand

abbrev pub start_of : Word → Place → List Token → Start
start_of (words.Key keywords.Defined) place ts =
    if is_open_parenthesis (first (behind ts)) then starts.Operand else starts.Defined
start_of (words.Mark marks.Star) place ts = if is_statement place then starts.Targets else other_start place ts
start_of _ place ts = other_start place ts

-- what a phrase begins with
unfoldable pub start_at : Place → List Token → Start
start_at place ts = start_of (first ts) place ts

abbrev pub part_of : Word → List Token → PartStart
part_of (words.Mark marks.Star) ts = parts.Splat
part_of (words.Mark marks.StarStar) ts = parts.DoubleSplat
part_of (words.Mark marks.Ampersand) ts = parts.Block
part_of words.Label ts = parts.Label
part_of words.StringBegin ts = if is_quoted_key ts then parts.QuotedKey else parts.Value
part_of _ ts = parts.Value

unfoldable pub part_at : List Token → PartStart
part_at ts = part_of (first ts) ts

-- whom a do belongs to among the arguments of a command
abbrev pub in_command : DoOwner → DoOwner
in_command owners.Call = owners.Command
in_command owners.Command = owners.Command
in_command owners.Loop = owners.Loop

abbrev pub call_takes : DoOwner → Bool
call_takes owners.Call = true
call_takes owners.Command = false
call_takes owners.Loop = false

abbrev pub lambda_takes : DoOwner → Bool
lambda_takes owners.Call = true
lambda_takes owners.Command = true
lambda_takes owners.Loop = false

abbrev pub block_of : Bool → Word → Option BlockStyle
block_of takes (words.Mark marks.OpenBrace) = Some styles.Brace
block_of takes (words.Key keywords.Do) = if takes then Some styles.Do else None
block_of takes _ = None

-- the block directly behind a call, and behind -> and its parameters
abbrev pub block_at : DoOwner → List Token → Option BlockStyle
block_at owner ts = block_of (call_takes owner) (first ts)

abbrev pub lambda_block_at : DoOwner → List Token → Option BlockStyle
lambda_block_at owner ts = block_of (lambda_takes owner) (first ts)

abbrev pub is_comma_word : Word → Bool
is_comma_word (words.Mark marks.Comma) = true
is_comma_word _ = false

abbrev pub is_arrow_word : Word → Bool
is_arrow_word (words.Mark marks.Arrow) = true
is_arrow_word _ = false

abbrev pub is_name_word : Word → Bool
is_name_word words.Identifier = true
is_name_word words.Constant = true
is_name_word words.MethodName = true
is_name_word _ = false

-- what alias and undef name a method with
abbrev pub is_method_word : Word → Bool
is_method_word words.Identifier = true
is_method_word words.Constant = true
is_method_word words.MethodName = true
is_method_word words.Symbol = true
is_method_word _ = false
