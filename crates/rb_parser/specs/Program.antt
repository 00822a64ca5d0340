-- The tree of a whole text.
use Rattle.std.specs.Prelude.{min, ◌≡◌, ◌≤◌, ℕ, Bool, true, false, if◌then◌else◌, [], length, Option, None, Some, Result, Ok, Err}
use Rattle.std.specs.Option.{option_map}
use Rattle.parser_ahead.specs.Names.{locals_from}
use Rattle.parser_tree.specs.Parts.{PlainNode, plain_view}
use Rattle.parser_tree.specs.View.{Tree, view}
use Rattle.parser_tree.specs.declared.tree.PlainBody.{PlainBody}
use Rattle.parser_tokens.specs.Tokens.{first}
use Rattle.parser_tokens.specs.declared.word.Word.{Word}
use Rattle.parser_tokens.specs.declared.word.Word.TheVariants as words
use Rattle.parser_forms.specs.Reading.{Tokens, Inside}
use Rattle.rb_base.specs.Result.{◌>>=◌}
use Rattle.parser_statements.specs.Statements.{statements}
use Rattle.parser_checks.specs.Places.{misplaced}
use Rattle.rb_parser.specs.Levels.{levels}
use Rattle.rb_parser.specs.Places.{place}
use Rattle.rb_parser.specs.declared.error.ParseError.{ParseError}
use Rattle.rb_parser.specs.declared.error.ParseError.TheVariants as errors

-- the tree of a whole source
abbrev pub Source : Type 0
Source = PlainBody Tree

abbrev pub is_finish : Word → Bool
is_finish words.Finish = true
is_finish _ = false

-- statements with the variables that they begin, and nothing behind them
abbrev pub program_over : Inside → Tokens → Result PlainNode ℕ
program_over i ts =
    statements i [] ts
    >>= (λ r. if is_finish (first r.2) then Ok (locals_from 0 r.1, r.0) else Err (length r.2))

-- Each rule within another stands behind a token of its own, so as many levels as tokens are enough.
unfoldable pub program : Tokens → Result PlainNode ℕ
program ts = program_over (levels (length ts)) ts

abbrev pub with_place : Tokens → ℕ → Result PlainNode ℕ → Result PlainNode ℕ
with_place ts size (Ok n) = Ok n
with_place ts size (Err left) = Err (place ts left size)

-- the variables and the node of the tokens of a text of that size, or the place where they leave the grammar
abbrev pub tree_of : Tokens → ℕ → Result PlainNode ℕ
tree_of ts size = with_place ts size (program ts)

abbrev pub Strays : ParseError → Result PlainNode ℕ → Type 0
Strays (errors.Syntax at) n = n ≡ Err at
Strays errors.NoMemory n = Unit {0}

-- what was derived is the tree, or the place, unless memory ran out
abbrev pub Derives : Result Source ParseError → Result PlainNode ℕ → Type 0
Derives (Ok s) n = n ≡ Ok (plain_view s)
Derives (Err e) n = Strays e n

-- the place for which the tokens of a text of that size are refused: where they leave the grammar, or else the least of
-- what may not stand where it stands
abbrev pub refused_at : Tokens → ℕ → Result PlainNode ℕ → Option ℕ
refused_at ts size (Err place) = Some place
refused_at ts size (Ok n) = option_map (λ at. min at size) (misplaced n.1)

abbrev pub Misses : Tokens → ℕ → ℕ → Result PlainNode ℕ → Type 0
Misses ts size at n = refused_at ts size n ≡ Some at

abbrev pub Refused : Tokens → ℕ → ParseError → Result PlainNode ℕ → Type 0
Refused ts size (errors.Syntax at) n = Misses ts size at n
Refused ts size errors.NoMemory n = Unit {0}

-- what parse answered is the tree, in which each word may stand where it stands, or the refusal, unless memory ran out
abbrev pub Parses : Tokens → ℕ → Result Source ParseError → Result PlainNode ℕ → Type 0
Parses ts size (Ok s) n = (n ≡ Ok (plain_view s)) × (misplaced (view s.body) ≡ None)
Parses ts size (Err e) n = Refused ts size e n

-- the place of a refusal, if it has one, is within a text of that size
abbrev pub IsWithin : ℕ → ParseError → Type 0
IsWithin size (errors.Syntax at) = at ≤ size
IsWithin size errors.NoMemory = Unit {0}
