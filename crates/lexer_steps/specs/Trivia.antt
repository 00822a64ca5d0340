-- White space, comments and the ends of lines.
use Rattle.std.specs.Prelude.{ℕ, ◌+◌, ◌-◌, List, [], ◌∷◌, drop, codes, ◌==◌, nat_eq, nat_lt, not, Bool, true, false, ◌||◌, ◌&&◌, if◌then◌else◌, Option, Some, None, Result, Ok, Err, slice_index}
use Rattle.std.specs.List.{starts_with}
use Rattle.rb_syntax.specs.declared.token.TokenKind.TheVariants as kinds
use Rattle.lexer_tables.specs.declared.context.Context.TheVariants as contexts
use Rattle.lexer_tables.specs.ByteClass.{is_blank, is_white, is_name_start}
use Rattle.lexer_tables.specs.Following.{can_end}
use Rattle.lexer_tables.specs.Marks.{operator_name}
use Rattle.lexer_steps.specs.declared.trivia.Between.{Between}
use Rattle.lexer_steps.specs.declared.trivia.Between.TheVariants.{Fresh, Inside, Comment, BlockLine, Block, Token}
use Rattle.lexer_steps.specs.Scan.{comment_end, line_end}
use Rattle.lexer_steps.specs.State.{State, pushed, spaced, lined}

-- a comment of whole lines begins with a line that begins =begin, and ends with a line that begins =end
abbrev pub begins_block : List ℕ → Bool
begins_block xs = starts_with nat_eq xs (codes "=begin")

abbrev pub ends_block : List ℕ → Bool
ends_block xs = starts_with nat_eq xs (codes "=end")

abbrev pub begins_line : List ℕ → ℕ → Bool
begins_line text at = (at == 0) || (slice_index text (at - 1) == 10)

abbrev pub is_block : List ℕ → ℕ → Bool
is_block text at = begins_line text at && begins_block (drop at text)

-- where the line begins that ends the comment; fresh: the place begins a line
unfoldable pub block_end : ℕ → Bool → List ℕ → Option ℕ
block_end at fresh [] = None
block_end at fresh (x ∷ xs) = if fresh && ends_block (x ∷ xs) then Some at else block_end (at + 1) (x == 10) xs

abbrev pub passing_space : ℕ → Between
passing_space b = if b == 10 then Fresh else if b == 35 then Comment else if is_blank b then Inside else Token

-- a zero byte is no part of a comment
abbrev pub passing_comment : ℕ → Between
passing_comment b = if b == 0 then Token else if b == 10 then Fresh else Comment

abbrev pub passing_line : ℕ → Between
passing_line b = if b == 10 then BlockLine else Block

-- what the first of the bytes makes of where its place lies
unfoldable pub passing : Between → List ℕ → ℕ → Between
passing Fresh xs b = if begins_block xs then Block else passing_space b
passing Inside xs b = passing_space b
passing Comment xs b = passing_comment b
passing BlockLine xs b = if ends_block xs then Comment else passing_line b
passing Block xs b = passing_line b
passing Token xs b = Token

abbrev pub is_token : Between → Bool
is_token Fresh = false
is_token Inside = false
is_token Comment = false
is_token BlockLine = false
is_token Block = false
is_token Token = true

-- where the next token begins
unfoldable pub next_token : ℕ → Between → List ℕ → ℕ
next_token at between [] = at
next_token at between (x ∷ xs) =
    let next = passing between (x ∷ xs) x in
    if is_token next then at else next_token (at + 1) next xs

-- whether a name begins at a place, or that of an operator's method
abbrev pub begins_name : List ℕ → ℕ → Bool
begins_name text at =
    is_name_start (slice_index text at)
    || nat_lt 0 (operator_name (slice_index text at) (slice_index text (at + 1)) (slice_index text (at + 2)))

-- a single dot, and a name behind it and what is no token
abbrev pub is_dot : List ℕ → ℕ → Bool
is_dot text at =
    (slice_index text at == 46) && begins_name text (next_token (at + 1) Inside (drop (at + 1) text))

-- The end of a line, where the next line begins at next: a token where the token before can end a statement,
-- unless the next token is a dot and a name.
unfoldable pub newline_step : List ℕ → ℕ → ℕ → State → Result (State × ℕ) ℕ
newline_step text at next s =
    let token = next_token next Fresh (drop next text) in
    if not (can_end s.context) then Ok (lined s, next)
    else if is_dot text token then Ok (lined s, token)
    else Ok (lined (pushed s at kinds.Newline contexts.Start), next)

abbrev pub is_trivia : List ℕ → ℕ → Bool
is_trivia text at =
    let b = slice_index text at in
    is_white b || (b == 35) || (b == 92) || is_block text at

abbrev pub behind_block : List ℕ → ℕ → State → Option ℕ → Result (State × ℕ) ℕ
behind_block text at s None = Err at
behind_block text at s (Some end) = Ok (lined s, line_end end (drop end text))

-- white space or a comment
unfoldable pub trivia_step : List ℕ → ℕ → State → Result (State × ℕ) ℕ
trivia_step text at s =
    let b = slice_index text at in
    if b == 10 then newline_step text at (at + 1) s
    else if b == 35 then Ok (spaced s, comment_end (at + 1) (drop (at + 1) text))
    else if b == 92 then (if slice_index text (at + 1) == 10 then Ok (lined s, at + 2) else Err at)
    else if b == 61 then behind_block text at s (block_end (at + 1) false (drop (at + 1) text))
    else Ok (spaced s, at + 1)
