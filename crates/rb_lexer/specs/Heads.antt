-- Heads of heredocs.
use Rattle.std.specs.Prelude.{ℕ, ◌+◌, ◌==◌, not, Bool, ◌||◌, ◌&&◌, if◌then◌else◌, List, [], ◌∷◌, drop, Option, Some, None, slice_index}
use Rattle.lexer_tables.specs.ByteClass.{is_capital, is_name_start}
use Rattle.lexer_tables.specs.Following.{expects_value, is_name, wants_name}
use Rattle.rb_lexer.specs.declared.heads.HeadPlace.{HeadPlace}
use Rattle.lexer_steps.specs.Scan.{name_end}
use Rattle.lexer_steps.specs.State.{State}

abbrev pub ends_quoted : ℕ → ℕ → Bool
ends_quoted quote b = (b == quote) || (b == 10)

-- the identifier in quotes ends at the quote or the end of the line
unfoldable pub quoted_end : ℕ → ℕ → List ℕ → ℕ
quoted_end quote at [] = at
quoted_end quote at (x ∷ xs) = if ends_quoted quote x then at else quoted_end quote (at + 1) xs

abbrev pub is_quote : ℕ → Bool
is_quote b = (b == 34) || (b == 39)

-- white space may stand before the identifier in the line that ends the body
abbrev pub is_indented : ℕ → Bool
is_indented dash = (dash == 45) || (dash == 126)

abbrev pub quoted_head : List ℕ → ℕ → ℕ → ℕ → ℕ → Option HeadPlace
quoted_head text start dash first to =
    if slice_index text to == first then Some (record {
      from = start + 1;
      to = to;
      end = to + 1;
      dash = dash;
      first = first;
    }) else None

abbrev pub named_head : ℕ → ℕ → ℕ → ℕ → Option HeadPlace
named_head start dash first to = Some (record { from = start; to = to; end = to; dash = dash; first = first })

abbrev pub head_from : List ℕ → ℕ → ℕ → ℕ → Option HeadPlace
head_from text start dash first =
    if is_quote first then quoted_head text start dash first (quoted_end first (start + 1) (drop (start + 1) text))
    else if is_name_start first then named_head start dash first (name_end (start + 1) (drop (start + 1) text))
    else None

-- after << and maybe - or ~ stands an identifier: a name, or any bytes in quotes
unfoldable pub head_at : List ℕ → ℕ → Option HeadPlace
head_at text at =
    let dash = slice_index text (at + 2) in
    let start = if is_indented dash then at + 3 else at + 2 in
    head_from text start dash (slice_index text start)

-- after an identifier the head has a quote, a capital letter or ~
abbrev pub is_plain_head : HeadPlace → Bool
is_plain_head h = is_quote h.first || is_capital h.first || (h.dash == 126)

abbrev pub heredoc_here : Option HeadPlace → State → Option HeadPlace
heredoc_here None s = None
heredoc_here (Some h) s =
    if expects_value s.context then Some h
    else if is_name s.context && s.space && is_plain_head h then Some h
    else None

-- a heredoc begins where a value is expected, or after an identifier and white space
unfoldable pub begins_heredoc : List ℕ → ℕ → State → Option HeadPlace
begins_heredoc text at s =
    if not (slice_index text at == 60) || not (slice_index text (at + 1) == 60) || wants_name s.context then None
    else heredoc_here (head_at text at) s
