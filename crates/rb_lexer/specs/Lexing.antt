-- The tokens of a text.
use Rattle.std.specs.Prelude.{◌≡◌, ℕ, zero, suc, ◌+◌, ◌-◌, ◌≤◌, ◌==◌, nat_lt, not, Bool, true, false, ◌&&◌, ◌||◌, if◌then◌else◌, List, [], ◌∷◌, length, slice_index, take, drop, Option, Some, None, Result, Ok, Err}
use Rattle.rb_heredoc.specs.declared.heredoc.Head.{Head}
use Rattle.rb_heredoc.specs.declared.heredoc.Bodies.{Bodies}
use Rattle.rb_heredoc.specs.Bodies.{bodies_at}
use Rattle.rb_syntax.specs.declared.outside.Outside.TheVariants.{SquigglyHeredoc}
use Rattle.rb_syntax.specs.declared.token.Token.{Token}
use Rattle.rb_syntax.specs.declared.token.TokenKind.TheVariants as kinds
use Rattle.lexer_tables.specs.declared.context.Context.TheVariants as contexts
use Rattle.rb_lexer.specs.declared.heads.HeadPlace.{HeadPlace}
use Rattle.lexer_steps.specs.declared.mode.Mode.{Mode}
use Rattle.lexer_steps.specs.declared.mode.Mode.TheVariants as modes
use Rattle.rb_lexer.specs.declared.reach.Reach.{Reach}
use Rattle.rb_lexer.specs.declared.reach.Region.{Region}
use Rattle.rb_lexer.specs.declared.reach.Region.TheVariants.{Plain, Line, Body}
use Rattle.rb_lexer.specs.Code.{step_in}
use Rattle.rb_lexer.specs.Heads.{begins_heredoc, is_indented}
use Rattle.rb_base.specs.Result.{◌>>=◌}
use Rattle.lexer_steps.specs.Names.{spelled}
use Rattle.lexer_steps.specs.Scan.{line_end}
use Rattle.lexer_steps.specs.State.{State, opening, pushed, entered, left, top, flushed}
use Rattle.lexer_steps.specs.Trivia.{newline_step}

-- a stretch lies in a text of n bytes, and so does what is read after it
abbrev pub RegionFits : ℕ → ℕ → Region → Type 0
RegionFits n stop Plain = stop ≡ n
RegionFits n stop (Line next) = next ≤ n
RegionFits n stop (Body back line next) = (back ≤ line) × (line ≤ n) × (next ≤ n)

abbrev pub Fits : ℕ → Reach → Type 0
Fits n r = (r.at ≤ r.stop) × (r.stop ≤ n) × RegionFits n r.stop r.region

-- how much is left to read of a text of n bytes
abbrev pub behind : ℕ → Region → ℕ
behind n Plain = 0
behind n (Line next) = 1 + (n - next)
behind n (Body back line next) = 2 + (line - back) + (n - next)

abbrev pub unread : ℕ → Reach → ℕ
unread n r = (r.stop - r.at) + behind n r.region

abbrev pub first_length : List (List ℕ) → ℕ
first_length [] = 0
first_length (p ∷ ps) = length p

abbrev pub head_of : List ℕ → HeadPlace → Head
head_of text h = record { id = spelled text h.from h.to; indented = is_indented h.dash; raw = h.first == 39 }

abbrev pub extent : ℕ → Option Bodies → Option (ℕ × ℕ)
extent from None = None
extent from (Some b) = Some (from + first_length b.pieces, b.next)

-- where the body of a heredoc ends that begins at a place, and the place after its end line
unfoldable pub body_at : List ℕ → ℕ → HeadPlace → Option (ℕ × ℕ)
body_at text from h = extent from (bodies_at text from (head_of text h ∷ []))

-- where the next body begins, and the end of the line with its head
abbrev pub bodies_in : Region → List ℕ → ℕ → ℕ → Option (ℕ × ℕ)
bodies_in Plain text stop at = let line = line_end at (drop at text) in Some (line, line)
bodies_in (Line next) text stop at = Some (next, stop)
bodies_in (Body back line next) text stop at = None

abbrev pub bodies_from : List ℕ → Reach → ℕ → Option (ℕ × ℕ)
bodies_from text r at = bodies_in r.region text r.stop at

-- a heredoc whose body stands from one place to another
unfoldable pub enter_body : ℕ → HeadPlace → ℕ → ℕ → ℕ → ℕ → State → Result (State × Reach) ℕ
enter_body at h from end line next s =
    if h.dash == 126 then Ok (
      pushed s at (kinds.Outside SquigglyHeredoc) contexts.Operand,
      record {
        at = h.end;
        stop = line;
        region = Line next;
      },
    )
    else Ok (
      entered (pushed s at kinds.StringBegin contexts.Operand) (modes.Body (not (h.first == 39))),
      record {
        at = from;
        stop = end;
        region = Body h.end line next;
      },
    )

-- within an interpolation there are no heredocs
abbrev pub body_or_fault : Option (ℕ × ℕ) → ℕ → HeadPlace → ℕ → ℕ → State → Result (State × Reach) ℕ
body_or_fault None at h from line s = Err at
body_or_fault (Some b) at h from line s = enter_body at h from b.0 line b.1 s

abbrev pub place_or_fault : Option (ℕ × ℕ) → List ℕ → ℕ → HeadPlace → State → Result (State × Reach) ℕ
place_or_fault None text at h s = Err at
place_or_fault (Some p) text at h s = body_or_fault (body_at text p.0 h) at h p.0 p.1 s

-- a heredoc whose head stands at the place
unfoldable pub heredoc_step : List ℕ → Reach → HeadPlace → State → Result (State × Reach) ℕ
heredoc_step text r h s =
    if nat_lt 0 s.inside then Err r.at
    else place_or_fault (bodies_from text r h.end) text r.at h s

abbrev pub is_body : Option Mode → Bool
is_body None = false
is_body (Some modes.Braces) = false
is_body (Some modes.Interpolation) = false
is_body (Some (modes.Text d)) = false
is_body (Some (modes.Words d)) = false
is_body (Some (modes.Body double)) = true

abbrev pub is_literal : Option Mode → Bool
is_literal None = false
is_literal (Some modes.Braces) = false
is_literal (Some modes.Interpolation) = false
is_literal (Some (modes.Text d)) = true
is_literal (Some (modes.Words d)) = true
is_literal (Some (modes.Body double)) = true

abbrev pub body_end : ℕ → ℕ → ℕ → ℕ → State → Result (State × Option Reach) ℕ
body_end at back line next s =
    if is_body (top s) then Ok (
      left (pushed (flushed s) at kinds.LiteralEnd contexts.Operand),
      Some (record { at = back; stop = line; region = Line next }),
    )
    else Err at

-- after a line with heads stand the bodies; after a body, the rest of that line
abbrev pub region_end : Region → List ℕ → ℕ → State → Result (State × Option Reach) ℕ
region_end Plain text at s = Ok (s, None)
region_end (Line next) text at s = Ok (s, Some (record { at = next; stop = length text; region = Plain }))
region_end (Body back line next) text at s = body_end at back line next s

abbrev pub stretch_end : List ℕ → Reach → State → Result (State × Option Reach) ℕ
stretch_end text r s = region_end r.region text r.at s

abbrev pub behind_last : Region → ℕ → ℕ → Option ℕ
behind_last Plain at stop = None
behind_last (Line next) at stop = if at + 1 == stop then Some next else None
behind_last (Body back line next) at stop = None

abbrev pub behind_bodies : Reach → Option ℕ
behind_bodies r = behind_last r.region r.at r.stop

abbrev pub step_reach : List ℕ → Reach → State → Result (State × Reach) ℕ
step_reach text r s = step_in (top s) (take r.stop text) r.at s >>= λ a.
    Ok (a.0, record { at = a.1; stop = r.stop; region = r.region })

abbrev pub head_or_step : Option HeadPlace → List ℕ → Reach → State → Result (State × Reach) ℕ
head_or_step None text r s = step_reach text r s
head_or_step (Some h) text r s = heredoc_step text r h s

-- after the last newline of a line with heads the next line is the one after the bodies
abbrev pub newline_or_other : Option ℕ → List ℕ → Reach → State → Result (State × Reach) ℕ
newline_or_other None text r s = head_or_step (begins_heredoc (take r.stop text) r.at s) text r s
newline_or_other (Some next) text r s = newline_step text r.at next s >>= λ a.
    Ok (a.0, record { at = a.1; stop = length text; region = Plain })

unfoldable pub code_reach : List ℕ → Reach → State → Result (State × Reach) ℕ
code_reach text r s = newline_or_other (behind_bodies r) text r s

abbrev pub going_on : State × Reach → Result (State × Option Reach) ℕ
going_on a = Ok (a.0, Some a.1)

abbrev pub is_plain : Region → Bool
is_plain Plain = true
is_plain (Line next) = false
is_plain (Body back line next) = false

-- a space outside of literals and of lines with heads of heredocs
abbrev pub is_plain_space : List ℕ → State → Reach → Bool
is_plain_space text s r =
    nat_lt r.at r.stop && (slice_index text r.at == 32) && is_plain r.region && not (is_literal (top s))

-- one step; none is the place after it at the text's end
unfoldable pub advance : List ℕ → State → Reach → Result (State × Option Reach) ℕ
advance text s r =
    if not (nat_lt r.at r.stop) then stretch_end text r s
    else if is_literal (top s) then (step_reach text r s >>= going_on)
    else (code_reach text r s >>= going_on)

-- at most so many steps
unfoldable pub run : ℕ → List ℕ → State → Reach → Result State ℕ
run zero text s r = Err r.at
run (suc n) text s r = advance text s r >>= λ a. elim (a.1) [ None ↦ Ok a.0 | Some next ↦ run n text a.0 next ]

-- nothing is open but braces
abbrev pub finished : ℕ → State → Result (List Token) ℕ
finished n s = if nat_lt 0 s.inside || is_literal (top s) then Err n else Ok s.tokens

abbrev pub whole : List ℕ → Reach
whole text = record { at = 0; stop = length text; region = Plain }

-- The tokens of a text, or the place where it can't be read. A text of n bytes is read in at most n + 1 steps.
unfoldable pub tokens_of : List ℕ → Result (List Token) ℕ
tokens_of text = run (length text + 1) text opening (whole text) >>= finished (length text)
