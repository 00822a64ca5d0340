-- The levels of a text, and what tokens do to them.
use Rattle.std.specs.Prelude.{ℕ, ◌+◌, Bool, true, false, if◌then◌else◌, List, [], ◌∷◌, max}
use Rattle.rb_syntax.specs.declared.token.Token.{Token}
use Rattle.lexer_depth.specs.declared.effect.Effect.{Effect}
use Rattle.lexer_depth.specs.declared.effect.Effect.TheVariants.{Nothing, Count, Keep, Comma, Separate, EndLine, When, Do, Open, OpenLoop, OpenIndex, Close}
use Rattle.lexer_depth.specs.Effect.{effect, is_word}

pub record Measures : Type 0 where
  -- what counts since the last separator, and what of it stays counted after a comma
  pub count : ℕ
  pub kept : ℕ
  -- the greatest count since the last separator
  pub most : ℕ
  -- one more than the greatest value of a level that ended since then
  pub inner : ℕ
  -- the greatest sum of most and inner
  pub value : ℕ
  -- the head of a loop is open
  pub head : Bool
  -- a when stands since the last separator
  pub choice : Bool

-- a level at its start
abbrev pub fresh : Bool → Measures
fresh head = record { count = 0; kept = 0; most = 0; inner = 0; value = 0; head = head; choice = false }

-- a level with new numbers
abbrev pub altered : Measures → ℕ → ℕ → ℕ → Measures
altered l count kept inner =
    let most = max l.most count in
    record l { count = count; kept = kept; most = most; inner = inner; value = max l.value (most + inner) }

abbrev pub counted : Measures → Measures
counted l = altered l (l.count + 1) l.kept l.inner

abbrev pub kept_counted : Measures → Measures
kept_counted l = altered l (l.count + 1) (l.kept + 1) l.inner

-- a comma sets the count to kept, but after when it counts
abbrev pub comma : Measures → Measures
comma l = if l.choice then counted l else record l { count = l.kept }

abbrev pub separated : Measures → Bool → Bool → Measures
separated l head choice = record l { count = 0; kept = 0; most = 0; inner = 0; head = head; choice = choice }

-- a level of that value ended within
abbrev pub nested : Measures → ℕ → Measures
nested l value = altered l l.count l.kept (max l.inner (value + 1))

-- the innermost level, and those around it, from the inside out
pub record Levels : Type 0 where
  pub top : Measures
  pub around : List Measures

abbrev pub on_top : Levels → Measures → Levels
on_top s l = record s { top = l }

abbrev pub opened : Levels → Bool → Levels
opened s head = record { top = fresh head; around = s.top ∷ s.around }

abbrev pub closed_in : Measures → List Measures → Levels
closed_in top [] = record { top = top; around = [] }
closed_in top (l ∷ ls) = record { top = nested l top.value; around = ls }

-- a closer without an open level is ignored
abbrev pub closed : Levels → Levels
closed s = closed_in s.top s.around

-- a do ends the head of a loop, or starts a level
abbrev pub done : Levels → Levels
done s = if s.top.head then on_top s (separated s.top false false) else opened s false

-- an index counts, and starts a level
abbrev pub indexed : Levels → Levels
indexed s = opened (on_top s (counted s.top)) false

unfoldable pub step : Effect → Levels → Levels
step Nothing s = s
step Count s = on_top s (counted s.top)
step Keep s = on_top s (kept_counted s.top)
step Comma s = on_top s (comma s.top)
step Separate s = on_top s (separated s.top s.top.head false)
step EndLine s = on_top s (separated s.top false false)
step When s = on_top s (separated s.top s.top.head true)
step Do s = done s
step Open s = opened s false
step OpenLoop s = opened s true
step OpenIndex s = indexed s
step Close s = closed s

-- the levels after the tokens; after_word: a name directly there counts
unfoldable pub fold : Levels → Bool → List Token → Levels
fold s after_word [] = s
fold s after_word (t ∷ ts) = fold (step (effect t after_word) s) (is_word t.kind) ts

-- the value of the outermost level where all that are open end
unfoldable pub finished : Measures → List Measures → ℕ
finished top [] = top.value
finished top (l ∷ ls) = finished (nested l top.value) ls

abbrev pub value_of : Levels → ℕ
value_of s = finished s.top s.around

abbrev pub outermost : Levels
outermost = record { top = fresh false; around = [] }

-- how deep the tokens are
unfoldable pub deep : List Token → ℕ
deep tokens = value_of (fold outermost false tokens)
