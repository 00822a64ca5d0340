-- Literals outside the language, up to their closing delimiter.
use Rattle.std.specs.Prelude.{ℕ, ◌+◌, ◌-◌, List, [], ◌∷◌, drop, ◌==◌, Bool, true, false, if◌then◌else◌, Option, Some, None, Result, Ok, Err}
use Rattle.rb_syntax.specs.declared.outside.Outside.{Outside}
use Rattle.rb_syntax.specs.declared.token.TokenKind.TheVariants as kinds
use Rattle.lexer_tables.specs.declared.context.Context.TheVariants as contexts
use Rattle.lexer_steps.specs.Scan.{option_end}
use Rattle.lexer_steps.specs.State.{State, pushed}

-- the mark that closes what a mark opens
abbrev pub closing : ℕ → ℕ
closing b = if b == 40 then 41 else if b == 91 then 93 else if b == 123 then 125 else if b == 60 then 62 else b

-- After the delimiter that closes a literal; depth: how many opener ones wait for theirs; escaped: a backslash
-- stands before.
unfoldable pub closed_end : ℕ → ℕ → Bool → ℕ → ℕ → List ℕ → Option ℕ
closed_end opener closer escaped depth at [] = None
closed_end opener closer escaped depth at (x ∷ xs) =
    if escaped then closed_end opener closer false depth (at + 1) xs
    else if x == 92 then closed_end opener closer true depth (at + 1) xs
    else if x == closer then
    (if depth == 0 then Some (at + 1) else closed_end opener closer false (depth - 1) (at + 1) xs)
    else if x == opener then closed_end opener closer false (depth + 1) (at + 1) xs
    else closed_end opener closer false depth (at + 1) xs

abbrev pub closed_at : Option ℕ → List ℕ → ℕ → ℕ → Outside → State → Result (State × ℕ) ℕ
closed_at None text at opener what s = Err at
closed_at (Some end) text at opener what s = Ok (
  pushed s at (kinds.Outside what) contexts.Operand,
  if opener == 47 then option_end end (drop end text) else end,
)

-- a literal whose contents begin at from after the delimiter opener; letters after a regular expression belong to it
unfoldable pub outside_step : List ℕ → ℕ → ℕ → ℕ → Outside → State → Result (State × ℕ) ℕ
outside_step text at from opener what s =
    closed_at (closed_end opener (closing opener) false 0 from (drop from text)) text at opener what s
