-- What a function returned, against what reading gives.
use Rattle.std.specs.Prelude.{◌≡◌, ◌≤◌, ℕ, Result, Ok, Err}
use Rattle.lexer_steps.specs.declared.error.LexError.{LexError}
use Rattle.lexer_steps.specs.declared.error.LexError.TheVariants.{NoMemory, Syntax}

abbrev pub Fails : {Y : Type 0} → LexError → Result Y ℕ → Type 0
Fails NoMemory read = Unit {0}
Fails (Syntax at) read = read ≡ Err at

-- what was returned, seen by view, is what reading gives, unless memory ran out
abbrev pub Gives : {X Y : Type 0} → (X → Y) → Result X LexError → Result Y ℕ → Type 0
Gives view (Ok x) read = read ≡ Ok (view x)
Gives view (Err e) read = Fails e read

-- the place of a refusal lies within a text of n bytes
abbrev pub IsWithin : ℕ → LexError → Type 0
IsWithin n NoMemory = Unit {0}
IsWithin n (Syntax at) = at ≤ n
