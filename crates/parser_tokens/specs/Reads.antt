-- What a function returned, against what its rule reads.
use Rattle.std.specs.Prelude.{◌≡◌, ℕ, Result, Ok, Err}
use Rattle.parser_tokens.specs.declared.failure.Failure.{Failure}
use Rattle.parser_tokens.specs.declared.failure.Failure.TheVariants.{Syntax, NoMemory}

abbrev pub Fails : {B : Type 0} → Failure → Result B ℕ → Type 0
Fails NoMemory read = Unit {0}
Fails (Syntax left) read = read ≡ Err left

-- what was returned, seen by f, is what is read, unless memory ran out
abbrev pub Gives : {A B : Type 0} → (A → B) → Result A Failure → Result B ℕ → Type 0
Gives f (Ok x) read = read ≡ Ok (f x)
Gives f (Err e) read = Fails e read
