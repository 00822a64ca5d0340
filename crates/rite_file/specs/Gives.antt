-- What reading answers, but for memory that runs out.
use Rattle.std.specs.Prelude.{◌≡◌, Result, Ok, Err}
use Rattle.rite_file.specs.declared.error.LoadError.{LoadError}
use Rattle.rite_file.specs.declared.error.LoadError.TheVariants.{NotRite, Foreign, Truncated, BadSection, BadRecord, NoMemory}

-- a function that failed so was to fail so, unless memory ran out
abbrev pub Fails : {A : Type 0} → LoadError → Result A LoadError → Type 0
Fails NotRite wanted = wanted ≡ Err NotRite
Fails (Foreign name) wanted = wanted ≡ Err (Foreign name)
Fails (Truncated at) wanted = wanted ≡ Err (Truncated at)
Fails (BadSection at) wanted = wanted ≡ Err (BadSection at)
Fails (BadRecord at) wanted = wanted ≡ Err (BadRecord at)
Fails NoMemory wanted = Unit {0}

-- what a function answered is what was wanted, unless memory ran out
abbrev pub Gives : {A : Type 0} → Result A LoadError → Result A LoadError → Type 0
Gives (Ok x) wanted = wanted ≡ Ok x
Gives (Err e) wanted = Fails e wanted
