-- The words after the program's name, and the command that they mean.
use Rattle.std.specs.Prelude.{ℕ, ◌+◌, ◌*◌, ◌-◌, List, [], ◌∷◌, Option, Some, None, Bool, true, false, codes, bytes_eq, nat_le, nat_eq, if◌then◌else◌, ◌&&◌, not, take}
use Rattle.rb_base.specs.Option.{◌>>=◌}

pub data Command : Type 0 where
  -- the code of the source in the first file goes into the second
  build : List ℕ → List ℕ → Command
  -- at most so many turns of the source in the first file, whose code goes into the second
  exec : ℕ → List ℕ → List ℕ → Command
  -- the listing of the code in the file
  list : List ℕ → Command
  -- the header and the sections of the file
  info : List ℕ → Command

-- The run of the code in a file, of at most so many turns, whose counts are told where they are wanted.
pub record Run : Type 0 where
  pub steps : ℕ
  pub counts : Bool
  pub file : List ℕ

-- the greatest number of turns that can be asked for, which is meant where none is named
abbrev pub most_turns : ℕ
most_turns = 18446744073709551615

abbrev pub is_digit : ℕ → Bool
is_digit c = nat_le 48 c && nat_le c 57

abbrev pub are_digits : List ℕ → Bool
are_digits [] = true
are_digits (c ∷ cs) = is_digit c && are_digits cs

-- digits, of which the first is 0 only where it is alone
abbrev pub is_numeral : List ℕ → Bool
is_numeral [] = false
is_numeral (c ∷ []) = is_digit c
is_numeral (c ∷ (d ∷ cs)) = is_digit c && not (nat_eq c 48) && are_digits (d ∷ cs)

abbrev pub value_after : ℕ → List ℕ → ℕ
value_after n [] = n
value_after n (c ∷ cs) = value_after (10 * n + (c - 48)) cs

-- the number of turns that a word names
unfoldable pub number_of : List ℕ → Option ℕ
number_of word = if is_numeral word && nat_le (value_after 0 word) most_turns then Some (value_after 0 word) else None

-- a word that may name a file: it isn't empty and doesn't begin as an option does
abbrev pub is_name : List ℕ → Bool
is_name [] = false
is_name (c ∷ cs) = not (bytes_eq (take 2 (c ∷ cs)) (codes "--"))

-- the names of so many files and nothing else
abbrev pub one_file : List (List ℕ) → Option (List ℕ)
one_file [] = None
one_file (file ∷ []) = if is_name file then Some file else None
one_file (file ∷ (other ∷ words)) = None

abbrev pub two_files : List (List ℕ) → Option (List ℕ × List ℕ)
two_files [] = None
two_files (source ∷ []) = None
two_files (source ∷ (code ∷ [])) = if is_name source && is_name code then Some (source, code) else None
two_files (source ∷ (code ∷ (other ∷ words))) = None

abbrev pub of_one : (List ℕ → Command) → Option (List ℕ) → Option Command
of_one command None = None
of_one command (Some file) = Some (command file)

abbrev pub of_two : (List ℕ → List ℕ → Command) → Option (List ℕ × List ℕ) → Option Command
of_two command None = None
of_two command (Some files) = Some (command files.0 files.1)

-- The options that stand before the other words, and these words. There is one: at most how many turns are made.
abbrev pub with_steps : Option ℕ → List (List ℕ) → Option (ℕ × List (List ℕ))
with_steps None words = None
with_steps (Some n) words = Some (n, words)

abbrev pub options_of : List (List ℕ) → Option (ℕ × List (List ℕ))
options_of [] = Some (most_turns, [])
options_of (word ∷ []) = Some (most_turns, word ∷ [])
options_of (word ∷ (next ∷ words)) =
    if bytes_eq word (codes "--steps") then with_steps (number_of next) words
    else Some (most_turns, word ∷ (next ∷ words))

-- what stands after the word exec
abbrev pub exec_of : List (List ℕ) → Option Command
exec_of words = options_of words >>= λ o. of_two (exec o.0) (two_files o.1)

abbrev pub command_of : List (List ℕ) → Option Command
command_of [] = None
command_of (word ∷ words) =
    if bytes_eq word (codes "exec") then exec_of words
    else if bytes_eq word (codes "build") then of_two build (two_files words)
    else if bytes_eq word (codes "list") then of_one list (one_file words)
    else if bytes_eq word (codes "info") then of_one info (one_file words)
    else None

-- whether the counts of a run are wanted, and the words after that option
abbrev pub stats_of : List (List ℕ) → Bool × List (List ℕ)
stats_of [] = (false, [])
stats_of (word ∷ words) = if bytes_eq word (codes "--stats") then (true, words) else (false, word ∷ words)

abbrev pub of_file : ℕ → Bool → Option (List ℕ) → Option Run
of_file n wanted None = None
of_file n wanted (Some name) = Some (record { steps = n; counts = wanted; file = name })

-- the same, unless they were wanted already
abbrev pub stats_unless : Bool → List (List ℕ) → Bool × List (List ℕ)
stats_unless true words = (true, words)
stats_unless false words = stats_of words

-- what stands after the word run: its options in either order, each at most once
abbrev pub run_after : List (List ℕ) → Option Run
run_after words = options_of (stats_of words).1 >>= λ o. of_file o.0 (stats_unless (stats_of words).0 o.1).0
    (one_file (stats_unless (stats_of words).0 o.1).1)

-- the run that the words ask for, which are none of the commands
abbrev pub run_of : List (List ℕ) → Option Run
run_of [] = None
run_of (word ∷ words) = if bytes_eq word (codes "run") then run_after words else None

-- the size of a sample that a number may be
abbrev pub sample_size : Option ℕ → Option ℕ
sample_size None = None
sample_size (Some n) = if nat_le 1 n && nat_le n 200 then Some n else None

-- the size of the sample that the words ask for, which are no run and none of the commands
abbrev pub sample_of : List (List ℕ) → Option ℕ
sample_of [] = None
sample_of (word ∷ []) = None
sample_of (word ∷ (size ∷ [])) = if bytes_eq word (codes "sample") then sample_size (number_of size) else None
sample_of (word ∷ (size ∷ (other ∷ words))) = None
