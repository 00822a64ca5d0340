-- The implementations of the outside in memory.
use Rattle.std.specs.Prelude.{◌≡◌, ◌≢◌, ℕ, List, [], ◌∷◌, Option, Some, None, if◌then◌else◌}
use Rattle.std.specs.List.{Contains}
use Rattle.std.specs.Str.{bytes_eq}
use Rattle.rb_base.specs.Steps.{one_more}

-- the numbers of the calls that fail, from 1, and how many calls were made
pub record Calls : Type 0 where
  pub fails : List ℕ
  pub made : ℕ

-- no call was made
abbrev pub no_calls : List ℕ → Calls
no_calls fails = record { fails = fails; made = 0 }

-- the next call is one that fails
abbrev pub NextFails : Calls → Type 0
NextFails calls = Contains calls.fails (one_more calls.made)

-- one more call was made
abbrev pub after_call : Calls → Calls
after_call calls = record { fails = calls.fails; made = one_more calls.made }

-- a source: what is left, its calls, and how many of them failed
pub record SourceState : Type 0 where
  pub rest : List ℕ
  pub calls : Calls
  pub faults : ℕ

-- a source that nothing was read from
abbrev pub new_source : List ℕ → List ℕ → SourceState
new_source bytes fails = record { rest = bytes; calls = no_calls fails; faults = 0 }

-- a sink: what it took, the most that a call takes, its calls, how many of them failed, and how many growths memory
-- refused
pub record SinkState : Type 0 where
  pub bytes : List ℕ
  pub most : ℕ
  pub calls : Calls
  pub faults : ℕ
  pub refused : ℕ

-- a sink that took nothing
abbrev pub new_sink : ℕ → List ℕ → SinkState
new_sink most fails = record { bytes = []; most = most; calls = no_calls fails; faults = 0; refused = 0 }

-- files: their names and bytes, the calls, how many loads and stores failed, and how many growths memory refused
pub record FilesState : Type 0 where
  pub entries : List (List ℕ × List ℕ)
  pub calls : Calls
  pub load_faults : ℕ
  pub store_faults : ℕ
  pub refused : ℕ

-- no file
abbrev pub new_files : List ℕ → FilesState
new_files fails = record { entries = []; calls = no_calls fails; load_faults = 0; store_faults = 0; refused = 0 }

-- the bytes of the file of that name
abbrev pub file_in : List (List ℕ × List ℕ) → List ℕ → Option (List ℕ)
file_in [] name = None
file_in (e ∷ es) name = if bytes_eq e.0 name then Some e.1 else file_in es name

-- the file of that name has the bytes, and every other is as before
pub record PutsFile (old new : List (List ℕ × List ℕ)) (name bytes : List ℕ) : Type 0 where
  pub put : file_in new name ≡ Some bytes
  pub kept : (other : List ℕ) → other ≢ name → file_in new other ≡ file_in old other

-- all but the entries is as before
pub record HasSameCounts (old new : FilesState) : Type 0 where
  pub calls : new.calls ≡ old.calls
  pub load_faults : new.load_faults ≡ old.load_faults
  pub store_faults : new.store_faults ≡ old.store_faults
  pub refused : new.refused ≡ old.refused
