-- The lines that the program writes to the error stream.
use Rattle.std.specs.Prelude.{ℕ, List, [], ◌∷◌, ◌++◌, codes, decimal}
use Rattle.path_value.specs.Failure as failures
use Rattle.path_value.specs.declared.failure.Failure.{Failure}
use Rattle.rb_refusal.specs.declared.refusal.Refusal.{Refusal}
use Rattle.rb_refusal.specs.RefusalText.{refusal_text}

abbrev pub line : List ℕ → List ℕ
line text = text ++ 10 ∷ []

abbrev pub usage : List ℕ
usage = line
    (codes "usage: rite build SRC OUT; run [--steps N] [--stats] FILE; exec [--steps N] SRC OUT; list FILE; info FILE; sample K")

abbrev pub uncaught : Failure → List ℕ
uncaught f = line (failures.name_of (failures.class_of f) ++ codes ": " ++ failures.message_of f)

abbrev pub refused : Refusal → List ℕ
refused r = line (codes "refused: " ++ refusal_text r)

abbrev pub spent : ℕ → List ℕ
spent n = line (codes "spent: " ++ decimal n ++ codes " turns")

-- how many turns a run made, and its peak
abbrev pub counts : ℕ → ℕ → List ℕ
counts turns peak = line (codes "turns " ++ decimal turns ++ codes " peak " ++ decimal peak)

abbrev pub no_memory : List ℕ
no_memory = line (codes "no memory")

abbrev pub input_fault : List ℕ
input_fault = line (codes "input fault")

abbrev pub file_fault : List ℕ
file_fault = line (codes "file fault")
