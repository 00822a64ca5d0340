-- What is seen of a run from outside: its output, and how it ended.
use Rattle.std.specs.Prelude.{ℕ, Bool, true, false, List}

-- an end with this output: with a status, or by an exception that nothing rescued, with the name of its class and its
-- message
pub data End : Type 0 where
  Ended : List ℕ → ℕ → End
  Uncaught : List ℕ → List ℕ → List ℕ → End

pub data Seen : Type 0 where
  Going : List ℕ → Seen
  Over : End → Seen

abbrev pub over : Seen → Bool
over (Going out) = false
over (Over e) = true

abbrev pub output_of_end : End → List ℕ
output_of_end (Ended out n) = out
output_of_end (Uncaught out class message) = out

abbrev pub output_of : Seen → List ℕ
output_of (Going out) = out
output_of (Over e) = output_of_end e

-- the end that is seen, or another where none is
abbrev pub end_or : End → Seen → End
end_or e (Going out) = e
end_or e (Over d) = d
