-- Lines where forms begin.
use Rattle.std.specs.Prelude.{ℕ, zero, suc, List, [], ◌∷◌}

-- the line where a form begins, where so many are wanted yet
abbrev pub mark : ℕ → ℕ → List ℕ
mark zero line = []
mark (suc k) line = line ∷ []
