-- A list in chunks.
use Rattle.std.specs.Prelude.{◌≡◌, ℕ, ◌≤◌, ◌<◌, ◌^◌, List, [], ◌∷◌, ◌++◌, length}
use Rattle.std.specs.Global.{Vec}

-- the values of the chunks, those of one chunk after those of another
abbrev pub joined : {T : Type 0} → List (Vec T) → List T
joined [] = []
joined (c ∷ cs) = c.items ++ joined cs

-- every chunk but the last is full, and the last has a value
abbrev pub AreChunks : {T : Type 0} → List (Vec T) → Type 0
AreChunks [] = Unit {0}
AreChunks (c ∷ []) = (0 < length c.items) × (length c.items ≤ 1024)
AreChunks (c ∷ d ∷ cs) = (length c.items ≡ 1024) × AreChunks (d ∷ cs)

-- the number of the values
abbrev pub IsCounted : {T : Type 0} → List (Vec T) → ℕ → Type 0
IsCounted cs n = (n ≡ length (joined cs)) × (n < 2 ^ 63)
