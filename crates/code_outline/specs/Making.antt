-- Makers as they are found, one instruction after the other.
use Rattle.std.specs.Prelude.{◌≡◌, ◌<◌, ℕ, List, [], ◌∷◌, length, get_or, Option, Some, None}
use Rattle.std.specs.Option.{option_or}
use Rattle.code_outline.specs.declared.maker.Maker.{Maker}
use Rattle.code_outline.specs.Makers.{Made, first_maker}

-- what an instruction makes, as a list
abbrev pub listed : Option (ℕ × Maker) → List Made
listed None = []
listed (Some x) = record { child = x.0; maker = x.1 } ∷ []

-- each body without a maker has got the first of these
abbrev pub AreMarked : List Made → List (Option Maker) → List (Option Maker) → Type 0
AreMarked ms old new = (j : ℕ) → j < length old → get_or new j None ≡ option_or (get_or old j None) (first_maker j ms)
