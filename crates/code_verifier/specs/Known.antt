-- What the checks know of a program before they begin.
use Rattle.std.specs.Prelude.{◌≡◌, ◌<◌, ◌^◌, ℕ, get_or, length, None}
use Rattle.rite_code.specs.Code.{Program}
use Rattle.rite_code.specs.declared.code.Irep.{Irep}
use Rattle.code_outline.specs.declared.layout.Layout.{Layout}
use Rattle.code_outline.specs.declared.layout.Outline.{Outline}
use Rattle.code_outline.specs.Makers.{maker_of}
use Rattle.code_outline.specs.Outlined.{LaysOut, Outlines}

-- the maker of each body, and of each number that is no body's
abbrev pub KnowsMakers : Program → Outline → Type 0
KnowsMakers p o = (j : ℕ) → get_or o.makers j None ≡ maker_of p j

-- the outline is that of the program, and the layout that of body k
pub record KnowsBody (p : Program) (o : Outline) (k : ℕ) (b : Irep) (l : Layout) : Type 0 where
  pub outlined : Outlines p o
  pub makers : KnowsMakers p o
  pub number : k < length p.bodies
  pub small : length b.code < 2 ^ 32
  pub laid : LaysOut p.version b.code l
