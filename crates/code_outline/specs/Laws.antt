-- What users of an outline may rely on.
use Rattle.std.specs.Prelude.{◌≡◌, ◌<◌, ◌≤◌, ℕ, ◌+◌, List, All, Some, None, length, slice_get}
use Rattle.rite_code.specs.declared.code.Irep.{Irep}
use Rattle.rite_code.specs.Code.{Program, IsWhole}
use Rattle.rite_code.specs.Spelling.{decode}
use Rattle.code_outline.specs.declared.maker.Maker.{Maker}
use Rattle.code_outline.specs.Layout.{Standing, layout, end_of}
use Rattle.code_outline.specs.Makers.{maker_of, scope_out}
use Rattle.code_outline.specs.Makes.{Makes}
use Rattle.code_outline.specs.Outlined.{index_from}
use Rattle.code_outline.specs.Rows.{StandInRow}

-- an instruction is what can be read at its place
abbrev pub IsRead : ℕ → List ℕ → Standing → Type 0
IsRead version code s = decode version code s.at ≡ Some (s.instruction, s.next)

-- of a layout: its instructions stand one after the other within the code, each is what can be read there, and
-- nothing can be read where they end; each is found by its place, and only what stands at a place is found there
pub record Lays (version : ℕ) (code : List ℕ) : Type 0 where
  pub row : StandInRow (length code) 0 (layout version code)
  pub read : All (IsRead version code) (layout version code)
  pub ends : decode version code (end_of 0 (layout version code)) ≡ None
  pub by_place : (k : ℕ) (s : Standing) → slice_get (layout version code) k ≡ Some s
      → index_from 0 (layout version code) s.at ≡ Some k
  pub at_place : (place k : ℕ) → index_from 0 (layout version code) place ≡ Some k
      → (s : Standing) × (slice_get (layout version code) k ≡ Some s) × (s.at ≡ place)

-- a number from low on and below high
abbrev pub IsWithin : ℕ → ℕ → ℕ → Type 0
IsWithin low high j = (low ≤ j) × (j < high)

-- of a program: makers make what they are makers of, scopes are bodies, and children stand after their body
pub record Nests (p : Program) : Type 0 where
  pub makers : (j : ℕ) (m : Maker) → maker_of p j ≡ Some m → Makes p m j
  pub scopes : (between k j : ℕ) → scope_out p between k ≡ Some j → j < length p.bodies
  pub children : IsWhole p → (k : ℕ) (b : Irep) → slice_get p.bodies k ≡ Some b
      → All (IsWithin (k + 1) (length p.bodies)) b.children
