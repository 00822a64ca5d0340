-- What it is to make a body.
use Rattle.std.specs.Prelude.{◌≡◌, ℕ, Contains, Some, slice_get}
use Rattle.rite_code.specs.declared.code.Irep.{Irep}
use Rattle.rite_code.specs.Code.{Program}
use Rattle.code_outline.specs.declared.maker.Maker.{Maker}
use Rattle.code_outline.specs.Layout.{Standing, layout}
use Rattle.code_outline.specs.Makers.{use_in}

-- at its place in a body stands an instruction that uses this one of the body's children
pub record Makes (p : Program) (m : Maker) (j : ℕ) : Type 0 where
  pub body : Irep
  pub number : slice_get p.bodies m.body ≡ Some body
  pub standing : Standing
  pub stands : Contains (layout p.version body.code) standing
  pub place : standing.at ≡ m.at
  pub index : ℕ
  pub uses : use_in standing.instruction.operation ≡ Some (index, m.purpose)
  pub child : slice_get body.children index ≡ Some j
