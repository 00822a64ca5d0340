use Rattle.std.proofs.Common.{ap, ◌∙◌, arith}
use Rattle.lexer_depth.specs.Held.{levels_of, measures_of}
use Rattle.lexer_depth.specs.Levels.{Levels, value_of}
use Rattle.lexer_depth.proofs.Around.{closed_same, outer_value}
use Rattle.lexer_depth.proofs.stack.Stack.finish.Goals as goal

pub levels-preserved : goal.levels-preserved
levels-preserved c = ap (λ (s : Levels). value_of s) c.in-Some.ensures.value ∙ closed_same (levels_of c.levels.self)
    ∙ c.levels.invariant

pub returns-in-None : goal.returns-in-None
returns-in-None c = omega (arith, c.in-None.ensures.value, closed_same (levels_of c.levels.self), c.levels.invariant)

pub returns : goal.returns
returns c = omega (
  arith,
  outer_value c.levels.self.around c.levels.self.started (measures_of c.levels.self.top)
      (omega arith),
  c.levels.invariant,
  c.value.ensures.value,
  c.value.ensures.small,
)
