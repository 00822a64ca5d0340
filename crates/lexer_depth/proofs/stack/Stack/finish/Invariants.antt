use Rattle.std.proofs.Common.{◌≡◌}
use Rattle.lexer_depth.specs.Held.{levels_of}
use Rattle.lexer_depth.specs.Levels.{value_of}
use Rattle.lexer_depth.proofs.stack.Stack.finish.Given as goal

abbrev pub invariant-levels : goal.invariant-levels
invariant-levels l = value_of (levels_of l.self) ≡ value_of (levels_of l.fn.self)

abbrev pub decreases-levels : goal.decreases-levels
decreases-levels l = l.self.started
