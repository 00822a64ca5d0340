-- The steps that code notes on a walk, as steps over forms.
use Rattle.std.specs.Prelude.{List, map}
use Rattle.std.specs.Borrow.{Bor}
use Rattle.ir_core.specs.declared.term.Body as made
use Rattle.ir_core.specs.CoreForm.{Body}
use Rattle.ir_core.specs.View.{Core, term_view, body_view}
use Rattle.ir_walk.specs.Walk as walk
use Rattle.ir_walk.specs.declared.step.Step.{Step}
use Rattle.ir_walk.specs.declared.step.Step.TheVariants.{At, Enter, Leave}

-- a body that is shown
abbrev pub body : Bor (made.Body Core) → Body
body b = body_view b.now

abbrev pub step : Step → walk.Step
step (At t) = walk.at (term_view t.now)
step (Enter b) = walk.enter (body b)
step Leave = walk.leave

abbrev pub steps : List Step → List walk.Step
steps ss = map step ss
