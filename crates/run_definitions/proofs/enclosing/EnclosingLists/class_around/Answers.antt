use Rattle.std.proofs.Common.{ap, sym, ◌∙◌, arith}
use Rattle.def_calls.specs.World as world
use Rattle.run_definitions.specs.Enclosing.{enclosed}
use Rattle.run_definitions.proofs.Paths.{class_inside}
use Rattle.run_definitions.proofs.enclosing.EnclosingLists.class_around.Goals as goal

pub returns-else-number-eq0 : goal.returns-else-number-eq0
returns-else-number-eq0 c = λ w.
    ap (λ (e : world.Enclosing). e.class) (c.at-else-number-eq0.view_is ∙ c.at.ensures w)
    ∙ sym (class_inside (enclosed c.args.self.now w) c.args.number (omega (arith, c.if-number-eq0.false)))
