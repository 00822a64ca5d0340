use Rattle.std.proofs.Common.{◌≡◌, ◌∙◌, rules, arith}
use Rattle.std.specs.Prelude.{Some}
use Rattle.std.proofs.lemmas.Grind.{common_steps}
use Rattle.scope_leaps.specs.Leaps.{outer_in}
use Rattle.scope_leaps.proofs.Levels.{one_level}
use Rattle.scope_leaps.proofs.finding.step_out.Goals as goal

pub returns-clause-leads : goal.returns-clause-leads
returns-clause-leads c =
    let e : outer_in c.args.outers.now c.args.body ≡ Some c.in_ok-body.body =
    first_of (search rules, grind (arith, common_steps)) in
    one_level c.args.outers.now c.args.body ∙ e
