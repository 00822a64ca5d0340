use Rattle.std.proofs.Common.{◌∙◌, sym}
use Rattle.scope_leaps.specs.Leaps.{scope_in}
use Rattle.scope_leaps.proofs.Levels.{no_level, none_left, step_from}
use Rattle.scope_leaps.proofs.finding.scope_out.Goals as goal

pub levels-preserved : goal.levels-preserved
levels-preserved c = record {
  there = c.in_ok-leap.ensures.there;
  same = step_from c.args.outers.now (scope_in c.args.outers.now c.args.between c.args.body) c.levels.left
      c.in_ok-leap.leap.levels c.levels.scope c.in_ok-leap.leap.body c.in_ok-leap.ensures.within.1
      c.in_ok-leap.ensures.leads c.levels.invariant.same;
}

pub returns-in_err-leap : goal.returns-in_err-leap
returns-in_err-leap c =
    c.from_residual.ensures
    ∙ sym (no_level c.args.outers.now c.levels.left c.levels.scope c.levels-test.true c.in_err-leap.ensures.leads)
    ∙ c.levels.invariant.same

pub returns : goal.returns
returns c =
    sym (none_left c.args.outers.now c.levels.left c.levels.scope c.levels-test.false) ∙ c.levels.invariant.same
