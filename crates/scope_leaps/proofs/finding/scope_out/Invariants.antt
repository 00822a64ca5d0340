use Rattle.std.proofs.Common.{◌≡◌, ◌<◌, length}
use Rattle.scope_leaps.specs.Leaps.{levels_out, scope_in}
use Rattle.scope_leaps.proofs.finding.scope_out.Given as goal

abbrev pub invariant-levels : goal.invariant-levels
invariant-levels l = record {
  there : l.scope < length l.outers;
  same : levels_out l.outers l.left l.scope ≡ scope_in l.outers l.between l.body;
}

abbrev pub decreases-levels : goal.decreases-levels
decreases-levels l = l.left
