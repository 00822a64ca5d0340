use Rattle.std.proofs.Common.{sym, subst}
use Rattle.def_core.specs.Sound.{census, IsValue, AllAre}
use Rattle.run_values.proofs.Splatting.{integers_are}
use Rattle.run_values.proofs.splats.splat_range.Goals as goal

pub returns-in_ok-values-in-Integers-clause-belong : goal.returns-in_ok-values-in-Integers-clause-belong
returns-in_ok-values-in-Integers-clause-belong c =
    subst (AllAre (IsValue (census c.args.st.now.store))) (sym c.in_ok-values-in-Integers.ensures)
    (integers_are (census c.args.st.now.store) _)
