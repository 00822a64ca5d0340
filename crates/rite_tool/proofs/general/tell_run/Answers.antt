use Rattle.std.proofs.Common.{refl, sym, ap, Bool, ◌++◌}
use Rattle.rb_refusal.proofs.Progress.{started, went_on, stopped, ended}
use Rattle.rite_tool.specs.General.{text_of, counted}
use Rattle.rite_tool.proofs.general.tell_run.Goals as goal

pub returns-in_err-tell_counted : goal.returns-in_err-tell_counted
returns-in_err-tell_counted g c =
    stopped _ _ _ _ _ _ _ _ _ _ c.in_err-tell_counted.was c.from_residual.ensures.0
    (ap (λ (b : Bool). counted b c.args.counts.turns c.args.counts.peak ++ text_of c.args.asked.steps c.args.played.now)
    (sym c.tells_counts.ensures))
    (started _ _) c.tell_counted.ensures

pub returns : goal.returns
returns g c = ended _ _ _ _ _ _ _ refl
    (went_on _ _ _ _ _ _ _ _ _ c.in_ok-tell_counted.was
    (ap (λ (b : Bool). counted b c.args.counts.turns c.args.counts.peak ++ text_of c.args.asked.steps c.args.played.now)
    (sym c.tells_counts.ensures))
    (started _ _) c.tell_counted.ensures)
    c.tell.ensures
