use Rattle.std.proofs.Common.{refl, append_assoc, ◌∷◌, [], codes}
use Rattle.rb_refusal.specs.RefusalText.{refusal_text}
use Rattle.rb_refusal.proofs.Progress.{started, went_on, stopped, ended}
use Rattle.rite_tool.proofs.texts.tell_refused.Goals as goal

pub returns-in_err-write_text : goal.returns-in_err-write_text
returns-in_err-write_text g c = stopped _ _ _ _ _ _ _ _ _ _ c.in_err-write_text.was c.from_residual.ensures.0
    (append_assoc (codes "refused: ") (refusal_text c.args.refusal) (10 ∷ [])) (started _ _) c.write_text.ensures

pub returns-in_err-refusal_text : goal.returns-in_err-refusal_text
returns-in_err-refusal_text g c = stopped _ _ _ _ _ _ _ _ _ _ c.in_err-refusal_text.was
    c.from_residual-in_err-refusal_text.ensures.0 refl
    (went_on _ _ _ _ _ _ _ _ _ c.in_ok-write_text.was
    (append_assoc (codes "refused: ") (refusal_text c.args.refusal) (10 ∷ [])) (started _ _) c.write_text.ensures)
    c.refusal_text.ensures

pub returns : goal.returns
returns g c = ended _ _ _ _ _ _ _ refl (went_on _ _ _ _ _ _ _ _ _ c.in_ok-refusal_text.was refl
    (went_on _ _ _ _ _ _ _ _ _ c.in_ok-write_text.was
    (append_assoc (codes "refused: ") (refusal_text c.args.refusal) (10 ∷ [])) (started _ _) c.write_text.ensures)
    c.refusal_text.ensures) c.write_text-2.ensures
