-- Lists of forms.
use Rattle.std.proofs.Common.{◌≡◌, Option, Some, List, [], ◌∷◌, ◌++◌, ap, sym, ◌∙◌}
use Rattle.std.specs.Option.{option_to_list}
use Rattle.ir_core.specs.CoreForm as form
use Rattle.ir_core.specs.CoreForm.{CoreForm}
use Rattle.ir_core.specs.View.{Core, core_view}
use Rattle.ir_core.specs.Parts.{cores}
use Rattle.ir_builder.specs.Forms.{any_of}

-- the last two tests as one
pub any_of-step : (fs : List Core) (g f h : Core) → core_view h ≡ form.or_form (core_view g) (core_view f)
    → any_of (cores ((fs ++ g ∷ []) ++ f ∷ [])) ≡ any_of (cores (fs ++ h ∷ []))
any_of-step [] g f h e = cc
any_of-step (x ∷ []) g f h e = ap (form.or_form (core_view x)) (any_of-step [] g f h e)
any_of-step (x ∷ (y ∷ fs)) g f h e = ap (form.or_form (core_view x)) (any_of-step (y ∷ fs) g f h e)

pub any_of-turn : (bs cs : List Core) (r : Option Core) (g f h : Core) (whole : CoreForm) → bs ≡ cs ++ option_to_list r
    → r ≡ Some g
    → core_view h ≡ form.or_form (core_view g) (core_view f) → any_of (cores (bs ++ f ∷ [])) ≡ whole
    → any_of (cores (cs ++ h ∷ [])) ≡ whole
any_of-turn bs cs r g f h whole items is e same =
    sym (any_of-step cs g f h e) ∙ (ap (λ xs. any_of (cores (xs ++ f ∷ [])))
    (sym (items ∙ ap (λ r. cs ++ option_to_list r) is)) ∙ same)
