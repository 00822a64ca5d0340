-- The tests of a case on its subject.
use Rattle.std.proofs.Common.{◌≡◌, ℕ, List, [], ◌∷◌, map, refl, ap, sym, ◌∙◌}
use Rattle.ir_core.specs.CoreForm.{CoreForm, forms, more}
use Rattle.ir_core.specs.View.{Core, core_view}
use Rattle.ir_core.specs.Parts.{cores}
use Rattle.ir_builder.specs.Forms.{asked, local_number}
use Rattle.lower_table.specs.Subject.{asks_number}

asked-forms : (d : ℕ) (fs : List CoreForm) → asked (local_number d) (forms fs) ≡ forms (map (asks_number d) fs)
asked-forms d [] = refl
asked-forms d (f ∷ fs) = ap (more (asks_number d f)) (asked-forms d fs)

pub asked-of : (d : ℕ) (cs ts : List Core) → map core_view cs ≡ map (asks_number d) (map core_view ts)
    → cores cs ≡ asked (local_number d) (cores ts)
asked-of d cs ts e = ap forms e ∙ sym (asked-forms d (map core_view ts))

pub ruleset asked_laws = asked-of
