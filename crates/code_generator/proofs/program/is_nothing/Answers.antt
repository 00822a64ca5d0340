use Rattle.std.proofs.Common.{◌≡◌, ◌∙◌, ap, ℕ, List, [], ◌∷◌, refl, length, nat_eq, map, arith}
use Rattle.std.proofs.lemmas.Bool.{ne_eqb}
use Rattle.path_core.specs.Form.{Form, seq, forms}
use Rattle.code_generator.specs.Gen.{is_nothing}
use Rattle.code_generator.specs.declared.tree.Tree.{the_lemmas}
use Rattle.code_generator.proofs.program.is_nothing.Goals as goal

no_lines : {A : Type 0} (f : A → Form) (xs : List A) → nat_eq (length xs) 0 ≡ is_nothing (seq (forms (map f xs)))
no_lines f [] = refl
no_lines f (x ∷ xs) = ne_eqb (length (x ∷ xs)) 0 (λ e. absurd (omega (arith, e)))

pub returns-in-Seq : goal.returns-in-Seq
returns-in-Seq c = simp (c.in-Seq.is, the_lemmas)
    (c.is_empty.ensures ∙ ap (λ (n : ℕ). nat_eq n 0) (ap length c.as_slice.ensures.value)
    ∙ no_lines _ c.in-Seq.list.items)
