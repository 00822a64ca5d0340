-- Choices by their number of branches.
use Rattle.std.proofs.Common.{◌≡◌, ◌≤◌, ◌<◌, if◌then◌else◌, nat_le, List, [], ◌∷◌, true, Option, None, length, refl, ap, ◌∙◌}
use Rattle.std.specs.Prelude.{suc}
use Rattle.std.proofs.lemmas.Bool.{le-leb, lt-leb}
use Rattle.rb_syntax.specs.declared.core_form.Branch.{Branch}
use Rattle.ir_core.specs.CoreForm.{CoreForm}
use Rattle.ir_core.specs.PartsBy.{Boxed, branches_by}
use Rattle.path_core.specs.Form.{Form}
use Rattle.code_generator.specs.Built.{branch_count, if_few}

counted : {T : Type 0} (v : T → CoreForm) (bs : List (Branch (Boxed T))) → branch_count (branches_by v bs) ≡ length bs
counted v [] = refl
counted v (b ∷ bs) = ap suc (counted v bs)

-- few branches are counted as few
pub few_branches : {T : Type 0} (v : T → CoreForm) (bs : List (Branch (Boxed T))) → length bs ≤ 1000
    → nat_le (branch_count (branches_by v bs)) 1000 ≡ true
few_branches v bs few = ap (λ n. nat_le n 1000) (counted v bs) ∙ le-leb (length bs) 1000 few

-- many branches have no form
pub many_are_none : {T : Type 0} (v : T → CoreForm) (bs : List (Branch (Boxed T))) (f : Option Form)
    → 1000 < length bs → if_few (branches_by v bs) f ≡ None
many_are_none v bs f many = ap (λ b. if b then f else None)
    (ap (λ n. nat_le n 1000) (counted v bs) ∙ lt-leb (length bs) 1000 many)
