-- Where scopes and lists are numbered alike, the numbers around a Proc are the same.
use Rattle.std.proofs.Common.{◌≡◌, ℕ, zero, suc, List, [], ◌∷◌, get_or, refl, sym, ap, ◌∙◌}
use Rattle.std.specs.Prelude.{Option, Some, None}
use Rattle.def_eval.specs.Configuration.{Scope}
use Rattle.def_eval.specs.Scopes.{scope_at, outward, scopes_around}
use Rattle.def_machine.specs.State.{Registers, list_at}
use Rattle.def_machine.specs.Turn.{lists_around}
use Rattle.rite_code.specs.Code.{Program}
use Rattle.def_eval.specs.Source.{Source}
use Rattle.def_eval.specs.Configuration.{opening}
use Rattle.def_machine.specs.State.{start}
use Rattle.scope_laws.specs.Numbers.{parents, outers, OpensFirstScope, OpensFirstList}

parent_at : (cs : List Scope) (n : ℕ) → (scope_at cs n).parent ≡ get_or (parents cs) n None
parent_at [] n = refl
parent_at (c ∷ cs) zero = refl
parent_at (c ∷ cs) (suc n) = parent_at cs n

outer_at : (ls : List Registers) (n : ℕ) → (list_at ls n).outer ≡ get_or (outers ls) n None
outer_at [] n = refl
outer_at (r ∷ ls) zero = refl
outer_at (r ∷ ls) (suc n) = outer_at ls n

module _ (cs : List Scope) (ls : List Registers) (e : parents cs ≡ outers ls) where
  same_at : (n : ℕ) → (scope_at cs n).parent ≡ (list_at ls n).outer
  same_at n = parent_at cs n ∙ ap (λ os. get_or os n None) e ∙ sym (outer_at ls n)

  around : (most : ℕ) (o : Option ℕ) → outward most cs o ≡ lists_around most ls o
  around zero o = refl
  around (suc most) None = refl
  around (suc most) (Some n) = ap (λ ns. n ∷ ns)
      (ap (outward most cs) (same_at n) ∙ around most (list_at ls n).outer)

  pub around_alike : (n : ℕ) → scopes_around cs n ≡ lists_around (suc n) ls (Some n)
  unfolding scopes_around
  around_alike n = around (suc n) (Some n)

-- Both begin with one.

pub first_scope : (s : Source) (input : List ℕ) → OpensFirstScope (opening s input)
unfolding opening
first_scope s input = (refl, refl)

pub first_list : (p : Program) (input : List ℕ) → OpensFirstList (start p input)
unfolding start
first_list p input = (refl, refl)
