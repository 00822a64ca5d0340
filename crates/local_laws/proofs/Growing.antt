-- What keeps scopes mirrors of bodies: a scope that is added, and a local that is assigned.
use Rattle.std.proofs.Common.{◌≡◌, ◌<◌, ℕ, List, [], ◌∷◌, ◌++◌, length, refl, sym, ◌∙◌, subst, true, is_some, ⊎_elim}
use Rattle.std.specs.List.{All}
use Rattle.std.proofs.lemmas.Bool.{cases_eq}
use Rattle.std.proofs.lemmas.List.{get_or_append_left, get_or_push, get_or-set_same, get_or-set_other}
use Rattle.std.proofs.lemmas.List.Elements.{All-head, All-tail}
use Rattle.rb_value.specs.declared.value.Value.{Value}
use Rattle.ir_core.specs.CoreForm.{Local}
use Rattle.scope_resolver.specs.Layout.{Slots, Scopes}
use Rattle.def_eval.specs.Configuration.{Scope}
use Rattle.def_eval.specs.Scopes.{value_in, no_scope, scope_at, put_value, put_in}
use Rattle.code_laws.specs.Bound.{IsSeen}
use Rattle.local_laws.specs.Mirrors.{Mirrors, AreMirrored}
use Rattle.local_laws.proofs.Keeping.{assigned}

pub added : (cs : List Scope) (c : Scope) (ns : List ℕ) (scopes : Scopes) → All (λ n. n < length cs) ns
    → AreMirrored cs ns scopes → AreMirrored (cs ++ c ∷ []) ns scopes
added cs c [] [] there m = tt
added cs c [] (ss ∷ scopes) there m = absurd m
added cs c (n ∷ ns) [] there m = absurd m
added cs c (n ∷ ns) (ss ∷ scopes) there m = (
  subst (λ (d : Scope). Mirrors d.variables ss)
      (sym (get_or_append_left cs (c ∷ []) no_scope n (All-head (λ k. k < length cs) n ns there))) m.0,
  added cs c ns scopes (All-tail (λ k. k < length cs) n ns there) m.1,
)

pub opened : (cs : List Scope) (c : Scope) (ns : List ℕ) (ss : Slots) (scopes : Scopes)
    → All (λ n. n < length cs) ns → AreMirrored cs ns scopes → Mirrors c.variables ss
    → AreMirrored (cs ++ c ∷ []) (length cs ∷ ns) (ss ∷ scopes)
opened cs c ns ss scopes there m h = (
  subst (λ (d : Scope). Mirrors d.variables ss) (sym (get_or_push cs c no_scope (length cs) refl)) h,
  added cs c ns scopes there m,
)

-- a scope with one of its variables set
module _ (cs : List Scope) (k : ℕ) (x : Local) (v : Value) (within : k < length cs)
    (has : IsSeen x → is_some (value_in (scope_at cs k).variables x) ≡ true) where
  put_scope : (n : ℕ) (ss : Slots) → Mirrors (scope_at cs n).variables ss
      → Mirrors (scope_at (put_in cs k x v) n).variables ss
  put_scope n ss m =
      ⊎_elim
      (λ e. subst (λ (i : ℕ). Mirrors (scope_at (put_in cs k x v) i).variables ss) (sym e)
      (subst (λ (d : Scope). Mirrors d.variables ss) (sym (get_or-set_same cs k _ no_scope within))
      (here (subst (λ (i : ℕ). Mirrors (scope_at cs i).variables ss) e m))))
      (λ e. subst (λ (d : Scope). Mirrors d.variables ss) (sym (get_or-set_other cs k n _ no_scope e)) m)
      (cases_eq n k)
    where
      here : Mirrors (scope_at cs k).variables ss → Mirrors (put_value (scope_at cs k).variables x v) ss
      here h = assigned (scope_at cs k).variables ss x v h (λ seen. sym (h x seen) ∙ has seen)

  pub put_mirrors : (ns : List ℕ) (scopes : Scopes) → AreMirrored cs ns scopes → AreMirrored (put_in cs k x v) ns scopes
  put_mirrors [] [] m = tt
  put_mirrors [] (ss ∷ scopes) m = absurd m
  put_mirrors (n ∷ ns) [] m = absurd m
  put_mirrors (n ∷ ns) (ss ∷ scopes) m = (put_scope n ss m.0, put_mirrors ns scopes m.1)
