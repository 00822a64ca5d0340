-- Objects none of which is a Proc with a body, as those are that a program begins with.
use Rattle.std.proofs.Common.{◌≡◌, inl, inr, ℕ, List, [], ◌∷◌, ◌++◌, refl, sym, ap, ◌∙◌, Bool, true, false, true≢false}
use Rattle.std.specs.Prelude.{◌&&◌, Option, Some, None}
use Rattle.rb_value.specs.Object.{Object}
use Rattle.def_calls.specs.Views.{Callable, by_body, by_row, callable_of}
use Rattle.def_calls.specs.Rows
use Rattle.def_eval.proofs.Running.{run}
use Rattle.eval_laws.specs.Procs.{IsProcOf, HasProc}
use Rattle.step_laws.proofs.Found.{both_true}

abbrev is_bodiless : Option Callable → Bool
is_bodiless None = true
is_bodiless (Some (by_row r v)) = true
is_bodiless (Some (by_body c)) = false

abbrev pub are_bodiless : List Object → Bool
are_bodiless [] = true
are_bodiless (o ∷ os) = is_bodiless (callable_of o.kind) && are_bodiless os

no_proc : (x : Option Callable) (b : ℕ) (ns : List ℕ) → is_bodiless x ≡ true → IsProcOf x b ns → ⊥
no_proc None b ns e is = is
no_proc (Some (by_row r v)) b ns e is = is
no_proc (Some (by_body c)) b ns e is = true≢false (sym e)

pub has_none : (os : List Object) (b : ℕ) (ns : List ℕ) → are_bodiless os ≡ true → HasProc os b ns → ⊥
has_none [] b ns e is = is
has_none (o ∷ os) b ns e (inl is) =
    no_proc (callable_of o.kind) b ns (both_true (is_bodiless (callable_of o.kind)) (are_bodiless os) e).0 is
has_none (o ∷ os) b ns e (inr is) =
    has_none os b ns (both_true (is_bodiless (callable_of o.kind)) (are_bodiless os) e).1 is

pub both_bodiless : (os ps : List Object) → are_bodiless os ≡ true → are_bodiless ps ≡ true
    → are_bodiless (os ++ ps) ≡ true
both_bodiless [] ps e f = f
both_bodiless (o ∷ os) ps e f =
    let parts = both_true (is_bodiless (callable_of o.kind)) (are_bodiless os) e in
    ap (λ (b : Bool). b && are_bodiless (os ++ ps)) parts.0 ∙ both_bodiless os ps parts.1 f

pub opening_bodiless : are_bodiless Rows.opening.objects ≡ true
unfolding run
opening_bodiless = refl
