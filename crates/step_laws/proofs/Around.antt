-- A body sees the same slots around its own by whatever is shown of it.
use Rattle.std.proofs.Common.{◌≡◌, ◌<◌, ℕ, [], ◌∷◌, refl, sym, ap, ◌∙◌, subst, arith, ⊎_elim}
use Rattle.std.specs.Prelude.{Option, unwrap_or}
use Rattle.std.proofs.lemmas.Bool.{cases_lt}
use Rattle.scope_resolver.specs.Layout.{Scopes}
use Rattle.def_eval.specs.Source.{Source, body_at}
use Rattle.eval_laws.specs.Kinds.{Kind, of_program, of_block, of_method, of_class, IsKind}
use Rattle.step_laws.specs.Around.{slots_for, Innermost, Around, alone, inside}

-- a number has one kind
same_kind : (s : Source) (n : ℕ) (k l : Kind) → IsKind s n k → IsKind s n l → k ≡ l
same_kind s n k l a b = ap (λ (o : Option Kind). unwrap_or o k) (sym a ∙ b)

-- and one innermost body around it
not_below : (s : Source) (n i j : ℕ) → Innermost s n i → Innermost s n j → i < j → ⊥
not_below s n i j a b lt = let c = a.closed j lt b.before in absurd (omega (arith, c, b.has))

same_innermost : (s : Source) (n i j : ℕ) → Innermost s n i → Innermost s n j → i ≡ j
same_innermost s n i j a b =
    ⊎_elim (λ lt. absurd (not_below s n i j a b lt))
    (λ le. ⊎_elim (λ lt. absurd (not_below s n j i b a lt)) (λ ge. omega (arith, le, ge)) (cases_lt j i))
    (cases_lt i j)

pub same_around : (s : Source) {n : ℕ} {x y : Scopes} → Around s n x → Around s n y → x ≡ y
same_around s (alone k is not e) (alone l is_too not_too f) = e ∙ sym f
same_around s {n = n} (alone k is not e) (inside i l around block in_it is_too further f) =
    absurd (not (same_kind s n k of_block is block))
same_around s {n = n} (inside i l around block in_it is_too further f) (alone k is not e) =
    absurd (not (same_kind s n k of_block is block))
same_around s {n = n} {x = x} {y = y} (inside i k xs block in_it is further e) (inside j l ys block_too in_it_too is_too further_too f) =
    let same = same_innermost s n i j in_it in_it_too in
    let kinds = same_kind s j k l (subst (λ (m : ℕ). IsKind s m k) same is) is_too in
    let others = same_around s {n = j} (subst (λ (m : ℕ). Around s m xs) same further) further_too in
    e
    ∙ ap (λ (m : ℕ). slots_for k (body_at s m) ∷ xs) same
    ∙ ap (λ (q : Kind). slots_for q (body_at s j) ∷ xs) kinds
    ∙ ap (λ (zs : Scopes). slots_for l (body_at s j) ∷ zs) others
    ∙ sym f

-- a method sees none
method_no_block : of_method ≡ of_block → ⊥
method_no_block e = absurd (cc e)

pub method_alone : (s : Source) (n : ℕ) → IsKind s n of_method → Around s n []
method_alone s n is = alone of_method is method_no_block refl

pub method_sees : (s : Source) (n : ℕ) (scopes : Scopes) → IsKind s n of_method → Around s n scopes → scopes ≡ []
method_sees s n scopes is a = same_around s a (method_alone s n is)

-- nor does the main program
program_no_block : of_program ≡ of_block → ⊥
program_no_block e = absurd (cc e)

pub program_alone : (s : Source) (n : ℕ) → IsKind s n of_program → Around s n []
program_alone s n is = alone of_program is program_no_block refl

-- and that of a class or a module
class_no_block : of_class ≡ of_block → ⊥
class_no_block e = absurd (cc e)

pub class_alone : (s : Source) (n : ℕ) → IsKind s n of_class → Around s n []
class_alone s n is = alone of_class is class_no_block refl
