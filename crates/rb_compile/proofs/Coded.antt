-- The code of a core, as that of the text's form, and why there is none.
use Rattle.std.proofs.Common.{◌≡◌, ℕ, true, false, List, Option, Some, None, is_some, inr, refl, sym, subst, if◌then◌else◌}
use Rattle.path_core.specs.Form.{Form}
use Rattle.code_generator.specs.Limits.{IsWithin}
use Rattle.rite_code.specs.Code.{Program}
use Rattle.ir_core.specs.CoreForm as core
use Rattle.ir_core.specs.CoreForm.{Body}
use Rattle.rb_front.specs.Front.{core_of}
use Rattle.ir_counts.specs.Counts.{need}
use Rattle.ir_counts.specs.Limits.{first_excess}
use Rattle.ir_counts.specs.declared.excess.Excess.{Excess}
use Rattle.code_generator.specs.Gen.{code_of}
use Rattle.code_generator.specs.Built.{form_of, of_program, is_within, within, built, code_built}
use Rattle.rb_base.specs.Option.{◌>>=◌}
use Rattle.code_generator.proofs.Within.{is_within_means}
use Rattle.rb_compile.specs.Language.{unless_past, form_of_core, program_of}
use Rattle.rb_syntax.specs.declared.outside.Outside.TheVariants.{Unbuilt}
use Rattle.rb_compile.specs.declared.error.CompileError.TheVariants.{TooLarge, Outside}
use Rattle.rb_compile.specs.Compiled.{IsCodeOf, Refuses}

within_means : (f g : Form) → within f ≡ Some g → IsWithin g
within_means f g e =
    elim (is_within f) as (λ b. is_within f ≡ b → (if b then Some f else None) ≡ Some g → IsWithin g) [
      | true ↦ λ t some. subst IsWithin (cc some) (is_within_means f t)
      | false ↦ λ t none. absurd (cc none)
    ] refl e

-- what is built is within the limits
built_within : (o : Option Form) (g : Form) → (o >>= (λ f. within (of_program f))) ≡ Some g → IsWithin g
built_within None g e = absurd (cc e)
built_within (Some f) g e = within_means (of_program f) g e

of_form : (o : Option Form) (code : Program) (past : Option Excess) → ((g : Form) → o ≡ Some g → IsWithin g)
    → Some code ≡ (o >>= (λ f. Some (code_of f))) → None ≡ past → IsCodeOf code (o >>= unless_past past)
of_form None code past w e n = absurd (cc e)
of_form (Some f) code past w e n = subst (λ p. IsCodeOf code (unless_past p f)) n (w f refl, cc e)

pub coded : (text : List ℕ) (c : Body) (code : Program) → core_of text ≡ Some c → Some code ≡ code_built c
    → None ≡ first_excess (need c) → IsCodeOf code (program_of text)
unfolding program_of
coded text c code is e n =
    subst (λ o. IsCodeOf code (o >>= form_of_core)) (sym is)
    (of_form (built c) code (first_excess (need c)) (built_within (form_of (core.form_of c))) e n)

no_form : (o : Option Form) → None ≡ (o >>= (λ f. Some (code_of f))) → o ≡ None
no_form None e = refl
no_form (Some f) e = absurd (cc e)

some_form : (o : Option Form) (code : Program) → Some code ≡ (o >>= (λ f. Some (code_of f))) → is_some o ≡ true
some_form None code e = absurd (cc e)
some_form (Some f) code e = refl

pub refused_unbuilt : (text : List ℕ) (c : Body) → core_of text ≡ Some c → None ≡ code_built c
    → Refuses text (Outside Unbuilt 0)
refused_unbuilt text c is e = inr (refl, refl, c, is, no_form (built c) e)

pub refused_past : (text : List ℕ) (c : Body) (code : Program) (e : Excess) → core_of text ≡ Some c
    → Some code ≡ code_built c → Some e ≡ first_excess (need c) → Refuses text (TooLarge e.what e.count)
refused_past text c code e is made past = inr (c, is, some_form (built c) code made, sym past)
