-- The body that a class or a module runs, with those in it.
use Rattle.std.proofs.Common.{◌≡◌, ◌≤◌, ℕ, ◌+◌, List, [], ◌∷◌, ◌++◌, arith, refl, sym, ap, ◌∙◌, subst, true}
use Rattle.rite_code.specs.declared.code.Irep.{Irep}
use Rattle.rite_code.specs.declared.operation.Operation.{Operation}
use Rattle.ir_core.specs.CoreForm as form
use Rattle.ir_core.specs.CoreForm.{Local, Parameters, CoreForm}
use Rattle.ir_core.specs.Program.{within_class, has_no_parameters, is_empty, is_class, is_form}
use Rattle.ir_counts.specs.Counts.{tally}
use Rattle.scope_resolver.specs.declared.body_kind.BodyKind.TheVariants as kind
use Rattle.scope_resolver.specs.Layout.{Scopes, scopes_in}
use Rattle.gen_parts.specs.Pieces.{makes}
use Rattle.gen_forms.specs.Gen.{first_register, first_spot, opening, body_code}
use Rattle.code_laws.proofs.Shares.{Fits}
use Rattle.code_laws.proofs.Binding.{class_knows}
use Rattle.def_eval.specs.Source.{Source, no_parameters, over, in_order, span}
use Rattle.eval_laws.specs.Kinds.{of_class, kinds}
use Rattle.eval_laws.specs.Standing.{ClassStands}
use Rattle.eval_laws.proofs.Forming.{body_from}
use Rattle.step_laws.specs.Plain.{IsPlain}
use Rattle.step_laws.proofs.Found.{both_true}
use Rattle.step_laws.proofs.Around.{class_alone}
use Rattle.step_laws.proofs.Fitting.{w as body_room}
use Rattle.step_laws.proofs.ClassLines.{of_no_scopes}
use Rattle.step_laws.proofs.Spans.{counted}
use Rattle.step_laws.proofs.Nested.{inside_new}
use Rattle.step_laws.proofs.Making.{code_of_class}
use Rattle.step_laws.proofs.Written.{AllWritten, Writes}
use Rattle.step_laws.proofs.Inner.{FormWritten}

-- without parameters each list of them has none

empty_list : (xs : List Local) → is_empty xs ≡ true → xs ≡ []
empty_list [] e = refl
empty_list (x ∷ xs) e = absurd (cc e)

empty_both : (xs ys : List Local) → is_empty (xs ++ ys) ≡ true → (is_empty xs ≡ true) × (is_empty ys ≡ true)
empty_both [] ys e = (refl, e)
empty_both (x ∷ xs) ys e = absurd (cc e)

bare_parameters : (p : Parameters) → has_no_parameters p ≡ true → p ≡ no_parameters
bare_parameters p e =
    let last = empty_both (p.required ++ p.optional ++ p.rest ++ p.post) p.block e in
    let third = empty_both (p.required ++ p.optional ++ p.rest) p.post last.0 in
    let second = empty_both (p.required ++ p.optional) p.rest third.0 in
    let first = empty_both p.required p.optional second.0 in
    ap (λ (xs : List Local). record {
      required = xs;
      optional = p.optional;
      rest = p.rest;
      post = p.post;
      block = p.block;
    })
    (empty_list p.required first.0)
    ∙ ap (λ (xs : List Local). record { required = []; optional = xs; rest = p.rest; post = p.post; block = p.block })
    (empty_list p.optional first.1)
    ∙ ap (λ (xs : List Local). record { required = []; optional = []; rest = xs; post = p.post; block = p.block })
    (empty_list p.rest second.1)
    ∙ ap (λ (xs : List Local). record { required = []; optional = []; rest = []; post = xs; block = p.block })
    (empty_list p.post third.1)
    ∙ ap (λ (xs : List Local). record { required = []; optional = []; rest = []; post = []; block = xs })
    (empty_list p.block last.1)

module _ (src : Source) where
  pub class_written : (o : Operation) (i : ℕ) (sc : Scopes) (n : ℕ) (p : Parameters) (ls : List Local) (f : CoreForm)
      → IsPlain f → FormWritten src f → Fits (form.body p ls f) → is_class (form.body p ls f) ≡ true
      → ClassStands src n (form.body p ls f) → n + (1 + span f) ≤ 65536 → i ≡ n
      → Writes src n (of_class ∷ kinds f) (form.body p ls f ∷ over in_order f)
      (makes o i (body_code kind.Class sc i (form.body p ls f)))
  unfolding makes
  class_written o i sc n p ls f plain made fits formed st few at =
      let b = form.body p ls f in
      let t = tally b in
      let parts = both_true (has_no_parameters p) (is_form (within_class ls) f) formed in
      let alone = class_alone src n st.2 in
      let many_is = counted f in
      subst (λ (j : ℕ). AllWritten src n (of_class ∷ kinds f) (b ∷ over in_order f) (body_code kind.Class sc j b))
      (sym at)
      (subst (λ (is : List Irep). AllWritten src n (of_class ∷ kinds f) (b ∷ over in_order f) is)
      (sym (code_of_class sc n b)) (
        record {
          fits = fits;
          few = omega (arith, few, many_is);
          formed = parts.1;
          stands = st.1;
          bare = bare_parameters p parts.0;
          plain = plain;
          is = refl;
        },
        made t (within_class ls) (n + 1) (opening kind.Class b [] t) fits.1 parts.1 st.1 (record {
          knows = class_knows p ls f [];
          inside = inside_new src n of_class [] (scopes_in kind.Class b []) b (body_from src n b st.0) st.2 alone refl;
          short = (body_room kind.Class [] of_no_scopes p ls f fits).able.each;
          deep = omega arith;
          few = omega (arith, few);
        }) (first_spot n) (first_register kind.Class b t) refl,
      ))
