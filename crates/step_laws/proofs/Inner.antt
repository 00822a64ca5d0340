-- The bodies that block literals, lambdas and definitions of methods write, with those in them.
use Rattle.std.proofs.Common.{◌≡◌, ◌≤◌, ℕ, ◌+◌, List, [], ◌∷◌, length, arith, refl, sym, subst, true}
use Rattle.rite_code.specs.declared.code.Irep.{Irep}
use Rattle.rite_code.specs.declared.operation.Operation.{Operation}
use Rattle.ir_core.specs.CoreForm as form
use Rattle.ir_core.specs.CoreForm.{Name, Local, CoreForm, Body, Maybe, Forms, Items, Pairs, Branches, Receiver}
use Rattle.ir_core.specs.Program as program
use Rattle.ir_core.specs.Program.{within_loop, within_block, within_method, has_defaults, is_known, is_form, may_be, are_forms, are_items, are_pairs, are_branches, is_receiver}
use Rattle.ir_counts.specs.declared.tally.Tally.{Tally}
use Rattle.ir_counts.specs.Counts.{tally}
use Rattle.scope_resolver.specs.declared.body_kind.BodyKind.{BodyKind}
use Rattle.scope_resolver.specs.declared.body_kind.BodyKind.TheVariants as kind
use Rattle.scope_resolver.specs.Layout.{Scopes, scopes_in, seen_around}
use Rattle.gen_parts.specs.Pieces.{makes}
use Rattle.gen_forms.specs.Gen.{Context, gen, opening, first_register, body_code}
use Rattle.code_laws.proofs.Shares.{Noted, Fits}
use Rattle.code_laws.specs.Bound.{Knows}
use Rattle.code_laws.proofs.Binding.{method_knows, block_knows}
use Rattle.def_eval.specs.Source.{Source, over, in_order, span}
use Rattle.eval_laws.specs.Kinds.{of_block, of_method, kinds}
use Rattle.eval_laws.specs.Standing.{FormStands, BlockStands, MethodStands}
use Rattle.eval_laws.proofs.Forming.{body_from}
use Rattle.step_laws.specs.Plain.{IsPlainBody, IsPlain}
use Rattle.step_laws.proofs.Found.{both_true}
use Rattle.step_laws.proofs.Around.{method_alone}
use Rattle.step_laws.proofs.Fitting.{Around as Fit, none_around, w as body_room}
use Rattle.step_laws.proofs.Spans.{counted}
use Rattle.step_laws.proofs.Nested.{Inside, inside_new, block_sees}
use Rattle.step_laws.proofs.Making.{form_spot, spot_body, inner_bodies, code_of_method, code_of_block}
use Rattle.step_laws.proofs.Written.{AllWritten, Ready, Writes, WritesBy}

module _ (src : Source) where
  -- A body with those in it.

  -- what is shown of its form
  abbrev pub FormWritten : CoreForm → Type 0
  FormWritten f = (t : Tally) (a : program.Around) (n : ℕ) (c : Context) → Noted t f → is_form a f ≡ true
      → FormStands src a n f → Ready src a c.scopes n (span f) → WritesBy src c n (kinds f) (over in_order f)
      (λ d u i. gen d u i f)

  inner_written : (k : BodyKind) (sc : Scopes) (out : Fit k sc) (n : ℕ) (p : form.Parameters)
      (ls : List Local) (f : CoreForm) → Fits (form.body p ls f) → (a : program.Around) → length (seen_around k sc) ≤ n
      → n + (1 + span f) ≤ 65536 → Inside src (scopes_in k (form.body p ls f) sc) (n + 1) (n + 1 + span f)
      → Knows (scopes_in k (form.body p ls f) sc) a
      → FormStands src a (n + 1) f → is_form a f ≡ true → FormWritten f
      → AllWritten src (n + 1) (kinds f) (over in_order f) (inner_bodies k sc n (form.body p ls f))
  inner_written k sc out n p ls f fits a deep few nested knows st formed made =
      let b = form.body p ls f in
      let t = tally b in
      let c = opening k b sc t in
      let r = first_register k b t in
      let sp = form_spot n (length p.optional) in
      made t a (n + 1) c fits.1 formed st (record {
        knows = knows;
        inside = nested;
        short = (body_room k sc out p ls f fits).able.each;
        deep = omega (arith, deep);
        few = omega (arith, few);
      }) sp r (spot_body n (length p.optional))

  pub block_written : (o : Operation) (i : ℕ) (sc : Scopes) (n : ℕ) (p : form.Parameters) (ls : List Local) (f : CoreForm)
      → IsPlainBody (form.body p ls f) → IsPlain f → FormWritten f → (a : program.Around)
      → Fits (form.body p ls f) → is_form a (form.function (form.body p ls f)) ≡ true → BlockStands src a n
      (form.body p ls f)
      → Ready src a sc n (span (form.function (form.body p ls f))) → i ≡ n
      → Writes src n (of_block ∷ kinds f) (form.body p ls f ∷ over in_order f)
      (makes o i (body_code kind.Block sc i (form.body p ls f)))
  unfolding makes
  block_written o i sc n p ls f m plain made a fits formed st y at =
      let b = form.body p ls f in
      let inside = (both_true (has_defaults p.optional f) (is_form (within_block a p ls) f) formed).1 in
      let knows = block_knows p ls f sc a m.single.one_block y.knows in
      let many_is = counted f in
      let deep = y.deep in
      let few = y.few in
      let out : Fit kind.Block sc = record { short = y.short; few = omega (arith, deep, few) } in
      let sees = block_sees src sc n (n + span (form.function b)) y.inside (omega arith) st.4 in
      subst (λ (j : ℕ). AllWritten src n (of_block ∷ kinds f) (b ∷ over in_order f) (body_code kind.Block sc j b))
      (sym at)
      (subst (λ (is : List Irep). AllWritten src n (of_block ∷ kinds f) (b ∷ over in_order f) is)
      (sym (code_of_block sc n b m)) (
        record {
          around = sc;
          out = out;
          fits = fits;
          few = omega (arith, few, many_is);
          within = within_block a p ls;
          in_block = λ e. refl;
          formed = inside;
          stands = st.2;
          knows = knows;
          single = m.single;
          defaults = m.defaults;
          seen = m.seen;
          plain = plain;
          sees = sees;
          is = refl;
        },
        inner_written kind.Block sc out n p ls f fits (within_block a p ls) deep (omega (arith, few))
            (inside_new src n of_block sc (scopes_in kind.Block b sc) b (body_from src n b st.0) st.4 sees refl) knows
            st.2
            inside made,
      ))

  pub method_written : (o : Operation) (i : ℕ) (sc : Scopes) (n : ℕ) (p : form.Parameters) (ls : List Local) (f : CoreForm)
      → IsPlainBody (form.body p ls f) → IsPlain f → FormWritten f → (x : Name) (a : program.Around)
      → Fits (form.body p ls f) → is_form a (form.define x (form.body p ls f)) ≡ true
      → MethodStands src n (form.body p ls f) → n + (1 + span f) ≤ 65536 → i ≡ n
      → Writes src n (of_method ∷ kinds f) (form.body p ls f ∷ over in_order f)
      (makes o i (body_code kind.Method sc i (form.body p ls f)))
  unfolding makes
  method_written o i sc n p ls f m plain made x a fits formed st few at =
      let b = form.body p ls f in
      let inside = (both_true (has_defaults p.optional f) (is_form (within_method p ls) f) formed).1 in
      let out = none_around kind.Method (omega arith) in
      let alone = method_alone src n st.4 in
      let knows = method_knows p ls f [] m.single.one_block in
      let many_is = counted f in
      subst (λ (j : ℕ). AllWritten src n (of_method ∷ kinds f) (b ∷ over in_order f) (body_code kind.Method sc j b))
      (sym at)
      (subst (λ (is : List Irep). AllWritten src n (of_method ∷ kinds f) (b ∷ over in_order f) is)
      (sym (code_of_method sc n b m)) (
        record {
          around = [];
          out = out;
          fits = fits;
          few = omega (arith, few, many_is);
          within = within_method p ls;
          in_block = λ e. absurd (cc e);
          formed = inside;
          stands = st.2;
          knows = knows;
          single = m.single;
          defaults = m.defaults;
          seen = m.seen;
          plain = plain;
          sees = alone;
          is = refl;
        },
        inner_written kind.Method [] out n p ls f fits (within_method p ls) (omega arith) few
            (inside_new src n of_method [] (scopes_in kind.Method b []) b (body_from src n b st.0) st.4 alone refl)
            knows st.2
            inside made,
      ))
