-- What the clauses of a begin form do fits.
use Rattle.std.proofs.Common.{◌≡◌, ℕ, ◌+◌, List, ◌∷◌, refl, subst, arith}
use Rattle.rb_value.specs.declared.value.Value.{Value}
use Rattle.rb_value.specs.declared.value.Value.TheVariants.{Obj}
use Rattle.rb_value.specs.declared.value.ObjId.{ObjId}
use Rattle.rb_value.specs.Value.{is_true}
use Rattle.rb_value.specs.declared.core_class.CoreClass.TheVariants as class
use Rattle.def_core.specs.Store.{core}
use Rattle.def_core.specs.Sound.{census, ClassOrModule}
use Rattle.class_model.proofs.Lineages.{any_of, core_is_class}
use Rattle.ir_core.specs.CoreForm.{CoreForm, Maybe, absent, there, Forms, none, more, Clauses, no_clauses, clause}
use Rattle.ir_core.specs.Program.{Around, within_clause, within_target}
use Rattle.def_calls.specs.World.{Answer, Result, gives, raises}
use Rattle.def_calls.specs.Calls.{is_of}
use Rattle.def_eval.specs.Source.{Source, span, span_maybe, span_forms}
use Rattle.def_eval.specs.Configuration as eval
use Rattle.def_eval.specs.Configuration.{Rescue, Item, Memory, Config, Run}
use Rattle.def_eval.specs.Giving.{do_clause_body, take_exception, next_class, take_if, next_clause, match_class, begin_rescue}
use Rattle.world_laws.specs.Fine.{IsException}
use Rattle.world_laws.specs.Outcomes.{AnswerIs}
use Rattle.world_laws.proofs.Ending.{is_of_is}
use Rattle.eval_laws.specs.Standing.{FormStands, MaybeStands, FormsStand, ClausesStand}
use Rattle.eval_laws.specs.Fits.{Past, RescueStands, Fits, bodies}
use Rattle.eval_laws.proofs.Tests.{either}
use Rattle.eval_laws.proofs.Going.{Text, goes, after_fits, does, over_part, does_part}
use Rattle.eval_laws.proofs.Forming.{behind_absent}

-- The rest of a clause, behind its classes, and the clauses after it; the number is that of the first body in the classes.
pub record RestStands (s : Source) (a : Around) (n : ℕ) (es : Forms) (t : Maybe) (b : CoreForm) (cs : Clauses) : Type 0 where
  pub classes : FormsStand s (within_clause a) n es
  pub target : MaybeStands s (within_target a) (n + span_forms es) t
  pub body : FormStands s (within_clause a) (n + span_forms es + span_maybe t) b
  pub others : ClausesStand s a (n + span_forms es + span_maybe t + span b) cs

module _ (s : Source) (early : Past) (ks : List Item) (m : Memory) (a : Around) (x : Text s early ks m a) where
  pub body_in_clause : (n : ℕ) (b : CoreForm) (r : Rescue) → FormStands s (within_clause a) n b → RescueStands s a r
      → Fits s early (do_clause_body n b r ks m)
  body_in_clause n b r h rescue =
      let over = over_part s early (eval.clause_body r) ks m a x rescue in
      does s early n b (eval.part (eval.clause_body r) ∷ ks) m (within_clause a) (record {
        under = over.under;
        there = over.there;
        around = record {
          scene = record { sees = x.around.scene.sees; owns = x.around.scene.owns };
          target = over.around.target;
          clause = λ e. refl;
        };
      }) h

  target_taken : (n : ℕ) (e : ObjId) (t : Maybe) (b : CoreForm) (r : Rescue) → IsException (census m.world.store) e
      → MaybeStands s (within_target a) n t → FormStands s (within_clause a) (n + span_maybe t) b → RescueStands s a r
      → Fits s early (take_exception n e t b r ks m)
  target_taken n e absent b r is h g rescue =
      body_in_clause n b r (behind_absent s n (λ i. FormStands s (within_clause a) i b) g) rescue
  target_taken n e (there t) b r is h g rescue =
      let p = eval.clause_target (n + span t) e b r in
      let over = over_part s early p ks m a x (is, g, rescue) in
      does s early n t (eval.part p ∷ ks) m (within_target a) (record {
        under = over.under;
        there = over.there;
        around = record {
          scene = record { sees = x.around.scene.sees; owns = x.around.scene.owns };
          target = λ e. refl;
          clause = λ e. refl;
        };
      }) h

  taken_if : (c : Answer) (n : ℕ) (e : ObjId) (es : Forms) (t : Maybe) (b : CoreForm) (cs : Clauses) (r : Rescue)
      (further : Config) → AnswerIs (bodies s early.Known m.scopes) m.world c → IsException (census m.world.store) e
      → RestStands s a n es t b cs → RescueStands s a r → Fits s early further
      → Fits s early (take_if c c.result n e es t b r ks m further)
  taken_if c n e es t b cs r further h is stands rescue next = by c.result
    where
      by : (z : Result) → Fits s early (take_if c z n e es t b r ks m further)
      by (gives v) = either (Fits s early) (is_true v) (take_exception (n + span_forms es) e t b r ks m) further
          (target_taken (n + span_forms es) e t b r is stands.target stands.body rescue) next
      by (raises y) = after_fits s early c ks m x.under h

  -- the number of what stands behind more classes
  moved : (P : ℕ → Type 0) (n i j : ℕ) → P (n + (i + j)) → P (n + i + j)
  moved P n i j h = let e : n + (i + j) ≡ n + i + j = omega arith in subst P e h

  class_asked : (n : ℕ) (e : ObjId) (c : CoreForm) (es : Forms) (t : Maybe) (b : CoreForm) (cs : Clauses) (r : Rescue)
      → IsException (census m.world.store) e → RestStands s a n (more c es) t b cs → RescueStands s a r
      → Fits s early (Run (eval.perform n c) (eval.part (eval.clause_class (n + span c) e es t b cs r) ∷ ks) m)
  class_asked n e c es t b cs r is h rescue =
      let p = eval.clause_class (n + span c) e es t b cs r in
      let i = span c in
      let j = span_forms es in
      let over = over_part s early p ks m a x (
        is,
        h.classes.1,
        moved (λ k. MaybeStands s (within_target a) k t) n i j h.target,
        moved (λ k. FormStands s (within_clause a) (k + span_maybe t) b) n i j h.body,
        moved (λ k. ClausesStand s a (k + span_maybe t + span b) cs) n i j h.others,
        rescue,
      ) in
      does s early n c (eval.part p ∷ ks) m (within_clause a) (record {
        under = over.under;
        there = over.there;
        around = record {
          scene = record { sees = x.around.scene.sees; owns = x.around.scene.owns };
          target = over.around.target;
          clause = λ e. refl;
        };
      }) h.classes.0

  pub clauses_done : (n : ℕ) (e : ObjId) (cs : Clauses) (r : Rescue) → IsException (census m.world.store) e
      → ClausesStand s a n cs → RescueStands s a r → Fits s early (next_clause n e cs r ks m)
  unfolding next_clause
  clauses_done n e no_clauses r is h rescue = goes s early (eval.travel (eval.raise e)) ks m x.under is
  clauses_done n e (clause none t b cs) r is h rescue =
      let st = m.world.store in
      let over = over_part s early (eval.clause_class n e none t b cs r) ks m a x (is, h.0, h.1, h.2, h.3, rescue) in
      goes s early (eval.give (Obj (core class.StandardError)))
      (eval.part (eval.clause_class n e none t b cs r) ∷ ks) m over.under
      (any_of st ClassOrModule (core class.StandardError)
      (core_is_class st x.under.memory.world.store class.StandardError refl))
  clauses_done n e (clause (more c es) t b cs) r is h rescue =
      class_asked n e c es t b cs r is (record { classes = h.0; target = h.1; body = h.2; others = h.3 }) rescue

  next_asked : (n : ℕ) (e : ObjId) (es : Forms) (t : Maybe) (b : CoreForm) (cs : Clauses) (r : Rescue) (further : Config)
      → IsException (census m.world.store) e → RestStands s a n es t b cs → RescueStands s a r → Fits s early further
      → Fits s early (next_class n e es t b cs r ks m further)
  next_asked n e none t b cs r further is h rescue next = next
  next_asked n e (more c es) t b cs r further is h rescue next = class_asked n e c es t b cs r is h rescue

  pub class_matched : (n : ℕ) (v : Value) (e : ObjId) (es : Forms) (t : Maybe) (b : CoreForm) (cs : Clauses)
      (r : Rescue) → IsException (census m.world.store) e → RestStands s a n es t b cs → RescueStands s a r
      → Fits s early (match_class n v e es t b cs r ks m)
  class_matched n v e es t b cs r is h rescue =
      let others = next_clause (n + span_forms es + span_maybe t + span b) e cs r ks m in
      taken_if (is_of m.world (Obj e) v) n e es t b cs r (next_class n e es t b cs r ks m others)
      (is_of_is (bodies s early.Known m.scopes) m.world x.under.memory.world (Obj e) v) is h rescue
      (next_asked n e es t b cs r others is h rescue
      (clauses_done (n + span_forms es + span_maybe t + span b) e cs r is h.others rescue))

  pub rescue_begun : (r : Rescue) → RescueStands s a r → Fits s early (begin_rescue r ks m)
  rescue_begun r h =
      does_part s early (eval.rescued r.number r.body r.clauses r.otherwise) r.number r.body ks m a x h h.0
