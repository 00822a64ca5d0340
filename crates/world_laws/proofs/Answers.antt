-- Answers of fine worlds.
use Rattle.std.proofs.Common.{◌≡◌, ℕ, List, length, false, refl, ap, ◌∙◌}
use Rattle.std.specs.Prelude.{Some}
use Rattle.std.proofs.lemmas.List.{get_or_push}
use Rattle.rb_value.specs.declared.value.Value.{Value}
use Rattle.rb_value.specs.declared.value.ObjId.{ObjId}
use Rattle.rb_value.specs.declared.outcome.Failure.{Failure}
use Rattle.rb_value.specs.declared.outcome.Outcome.{Outcome}
use Rattle.rb_value.specs.declared.outcome.Outcome.TheVariants as outcome
use Rattle.rb_value.specs.Object.{Object}
use Rattle.rb_value.specs.Sort.{sort_of}
use Rattle.rb_value.specs.CoreClass.{is_module}
use Rattle.def_core.specs.declared.cause.Cause.{Cause}
use Rattle.def_core.specs.Store.{Store, Done, absent, next_number, with_object}
use Rattle.def_core.specs.Texts.{detail_of}
use Rattle.def_core.specs.Changes.{gives as done, fails}
use Rattle.def_core.specs.Sound.{census, String, IsValue, IsOutcome, SoundObject, AllAre}
use Rattle.def_core.proofs.Good.{good_added}
use Rattle.def_core.proofs.Grows.{new_role, value_grows, one_more}
use Rattle.def_core.proofs.Good.{sort_found}
use Rattle.rb_raise.specs.Causes.{SoundCause}
use Rattle.rb_raise.proofs.Details.{detail_is}
use Rattle.class_model.specs.Given.{GivesClass}
use Rattle.class_model.proofs.Belongs.{class_belongs}
use Rattle.def_rows.specs.Answers.{text_object, items_object, makes}
use Rattle.run_values.specs.Raisable.{IsRaisable}
use Rattle.run_values.proofs.Causes.{fails_raisable}
use Rattle.run_values.proofs.Made.{new_is, items_sound, text_sound, exception_sound}
use Rattle.def_calls.specs.World.{World, raises, Answer, with_store, give, give_in, make, exception_object, answer_in, answer, fail}
use Rattle.world_laws.specs.Fine.{Bodies, HasSort, ObjectIs, Fine, Keeps}
use Rattle.world_laws.specs.Outcomes.{AnswerIs, GivesSpace, DoneIs, DefinesIs}
use Rattle.world_laws.proofs.Standing.{keeps_itself, keeps_then}
use Rattle.world_laws.proofs.Stores.{keeps_object}

-- a new object has its sort
pub new_sort : (st : Store) (o : Object) → HasSort (census (with_object st o)) (sort_of o.kind) (next_number st)
new_sort st o =
    sort_found (with_object st o) (next_number st) (good_added st o)
    ∙ ap (λ (x : Object). Some (sort_of x.kind)) (get_or_push st.objects o absent (length st.objects) refl)

-- what fails raises
pub fail_raises : (w : World) (c : Cause) → (e : ObjId) × ((fail w c).result ≡ raises e)
unfolding fail fails
fail_raises w c = (next_number (fails w.store c).store, refl)

module _ (b : Bodies) where
  pub answer_then : (w v : World) (a : Answer) → Keeps b w v → AnswerIs b v a → AnswerIs b w a
  answer_then w v a k h = record { keeps = keeps_then b w v a.world k h.keeps; result = h.result }

module _ (b : Bodies) (w : World) (fine : Fine b w) where
  pub gives_value : (x : Value) → IsValue (census w.store) x → AnswerIs b w (give w x)
  gives_value x is = record { keeps = keeps_itself b w fine; result = is }

  pub gives_in : (st : Store) (x : Value) → Keeps b w (with_store w st) → IsValue (census st) x
      → AnswerIs b w (give_in w st x)
  gives_in st x k is = record { keeps = k; result = is }

  pub makes_object : (o : Object) → SoundObject (census w.store) (length w.store.objects) o → ObjectIs b w o
      → AnswerIs b w (make w o)
  makes_object o new kind = record { keeps = keeps_object b w fine o new kind; result = new_is w.store o }

  pub makes_items : (xs : List Value) → AllAre (IsValue (census w.store)) xs → AnswerIs b w (make w (items_object xs))
  makes_items xs all = makes_object (items_object xs) (items_sound w.store fine.store xs all) tt

  pub makes_text : (bytes : List ℕ) → AnswerIs b w (make w (text_object bytes))
  makes_text bytes = makes_object (text_object bytes) (text_sound w.store fine.store bytes) tt

  -- Outcomes.

  pub done_gives : (x : Value) → IsValue (census w.store) x → DoneIs b w (done x w.store)
  done_gives x is = record { keeps = keeps_itself b w fine; outcome = is; raisable = tt }

  pub done_gives_in : (st : Store) (x : Value) → Keeps b w (with_store w st) → IsValue (census st) x
      → DoneIs b w (done x st)
  done_gives_in st x k is = record { keeps = k; outcome = is; raisable = tt }

  pub done_makes : (o : Object) → SoundObject (census w.store) (length w.store.objects) o → ObjectIs b w o
      → DoneIs b w (makes w.store o)
  done_makes o new kind = record {
    keeps = keeps_object b w fine o new kind;
    outcome = new_is w.store o;
    raisable = tt;
  }

  pub done_makes_text : (bytes : List ℕ) → DoneIs b w (makes w.store (text_object bytes))
  done_makes_text bytes = done_makes (text_object bytes) (text_sound w.store fine.store bytes) tt

  pub done_makes_items : (xs : List Value) → AllAre (IsValue (census w.store)) xs
      → DoneIs b w (makes w.store (items_object xs))
  done_makes_items xs all = done_makes (items_object xs) (items_sound w.store fine.store xs all) tt

  pub done_fails : (c : Cause) → SoundCause (census w.store) c → DoneIs b w (fails w.store c)
  unfolding fails
  done_fails c is = record {
    keeps = keeps_object b w fine _ (text_sound w.store fine.store _) tt;
    outcome = (
      new_role w.store _ String refl,
      value_grows _ _ (one_more w.store _) (detail_of c) (detail_is (census w.store) c is),
    );
    raisable = fails_raisable w.store c;
  }

  raised : (st : Store) (f : Failure) → Keeps b w (with_store w st) → IsOutcome (census st) (outcome.Raise f)
      → is_module f.class ≡ false → AnswerIs b w (answer_in w st (outcome.Raise f))
  raised st f k is plain =
      let v : World = with_store w st in
      let more = keeps_object b v k.fine (exception_object f)
      (exception_sound st k.fine.store f plain is.0 is.1) tt in
      record {
        keeps = keeps_then b w v (with_store w (with_object st (exception_object f))) k more;
        result = new_sort st (exception_object f);
      }

  by_outcome : (st : Store) (o : Outcome) → Keeps b w (with_store w st) → IsOutcome (census st) o → IsRaisable o
      → AnswerIs b w (answer_in w st o)
  by_outcome st (outcome.Value x) k is plain = gives_in st x k is
  by_outcome st (outcome.Raise f) k is plain = raised st f k is plain

  pub answers_done : (d : Done) → DoneIs b w d → AnswerIs b w (answer w d)
  answers_done d h = by_outcome d.store d.outcome h.keeps h.outcome h.raisable

  pub fails_with : (c : Cause) → SoundCause (census w.store) c → AnswerIs b w (fail w c)
  unfolding fail
  fails_with c is = answers_done (fails w.store c) (done_fails c is)

  -- What defines a class or module.

  pub defines_fails : (c : Cause) → SoundCause (census w.store) c → DefinesIs b w (fails w.store c)
  unfolding fails
  defines_fails c is = let h = done_fails c is in record {
    keeps = h.keeps;
    outcome = h.outcome;
    raisable = h.raisable;
  }

  done_of : (d : Done) → DefinesIs b w d → DoneIs b w d
  done_of d h = record {
    keeps = h.keeps;
    outcome = class_belongs d.store d.outcome h.outcome;
    raisable = h.raisable;
  }

  pub answers_defined : (d : Done) → DefinesIs b w d → AnswerIs b w (answer w d)
  answers_defined d h = answers_done d (done_of d h)

  gives_by : (st : Store) (o : Outcome) → GivesClass (census st) o → AnswerIs b w (answer_in w st o)
      → GivesSpace (census (answer_in w st o).world.store) (answer_in w st o).result
  gives_by st (outcome.Value x) h a = h
  gives_by st (outcome.Raise f) h a = a.result

  pub defined_gives : (d : Done) → DefinesIs b w d
      → GivesSpace (census (answer w d).world.store) (answer w d).result
  defined_gives d h = gives_by d.store d.outcome h.outcome (answers_defined d h)

  pub fail_gives : (c : Cause) → SoundCause (census w.store) c
      → GivesSpace (census (fail w c).world.store) (fail w c).result
  unfolding fail
  fail_gives c is = defined_gives (fails w.store c) (defines_fails c is)
