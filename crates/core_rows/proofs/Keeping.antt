-- The call of a core method keeps a store.
use Rattle.std.proofs.Common.{◌≡◌, ℕ, List, ◌++◌, true, false, refl, ap, sym, ◌∙◌, subst, arith}
use Rattle.std.specs.Prelude.{Option, Some, None, Result, Ok, Err}
use Rattle.std.specs.declared.alloc.AllocError.{AllocError}
use Rattle.rb_value.specs.declared.value.Value.{Value}
use Rattle.rb_value.specs.declared.value.Value.TheVariants.{Nil, True, False, Int, Sym, Obj}
use Rattle.rb_value.specs.declared.value.ObjId.{ObjId}
use Rattle.rb_value.specs.declared.kind.Kind.TheVariants as kind
use Rattle.rb_value.specs.declared.kind.Sort.{Sort}
use Rattle.rb_value.specs.declared.kind.Sort.TheVariants as sort
use Rattle.rb_value.specs.contracts.kind.SortPartialEq.TheImpl as sorts
use Rattle.rb_value.specs.declared.outcome.Outcome.{Outcome}
use Rattle.def_core.specs.declared.cause.Cause.{Cause}
use Rattle.def_core.specs.Store.{Store, Done, sort_at}
use Rattle.def_core.specs.Texts.{detail_of}
use Rattle.def_core.specs.Changes.{gives, fails}
use Rattle.def_core.specs.Parts.{elements_at, text_at}
use Rattle.def_core.specs.Sound.{Census, census, Sound, String, IsOutcome, IsValue, AllAre, ClassOrModule, plays, Extends}
use Rattle.def_core.proofs.PartsSound.{all_more}
use Rattle.def_core.proofs.Grows.{value_grows, one_more, new_role}
use Rattle.rb_store.specs.Held.{Held}
use Rattle.rb_store.specs.Keeps.{Keeps}
use Rattle.rb_store.specs.Counted.{SameLooks}
use Rattle.rb_store.proofs.Keeping.{keeps_itself, more_same}
use Rattle.rb_raise.specs.Causes.{SoundCause}
use Rattle.rb_raise.proofs.Strings.{sound_fails}
use Rattle.rb_raise.proofs.Details.{detail_is}
use Rattle.row_answer.specs.declared.answer.Fault.{Fault}
use Rattle.row_answer.specs.declared.answer.Fault.TheVariants as fault
use Rattle.row_answer.specs.declared.answer.Plain.{Plain}
use Rattle.row_answer.specs.declared.answer.Plain.TheVariants as plain
use Rattle.def_rows.specs.declared.answer.Answer.{Answer}
use Rattle.def_rows.specs.declared.answer.Answer.TheVariants as answer
use Rattle.def_rows.specs.Answers.{cause_of, appended, rewritten, appends, pushed, replaced, pushes, finish_plain, finish}
use Rattle.core_rows.specs.Belonging.{SoundAnswer}
use Rattle.core_rows.specs.Completes.{Does, Completes}
use Rattle.core_rows.proofs.Places.{by_place, elements_are}
use Rattle.core_rows.proofs.Leaving.{Leaves, given, changed, text_made, items_made, range_made, string_made, symbol_made, texts_made, numbers_made}

-- A sort that passes the test is the one that is asked for; no class has the sort String or Array.

is_string : (s : Sort) → sorts.ghosts.eq s sort.String ≡ true → s ≡ sort.String
is_string s h = grind (arith, h)

is_array : (s : Sort) → sorts.ghosts.eq s sort.Array ≡ true → s ≡ sort.Array
is_array s h = grind (arith, h)

module _ (st : Store) (sound : Sound st) (recv : Value) (is : IsValue (census st) recv) where
  appended_leaves : (more : List ℕ) → Leaves st (appends st recv more)
  appended_leaves more = by_place st sort.String recv (λ p. Leaves st (gives recv (appended st more p))) is
      (given st sound recv is)
      (λ id e there test.
      let s = is_string (sort_at st.objects id) test in
      subst (λ (v : Value). Leaves st (gives v (appended st more (Some id)))) (sym e)
      (changed st sound id there (kind.String (text_at st.objects id ++ more)) (sym s)
      (ap (plays ClassOrModule) s) tt))

  rewritten_leaves : (bytes : List ℕ) → Leaves st (finish_plain st recv (plain.Replace bytes))
  rewritten_leaves bytes = by_place st sort.String recv (λ p. Leaves st (gives recv (rewritten st bytes p))) is
      (given st sound recv is)
      (λ id e there test.
      let s = is_string (sort_at st.objects id) test in
      subst (λ (v : Value). Leaves st (gives v (rewritten st bytes (Some id)))) (sym e)
      (changed st sound id there (kind.String bytes) (sym s) (ap (plays ClassOrModule) s) tt))

  put_leaves : (bytes : List ℕ) (v : Value) → IsValue (census st) v → Leaves st (finish st recv (answer.Put bytes v))
  put_leaves bytes v right =
      let k = rewritten_leaves bytes in
      record {
        sound = k.sound;
        extends = k.extends;
        looks = k.looks;
        belongs = value_grows _ _ k.extends v right;
      }

  pushed_leaves : (more : List Value) → AllAre (IsValue (census st)) more → Leaves st (pushes st recv more)
  pushed_leaves more all = by_place st sort.Array recv (λ p. Leaves st (gives recv (pushed st more p))) is
      (given st sound recv is)
      (λ id e there test.
      let s = is_array (sort_at st.objects id) test in
      subst (λ (v : Value). Leaves st (gives v (pushed st more (Some id)))) (sym e)
      (changed st sound id there (kind.Array (elements_at st.objects id ++ more)) (sym s)
      (ap (plays ClassOrModule) s)
      (all_more (IsValue (census st)) (elements_at st.objects id) more (elements_are st sound id there) all)))

  replaced_leaves : (xs : List Value) → AllAre (IsValue (census st)) xs → Leaves st (finish st recv (answer.Replace xs))
  replaced_leaves xs all = by_place st sort.Array recv (λ p. Leaves st (gives recv (replaced st xs p))) is
      (given st sound recv is)
      (λ id e there test.
      let s = is_array (sort_at st.objects id) test in
      subst (λ (v : Value). Leaves st (gives v (replaced st xs (Some id)))) (sym e)
      (changed st sound id there (kind.Array xs) (sym s) (ap (plays ClassOrModule) s) all))

-- Failures.

failed : (st : Store) → Sound st → (c : Cause) → SoundCause (census st) c → Leaves st (fails st c)
unfolding fails
failed st sound c is = record {
  sound = sound_fails st sound c;
  extends = one_more st _;
  looks = more_same st _;
  belongs = (new_role st _ String refl, value_grows _ _ (one_more st _) (detail_of c) (detail_is (census st) c is));
}

fault_sound : (k : Census) (f : Fault) → SoundCause k (cause_of f)
fault_sound k fault.NegativeExponent = tt
fault_sound k fault.NegativeCount = tt
fault_sound k fault.BadBase = tt
fault_sound k fault.BadRange = tt
fault_sound k fault.InvalidInteger = tt
fault_sound k fault.ComparisonFailed = tt
fault_sound k fault.TooFewItems = tt
fault_sound k fault.ArrayTooBig = tt
fault_sound k fault.StringTooLong = tt
fault_sound k fault.IntegerOverflow = tt
fault_sound k fault.DividedByZero = tt
fault_sound k (fault.IndexOutOfRange z) = tt
fault_sound k (fault.CharOutOfRange z) = tt

-- Answers.

plain_leaves : (st : Store) → Sound st → (recv : Value) → IsValue (census st) recv → (a : Plain)
    → Leaves st (finish_plain st recv a)
plain_leaves st sound recv is plain.Nil = given st sound Nil tt
plain_leaves st sound recv is (plain.Truth true) = given st sound True tt
plain_leaves st sound recv is (plain.Truth false) = given st sound False tt
plain_leaves st sound recv is (plain.Int z) = given st sound (Int z) tt
plain_leaves st sound recv is plain.Receiver = given st sound recv is
plain_leaves st sound recv is (plain.Text bytes) = text_made st sound bytes
plain_leaves st sound recv is (plain.Symbol name) = symbol_made st sound name
plain_leaves st sound recv is (plain.Texts texts) = texts_made st sound texts
plain_leaves st sound recv is (plain.Numbers zs) = numbers_made st sound zs
plain_leaves st sound recv is (plain.Append more) = appended_leaves st sound recv is more
plain_leaves st sound recv is (plain.Replace bytes) = rewritten_leaves st sound recv is bytes
plain_leaves st sound recv is (plain.Fail f) = failed st sound (cause_of f) (fault_sound (census st) f)

pub finish_leaves : (st : Store) → Sound st → (recv : Value) → IsValue (census st) recv → (a : Answer)
    → SoundAnswer (census st) a → Leaves st (finish st recv a)
finish_leaves st sound recv is (answer.Plain a) h = plain_leaves st sound recv is a
finish_leaves st sound recv is (answer.Value v) h = given st sound v h
finish_leaves st sound recv is (answer.Items xs) h = items_made st sound xs h
finish_leaves st sound recv is (answer.Range c r) h = range_made st sound c r h
finish_leaves st sound recv is (answer.String c bytes) h = string_made st sound c bytes h
finish_leaves st sound recv is (answer.Put bytes v) h = put_leaves st sound recv is bytes v h
finish_leaves st sound recv is (answer.Push more) h = pushed_leaves st sound recv is more h
finish_leaves st sound recv is (answer.Replace xs) h = replaced_leaves st sound recv is xs h
finish_leaves st sound recv is (answer.Fail c) h = failed st sound c h

-- what the definition leaves is what the call does
pub completes : (before after : Held) (r : Result Outcome AllocError) (d : Done) → Sound before.store
    → Leaves before.store d → Does before after r d → Completes before after r d
completes before after (Ok o) d sound k does = record {
  does = does;
  keeps = record {
    sound = subst Sound (sym does.store) k.sound;
    extends = subst (λ (s : Store). Extends (census before.store) (census s)) (sym does.store) k.extends;
    counted = record {
      rises = omega (arith, does.changes);
      same = λ _ _. subst (SameLooks before.store) (sym does.store) k.looks;
    };
  };
  belongs = subst (λ (s : Store). IsOutcome (census s) o) (sym does.store)
      (subst (IsOutcome (census d.store)) (sym does.outcome) k.belongs);
}
completes before after (Err e) d sound k does = record {
  does = does;
  keeps = keeps_itself before after sound does.err;
  belongs = tt;
}
