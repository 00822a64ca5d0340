-- What a search gives, as the first of the places.
use Rattle.std.proofs.Common.{◌≡◌, ℕ, ◌+◌, ◌-◌, ◌<◌, ◌≤◌, List, [], ◌∷◌, Option, Some, None, length, get_or, drop, refl, sym, ap, subst, ◌∙◌, arith, length-drop}
use Rattle.std.specs.Option.{option_map}
use Rattle.std.proofs.lemmas.List.{get_or-drop}
use Rattle.memchr.specs.Find.{OccursAt, FindsNeedle, FindsLastNeedle, Nowhere, NoneBefore, matches, rmatches, first_of}
use Rattle.memchr.proofs.lemmas.MatchLemmas.{matches-none, matches-first}
use Rattle.memchr.proofs.lemmas.ValueLemmas.{FindsLastNeedle-value}
use Rattle.rb_string.specs.Searching.{first_place, last_index}

none_first : (xs : List ℕ) → xs ≡ [] → first_of xs ≡ None
unfolding first_of
none_first xs is = rw is refl

some_first : (xs : List ℕ) (x : ℕ) (later : List ℕ) → xs ≡ x ∷ later → first_of xs ≡ Some x
unfolding first_of
some_first xs x later is = rw is refl

pub first_value : (text other : List ℕ) (from : ℕ) (r : Option ℕ) → FindsNeedle text other from r
    → r ≡ first_place text other from
first_value text other from None h =
    sym (none_first (matches text other from) (matches-none text other from h))
first_value text other from (Some k) h =
    sym (some_first (matches text other from) k _ (matches-first text other from k h.0 h.1))

pub last_value : (text other : List ℕ) (r : Option ℕ) → FindsLastNeedle text other r → r ≡ last_index text other
last_value text other r h = FindsLastNeedle-value text other r h

module _ (text other : List ℕ) (from : ℕ) (low : from ≤ length text) where
  occurs_in_text : (k : ℕ) → OccursAt (drop from text) other k → OccursAt text other (from + k)
  occurs_in_text k h =
      let fits = h.fits in
      let size : length (drop from text) ≡ length text - from = length-drop from text in
      record {
        fits = omega arith;
        reads = λ j below.
            let place : from + k + j ≡ from + (k + j) = omega arith in
            ap (λ m. get_or text m 0) place ∙ sym (get_or-drop from text (k + j) 0) ∙ h.reads j below;
      }

  occurs_in_rest : (k : ℕ) → from ≤ k → OccursAt text other k → OccursAt (drop from text) other (k - from)
  occurs_in_rest k high h =
      let fits = h.fits in
      let size : length (drop from text) ≡ length text - from = length-drop from text in
      record {
        fits = omega arith;
        reads = λ j below.
            let place : from + (k - from + j) ≡ k + j = omega arith in
            get_or-drop from text (k - from + j) 0 ∙ ap (λ m. get_or text m 0) place ∙ h.reads j below;
      }

  -- a search of the rest of a text is one of the text from there on
  pub first_in_rest : (r : Option ℕ) → FindsNeedle (drop from text) other 0 r
      → FindsNeedle text other from (option_map (λ k. from + k) r)
  first_in_rest None h =
      let size : length (drop from text) ≡ length text - from = length-drop from text in
      λ k at below occurs. h (k - from) (omega arith) (omega arith) (occurs_in_rest k at occurs)
  first_in_rest (Some k) h =
      let size : length (drop from text) ≡ length text - from = length-drop from text in
      let high = h.0.high in (
        record {
          low = omega arith;
          high = omega arith;
          before = λ m at below occurs. h.0.before (m - from) (omega arith) (omega arith) (occurs_in_rest m at occurs);
        },
        occurs_in_text k h.1,
      )
