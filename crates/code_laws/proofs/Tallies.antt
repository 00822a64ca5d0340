-- A form that is counted has added to the tally.
use Rattle.std.proofs.Common.{◌≡◌, ℕ, ℤ, List, [], ◌∷◌, ◌++◌, Bool, true, false, arith, refl, sym, subst, bytes_eq, if◌then◌else◌}
use Rattle.std.specs.Prelude.{Option, Some, None, ◌||◌}
use Rattle.std.specs.Ordering.{int_eq}
use Rattle.std.proofs.lemmas.Bool.Decides.{Decides-int_eq}
use Rattle.std.proofs.lemmas.Slice.Eq.{bytes_eq-Decides}
use Rattle.text_set.specs.Sets.{is_among, with_text}
use Rattle.integer_set.specs.Sets as integers
use Rattle.ir_core.specs.CoreForm.{CoreForm}
use Rattle.ir_walk.specs.Walk.{Step, at, enter, leave, met}
use Rattle.ir_counts.specs.declared.tally.Tally.{Tally}
use Rattle.ir_counts.specs.Sets.{with_optional, with_optional_integer}
use Rattle.ir_counts.specs.Tables.{name_of, old_name_of, text_of, integer_of}
use Rattle.ir_counts.specs.Tally.{counted, tallied, no_form}
use Rattle.code_laws.proofs.Shares.{Listed, Numbered, Adds}
use Rattle.code_laws.proofs.Walks.{Front}

-- ## Texts

same_text : (x : List ℕ) → bytes_eq x x ≡ true
same_text x = (bytes_eq-Decides x x).1 refl

choice_true : (c d : Bool) → c ≡ true → (if c then true else d) ≡ true
choice_true true d h = refl
choice_true false d h = absurd (cc)

choice_other : (c d : Bool) → d ≡ true → (if c then true else d) ≡ true
choice_other true d h = refl
choice_other false d h = h

choice_same : (c d e : Bool) → (d ≡ true → e ≡ true) → (if c then true else d) ≡ true → (if c then true else e) ≡ true
choice_same true d e f h = refl
choice_same false d e f h = f h

among_left : (x : List ℕ) (xs ys : List (List ℕ)) → is_among x xs ≡ true → is_among x (xs ++ ys) ≡ true
among_left x [] ys h = absurd (cc)
among_left x (y ∷ xs) ys h =
    choice_same (bytes_eq x y) (is_among x xs) (is_among x (xs ++ ys)) (among_left x xs ys) h

among_last : (x : List ℕ) (xs : List (List ℕ)) → is_among x (xs ++ x ∷ []) ≡ true
among_last x [] = choice_true (bytes_eq x x) false (same_text x)
among_last x (y ∷ xs) = choice_other (bytes_eq x y) (is_among x (xs ++ x ∷ [])) (among_last x xs)

-- what is added is there, and what was there stays
added_text : (x : List ℕ) (xs : List (List ℕ)) → is_among x (with_text xs x) ≡ true
added_text x xs = at_test (is_among x xs) refl
  where
    at_test : (c : Bool) → is_among x xs ≡ c → is_among x (if c then xs else xs ++ x ∷ []) ≡ true
    at_test true e = e
    at_test false e = among_last x xs

kept_text : (x y : List ℕ) (xs : List (List ℕ)) → is_among x xs ≡ true → is_among x (with_text xs y) ≡ true
kept_text x y xs h = at_test (is_among y xs)
  where
    at_test : (c : Bool) → is_among x (if c then xs else xs ++ y ∷ []) ≡ true
    at_test true = h
    at_test false = among_left x xs (y ∷ []) h

kept_optional : (x : List ℕ) (y : Option (List ℕ)) (xs : List (List ℕ)) → is_among x xs ≡ true
    → is_among x (with_optional xs y) ≡ true
kept_optional x None xs h = h
kept_optional x (Some y) xs h = kept_text x y xs h

listed_now : (x : Option (List ℕ)) (xs : List (List ℕ)) → Listed (with_optional xs x) x
listed_now None xs = tt
listed_now (Some x) xs = added_text x xs

listed_later : (x y : Option (List ℕ)) (xs : List (List ℕ)) → Listed xs x → Listed (with_optional xs y) x
listed_later None y xs h = tt
listed_later (Some x) y xs h = kept_optional x y xs h

-- ## Integers

same_integer : (z : ℤ) → int_eq z z ≡ true
same_integer z = (Decides-int_eq z z).1 refl

or_left : (c d : Bool) → c ≡ true → (c || d) ≡ true
or_left true d h = refl
or_left false d h = absurd (cc)

or_right : (c d : Bool) → d ≡ true → (c || d) ≡ true
or_right true d h = refl
or_right false d h = h

or_same : (c d e : Bool) → (d ≡ true → e ≡ true) → (c || d) ≡ true → (c || e) ≡ true
or_same true d e f h = refl
or_same false d e f h = f h

number_left : (z : ℤ) (zs ys : List ℤ) → integers.is_among z zs ≡ true → integers.is_among z (zs ++ ys) ≡ true
number_left z [] ys h = absurd (cc)
number_left z (y ∷ zs) ys h =
    or_same (int_eq z y) (integers.is_among z zs) (integers.is_among z (zs ++ ys)) (number_left z zs ys) h

number_last : (z : ℤ) (zs : List ℤ) → integers.is_among z (zs ++ z ∷ []) ≡ true
number_last z [] = or_left (int_eq z z) false (same_integer z)
number_last z (y ∷ zs) = or_right (int_eq z y) (integers.is_among z (zs ++ z ∷ [])) (number_last z zs)

numbered_now : (z : Option ℤ) (zs : List ℤ) → Numbered (with_optional_integer zs z) z
numbered_now None zs = tt
numbered_now (Some z) zs = at_test (integers.is_among z zs) refl
  where
    at_test : (c : Bool) → integers.is_among z zs ≡ c
        → integers.is_among z (if c then zs else zs ++ z ∷ []) ≡ true
    at_test true e = e
    at_test false e = number_last z zs

numbered_later : (z y : Option ℤ) (zs : List ℤ) → Numbered zs z → Numbered (with_optional_integer zs y) z
numbered_later None y zs h = tt
numbered_later (Some z) None zs h = h
numbered_later (Some z) (Some y) zs h = at_test (integers.is_among y zs)
  where
    at_test : (c : Bool) → integers.is_among z (if c then zs else zs ++ y ∷ []) ≡ true
    at_test true = h
    at_test false = number_left z zs (y ∷ []) h

-- ## Tallies

adds_now : (t : Tally) (f : CoreForm) → Adds (counted t f) f
adds_now t f = record {
  kind = omega arith;
  hidden = omega arith;
  name = listed_later (name_of f) (old_name_of f) (with_optional t.symbols (name_of f))
      (listed_now (name_of f) t.symbols);
  old_name = listed_now (old_name_of f) (with_optional t.symbols (name_of f));
  text = listed_now (text_of f) t.texts;
  integer = numbered_now (integer_of f) t.integers;
}

adds_later : (t : Tally) (f g : CoreForm) → Adds t f → Adds (counted t g) f
adds_later t f g h = record {
  kind = omega (arith, h.kind);
  hidden = omega (arith, h.hidden);
  name = listed_later (name_of f) (old_name_of g) (with_optional t.symbols (name_of g))
      (listed_later (name_of f) (name_of g) t.symbols h.name);
  old_name = listed_later (old_name_of f) (old_name_of g) (with_optional t.symbols (name_of g))
      (listed_later (old_name_of f) (name_of g) t.symbols h.old_name);
  text = listed_later (text_of f) (text_of g) t.texts h.text;
  integer = numbered_later (integer_of f) (integer_of g) t.integers h.integer;
}

adds_tallied : (t : Tally) (f : CoreForm) (ss : List Step) → Adds t f → Adds (tallied t ss) f
adds_tallied t f [] h = h
adds_tallied t f (at g ∷ ss) h = adds_tallied (counted t g) f ss (adds_later t f g h)
adds_tallied t f (enter b ∷ ss) h = adds_tallied t f ss h
adds_tallied t f (leave ∷ ss) h = adds_tallied t f ss h

adds_within : (t : Tally) (f : CoreForm) (ss ts : List Step) → Adds (tallied t ((ss ++ at f ∷ []) ++ ts)) f
adds_within t f [] ts = adds_tallied (counted t f) f ts (adds_now t f)
adds_within t f (at g ∷ ss) ts = adds_within (counted t g) f ss ts
adds_within t f (enter b ∷ ss) ts = adds_within t f ss ts
adds_within t f (leave ∷ ss) ts = adds_within t f ss ts

-- a form that was met has added to the tally of all steps
pub adds_met : (all ss : List Step) (f : CoreForm) → Front all (met ss f) → Adds (tallied no_form all) f
adds_met all ss f h =
    subst (λ (xs : List Step). Adds (tallied no_form xs) f) (sym h.are) (adds_within no_form f ss h.others)
