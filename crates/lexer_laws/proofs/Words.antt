-- A word is a name with the mark that it takes.
use Rattle.std.proofs.Common.{◌≡◌, ℕ, ◌+◌, List, drop, get_or, arith, refl, sym, ◌∙◌, Bool, true, false, eqb, not, ◌||◌, ◌&&◌, inl, inr, ◌⊎◌, if◌then◌else◌}
use Rattle.std.proofs.lemmas.Bool.{cases_Bool, or_cases, and_parts, eqb-true, eqb-false, cases_lt}
use Rattle.lexer_tables.specs.ByteClass.{is_name_start, is_name_byte}
use Rattle.lexer_steps.specs.Scan.{name_end, mark_end}
use Rattle.lexer_laws.specs.Longest.{IsLongest}
use Rattle.lexer_laws.specs.Names.{IsName, TakesMark, IsWord}
use Rattle.lexer_laws.proofs.Runs.{name_sound, longest_once}

abbrev pub is_mark : ℕ → Bool
is_mark b = eqb b 63 || eqb b 33

abbrev pub is_free : ℕ → ℕ → Bool
is_free next after = (not (eqb next 61) || eqb after 61) || eqb after 62

abbrev pub takes : List ℕ → ℕ → Bool
takes text at = is_mark (get_or text at 0) && is_free (get_or text (at + 1) 0) (get_or text (at + 2) 0)

pub mark_end_is : (text : List ℕ) (at : ℕ) → mark_end text at ≡ (if takes text at then at + 1 else at)
unfolding mark_end
mark_end_is text at = refl

mark_is : (b : ℕ) → is_mark b ≡ true → (b ≡ 63) ⊎ (b ≡ 33)
mark_is b h = elim (or_cases (eqb b 63) (eqb b 33) h) [ inl a ↦ inl (eqb-true b 63 a) | inr c ↦ inr (eqb-true b 33 c) ]

is_a_mark : (b : ℕ) → (b ≡ 63) ⊎ (b ≡ 33) → is_mark b ≡ true
is_a_mark b (inl e) = rw e refl
is_a_mark b (inr e) = rw e refl

free_is : (n a : ℕ) → is_free n a ≡ true → (n ≡ 61 → ⊥) ⊎ ((a ≡ 61) ⊎ (a ≡ 62))
free_is n a h =
    elim (or_cases (not (eqb n 61) || eqb a 61) (eqb a 62) h) [
      | inl first ↦ elim (cases_Bool (eqb n 61)) [
        | inl equal ↦ inr (inl (eqb-true a 61 (rw equal at first)))
        | inr other ↦ inl (eqb-false n 61 other)
      ]
      | inr arrow ↦ inr (inr (eqb-true a 62 arrow))
    ]

or_true : (b : Bool) → (b || true) ≡ true
or_true true = refl
or_true false = refl

is_a_free : (n a : ℕ) → (n ≡ 61 → ⊥) ⊎ ((a ≡ 61) ⊎ (a ≡ 62)) → is_free n a ≡ true
is_a_free n a (inl other) = elim (cases_Bool (eqb n 61)) [
  | inl equal ↦ absurd (other (eqb-true n 61 equal))
  | inr none ↦ rw none refl
]
is_a_free n a (inr (inl e)) = rw (e, or_true (not (eqb n 61))) refl
is_a_free n a (inr (inr e)) = rw e (or_true (not (eqb n 61) || false))

pub takes_is : (text : List ℕ) (at : ℕ) → takes text at ≡ true → TakesMark text at
takes_is text at h =
    let p = and_parts (is_mark (get_or text at 0)) (is_free (get_or text (at + 1) 0) (get_or text (at + 2) 0)) h in
    record {
      mark = mark_is (get_or text at 0) p.0;
      follows =
          free_is (get_or text (at + 1) 0) (get_or text (at + 2) 0) p.1;
    }

pub it_takes : (text : List ℕ) (at : ℕ) → TakesMark text at → takes text at ≡ true
it_takes text at m = rw (
  is_a_mark (get_or text at 0) m.mark,
  is_a_free (get_or text (at + 1) 0)
      (get_or text (at + 2) 0) m.follows,
) refl

mark_no_name : (b : ℕ) → (b ≡ 63) ⊎ (b ≡ 33) → is_name_byte b ≡ false
mark_no_name b (inl e) = rw e refl
mark_no_name b (inr e) = rw e refl

-- the mark stands where the longest name ends
mark_behind : (text : List ℕ) (at end last : ℕ) → IsLongest (IsName text at) end → IsName text at last
    → TakesMark text last → last ≡ end
mark_behind text at end last l name m =
    elim (cases_lt last end) [
      | inl before ↦
          let bad : true ≡ false = sym (l.there.goes_on.all last name.goes_on.forward before)
          ∙ mark_no_name (get_or text last 0) m.mark in
          absurd (cc)
      | inr behind ↦ omega (arith, behind, l.longest last name)
    ]

pub word_from : (text : List ℕ) (at end : ℕ) → IsLongest (IsName text at) end
    → IsLongest (IsWord text at) (mark_end text end)
word_from text at end l =
    elim (cases_Bool (takes text end)) [
      | inl mark ↦
          let e : mark_end text end ≡ end + 1 = mark_end_is text end ∙ rw mark refl in
          rw e (record {
            there = inr (end, l.there, takes_is text end mark, refl);
            longest = λ other word. elim word [
              | inl name ↦ omega (arith, l.longest other name)
              | inr m ↦ omega (arith, l.longest (m.0) m.1, m.3)
            ];
          })
      | inr none ↦
          let e : mark_end text end ≡ end = mark_end_is text end ∙ rw none refl in
          rw e (record {
            there = inl l.there;
            longest = λ other word. elim word [
              | inl name ↦ l.longest other name
              | inr m ↦
                  let here = mark_behind text at end (m.0) l m.1 m.2 in
                  let bad : true ≡ false = sym (it_takes text end (rw here at m.2)) ∙ none in
                  absurd (cc)
            ];
          })
    ]

pub word_begins : (text : List ℕ) (at end : ℕ) → IsWord text at end → is_name_start (get_or text at 0) ≡ true
word_begins text at end (inl name) = name.begins
word_begins text at end (inr m) = m.1.begins

abbrev pub word_end : List ℕ → ℕ → ℕ
word_end text at = mark_end text (name_end (at + 1) (drop (at + 1) text))

pub word_sound : (text : List ℕ) (at : ℕ) → is_name_start (get_or text at 0) ≡ true
    → IsLongest (IsWord text at) (word_end text at)
word_sound text at begins = word_from text at (name_end (at + 1) (drop (at + 1) text)) (name_sound text at begins)

pub word_complete : (text : List ℕ) (at end : ℕ) → IsLongest (IsWord text at) end → word_end text at ≡ end
word_complete text at end l = longest_once (IsWord text at) (word_end text at) end
    (word_sound text at (word_begins text at end l.there)) l
