-- How far runs of bytes of a class go.
use Rattle.std.proofs.Common.{◌≡◌, ℕ, suc, zero, ◌+◌, ◌-◌, ◌<◌, ◌≤◌, List, [], ◌∷◌, length, drop, get_or, arith, refl, sym, ◌∙◌, Bool, true, false, inl, inr, length-drop}
use Rattle.std.proofs.lemmas.Bool.{cases_Bool, cases_lt}
use Rattle.std.proofs.lemmas.List.{get_or-drop}
use Rattle.lexer_tables.specs.ByteClass.{is_name_start, is_name_byte}
use Rattle.lexer_steps.specs.Scan.{name_end, run_end}
use Rattle.lexer_laws.specs.Longest.{IsLongest, IsRun}
use Rattle.lexer_laws.specs.Names.{IsName}

pub record Goes (is : ℕ → Bool) (at : ℕ) (xs : List ℕ) (end : ℕ) : Type 0 where
  pub forward : at ≤ end
  pub within : end ≤ at + length xs
  pub all : (i : ℕ) → at + i < end → is (get_or xs i 0) ≡ true
  pub stops : (i : ℕ) → at + i ≡ end → i < length xs → is (get_or xs i 0) ≡ false

pub class_goes : (is : ℕ → Bool) (xs : List ℕ) (at : ℕ) → Goes is at xs (run_end is at xs)
unfolding run_end
class_goes is [] at = record {
  forward = omega arith;
  within = omega arith;
  all = λ i h. absurd (omega arith);
  stops = λ i h few. absurd (omega arith);
}
class_goes is (x ∷ xs) at =
    elim (cases_Bool (is x)) [
      | inl passes ↦
          let rest = class_goes is xs (at + 1) in
          rw passes (record {
            forward = omega (arith, rest.forward);
            within = omega (arith, rest.within);
            all = λ i. elim i as (λ i. at + i < run_end is (at + 1) xs
                → is (get_or (x ∷ xs) i 0) ≡ true) [ zero ↦ λ h. passes | suc k ↦ λ h. rest.all k (omega arith) ];
            stops = λ i. elim i as (λ i. at + i ≡ run_end is (at + 1) xs → i < length (x ∷ xs)
                → is (get_or (x ∷ xs) i 0) ≡ false) [
                  | zero ↦ λ h few. absurd (omega (arith, rest.forward))
                  | suc k ↦ λ h few. rest.stops k (omega arith) (omega arith)
                ];
          })
      | inr fails ↦ rw fails (record {
        forward = omega arith;
        within = omega arith;
        all = λ i h. absurd (omega arith);
        stops = λ i. elim i as (λ i. at + i ≡ at → i < length (x ∷ xs)
            → is (get_or (x ∷ xs) i 0) ≡ false) [ zero ↦ λ h few. fails | suc k ↦ λ h few. absurd (omega arith) ];
      })
    ]

pub name_is : (xs : List ℕ) (at : ℕ) → name_end at xs ≡ run_end is_name_byte at xs
unfolding name_end
name_is xs at = refl

-- what the run of a text has at a place
pub record RunEnds (is : ℕ → Bool) (text : List ℕ) (at end : ℕ) : Type 0 where
  pub run : IsRun is text at end
  pub stops : end < length text → is (get_or text end 0) ≡ false

pub run_ends : (is : ℕ → Bool) (text : List ℕ) (at : ℕ) → at ≤ length text
    → RunEnds is text at (run_end is at (drop at text))
run_ends is text at few =
    let goes = class_goes is (drop at text) at in
    let len : length (drop at text) ≡ length text - at = length-drop at text in
    record {
      run = record {
        forward = goes.forward;
        within = omega (arith, goes.within, len);
        all = λ i low high.
            let e : at + (i - at) ≡ i = omega (arith, low) in
            let same : get_or (drop at text) (i - at) 0 ≡ get_or text i 0 = rw (get_or-drop, e) refl in
            rw (← same) (goes.all (i - at) (omega (arith, e, high)));
      };
      stops = λ h.
          let end = run_end is at (drop at text) in
          let e : at + (end - at) ≡ end = omega (arith, goes.forward) in
          let same : get_or (drop at text) (end - at) 0 ≡ get_or text end 0 = rw (get_or-drop, e) refl in
          rw (← same) (goes.stops (end - at) e (omega (arith, goes.forward, h, len)));
    }

pub run_longest : (is : ℕ → Bool) (text : List ℕ) (at end other : ℕ) → RunEnds is text at end → IsRun is text at other
    → other ≤ end
run_longest is text at end other ends run =
    elim (cases_lt end other) [
      | inl far ↦ let bad : true ≡ false = sym (run.all end (ends.run.forward) far)
          ∙ ends.stops (omega (arith, far, run.within)) in absurd (cc)
      | inr near ↦ near
    ]

pub longest_once : (Stands : ℕ → Type 0) (a b : ℕ) → IsLongest Stands a → IsLongest Stands b → a ≡ b
longest_once Stands a b l m = omega (arith, l.longest b m.there, m.longest a l.there)

pub starts_within : (text : List ℕ) (at : ℕ) → is_name_start (get_or text at 0) ≡ true → at < length text
starts_within [] at h = absurd cc
starts_within (x ∷ xs) zero h = omega arith
starts_within (x ∷ xs) (suc k) h = omega (arith, starts_within xs k h)

pub name_sound : (text : List ℕ) (at : ℕ) → is_name_start (get_or text at 0) ≡ true
    → IsLongest (IsName text at) (name_end (at + 1) (drop (at + 1) text))
name_sound text at begins =
    let ends = run_ends is_name_byte text (at + 1) (omega (arith, starts_within text at begins)) in
    rw name_is (record {
      there = record { begins = begins; goes_on = ends.run };
      longest = λ other name. run_longest is_name_byte text (at + 1) _ other ends name.goes_on;
    })

pub name_complete : (text : List ℕ) (at end : ℕ) → IsLongest (IsName text at) end
    → name_end (at + 1) (drop (at + 1) text) ≡ end
name_complete text at end l = longest_once (IsName text at) _ end (name_sound text at l.there.begins) l
