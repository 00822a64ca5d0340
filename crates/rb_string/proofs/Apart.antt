-- Places in a text that don't overlap.
use Rattle.std.proofs.Common.{◌≡◌, ℕ, zero, suc, ◌+◌, ◌-◌, ◌<◌, ◌≤◌, Bool, List, [], ◌∷◌, length, slice_index, max, subst, arith}
use Rattle.std.proofs.lemmas.Bool.{cond_both}
use Rattle.memchr.specs.Find.{occurs_at, match_len, matches_from, matches, places_from, places_between, places}
use Rattle.memchr.proofs.lemmas.MatchLemmas.{OccursAt-true}

-- the places stand from one on in a text of that size, and n bytes at each lie before the next one
abbrev pub Apart : ℕ → ℕ → ℕ → List ℕ → Type 0
Apart size n from [] = from ≤ size
Apart size n from (at ∷ later) = (from ≤ at) × (at + n ≤ size) × Apart size n (at + n) later

pub apart_next : (size n from at : ℕ) (all later : List ℕ) → all ≡ at ∷ later → Apart size n from all
    → Apart size n from (at ∷ later)
apart_next size n from at all later is h = subst (Apart size n from) is h

pub apart_none : (size n from : ℕ) (all : List ℕ) → all ≡ [] → Apart size n from all → from ≤ size
apart_none size n from all is h = subst (Apart size n from) is h

apart_matches_from : (hay needle : List ℕ) (from skip i n : ℕ) → i + n ≡ length hay + 1 → from ≤ i + skip
    → from ≤ length hay → Apart (length hay) (length needle) from (matches_from hay needle skip i n)
unfolding matches_from
apart_matches_from hay needle from skip i zero all low within = within
apart_matches_from hay needle from zero i (suc n) all low within =
    cond_both (occurs_at hay needle i) (i ∷ matches_from hay needle (match_len needle - 1) (i + 1) n)
    (matches_from hay needle 0 (i + 1) n) (Apart (length hay) (length needle) from)
    (λ here.
    let fits : i + length needle ≤ length hay = (OccursAt-true hay needle i here).fits in (
      omega arith,
      fits,
      apart_matches_from hay needle (i + length needle) (match_len needle - 1) (i + 1) n (omega arith)
          (omega arith) fits,
    ))
    (λ _. apart_matches_from hay needle from 0 (i + 1) n (omega arith) (omega arith) within)
apart_matches_from hay needle from (suc skip) i (suc n) all low within =
    apart_matches_from hay needle from skip (i + 1) n (omega arith) (omega arith) within

pub apart_matches : (hay needle : List ℕ) → Apart (length hay) (length needle) 0 (matches hay needle 0)
apart_matches hay needle =
    apart_matches_from hay needle 0 0 0 (length hay + 1 - 0) (omega arith) (omega arith) (omega arith)

apart_places_from : (test : ℕ → Bool) (hay : List ℕ) (from i n : ℕ) → i + n ≡ length hay → from ≤ i
    → Apart (length hay) 1 from (places_from test hay i n)
unfolding places_from
apart_places_from test hay from i zero all low = omega arith
apart_places_from test hay from i (suc n) all low =
    cond_both (test (slice_index hay i)) (i ∷ places_from test hay (i + 1) n) (places_from test hay (i + 1) n)
    (Apart (length hay) 1 from)
    (λ here. (low, omega arith, apart_places_from test hay (i + 1) (i + 1) n (omega arith) (omega arith)))
    (λ _. apart_places_from test hay from (i + 1) n (omega arith) (omega arith))

pub apart_places : (test : ℕ → Bool) (hay : List ℕ) → Apart (length hay) 1 0 (places test hay)
apart_places test hay = apart_places_from test hay 0 0 (length hay - 0) (omega arith) (omega arith)
