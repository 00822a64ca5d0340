-- A place at which one text stands in another lies within it.
use Rattle.std.proofs.Common.{ℕ, zero, suc, ◌+◌, ◌-◌, ◌≤◌, List, ◌∷◌, length, arith}
use Rattle.std.specs.Prelude.{ℤ, Option, Some, None, IfSome}
use Rattle.std.proofs.lemmas.Bool.{cond_both}
use Rattle.memchr.specs.Find.{occurs_at, match_len, matches_from, rmatches_from, first_of}
use Rattle.memchr.proofs.lemmas.MatchLemmas.{OccursAt-true}
use Rattle.rb_base.specs.Option.{◌>>=◌}
use Rattle.rb_string.specs.Slicing.{start}
use Rattle.rb_string.specs.Searching.{first_place, index, last_index}

abbrev Within : List ℕ → Option ℕ → Type 0
Within text found = IfSome found (λ k. k ≤ length text)

first_within : (text other : List ℕ) (skip i n : ℕ) → Within text (first_of (matches_from text other skip i n))
unfolding matches_from first_of
first_within text other skip i zero = tt
first_within text other zero i (suc n) =
    cond_both (occurs_at text other i) (i ∷ matches_from text other (match_len other - 1) (i + 1) n)
    (matches_from text other 0 (i + 1) n) (λ l. Within text (first_of l))
    (λ here. let fits : i + length other ≤ length text = (OccursAt-true text other i here).fits in omega arith)
    (λ _. first_within text other 0 (i + 1) n)
first_within text other (suc skip) i (suc n) = first_within text other skip (i + 1) n

last_within : (text other : List ℕ) (skip n : ℕ) → Within text (first_of (rmatches_from text other skip n))
unfolding rmatches_from first_of
last_within text other skip zero = tt
last_within text other zero (suc n) =
    cond_both (occurs_at text other n) (n ∷ rmatches_from text other (match_len other - 1) n)
    (rmatches_from text other 0 n) (λ l. Within text (first_of l))
    (λ here. let fits : n + length other ≤ length text = (OccursAt-true text other n here).fits in omega arith)
    (λ _. last_within text other 0 n)
last_within text other (suc skip) (suc n) = last_within text other skip n

pub index_within : (text other : List ℕ) (from : ℤ) → IfSome (index text other from) (λ k. k ≤ length text)
index_within text other from = by (start (length text) from)
  where
    by : (o : Option ℕ) → IfSome (o >>= λ p. first_place text other p) (λ k. k ≤ length text)
    by None = tt
    by (Some p) = first_within text other 0 p (length text + 1 - p)

pub last_index_within : (text other : List ℕ) → IfSome (last_index text other) (λ k. k ≤ length text)
last_index_within text other = last_within text other 0 (length text + 1 - length other)
