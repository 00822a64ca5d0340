-- Blocks by number, and lists with one more at the end.
use Rattle.std.proofs.Common.{◌≡◌, ◌≢◌, ◌⊎◌, ℕ, ◌+◌, ◌<◌, ◌≤◌, List, [], ◌∷◌, ◌++◌, length, get_or, set, Bool, true, false, cond, refl, ap, sym, ◌∙◌, arith, inl, inr}
use Rattle.std.specs.Prelude.{Option, Some, None, IsSome, is_some, unwrap_or}
use Rattle.std.proofs.lemmas.Bool.{cases_lt}
use Rattle.std.proofs.lemmas.List.{get_or_past, get_or_append_left, get_or_push, length_push}
use Rattle.std.proofs.lemmas.List.Sums.{sum_by-set}
use Rattle.rb_value.specs.declared.value.Value.{Value}
use Rattle.slot_pool.specs.Pool.{live_blocks}
use Rattle.stack_bank.specs.Inside.{Blocks, block_at, values_at}

abbrev pub one_if_live : Option (List Value) → ℕ
one_if_live o = cond (is_some o) 1 0

some_of_full : (o : Option (List Value)) → length (unwrap_or o []) ≡ 64 → IsSome o
some_of_full None is = absurd (omega arith)
some_of_full (Some xs) is = refl

-- a block with 64 values is live
pub full_live : (blocks : Blocks) (b : ℕ) → length (values_at blocks b) ≡ 64 → IsSome (block_at blocks b)
full_live blocks b full = some_of_full (block_at blocks b) full

pub live_within : (blocks : Blocks) (b : ℕ) → IsSome (block_at blocks b) → b < length blocks
live_within blocks b live = elim (cases_lt b (length blocks)) as (λ _. b < length blocks) [
  | inl below ↦ below
  | inr past ↦ absurd (cc (get_or_past blocks b None past))
]

pub same_values : (old new : Blocks) (b : ℕ) → block_at new b ≡ block_at old b → values_at new b ≡ values_at old b
same_values old new b same = ap (λ o. unwrap_or o []) same

pub other_block : (blocks : Blocks) (b c : ℕ) → IsSome (block_at blocks b) → block_at blocks c ≡ None → b ≢ c
other_block blocks b c live none same = cc (ap (block_at blocks) same)

pub live_set_some : (blocks : Blocks) (b : ℕ) (xs : List Value) → IsSome (block_at blocks b)
    → live_blocks (set blocks b (Some xs)) ≡ live_blocks blocks
live_set_some blocks b xs live =
    let sums : live_blocks (set blocks b (Some xs)) + one_if_live (get_or blocks b None) ≡ live_blocks blocks + 1 =
    sum_by-set one_if_live blocks b (Some xs) None (live_within blocks b live) in
    let one : one_if_live (get_or blocks b None) ≡ 1 = ap (λ t. cond t 1 0) live in
    omega arith

pub live_set_none : (blocks : Blocks) (b : ℕ) → IsSome (block_at blocks b)
    → live_blocks (set blocks b None) + 1 ≡ live_blocks blocks
live_set_none blocks b live =
    let sums : live_blocks (set blocks b None) + one_if_live (get_or blocks b None) ≡ live_blocks blocks + 0 =
    sum_by-set one_if_live blocks b None None (live_within blocks b live) in
    let one : one_if_live (get_or blocks b None) ≡ 1 = ap (λ t. cond t 1 0) live in
    omega arith

-- ---- one more at the end

-- a place of a list with one more at the end is one of the list, or the last
pub record InFront (xs : List ℕ) (x j : ℕ) : Type 0 where
  pub within : j < length xs
  pub is : get_or (xs ++ x ∷ []) j 0 ≡ get_or xs j 0

pub record AtEnd (xs : List ℕ) (x j : ℕ) : Type 0 where
  pub place : j ≡ length xs
  pub is : get_or (xs ++ x ∷ []) j 0 ≡ x

pub push_cases : (xs : List ℕ) (x j : ℕ) → j < length (xs ++ x ∷ []) → InFront xs x j ⊎ AtEnd xs x j
push_cases xs x j within = elim (cases_lt j (length xs)) as (λ _. InFront xs x j ⊎ AtEnd xs x j) [
  | inl below ↦ inl (record { within = below; is = get_or_append_left xs (x ∷ []) 0 j below })
  | inr above ↦
      let place : j ≡ length xs = omega (arith, length_push xs x) in
      inr (record { place = place; is = get_or_push xs x 0 j (sym place) })
]
