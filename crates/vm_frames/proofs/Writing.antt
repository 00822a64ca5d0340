-- One step of what is written to registers.
use Rattle.std.proofs.Common.{◌≡◌, ℕ, suc, ◌+◌, ◌-◌, ◌<◌, ◌≤◌, List, [], ◌∷◌, ◌++◌, length, take, drop, arith, ap, refl, ◌∙◌}
use Rattle.std.specs.List.{slice_index_or, slice_set}
use Rattle.std.proofs.lemmas.List.{at_drop_more, take_more_set, drop-set-lt, append_assoc, append-nil, drop_all, take_all}
use Rattle.rb_value.specs.declared.value.Value.{Value}
use Rattle.vm_frames.specs.Registers.{wrapped, put_all, copied_one, copied, refilled}

-- a value is put, and those behind it are left
pub put_more : (rs : List Value) (at i : ℕ) (vs : List Value) (d : Value) → i < length vs
    → put_all rs (at + i) (drop i vs)
    ≡ put_all (slice_set rs (wrapped (at + i)) (slice_index_or vs i d)) (at + (i + 1)) (drop (i + 1) vs)
unfolding put_all
put_more rs at i vs d within =
    let next : at + i + 1 ≡ at + (i + 1) = omega arith in
    at_drop_more (put_all rs (at + i)) vs i d within
    ∙ ap (λ n. put_all (slice_set rs (wrapped (at + i)) (slice_index_or vs i d)) n (drop (i + 1) vs)) next

-- a register is copied, and those behind it are left
pub copied_more : (rs : List Value) (from to i n : ℕ) → i < n
    → copied rs (from + i) (to + i) (n - i)
    ≡ copied (copied_one rs (wrapped (from + i)) (wrapped (to + i))) (from + (i + 1)) (to + (i + 1)) (n - (i + 1))
unfolding copied
copied_more rs from to i n within =
    let left : n - i ≡ suc (n - (i + 1)) = omega arith in
    let a : from + i + 1 ≡ from + (i + 1) = omega arith in
    let b : to + i + 1 ≡ to + (i + 1) = omega arith in
    let one : List Value = copied_one rs (wrapped (from + i)) (wrapped (to + i)) in
    rw left (ap (λ x. copied one x (to + i + 1) (n - (i + 1))) a ∙ ap (λ y. copied one (from + (i + 1)) y (n - (i + 1))) b)

-- a value is replaced, and those behind it are left
pub refill_more : (vs rs : List Value) (from i : ℕ) (d v : Value) → i < length vs
    → v ≡ slice_index_or rs (wrapped (from + i)) (slice_index_or vs i d)
    → take i vs ++ refilled (drop i vs) rs (from + i)
    ≡ take (i + 1) (slice_set vs i v) ++ refilled (drop (i + 1) (slice_set vs i v)) rs (from + (i + 1))
unfolding refilled
refill_more vs rs from i d v within same =
    let next : from + i + 1 ≡ from + (i + 1) = omega arith in
    let more : refilled (drop i vs) rs (from + i)
    ≡ slice_index_or rs (wrapped (from + i)) (slice_index_or vs i d) ∷ refilled (drop (i + 1) vs) rs (from + i + 1)
    = at_drop_more (λ xs. refilled xs rs (from + i)) vs i d within in
    let before : i < i + 1 = omega arith in
    rw (
      take_more_set vs i v within,
      drop-set-lt (i + 1) vs i v before,
      more,
      ← same,
      next,
      append_assoc (take i vs) (v ∷ []) (refilled (drop (i + 1) vs) rs (from + (i + 1))),
    ) refl

-- At the start nothing is done, and at the end nothing is left.

pub put_start : (rs : List Value) (at : ℕ) (vs : List Value) → put_all rs (at + 0) (drop 0 vs) ≡ put_all rs at vs
put_start rs at vs = let same : at + 0 ≡ at = omega arith in rw same refl

pub put_end : (rs : List Value) (at i : ℕ) (vs : List Value) → length vs ≤ i → put_all rs at (drop i vs) ≡ rs
unfolding put_all
put_end rs at i vs past = rw (drop_all i vs past) refl

pub copied_start : (rs : List Value) (from to n : ℕ) → copied rs (from + 0) (to + 0) (n - 0) ≡ copied rs from to n
copied_start rs from to n =
    let a : from + 0 ≡ from = omega arith in
    let b : to + 0 ≡ to = omega arith in
    let c : n - 0 ≡ n = omega arith in
    rw (a, b, c) refl

pub copied_end : (rs : List Value) (from to i n : ℕ) → n ≤ i → copied rs from to (n - i) ≡ rs
unfolding copied
copied_end rs from to i n past = let none : n - i ≡ 0 = omega arith in rw none refl

pub refill_start : (vs rs : List Value) (from : ℕ)
    → take 0 vs ++ refilled (drop 0 vs) rs (from + 0) ≡ refilled vs rs from
refill_start vs rs from = let same : from + 0 ≡ from = omega arith in rw same refl

pub refill_end : (vs rs : List Value) (from i : ℕ) → length vs ≤ i
    → take i vs ++ refilled (drop i vs) rs from ≡ vs
unfolding refilled
refill_end vs rs from i past = rw (drop_all i vs past, take_all i vs past) (append-nil vs)
