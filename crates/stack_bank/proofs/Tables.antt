-- What the loops over the blocks of one table do.
use Rattle.std.proofs.Common.{◌≡◌, ◌≢◌, ◌⊎◌, ℕ, ◌+◌, ◌-◌, ◌*◌, ◌/◌, ◌%◌, ◌<◌, ◌≤◌, min, List, [], ◌∷◌, ◌++◌, length, get_or, set, take, replicate, refl, ap, sym, ◌∙◌, subst, arith, inl, inr}
use Rattle.std.specs.Prelude.{Option, Some, None, IsSome}
use Rattle.std.specs.Int.{div_ceil}
use Rattle.std.proofs.lemmas.Bool.{cases_lt, cases_eq}
use Rattle.std.proofs.lemmas.List.{append-nil, append_assoc, get_or_append_left, get_or_push, get_or-take, get_or-replicate, length_push, length-replicate, length-take-le, take_all, take_at, take-take, get_or-set_same, get_or-set_other}
use Rattle.rb_value.specs.declared.value.Value.{Value}
use Rattle.slot_pool.specs.Pool.{Pool, Leases, filled, with_part, live_blocks}
use Rattle.slot_pool.proofs.Blocks.{length-with_part, part_before, part_inside}
use Rattle.stack_bank.specs.Bank.{nil, blocks_for}
use Rattle.stack_bank.specs.Inside.{Blocks, block_at, values_at, slot_at, HoldsTable, IsOutside, Moves, Adds, Drops, Clears}
use Rattle.stack_bank.proofs.Live.{full_live, live_within, same_values, other_block, push_cases, InFront, AtEnd}
use Rattle.stack_bank.proofs.Moves.{moves_none, lease_step, give_step, write_step}

-- ---- blocks are leased

pub adds_none : (blocks : Blocks) (table : List ℕ) → HoldsTable blocks table → Adds blocks blocks table table 0
adds_none blocks table holds = record {
  moves = moves_none blocks table holds;
  kept = λ b live. refl;
  more = [];
  behind = sym (append-nil table);
  size = refl;
  nils = λ j within. absurd (omega arith);
}

pub adds_step : (old : Blocks) (mid new : Pool Value) (before after : List ℕ) (b n : ℕ)
    → Adds old mid.blocks before after n → Leases mid new b nil → Adds old new.blocks before (after ++ b ∷ []) (n + 1)
adds_step old mid new before after b n adds leases = record {
  moves = lease_step old mid new before after b adds.moves leases;
  kept = λ k live.
      let live_then : IsSome (block_at mid.blocks k) = rw (adds.kept k live) live in
      leases.others k (other_block mid.blocks k b live_then leases.not_live) ∙ adds.kept k live;
  more = adds.more ++ b ∷ [];
  behind = ap (λ t. t ++ b ∷ []) adds.behind ∙ append_assoc before adds.more (b ∷ []);
  size = length_push adds.more b ∙ ap (λ k. k + 1) adds.size;
  nils = λ j within.
      let in_more : j < length (adds.more ++ b ∷ []) = omega (arith, length_push adds.more b, adds.size) in
      elim (push_cases adds.more b j in_more) as
      (λ _. block_at new.blocks (get_or (adds.more ++ b ∷ []) j 0) ≡ Some (replicate 64 nil)) [
        | inl front ↦
            let is : block_at mid.blocks (get_or adds.more j 0) ≡ Some (replicate 64 nil) =
            adds.nils j (omega (arith, front.within, adds.size)) in
            let live : IsSome (block_at mid.blocks (get_or adds.more j 0)) = rw is refl in
            rw front.is (leases.others (get_or adds.more j 0)
            (other_block mid.blocks (get_or adds.more j 0) b live leases.not_live) ∙ is)
        | inr end ↦ rw end.is leases.holds
      ];
}

-- ---- blocks are given back

pub drops_none : (blocks : Blocks) (table : List ℕ) → HoldsTable blocks table
    → Drops blocks blocks table table (length table)
drops_none blocks table holds = record {
  moves = moves_none blocks table holds;
  front = sym (take_all (length table) table (omega arith));
  kept = λ j within. refl;
}

pub drops_step : (old mid : Blocks) (before after front : List ℕ) (b : ℕ) → after ≡ front ++ b ∷ []
    → Drops old mid before after (length after) → Drops old (set mid b None) before front (length front)
drops_step old mid before after front b is drops =
    let drops' : Drops old mid before (front ++ b ∷ []) (length (front ++ b ∷ [])) =
    subst (λ t. Drops old mid before t (length t)) is drops in
    let size : length (front ++ b ∷ []) ≡ length front + 1 = length_push front b in
    let holds = drops'.moves.holds in
    let same : (j : ℕ) → j < length front → get_or before j 0 ≡ get_or front j 0 = λ j within.
    sym (get_or-take (length (front ++ b ∷ [])) before j 0 (omega arith))
    ∙ (ap (λ t. get_or t j 0) (sym drops'.front) ∙ get_or_append_left front (b ∷ []) 0 j within) in
    record {
      moves = give_step old mid before front b drops'.moves;
      front = sym (take_at front (b ∷ []) (length front) refl)
          ∙ (ap (take (length front)) drops'.front
          ∙ take-take (length front) (length (front ++ b ∷ [])) before (omega arith));
      kept = λ j within.
          let differs : get_or before j 0 ≢ b = λ eq.
          let place : j ≡ length front = holds.apart j (length front) (omega arith) (omega arith)
          (get_or_append_left front (b ∷ []) 0 j within
          ∙ (sym (same j within) ∙ (eq ∙ sym (get_or_push front b 0 (length front) refl)))) in
          omega arith in
          get_or-set_other mid b (get_or before j 0) None None differs ∙ drops'.kept j (omega arith);
    }

-- the block that is given back is live
pub last_live : (old mid : Blocks) (before after front : List ℕ) (b n : ℕ) → after ≡ front ++ b ∷ []
    → Drops old mid before after n → IsSome (block_at mid b)
last_live old mid before after front b n is drops =
    let last : get_or after (length front) 0 ≡ b = ap (λ t. get_or t (length front) 0) is
    ∙ get_or_push front b 0 (length front) refl in
    let within : length front < length after = omega (arith, ap length is, length_push front b) in
    full_live mid b (rw last at (drops.moves.holds.full (length front) within))

-- ---- the places behind the slots

pub clears_none : (pool : Pool Value) (table : List ℕ) (n more : ℕ) → HoldsTable pool.blocks table
    → length table ≡ blocks_for n → n % 64 ≡ 0 → Clears pool pool table n more
clears_none pool table n more holds sized even = record {
  moves = moves_none pool.blocks table holds;
  before = λ i within. refl;
  behind = λ i from to within. absurd (omega arith);
  spare = refl;
}

pub clears_some : (pool : Pool Value) (table : List ℕ) (n more b : ℕ) → HoldsTable pool.blocks table
    → length table ≡ blocks_for n → n % 64 ≢ 0 → b ≡ get_or table (n / 64) 0
    → Clears pool (filled pool b (n % 64) (min 64 (n % 64 + more)) nil) table n more
clears_some pool table n more b holds sized odd is =
    let from : ℕ = n % 64 in
    let to : ℕ = min 64 (n % 64 + more) in
    let last : n / 64 < length table = omega arith in
    let old : List Value = values_at pool.blocks b in
    let old_length : length old ≡ 64 = rw is (holds.full (n / 64) last) in
    let ys : List Value = replicate (to - from) nil in
    let ys_length : length ys ≡ to - from = length-replicate (to - from) nil in
    let new : List Value = with_part from (to - from) old ys in
    let new_length : length new ≡ 64 = length-with_part from (to - from) old ys ys_length (omega arith) ∙ old_length in
    let live : IsSome (block_at pool.blocks b) = full_live pool.blocks b old_length in
    let in_blocks : b < length pool.blocks = live_within pool.blocks b live in
    let here : values_at (set pool.blocks b (Some new)) b ≡ new =
    rw (get_or-set_same pool.blocks b (Some new) None in_blocks) refl in
    record {
      moves = write_step pool.blocks pool.blocks table table b (n / 64) new (moves_none pool.blocks table holds) last
          (sym is) new_length;
      before = λ i within. elim (cases_eq (i / 64) (n / 64)) as
          (λ _. slot_at (set pool.blocks b (Some new)) table i ≡ slot_at pool.blocks table i) [
            | inl same ↦
                let at : get_or table (i / 64) 0 ≡ b = ap (λ j. get_or table j 0) same ∙ sym is in
                rw (at, here) (part_before from (to - from) old ys (i % 64) nil (omega arith) (omega arith))
            | inr differs ↦
                let other : get_or table (i / 64) 0 ≢ b =
                λ eq. differs (holds.apart (i / 64) (n / 64) (omega arith) last (eq ∙ is)) in
                rw (get_or-set_other pool.blocks b (get_or table (i / 64) 0) (Some new) None other) refl
          ];
      behind = λ i from_on before_end in_table.
          let same : i / 64 ≡ n / 64 = omega arith in
          let at : get_or table (i / 64) 0 ≡ b = ap (λ j. get_or table j 0) same ∙ sym is in
          rw (at, here) (part_inside from (to - from) old ys (i % 64) nil (omega arith) (omega arith) (omega arith)
          ∙ get_or-replicate (to - from) (i % 64 - from) nil nil (omega arith));
      spare = refl;
    }
