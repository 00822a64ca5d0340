-- Blocks that are leased, given back and written for one table.
use Rattle.std.proofs.Common.{◌≡◌, ◌≢◌, ◌⊎◌, ℕ, ◌+◌, ◌<◌, ◌≤◌, List, [], ◌∷◌, ◌++◌, length, get_or, set, take, replicate, refl, ap, sym, ◌∙◌, subst, arith, inl, inr}
use Rattle.std.specs.Prelude.{Option, Some, None, IsSome}
use Rattle.std.proofs.lemmas.Bool.{cases_lt, cases_eq}
use Rattle.std.proofs.lemmas.List.{get_or_append_left, get_or_push, length_push, length-replicate, get_or-set_same, get_or-set_other}
use Rattle.rb_value.specs.declared.value.Value.{Value}
use Rattle.slot_pool.specs.Pool.{Pool, Leases, live_blocks}
use Rattle.stack_bank.specs.Bank.{nil}
use Rattle.stack_bank.specs.Inside.{Blocks, block_at, values_at, HoldsTable, IsOutside, Moves}
use Rattle.stack_bank.proofs.Live.{full_live, live_within, same_values, other_block, live_set_some, live_set_none, push_cases, InFront, AtEnd}

pub moves_none : (blocks : Blocks) (table : List ℕ) → HoldsTable blocks table → Moves blocks blocks table table
moves_none blocks table holds = record {
  others = λ b live outside. (refl, outside);
  holds = holds;
  count = refl;
}

-- ---- a lease

lease_holds : (mid new : Pool Value) (table : List ℕ) (b : ℕ) → HoldsTable mid.blocks table → Leases mid new b nil
    → HoldsTable new.blocks (table ++ b ∷ [])
lease_holds mid new table b holds leases =
    let other : (j : ℕ) → j < length table → get_or table j 0 ≢ b =
    λ j within. other_block mid.blocks (get_or table j 0) b
    (full_live mid.blocks (get_or table j 0) (holds.full j within)) leases.not_live in
    record {
      full = λ j within. elim (push_cases table b j within) as
          (λ _. length (values_at new.blocks (get_or (table ++ b ∷ []) j 0)) ≡ 64) [
            | inl front ↦ rw (
              front.is,
              same_values mid.blocks new.blocks (get_or table j 0)
                  (leases.others (get_or table j 0) (other j front.within)),
            ) (holds.full j front.within)
            | inr end ↦ rw (end.is, leases.holds) (length-replicate 64 nil)
          ];
      apart = λ i j in_i in_j same. elim (push_cases table b i in_i) as (λ _. i ≡ j) [
        | inl first ↦ elim (push_cases table b j in_j) as (λ _. i ≡ j) [
          | inl second ↦ holds.apart i j first.within second.within (sym first.is ∙ (same ∙ second.is))
          | inr second ↦ absurd (other i first.within (sym first.is ∙ (same ∙ second.is)))
        ]
        | inr first ↦ elim (push_cases table b j in_j) as (λ _. i ≡ j) [
          | inl second ↦ absurd (other j second.within (sym second.is ∙ (sym same ∙ first.is)))
          | inr second ↦ first.place ∙ sym second.place
        ]
      ];
    }

pub lease_step : (old : Blocks) (mid new : Pool Value) (before after : List ℕ) (b : ℕ)
    → Moves old mid.blocks before after → Leases mid new b nil → Moves old new.blocks before (after ++ b ∷ [])
lease_step old mid new before after b moves leases = record {
  others = λ k live outside.
      let kept = moves.others k live outside in
      let live_then : IsSome (block_at mid.blocks k) = rw kept.0 live in
      let differs : k ≢ b = other_block mid.blocks k b live_then leases.not_live in (
        leases.others k differs ∙ kept.0,
        λ j within. elim (push_cases after b j within) as (λ _. get_or (after ++ b ∷ []) j 0 ≢ k) [
          | inl front ↦ λ same. kept.1 j front.within (sym front.is ∙ same)
          | inr end ↦ λ same. differs (sym same ∙ end.is)
        ],
      );
  holds = lease_holds mid new after b moves.holds leases;
  count = omega (arith, moves.count, leases.live, length_push after b);
}

-- ---- a block is given back

give_holds : (mid : Blocks) (front : List ℕ) (b : ℕ) → HoldsTable mid (front ++ b ∷ [])
    → HoldsTable (set mid b None) front
give_holds mid front b holds =
    let in_all : (j : ℕ) → j < length front → j < length (front ++ b ∷ []) =
    λ j within. omega (arith, length_push front b) in
    let is : (j : ℕ) → j < length front → get_or (front ++ b ∷ []) j 0 ≡ get_or front j 0 =
    λ j within. get_or_append_left front (b ∷ []) 0 j within in
    let other : (j : ℕ) → j < length front → get_or front j 0 ≢ b = λ j within same.
    let place : j ≡ length front = holds.apart j (length front) (in_all j within) (omega (arith, length_push front b))
    (is j within ∙ (same ∙ sym (get_or_push front b 0 (length front) refl))) in
    omega arith in
    record {
      full = λ j within. rw (get_or-set_other mid b (get_or front j 0) None None (other j within))
          (rw (is j within) at (holds.full j (in_all j within)));
      apart = λ i j in_i in_j same. holds.apart i j (in_all i in_i) (in_all j in_j)
          (is i in_i ∙ (same ∙ sym (is j in_j)));
    }

pub give_step : (old mid : Blocks) (before front : List ℕ) (b : ℕ) → Moves old mid before (front ++ b ∷ [])
    → Moves old (set mid b None) before front
give_step old mid before front b moves =
    let last : get_or (front ++ b ∷ []) (length front) 0 ≡ b = get_or_push front b 0 (length front) refl in
    let in_last : length front < length (front ++ b ∷ []) = omega (arith, length_push front b) in
    let live : IsSome (block_at mid b) = full_live mid b (rw last at (moves.holds.full (length front) in_last)) in
    record {
      others = λ k live_k outside.
          let kept = moves.others k live_k outside in
          let differs : k ≢ b = λ same. kept.1 (length front) in_last (last ∙ sym same) in (
            get_or-set_other mid b k None None differs ∙ kept.0,
            λ j within same. kept.1 j (omega (arith, length_push front b))
                (get_or_append_left front (b ∷ []) 0 j within ∙ same),
          );
      holds = give_holds mid front b moves.holds;
      count = omega (arith, moves.count, live_set_none mid b live, length_push front b);
    }

-- ---- a block is written

pub write_step : (old mid : Blocks) (before after : List ℕ) (b at : ℕ) (xs : List Value) → Moves old mid before after
    → at < length after → get_or after at 0 ≡ b → length xs ≡ 64 → Moves old (set mid b (Some xs)) before after
write_step old mid before after b at xs moves within is full =
    let live : IsSome (block_at mid b) = full_live mid b (rw is at (moves.holds.full at within)) in
    let in_mid = live_within mid b live in
    record {
      others = λ k live_k outside.
          let kept = moves.others k live_k outside in
          let differs : k ≢ b = λ same. kept.1 at within (is ∙ sym same) in
          (get_or-set_other mid b k (Some xs) None differs ∙ kept.0, kept.1);
      holds = record {
        full = λ j in_j. elim (cases_eq (get_or after j 0) b) as
            (λ _. length (values_at (set mid b (Some xs)) (get_or after j 0)) ≡ 64) [
              | inl same ↦ rw (same, get_or-set_same mid b (Some xs) None in_mid) full
              | inr differs ↦ rw (get_or-set_other mid b (get_or after j 0) (Some xs) None differs)
                  (moves.holds.full j in_j)
            ];
        apart = moves.holds.apart;
      };
      count = omega (arith, moves.count, live_set_some mid b xs live);
    }

-- ---- one after the other

pub moves_twice : (old mid new : Blocks) (before between after : List ℕ) → Moves old mid before between
    → Moves mid new between after → Moves old new before after
moves_twice old mid new before between after first second = record {
  others = λ b live outside.
      let one = first.others b live outside in
      let live_then : IsSome (block_at mid b) = rw one.0 live in
      let two = second.others b live_then one.1 in
      (two.0 ∙ one.0, two.1);
  holds = second.holds;
  count = omega (arith, first.count, second.count);
}
