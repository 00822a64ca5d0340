-- The slots of one stack.
use Rattle.std.proofs.Common.{◌≡◌, ◌≢◌, ◌⊎◌, ℕ, ◌+◌, ◌-◌, ◌*◌, ◌^◌, ◌/◌, ◌%◌, ◌<◌, ◌≤◌, min, List, [], ◌∷◌, ◌++◌, Bool, length, get_or, set, take, map, replicate, refl, ap, sym, ◌∙◌, subst, arith, inl, inr}
use Rattle.std.specs.Prelude.{Option, Some, None, IsSome}
use Rattle.std.specs.List.{range_with_len}
use Rattle.std.proofs.lemmas.Bool.{cases_lt, cases_eq}
use Rattle.std.proofs.lemmas.List.{same_lists, get_or_append_left, get_or-append_right, get_or-take, get_or-replicate, length-append, length-replicate, length-take-le, length-set, get_or-set_same, get_or-set_other}
use Rattle.std.proofs.lemmas.List.FromFn.{length-map-range_with_len}
use Rattle.rb_value.specs.declared.value.Value.{Value}
use Rattle.slot_pool.specs.Pool.{Pool}
use Rattle.slot_pool.proofs.Blocks.{at_number}
use Rattle.stack_bank.specs.Bank.{nil, blocks_for}
use Rattle.stack_bank.specs.Inside.{Blocks, Held, block_at, values_at, slot_at, slots_of, HoldsTable, Moves, Adds, Drops, Clears, StackGrows}
use Rattle.stack_bank.proofs.Live.{full_live, live_within, same_values}
use Rattle.stack_bank.proofs.Moves.{moves_twice}

pub length-slots_of : (blocks : Blocks) (table : List ℕ) (n : ℕ) → length (slots_of blocks table n) ≡ n
length-slots_of blocks table n = length-map-range_with_len (slot_at blocks table) 0 n

pub get_or-slots_of : (blocks : Blocks) (table : List ℕ) (n i : ℕ) (d : Value) → i < n
    → get_or (slots_of blocks table n) i d ≡ slot_at blocks table i
get_or-slots_of blocks table n i d within = at_number (slot_at blocks table) n i d within

-- the slots are the same where the blocks of the table are
pub slots_same : (old new : Blocks) (table : List ℕ) (n : ℕ) → length table ≡ blocks_for n
    → ((j : ℕ) → j < length table → block_at new (get_or table j 0) ≡ block_at old (get_or table j 0))
    → slots_of new table n ≡ slots_of old table n
slots_same old new table n sized same = same_lists _ _ (length-slots_of new table n ∙ sym (length-slots_of old table n))
    (λ i d in_list.
    let within : i < n = omega (arith, length-slots_of new table n) in
    let block = same (i / 64) (omega arith) in
    get_or-slots_of new table n i d within
    ∙ (ap (λ xs. get_or xs (i % 64) nil) (same_values old new (get_or table (i / 64) 0) block)
    ∙ sym (get_or-slots_of old table n i d within)))

-- ---- n slots more

abbrev pub stack_of : Bool → ℕ → List ℕ → Held
stack_of live n table = record { live = live; length = n; table = table }

pub stack_grows : (mid : Pool Value) (old : Pool Value) (new : Blocks) (table after : List ℕ) (live : Bool)
    (n more blocks : ℕ) → length table ≡ blocks_for n → Clears old mid table n more
    → Adds mid.blocks new table after blocks → blocks + length table ≡ blocks_for (n + more) → n + more < 2 ^ 64
    → StackGrows old.blocks new (stack_of live n table) (stack_of live (n + more) after) more
stack_grows mid old new table after live n more blocks sized clears adds size fits =
    let after_length : length after ≡ length table + blocks = ap length adds.behind
    ∙ (length-append table adds.more ∙ ap (λ k. length table + k) adds.size) in
    let in_front : (i : ℕ) → i / 64 < length table → slot_at new after i ≡ slot_at mid.blocks table i = λ i within.
    let b : ℕ = get_or table (i / 64) 0 in
    let at : get_or after (i / 64) 0 ≡ b = ap (λ t. get_or t (i / 64) 0) adds.behind
    ∙ get_or_append_left table adds.more 0 (i / 64) within in
    let live_then : IsSome (block_at mid.blocks b) = full_live mid.blocks b (clears.moves.holds.full (i / 64) within) in
    rw at (ap (λ xs. get_or xs (i % 64) nil) (same_values mid.blocks new b (adds.kept b live_then))) in
    let is_before : (i : ℕ) → i < n → slot_at new after i ≡ slot_at old.blocks table i = λ i within.
    in_front i (omega arith) ∙ clears.before i within in
    let is_nil : (i : ℕ) → n ≤ i → i < n + more → slot_at new after i ≡ nil = λ i from to.
    elim (cases_lt (i / 64) (length table)) as (λ _. slot_at new after i ≡ nil) [
      | inl within ↦ in_front i within ∙ clears.behind i from to (omega arith)
      | inr past ↦
          let j : ℕ = i / 64 - length table in
          let at : get_or after (i / 64) 0 ≡ get_or adds.more j 0 = ap (λ t. get_or t (i / 64) 0) adds.behind
          ∙ get_or-append_right table adds.more (length table) (i / 64) 0 refl past in
          let block = adds.nils j (omega arith) in
          rw (at, block) (get_or-replicate 64 (i % 64) nil nil (omega arith))
    ] in
    record {
      moves = moves_twice old.blocks mid.blocks new table table after clears.moves adds.moves;
      live = refl;
      size = refl;
      sized = omega arith;
      fits = fits;
      more = adds.more;
      behind = adds.behind;
      slots = same_lists _ _ (length-slots_of new after (n + more)
          ∙ sym (length-append (slots_of old.blocks table n) (replicate more nil)
          ∙ omega (arith, length-slots_of old.blocks table n, length-replicate more nil))) (λ i d in_list.
          let within : i < n + more = omega (arith, length-slots_of new after (n + more)) in
          let left = get_or-slots_of new after (n + more) i d within in
          elim (cases_lt i n) as (λ _. get_or (slots_of new after (n + more)) i d ≡ get_or
          (slots_of old.blocks table n ++ replicate more nil) i d) [
            | inl before ↦ left ∙ (is_before i before
                ∙ sym (get_or_append_left (slots_of old.blocks table n) (replicate more nil) d i
                (omega (arith, length-slots_of old.blocks table n)) ∙ get_or-slots_of old.blocks table n i d before))
            | inr behind ↦ left ∙ (is_nil i behind within
                ∙ sym (get_or-append_right (slots_of old.blocks table n) (replicate more nil) n i d
                (length-slots_of old.blocks table n) behind ∙ get_or-replicate more (i - n) nil d (omega arith)))
          ]);
    }

-- ---- the first slots

pub first_slots : (old new : Blocks) (table after : List ℕ) (n m keep : ℕ) → length table ≡ blocks_for n → m ≤ n
    → keep ≡ blocks_for m → Drops old new table after keep → slots_of new after m ≡ take m (slots_of old table n)
first_slots old new table after n m keep sized less is drops =
    same_lists _ _ (length-slots_of new after m
    ∙ sym (length-take-le m (slots_of old table n) (omega (arith, length-slots_of old table n)))) (λ i d in_list.
    let within : i < m = omega (arith, length-slots_of new after m) in
    let b : ℕ = get_or table (i / 64) 0 in
    let kept : i / 64 < keep = omega arith in
    let at : get_or after (i / 64) 0 ≡ b = ap (λ t. get_or t (i / 64) 0) drops.front
    ∙ get_or-take keep table (i / 64) 0 kept in
    get_or-slots_of new after m i d within
    ∙ (ap (λ c. get_or (values_at new c) (i % 64) nil) at
    ∙ (ap (λ xs. get_or xs (i % 64) nil) (same_values old new b (drops.kept (i / 64) kept))
    ∙ sym (get_or-take m (slots_of old table n) i d within ∙ get_or-slots_of old table n i d (omega arith)))))

-- ---- one slot is written

pub slot_written : (blocks : Blocks) (table : List ℕ) (n i b : ℕ) (v : Value) → HoldsTable blocks table
    → length table ≡ blocks_for n → i < n → b ≡ get_or table (i / 64) 0
    → slots_of (set blocks b (Some (set (values_at blocks b) (i % 64) v))) table n ≡ set (slots_of blocks table n) i v
slot_written blocks table n i b v holds sized within is =
    let old : List Value = slots_of blocks table n in
    let new : Blocks = set blocks b (Some (set (values_at blocks b) (i % 64) v)) in
    let full : length (values_at blocks b) ≡ 64 = rw is (holds.full (i / 64) (omega arith)) in
    let in_blocks : b < length blocks = live_within blocks b (full_live blocks b full) in
    let here : values_at new b ≡ set (values_at blocks b) (i % 64) v =
    rw (get_or-set_same blocks b (Some (set (values_at blocks b) (i % 64) v)) None in_blocks) refl in
    same_lists _ _ (length-slots_of new table n ∙ sym (length-set old i v ∙ length-slots_of blocks table n))
    (λ k d in_list.
    let in_stack : k < n = omega (arith, length-slots_of new table n) in
    get_or-slots_of new table n k d in_stack ∙
    (elim (cases_eq k i) as (λ _. slot_at new table k ≡ get_or (set old i v) k d) [
      | inl same ↦
          let at : get_or table (k / 64) 0 ≡ b = ap (λ j. get_or table (j / 64) 0) same ∙ sym is in
          rw (at, here, same) (get_or-set_same (values_at blocks b) (i % 64) v nil (omega arith)
          ∙ sym (get_or-set_same old i v d (omega (arith, length-slots_of blocks table n))))
      | inr differs ↦
          let right : get_or (set old i v) k d ≡ slot_at blocks table k = get_or-set_other old i k v d differs
          ∙ get_or-slots_of blocks table n k d in_stack in
          elim (cases_eq (get_or table (k / 64) 0) b) as (λ _. slot_at new table k ≡ get_or (set old i v) k d) [
            | inl at ↦
                let same_block : k / 64 ≡ i / 64 =
                holds.apart (k / 64) (i / 64) (omega arith) (omega arith) (at ∙ is) in
                let other_place : k % 64 ≢ i % 64 = λ eq. differs (omega arith) in
                rw (at, here, get_or-set_other (values_at blocks b) (i % 64) (k % 64) v nil other_place)
                (sym (right ∙ rw at refl))
            | inr other ↦ rw (get_or-set_other blocks b (get_or table (k / 64) 0)
                (Some (set (values_at blocks b) (i % 64) v)) None other) (sym right)
          ]
    ]))

-- the same, by what the calls on the way say
pub stack_grown : (pool mid : Pool Value) (old new : Blocks) (table between after : List ℕ) (live : Bool)
    (n more size blocks : ℕ) → pool.blocks ≡ old → between ≡ table → size ≡ n + more → length table ≡ blocks_for n
    → blocks + length table ≡ blocks_for size → Clears pool mid between n more
    → Adds mid.blocks new between after blocks → n + more < 2 ^ 64
    → StackGrows old new (stack_of live n table) (stack_of live size after) more
stack_grown pool mid old new table between after live n more size blocks same same_table size_is sized enough clears
    adds fits =
    let clears' : Clears pool mid table n more = subst (λ t. Clears pool mid t n more) same_table clears in
    let adds' : Adds mid.blocks new table after blocks =
    subst (λ t. Adds mid.blocks new t after blocks) same_table adds in
    let grown : StackGrows pool.blocks new (stack_of live n table) (stack_of live (n + more) after) more =
    stack_grows mid pool new table after live n more blocks sized clears' adds' (omega arith) fits in
    subst (λ k. StackGrows old new (stack_of live n table) (stack_of live k after) more) (sym size_is)
    (subst (λ b. StackGrows b new (stack_of live n table) (stack_of live (n + more) after) more) same grown)
