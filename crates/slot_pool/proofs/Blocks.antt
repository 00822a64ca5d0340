-- The blocks that stand one after another in one list.
use Rattle.std.proofs.Common.{◌≡◌, ◌≢◌, ℕ, ◌+◌, ◌-◌, ◌*◌, ◌<◌, ◌≤◌, List, [], ◌∷◌, ◌++◌, length, get_or, set, take, drop, map, replicate, true, false, cond, refl, ap, sym, ◌∙◌, arith, inl, inr}
use Rattle.std.specs.Prelude.{Option, Some, None, IsSome, is_some, slice_get, unwrap_or}
use Rattle.std.specs.List.{range_with_len}
use Rattle.std.proofs.lemmas.Bool.{cases_eq, cases_lt}
use Rattle.std.proofs.lemmas.List.{same_lists, get_or_past, drop-set-lt, drop-set-add, take-set-le, get_or-set_same, get_or-set_other, drop_more, replicate_more, set_at, append_assoc, length-replicate, length-take-le, length-take, length-drop, length-append, get_or-take, get_or-drop, get_or_append_left, get_or-append_right}
use Rattle.std.proofs.lemmas.List.Sums.{sum_by-set}
use Rattle.std.proofs.lemmas.Option.{slice_get-get_or}
use Rattle.std.proofs.lemmas.List.FromFn.{length-map-range_with_len, get_or-map-range_with_len}
use Rattle.std.proofs.Math.Seq.{take-set-lt}
use Rattle.std.proofs.Math.ListN.{length-set}
use Rattle.slot_pool.specs.Pool.{live_blocks, with_part}
use Rattle.slot_pool.specs.Inside.{is_free, block_at, blocks_of, IsSound}

-- ---- a list made of a function of the number

pub at_number : {X : Type 0} (f : ℕ → X) (n k : ℕ) (d : X) → k < n → get_or (map f (range_with_len 0 n)) k d ≡ f k
at_number f n k d within = get_or-map-range_with_len f 0 n k k d within (omega arith)

-- two functions that differ at one number give lists that differ there
pub differ_at : {X : Type 0} (f g : ℕ → X) (n b : ℕ) (x : X) → b < n → g b ≡ x → ((k : ℕ) → k ≢ b → g k ≡ f k)
    → map g (range_with_len 0 n) ≡ set (map f (range_with_len 0 n)) b x
differ_at f g n b x within here others =
    let same_length : length (map g (range_with_len 0 n)) ≡ length (set (map f (range_with_len 0 n)) b x) =
    length-map-range_with_len g 0 n ∙ sym (length-set (map f (range_with_len 0 n)) b x
    ∙ length-map-range_with_len f 0 n) in
    same_lists _ _ same_length (λ k d in_list.
    let in_range : k < n = omega (arith, length-map-range_with_len g 0 n) in
    let in_old : b < length (map f (range_with_len 0 n)) = omega (arith, length-map-range_with_len f 0 n) in
    elim (cases_eq k b) as (λ _. get_or (map g (range_with_len 0 n)) k d ≡ get_or (set (map f (range_with_len 0 n)) b x)
    k d) [
      | inl same ↦ at_number g n k d in_range ∙ ap g same ∙ here
          ∙ sym (ap (λ j. get_or (set (map f (range_with_len 0 n)) b x) j d) same ∙ get_or-set_same _ b x d in_old)
      | inr differs ↦ at_number g n k d in_range ∙ others k differs
          ∙ sym (get_or-set_other _ b k x d differs ∙ at_number f n k d in_range)
    ])

-- one more place is filled
pub fill_next : {T : Type 0} (n : ℕ) (v : T) (xs : List T) → n < length xs
    → set (replicate n v ++ drop n xs) n v ≡ replicate (n + 1) v ++ drop (n + 1) xs
fill_next n v xs within =
    rw (drop_more xs n v within, ← replicate_more n v, append_assoc (replicate n v) (v ∷ []) (drop (n + 1) xs))
    (set_at (replicate n v) (get_or xs n v) (drop (n + 1) xs) v n (length-replicate n v))

-- ---- the places of one block

pub chunk_write : {T : Type 0} (slots : List T) (b i : ℕ) (v : T) → i < 64
    → take 64 (drop (64 * b) (set slots (64 * b + i) v)) ≡ set (take 64 (drop (64 * b) slots)) i v
chunk_write slots b i v within = rw (drop-set-add (64 * b) slots i v) (take-set-lt 64 (drop (64 * b) slots) i v within)

pub chunk_write_other : {T : Type 0} (slots : List T) (k b i : ℕ) (v : T) → i < 64 → k ≢ b
    → take 64 (drop (64 * k) (set slots (64 * b + i) v)) ≡ take 64 (drop (64 * k) slots)
chunk_write_other slots k b i v within differs =
    elim (cases_lt k b) as (λ _. take 64 (drop (64 * k) (set slots (64 * b + i) v)) ≡ take 64 (drop (64 * k) slots)) [
      | inl below ↦
          let at : 64 * b + i ≡ 64 * k + (64 * (b - k) + i) = omega arith in
          let past : 64 ≤ 64 * (b - k) + i = omega arith in
          rw (at, drop-set-add (64 * k) slots (64 * (b - k) + i) v)
          (take-set-le 64 (drop (64 * k) slots) (64 * (b - k) + i) v past)
      | inr above ↦ let past : 64 * b + i < 64 * k = omega arith in
          ap (take 64) (drop-set-lt (64 * k) slots (64 * b + i) v past)
    ]

pub length-chunk : {T : Type 0} (slots : List T) (b count : ℕ) → length slots ≡ 64 * count → b < count
    → length (take 64 (drop (64 * b) slots)) ≡ 64
length-chunk slots b count whole within =
    length-take-le 64 (drop (64 * b) slots) (rw (length-drop (64 * b) slots) (omega arith))

pub get_or-chunk : {T : Type 0} (slots : List T) (b i : ℕ) (d : T) → i < 64
    → get_or (take 64 (drop (64 * b) slots)) i d ≡ get_or slots (64 * b + i) d
get_or-chunk slots b i d within = get_or-take 64 (drop (64 * b) slots) i d within ∙ get_or-drop (64 * b) slots i d

-- ---- a part of a list that was written anew

pub length-with_part : {T : Type 0} (a k : ℕ) (xs ys : List T) → length ys ≡ k → a + k ≤ length xs
    → length (with_part a k xs ys) ≡ length xs
length-with_part a k xs ys same within =
    simp (length-append, length-drop) (let front : length (take a xs) ≡ a = length-take-le a xs (omega arith) in
    omega arith)

pub part_before : {T : Type 0} (a k : ℕ) (xs ys : List T) (p : ℕ) (d : T) → p < a → a ≤ length xs
    → get_or (with_part a k xs ys) p d ≡ get_or xs p d
part_before a k xs ys p d before within =
    get_or_append_left (take a xs) (ys ++ drop k (drop a xs)) d p (omega (arith, length-take-le a xs within))
    ∙ get_or-take a xs p d before

pub part_inside : {T : Type 0} (a k : ℕ) (xs ys : List T) (p : ℕ) (d : T) → a ≤ p → p < a + length ys → a ≤ length xs
    → get_or (with_part a k xs ys) p d ≡ get_or ys (p - a) d
part_inside a k xs ys p d from before within =
    get_or-append_right (take a xs) (ys ++ drop k (drop a xs)) a p d (length-take-le a xs within) from
    ∙ get_or_append_left ys (drop k (drop a xs)) d (p - a) (omega arith)

pub part_behind : {T : Type 0} (a k : ℕ) (xs ys : List T) (p : ℕ) (d : T) → a + k ≤ p → length ys ≡ k → a ≤ length xs
    → get_or (with_part a k xs ys) p d ≡ get_or xs p d
part_behind a k xs ys p d past same within =
    let at : a + (k + (p - a - k)) ≡ p = omega arith in
    get_or-append_right (take a xs) (ys ++ drop k (drop a xs)) a p d (length-take-le a xs within) (omega arith)
    ∙ (get_or-append_right ys (drop k (drop a xs)) k (p - a) d same (omega arith)
    ∙ (get_or-drop k (drop a xs) (p - a - k) d ∙ (get_or-drop a xs (k + (p - a - k)) d ∙ ap (λ q. get_or xs q d) at)))

-- ---- live blocks

pub live_at : {T : Type 0} (free : List ℕ) (slots : List T) (count b : ℕ)
    → IsSome (get_or (blocks_of free slots count) b None) → (b < count) × (is_free free b ≡ false)
live_at free slots count b live =
    let within : b < count =
    elim (cases_lt b count) as (λ _. b < count) [
      | inl below ↦ below
      | inr past ↦ absurd (cc (get_or_past (blocks_of free slots count) b None
          (omega (arith, length-map-range_with_len (block_at free slots) 0 count))))
    ] in (
      within,
      elim (is_free free b) as (λ t. is_free free b ≡ t → is_free free b ≡ false) [
        | true ↦ λ is. absurd (cc (at_number (block_at free slots) count b None within))
        | false ↦ λ is. is
      ] refl,
    )

pub live_values : {T : Type 0} (free : List ℕ) (slots : List T) (count b : ℕ) → b < count → is_free free b ≡ false
    → get_or (blocks_of free slots count) b None ≡ Some (take 64 (drop (64 * b) slots))
live_values free slots count b within is = at_number (block_at free slots) count b None within ∙ rw is refl

-- ---- places that were written

-- the places of block b are others, those of every other block as before
pub record ChangesBlock {T : Type 0} (old new : List T) (b : ℕ) (xs : List T) : Type 0 where
  pub here : take 64 (drop (64 * b) new) ≡ xs
  pub others : (k : ℕ) → k ≢ b → take 64 (drop (64 * k) new) ≡ take 64 (drop (64 * k) old)
  pub same_length : length new ≡ length old

pub place_changes : {T : Type 0} (slots : List T) (b i : ℕ) (v : T) → i < 64
    → ChangesBlock slots (set slots (64 * b + i) v) b (set (take 64 (drop (64 * b) slots)) i v)
place_changes slots b i v within = record {
  here = chunk_write slots b i v within;
  others = λ k differs. chunk_write_other slots k b i v within differs;
  same_length = length-set slots (64 * b + i) v;
}

part_chunk : {T : Type 0} (slots : List T) (b from k : ℕ) (ys : List T) (count : ℕ) → length slots ≡ 64 * count
    → b < count → length ys ≡ k → from + k ≤ 64
    → take 64 (drop (64 * b) (with_part (64 * b + from) k slots ys)) ≡ with_part from k (take 64 (drop (64 * b) slots))
    ys
part_chunk {T} slots b from k ys count whole within same fits =
    let new : List T = with_part (64 * b + from) k slots ys in
    let old : List T = take 64 (drop (64 * b) slots) in
    let old_length : length old ≡ 64 = length-chunk slots b count whole within in
    let new_whole : length new ≡ 64 * count = length-with_part (64 * b + from) k slots ys same (omega arith) ∙ whole in
    let lengths : length (take 64 (drop (64 * b) new)) ≡ length (with_part from k old ys) =
    length-chunk new b count new_whole within ∙ sym (length-with_part from k old ys same (omega arith) ∙ old_length) in
    same_lists _ _ lengths (λ j d in_list.
    let in_block : j < 64 = omega (arith, length-chunk new b count new_whole within) in
    let at = get_or-chunk new b j d in_block in
    elim (cases_lt j from) as (λ _. get_or (take 64 (drop (64 * b) new)) j d ≡ get_or (with_part from k old ys) j d) [
      | inl before ↦
          at ∙ (part_before (64 * b + from) k slots ys (64 * b + j) d (omega arith) (omega arith)
          ∙ sym (part_before from k old ys j d before (omega arith) ∙ get_or-chunk slots b j d in_block))
      | inr from_on ↦ elim (cases_lt j (from + k)) as
          (λ _. get_or (take 64 (drop (64 * b) new)) j d ≡ get_or (with_part from k old ys) j d) [
            | inl inside ↦
                let same_place : 64 * b + j - (64 * b + from) ≡ j - from = omega arith in
                at ∙ (part_inside (64 * b + from) k slots ys (64 * b + j) d (omega arith) (omega arith) (omega arith)
                ∙ (ap (λ q. get_or ys q d) same_place
                ∙ sym (part_inside from k old ys j d from_on (omega arith) (omega arith))))
            | inr behind ↦
                at ∙ (part_behind (64 * b + from) k slots ys (64 * b + j) d (omega arith) same (omega arith)
                ∙ sym (part_behind from k old ys j d behind same (omega arith) ∙ get_or-chunk slots b j d in_block))
          ]
    ])

part_other : {T : Type 0} (slots : List T) (b from k : ℕ) (ys : List T) (count j : ℕ) → length slots ≡ 64 * count
    → b < count → length ys ≡ k → from + k ≤ 64 → j ≢ b
    → take 64 (drop (64 * j) (with_part (64 * b + from) k slots ys)) ≡ take 64 (drop (64 * j) slots)
part_other {T} slots b from k ys count j whole within same fits differs =
    let new : List T = with_part (64 * b + from) k slots ys in
    let new_whole : length new ≡ length slots = length-with_part (64 * b + from) k slots ys same (omega arith) in
    let lengths : length (take 64 (drop (64 * j) new)) ≡ length (take 64 (drop (64 * j) slots)) =
    simp (length-take, length-drop) (rw new_whole refl) in
    same_lists _ _ lengths (λ i d in_list.
    let in_block : i < 64 = omega (arith, length-take 64 (drop (64 * j) new)) in
    get_or-chunk new j i d in_block ∙ (elim (cases_lt j b) as
    (λ _. get_or new (64 * j + i) d ≡ get_or slots (64 * j + i) d) [
      | inl below ↦ part_before (64 * b + from) k slots ys (64 * j + i) d (omega arith) (omega arith)
      | inr above ↦ part_behind (64 * b + from) k slots ys (64 * j + i) d (omega arith) same (omega arith)
    ] ∙ sym (get_or-chunk slots j i d in_block)))

pub part_changes : {T : Type 0} (slots : List T) (b from k : ℕ) (ys : List T) (count : ℕ) → length slots ≡ 64 * count
    → b < count → length ys ≡ k → from + k ≤ 64
    → ChangesBlock slots (with_part (64 * b + from) k slots ys) b (with_part from k (take 64 (drop (64 * b) slots)) ys)
part_changes slots b from k ys count whole within same fits = record {
  here = part_chunk slots b from k ys count whole within same fits;
  others = λ j differs. part_other slots b from k ys count j whole within same fits differs;
  same_length = length-with_part (64 * b + from) k slots ys same (omega arith);
}

blocks_changed : {T : Type 0} (free : List ℕ) (old new : List T) (count b : ℕ) (xs : List T) → b < count
    → is_free free b ≡ false → ChangesBlock old new b xs
    → blocks_of free new count ≡ set (blocks_of free old count) b (Some xs)
blocks_changed free old new count b xs within is changes =
    differ_at (block_at free old) (block_at free new) count b (Some xs) within (rw is (ap Some changes.here))
    (λ k differs. ap (λ ys. cond (is_free free k) None (Some ys)) (changes.others k differs))

-- a live block stays live
live_stay : {T : Type 0} (blocks : List (Option (List T))) (b : ℕ) (xs ys : List T) → b < length blocks
    → get_or blocks b None ≡ Some xs → live_blocks (set blocks b (Some ys)) ≡ live_blocks blocks
live_stay {T} blocks b xs ys within is =
    let f : Option (List T) → ℕ = λ o. cond (is_some o) 1 0 in
    let sums : live_blocks (set blocks b (Some ys)) + f (get_or blocks b None) ≡ live_blocks blocks + 1 =
    sum_by-set f blocks b (Some ys) None within in
    let one : f (get_or blocks b None) ≡ 1 = ap f is in
    omega arith

-- what a write to a live block leaves: the pool stays sound, and that block alone is another
pub record Written {T : Type 0} (free : List ℕ) (old new : List T) (count room free_capacity slot_capacity b : ℕ)
    (xs : List T) : Type 0 where
  pub blocks : blocks_of free new count ≡ set (blocks_of free old count) b (Some xs)
  pub sound : IsSound free new count room free_capacity slot_capacity

pub written_block : {T : Type 0} (free : List ℕ) (old new : List T) (count room free_capacity slot_capacity b : ℕ)
    (xs : List T) → IsSound free old count room free_capacity slot_capacity
    → IsSome (get_or (blocks_of free old count) b None) → ChangesBlock old new b xs
    → Written free old new count room free_capacity slot_capacity b xs
written_block free old new count room free_capacity slot_capacity b xs sound live changes =
    let at = live_at free old count b live in
    let blocks = blocks_changed free old new count b xs at.0 at.1 changes in
    let within : b < length (blocks_of free old count) =
    omega (arith, at.0, length-map-range_with_len (block_at free old) 0 count) in
    let same = live_stay (blocks_of free old count) b _ xs within (live_values free old count b at.0 at.1) in
    record {
      blocks = blocks;
      sound = record {
        whole = changes.same_length ∙ sound.whole;
        apart = sound.apart;
        below = sound.below;
        balance = rw (blocks, same) sound.balance;
        fits = sound.fits;
        free_room = sound.free_room;
        slot_room = sound.slot_room;
      };
    }

-- ---- a place of a block

pub place_within : {T : Type 0} (free : List ℕ) (slots : List T) (count room free_capacity slot_capacity b i p : ℕ)
    → IsSound free slots count room free_capacity slot_capacity → IsSome (get_or (blocks_of free slots count) b None)
    → i < 64 → p ≡ 64 * b + i → p < length slots
place_within free slots count room free_capacity slot_capacity b i p sound live within at =
    let here = live_at free slots count b live in
    omega (arith, here.0, sound.whole)

pub place_fits : {T : Type 0} (free : List ℕ) (slots : List T) (count room free_capacity slot_capacity b : ℕ)
    → IsSound free slots count room free_capacity slot_capacity → IsSome (get_or (blocks_of free slots count) b None)
    → 64 * b + 64 ≤ 64 * count
place_fits free slots count room free_capacity slot_capacity b sound live =
    let here = live_at free slots count b live in
    omega (arith, here.0)

-- what is read at a place
pub place_read : {T : Type 0} (free : List ℕ) (slots : List T) (count room free_capacity slot_capacity b i p : ℕ)
    (x : T) → IsSound free slots count room free_capacity slot_capacity
    → IsSome (get_or (blocks_of free slots count) b None) → i < 64 → p ≡ 64 * b + i → x ≡ get_or slots p x
    → slice_get (unwrap_or (get_or (blocks_of free slots count) b None) []) i ≡ Some x
place_read free slots count room free_capacity slot_capacity b i p x sound live within at is =
    let here = live_at free slots count b live in
    let chunk = length-chunk slots b count sound.whole here.0 in
    rw (live_values free slots count b here.0 here.1)
    (slice_get-get_or (take 64 (drop (64 * b) slots)) i x (omega arith)
    ∙ ap Some (get_or-chunk slots b i x within ∙ sym (is ∙ ap (λ q. get_or slots q x) at)))

-- what is written at a place
pub place_written : {T : Type 0} (free : List ℕ) (slots : List T) (count room free_capacity slot_capacity b i p : ℕ)
    (v : T) → IsSound free slots count room free_capacity slot_capacity
    → IsSome (get_or (blocks_of free slots count) b None) → i < 64 → p ≡ 64 * b + i
    → Written free slots (set slots p v) count room free_capacity slot_capacity b
    (set (unwrap_or (get_or (blocks_of free slots count) b None) []) i v)
place_written free slots count room free_capacity slot_capacity b i p v sound live within at =
    let here = live_at free slots count b live in
    rw (live_values free slots count b here.0 here.1, at)
    (written_block free slots (set slots (64 * b + i) v) count room free_capacity slot_capacity b
    (set (take 64 (drop (64 * b) slots)) i v) sound live (place_changes slots b i v within))

-- what is written into a part of a block
pub part_written : {T : Type 0} (free : List ℕ) (slots : List T) (count room free_capacity slot_capacity b from to : ℕ)
    (v : T) → IsSound free slots count room free_capacity slot_capacity
    → IsSome (get_or (blocks_of free slots count) b None) → from ≤ to → to ≤ 64
    → Written free slots (with_part (64 * b + from) (to - from) slots (replicate (to - from) v)) count room
    free_capacity slot_capacity b (with_part from (to - from)
    (unwrap_or (get_or (blocks_of free slots count) b None) []) (replicate (to - from) v))
part_written free slots count room free_capacity slot_capacity b from to v sound live order within =
    let here = live_at free slots count b live in
    rw (live_values free slots count b here.0 here.1)
    (written_block free slots _ count room free_capacity slot_capacity b _ sound live
    (part_changes slots b from (to - from) (replicate (to - from) v) count sound.whole here.0
    (length-replicate (to - from) v) (omega arith)))

pub filled_part : {T : Type 0} (free : List ℕ) (old new : List T) (count room free_capacity slot_capacity b from to : ℕ)
    (v : T) → new ≡ with_part (b * 64 + from) (b * 64 + to - (b * 64 + from)) old
    (replicate (b * 64 + to - (b * 64 + from)) v) → IsSound free old count room free_capacity slot_capacity
    → IsSome (get_or (blocks_of free old count) b None) → from ≤ to → to ≤ 64
    → Written free old new count room free_capacity slot_capacity b
    (with_part from (to - from) (unwrap_or (get_or (blocks_of free old count) b None) []) (replicate (to - from) v))
filled_part free old new count room free_capacity slot_capacity b from to v is sound live order within =
    let start : b * 64 ≡ 64 * b = omega arith in
    let size : 64 * b + to - (64 * b + from) ≡ to - from = omega arith in
    let filled : new ≡ with_part (64 * b + from) (to - from) old (replicate (to - from) v) = is
    ∙ rw (start, size) refl in
    rw filled (part_written free old count room free_capacity slot_capacity b from to v sound live order within)
