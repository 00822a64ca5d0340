-- Blocks that are leased and given back.
use Rattle.std.proofs.Common.{◌≡◌, ℕ, ◌+◌, ◌-◌, ◌*◌, ◌^◌, ◌<◌, ◌≤◌, List, [], ◌∷◌, ◌++◌, length, get_or, set, take, drop, map, replicate, Bool, true, false, cond, refl, ap, sym, ◌∙◌, subst, arith, inl, inr}
use Rattle.std.specs.Prelude.{Option, Some, None, IsSome, is_some}
use Rattle.std.specs.List.{range_with_len}
use Rattle.std.proofs.lemmas.Bool.{cases_lt}
use Rattle.std.proofs.lemmas.List.{same_lists, nil_from_length, length_push, take-append-le, drop-append-le, drop_at, take_all, drop_all, append-nil, length-replicate, length-append, length-drop, get_or_push, get_or_past, get_or-set_same, get_or-set_other, get_or_append_left}
use Rattle.std.proofs.lemmas.List.FromFn.{length-map-range_with_len, map-range_with_len_more}
use Rattle.std.proofs.lemmas.List.Sums.{sum_by-set, sum_by_push, get_or-le-sum_by}
use Rattle.std.proofs.lemmas.List.Elements.{All-push}
use Rattle.slot_pool.specs.Pool.{Pool, with_part, Takes, Leases, given, live_blocks, new_blocks}
use Rattle.slot_pool.specs.Inside.{is_free, block_at, blocks_of, IsSound}
use Rattle.slot_pool.proofs.Blocks.{at_number, differ_at, live_at, live_values, part_changes, ChangesBlock, length-chunk}
use Rattle.slot_pool.proofs.Free.{free_last, free_other, apart_push, apart_front}

-- how much a block adds to the number of live ones
abbrev pub one_if_live : {T : Type 0} → Option (List T) → ℕ
one_if_live o = cond (is_some o) 1 0

pub length-blocks_of : {T : Type 0} (free : List ℕ) (slots : List T) (count : ℕ)
    → length (blocks_of free slots count) ≡ count
length-blocks_of free slots count = length-map-range_with_len (block_at free slots) 0 count

-- where a block is live not all blocks are free
pub not_all_free : {T : Type 0} (free : List ℕ) (slots : List T) (count room free_capacity slot_capacity b : ℕ)
    → IsSound free slots count room free_capacity slot_capacity → IsSome (get_or (blocks_of free slots count) b None)
    → length free < count
not_all_free free slots count room free_capacity slot_capacity b sound live =
    let at = live_at free slots count b live in
    let some : one_if_live (get_or (blocks_of free slots count) b None) ≤ live_blocks (blocks_of free slots count) =
    get_or-le-sum_by one_if_live (blocks_of free slots count) b None
    (omega (arith, at.0, length-blocks_of free slots count)) in
    let one : one_if_live (get_or (blocks_of free slots count) b None) ≡ 1 =
    ap one_if_live (live_values free slots count b at.0 at.1) in
    omega (arith, sound.balance)

-- what a pool with these fields is seen as
abbrev pub seen : {T : Type 0} → List ℕ → List T → ℕ → ℕ → Pool T
seen free slots count room = record { blocks = blocks_of free slots count; free = free; spare = length free + room }

-- ---- a block is given back

given_blocks : {T : Type 0} (free : List ℕ) (slots : List T) (count b : ℕ) → b < count
    → blocks_of (free ++ b ∷ []) slots count ≡ set (blocks_of free slots count) b None
given_blocks free slots count b within =
    differ_at (block_at free slots) (block_at (free ++ b ∷ []) slots) count b None within (rw (free_last free b) refl)
    (λ k differs. rw (free_other free b k differs) refl)

pub record Gives {T : Type 0} (free : List ℕ) (slots : List T) (count room free_capacity slot_capacity b : ℕ) : Type 0
  where
    pub blocks : blocks_of (free ++ b ∷ []) slots count ≡ set (blocks_of free slots count) b None
    pub sound : IsSound (free ++ b ∷ []) slots count room free_capacity slot_capacity
    pub was_live : is_free free b ≡ false

pub gives : {T : Type 0} (free : List ℕ) (slots : List T) (count room free_capacity slot_capacity b : ℕ)
    → IsSound free slots count room free_capacity slot_capacity → IsSome (get_or (blocks_of free slots count) b None)
    → Gives free slots count room free_capacity slot_capacity b
gives free slots count room free_capacity slot_capacity b sound live =
    let at = live_at free slots count b live in
    let blocks = given_blocks free slots count b at.0 in
    let one : one_if_live (get_or (blocks_of free slots count) b None) ≡ 1 =
    ap one_if_live (live_values free slots count b at.0 at.1) in
    let sums : live_blocks (set (blocks_of free slots count) b None) + one_if_live
    (get_or (blocks_of free slots count) b None) ≡ live_blocks (blocks_of free slots count) + 0 =
    sum_by-set one_if_live (blocks_of free slots count) b None None
    (omega (arith, at.0, length-blocks_of free slots count)) in
    record {
      blocks = blocks;
      sound = record {
        whole = sound.whole;
        apart = apart_push free b sound.apart at.1;
        below = All-push (λ f. f < count) free b sound.below at.0;
        balance = rw blocks (omega (arith, sound.balance, length_push free b));
        fits = sound.fits;
        free_room = sound.free_room;
        slot_room = sound.slot_room;
      };
      was_live = at.1;
    }

-- what the pool is seen as then
pub seen_given : {T : Type 0} (old_free free : List ℕ) (slots : List T) (count room free_capacity slot_capacity b : ℕ)
    → free ≡ old_free ++ b ∷ [] → Gives old_free slots count room free_capacity slot_capacity b
    → seen free slots count room ≡ given (seen old_free slots count room) b
seen_given old_free free slots count room free_capacity slot_capacity b is gave =
    let spare : length (old_free ++ b ∷ []) + room ≡ length old_free + room + 1 =
    omega (arith, length_push old_free b) in
    rw (is, gave.blocks, spare) refl

-- ---- a block is leased

takes_last : (left : List ℕ) (count b : ℕ) → Takes (left ++ b ∷ []) left count b
takes_last [] count b = refl
takes_last (f ∷ left) count b = refl

no_new_block : (left : List ℕ) (b : ℕ) → new_blocks (left ++ b ∷ []) ≡ 0
no_new_block [] b = refl
no_new_block (f ∷ left) b = refl

-- what a lease leaves
pub record LeasesSoundly {T : Type 0} (old_free free : List ℕ) (old_slots slots : List T)
    (old_count count old_room room free_capacity slot_capacity b : ℕ) (fill : T) : Type 0 where
  pub leases : Leases (seen old_free old_slots old_count old_room) (seen free slots count room) b fill
  pub sound : IsSound free slots count room free_capacity slot_capacity

leased_blocks : {T : Type 0} (left : List ℕ) (old new : List T) (count b : ℕ) (xs : List T) → b < count
    → is_free left b ≡ false → ChangesBlock old new b xs
    → blocks_of left new count ≡ set (blocks_of (left ++ b ∷ []) old count) b (Some xs)
leased_blocks left old new count b xs within is changes =
    differ_at (block_at (left ++ b ∷ []) old) (block_at left new) count b (Some xs) within
    (rw is (ap Some changes.here)) (λ k differs. rw (free_other left b k differs)
    (ap (λ ys. cond (is_free left k) None (Some ys)) (changes.others k differs)))

pub leases_free : {T : Type 0} (left : List ℕ) (old new : List T) (count room free_capacity slot_capacity b : ℕ)
    (fill : T) → IsSound (left ++ b ∷ []) old count room free_capacity slot_capacity
    → ChangesBlock old new b (replicate 64 fill)
    → LeasesSoundly (left ++ b ∷ []) left old new count count room room free_capacity slot_capacity b fill
leases_free {T} left old new count room free_capacity slot_capacity b fill sound changes =
    let before : List (Option (List T)) = blocks_of (left ++ b ∷ []) old count in
    let parts = apart_front left b sound.apart in
    let at : get_or (left ++ b ∷ []) (length left) b ≡ b = get_or_push left b b (length left) refl in
    let in_list : length left < length (left ++ b ∷ []) = omega (arith, length_push left b) in
    let within : b < count = rw at at (sound.below (length left) b in_list) in
    let in_old : b < length before = omega (arith, length-blocks_of (left ++ b ∷ []) old count) in
    let blocks = leased_blocks left old new count b (replicate 64 fill) within parts.1 changes in
    let was : get_or before b None ≡ None = at_number (block_at (left ++ b ∷ []) old) count b None within
    ∙ rw (free_last left b) refl in
    let zero : one_if_live (get_or before b None) ≡ 0 = ap one_if_live was in
    let sums : live_blocks (set before b (Some (replicate 64 fill))) + one_if_live (get_or before b None) ≡ live_blocks
    before + 1 =
    sum_by-set one_if_live before b (Some (replicate 64 fill)) None in_old in
    let more : live_blocks (blocks_of left new count) ≡ live_blocks before + 1 = ap live_blocks blocks ∙ omega arith in
    record {
      leases = record {
        taken = takes_last left (length before) b;
        not_live = was;
        holds = rw blocks (get_or-set_same before b (Some (replicate 64 fill)) None in_old);
        others = λ k differs. rw blocks (get_or-set_other before b k (Some (replicate 64 fill)) None differs);
        count = rw (no_new_block left b) (omega
            (arith, length-blocks_of left new count, length-blocks_of (left ++ b ∷ []) old count));
        live = more;
        spare = omega (arith, length_push left b);
      };
      sound = record {
        whole = changes.same_length ∙ sound.whole;
        apart = parts.0;
        below = λ k d h. rw (get_or_append_left left (b ∷ []) d k h) at
            (sound.below k d (omega (arith, length_push left b)));
        balance = omega (arith, sound.balance, length_push left b);
        fits = sound.fits;
        free_room = sound.free_room;
        slot_room = sound.slot_room;
      };
    }

-- the last of the free blocks is leased again, filled anew
pub leases_again : {T : Type 0} (left : List ℕ) (slots : List T) (count room free_capacity slot_capacity b : ℕ)
    (fill : T) → IsSound (left ++ b ∷ []) slots count room free_capacity slot_capacity
    → LeasesSoundly (left ++ b ∷ []) left slots (with_part (64 * b) 64 slots (replicate 64 fill)) count count room room
    free_capacity slot_capacity b fill
leases_again {T} left slots count room free_capacity slot_capacity b fill sound =
    let within : b < count = rw (get_or_push left b b (length left) refl) at
    (sound.below (length left) b (omega (arith, length_push left b))) in
    let old : List T = take 64 (drop (64 * b) slots) in
    let whole : with_part 0 64 old (replicate 64 fill) ≡ replicate 64 fill =
    rw (drop_all 64 old (omega (arith, length-chunk slots b count sound.whole within))) (append-nil (replicate 64 fill))
    in
    let changes : ChangesBlock slots (with_part (64 * b + 0) 64 slots (replicate 64 fill)) b
    (with_part 0 64 old (replicate 64 fill)) =
    part_changes slots b 0 64 (replicate 64 fill) count sound.whole within (length-replicate 64 fill) (omega arith) in
    let P : ℕ → List T → Type 0 = λ a xs. ChangesBlock slots (with_part a 64 slots (replicate 64 fill)) b xs in
    let at : 64 * b + 0 ≡ 64 * b = omega arith in
    leases_free left slots (with_part (64 * b) 64 slots (replicate 64 fill)) count room free_capacity slot_capacity b
    fill sound (subst (λ xs. P (64 * b) xs) whole
    (subst (λ a. P a (with_part 0 64 old (replicate 64 fill))) at changes))

-- the blocks before a new one are as before
grown_blocks : {T : Type 0} (slots : List T) (count : ℕ) (xs : List T) → length slots ≡ 64 * count → length xs ≡ 64
    → blocks_of [] (slots ++ xs) (count + 1) ≡ blocks_of [] slots count ++ Some xs ∷ []
grown_blocks {T} slots count xs whole full =
    let new : ℕ → Option (List T) = block_at [] (slots ++ xs) in
    let same : (k : ℕ) → k < count → take 64 (drop (64 * k) (slots ++ xs)) ≡ take 64 (drop (64 * k) slots) = λ k within.
    rw (drop-append-le (64 * k) slots xs (omega arith))
    (take-append-le 64 (drop (64 * k) slots) xs (omega (arith, length-drop (64 * k) slots))) in
    let front : map new (range_with_len 0 count) ≡ blocks_of [] slots count =
    same_lists (map new (range_with_len 0 count)) (blocks_of [] slots count)
    (length-blocks_of [] (slots ++ xs) count ∙ sym (length-blocks_of [] slots count)) (λ k d h.
    let within : k < count = omega (arith, length-blocks_of [] (slots ++ xs) count) in
    at_number new count k d within ∙ (ap Some (same k within) ∙ sym (at_number (block_at [] slots) count k d within)))
    in
    let last : new count ≡ Some xs = ap Some (ap (take 64) (drop_at slots xs (64 * count) whole)
    ∙ take_all 64 xs (omega arith)) in
    map-range_with_len_more new 0 count count (omega arith) ∙ rw (front, last) refl

pub leases_new : {T : Type 0} (slots : List T) (count room free_capacity slot_capacity : ℕ) (fill : T)
    → IsSound [] slots count room free_capacity slot_capacity → 0 < room → 64 * (count + 1) < 2 ^ 64
    → LeasesSoundly [] [] slots (slots ++ replicate 64 fill) count (count + 1) room (room - 1) free_capacity
    slot_capacity count fill
leases_new {T} slots count room free_capacity slot_capacity fill sound some fits =
    let before : List (Option (List T)) = blocks_of [] slots count in
    let x : Option (List T) = Some (replicate 64 fill) in
    let before_length : length before ≡ count = length-blocks_of [] slots count in
    let blocks = grown_blocks slots count (replicate 64 fill) sound.whole (length-replicate 64 fill) in
    let more : live_blocks (blocks_of [] (slots ++ replicate 64 fill) (count + 1)) ≡ live_blocks before + 1 =
    ap live_blocks blocks ∙ sum_by_push one_if_live before x in
    record {
      leases = record {
        taken = (refl, sym before_length);
        not_live = get_or_past before count None (omega arith);
        holds = rw blocks (get_or_push before x None count before_length);
        others = λ k differs. rw blocks (elim (cases_lt k count) as
            (λ _. get_or (before ++ x ∷ []) k None ≡ get_or before k None) [
              | inl below ↦ get_or_append_left before (x ∷ []) None k (omega arith)
              | inr above ↦ get_or_past (before ++ x ∷ []) k None (omega (arith, length_push before x))
                  ∙ sym (get_or_past before k None (omega arith))
            ]);
        count = omega (arith, length-blocks_of [] (slots ++ replicate 64 fill) (count + 1));
        live = more;
        spare = omega arith;
      };
      sound = record {
        whole = length-append slots (replicate 64 fill) ∙ omega (arith, sound.whole, length-replicate 64 fill);
        apart = tt;
        below = λ k d h. absurd (omega arith);
        balance = omega (arith, sound.balance);
        fits = fits;
        free_room = omega (arith, sound.free_room);
        slot_room = omega (arith, sound.slot_room);
      };
    }

-- ---- the same, by what the calls on the two vectors say

pub leased_again : {T : Type 0} (old_free left : List ℕ) (old new : List T)
    (count room free_capacity slot_capacity b : ℕ) (fill : T) → old_free ≡ left ++ b ∷ []
    → new ≡ with_part (b * 64) (b * 64 + 64 - b * 64) old (replicate (b * 64 + 64 - b * 64) fill)
    → IsSound old_free old count room free_capacity slot_capacity
    → LeasesSoundly old_free left old new count count room room free_capacity slot_capacity b fill
leased_again {T} old_free left old new count room free_capacity slot_capacity b fill free_is new_is sound =
    let start : b * 64 ≡ 64 * b = omega arith in
    let whole : 64 * b + 64 - 64 * b ≡ 64 = omega arith in
    let filled : new ≡ with_part (64 * b) 64 old (replicate 64 fill) = new_is ∙ rw (start, whole) refl in
    rw (free_is, filled) (leases_again left old count room free_capacity slot_capacity b fill (rw free_is at sound))

pub leased_new : {T : Type 0} (old_free left : List ℕ) (old new : List T)
    (count room free_capacity slot_capacity len : ℕ) (fill : T) (granted : Bool) → old_free ≡ left ++ []
    → len ≡ length old → granted ≡ true → new ≡ cond granted
    (take (count * 64 + 64) old ++ replicate (count * 64 + 64 - len) fill) old
    → IsSound old_free old count room free_capacity slot_capacity → length old_free ≡ 0 → 0 < length old_free + room
    → count * 64 + 64 < 2 ^ 64 → LeasesSoundly old_free left old new count (count + 1) room (room - 1) free_capacity
    slot_capacity count fill
leased_new {T} old_free left old new count room free_capacity slot_capacity len fill granted free_is len_is ok new_is
    sound none some fits =
    let no_free : old_free ≡ [] = nil_from_length old_free none in
    let no_left : left ≡ [] = sym (append-nil left) ∙ (sym free_is ∙ no_free) in
    let more : count * 64 + 64 - len ≡ 64 = omega (arith, sound.whole) in
    let grown : new ≡ old ++ replicate 64 fill = new_is
    ∙ rw (ok, more, take_all (count * 64 + 64) old (omega (arith, sound.whole))) refl in
    rw (no_free, no_left, grown) (leases_new old count room free_capacity slot_capacity fill (rw no_free at sound)
    (omega arith) (omega arith))

-- a pool stays sound where there is more room
pub roomier : {T : Type 0} (free : List ℕ) (slots : List T) (count room free_capacity less more : ℕ) → less ≤ more
    → IsSound free slots count room free_capacity less → IsSound free slots count room free_capacity more
roomier free slots count room free_capacity less more grown sound = record {
  whole = sound.whole;
  apart = sound.apart;
  below = sound.below;
  balance = sound.balance;
  fits = sound.fits;
  free_room = sound.free_room;
  slot_room = omega (arith, sound.slot_room);
}
