-- What the calls of a bank do.
use Rattle.std.proofs.Common.{◌≡◌, ◌≢◌, ◌⊎◌, ℕ, ◌+◌, ◌-◌, ◌*◌, ◌/◌, ◌%◌, ◌<◌, ◌≤◌, List, [], ◌∷◌, ◌++◌, length, get_or, set, take, map, replicate, sum, Bool, true, false, refl, ap, sym, ◌∙◌, subst, arith, inl, inr}
use Rattle.std.specs.Prelude.{Option, Some, None, Result, Ok, Err, IsSome, OnOk, OnErr, unwrap_or, slice_get, sum_by, All}
use Rattle.std.proofs.lemmas.Bool.{cases_lt, cases_eq}
use Rattle.std.proofs.lemmas.List.{same_lists, map-set, map_push, length-map, length-set, length-take-le, length_push, get_or-map, get_or_past, get_or_push, get_or_append_left, get_or-set_same, get_or-set_other, get_or_default, set-get_or}
use Rattle.std.proofs.lemmas.List.Sums.{sum_by-set, sum_by_push, sum-map}
use Rattle.std.proofs.lemmas.List.Elements.{All-push}
use Rattle.std.proofs.lemmas.Option.{slice_get-get_or, get_or_from_slice_get}
use Rattle.rb_value.specs.declared.value.Value.{Value}
use Rattle.slot_pool.specs.Pool.{live_blocks}
use Rattle.stack_bank.specs.declared.blocks.Stack.{Stack}
use Rattle.stack_bank.specs.Bank.{Bank, Grows, nil, blocks_for, blocks_of, shrunk, with_slot, closed}
use Rattle.stack_bank.specs.Inside.{Blocks, Held, held, see, no_stack, block_at, values_at, slot_at, slots_of, seen, table_of, table_at, HoldsTable, Moves, Drops, StackGrows, IsWhole, IsSound}
use Rattle.stack_bank.proofs.Live.{full_live}
use Rattle.stack_bank.proofs.Moves.{moves_none, write_step}
use Rattle.stack_bank.proofs.Slots.{length-slots_of, get_or-slots_of, first_slots, slot_written}
use Rattle.stack_bank.proofs.Sound.{IsStack, IsSeen, Changes, stack_at, seen_at, seen_live, live_number, changes, table_is, whole_at}

-- ---- the stack of a number

pub the_place : (blocks : Blocks) (items : List Stack) (k : ℕ) (x : Stack)
    → IsSome (get_or (map (seen blocks) (map held items)) k None) → x ≡ get_or items k x
    → IsStack (map held items) k (held x)
the_place blocks items k x live is = stack_at items k x is
    (omega (arith, live_number blocks (map held items) k live, length-map items held))

pub the_stack : (blocks : Blocks) (items : List Stack) (k : ℕ) (x : Stack) → IsSound blocks (map held items)
    → IsSome (get_or (map (seen blocks) (map held items)) k None) → x ≡ get_or items k x
    → IsSeen blocks (map held items) k (held x)
the_stack blocks items k x sound live is = seen_at blocks (map held items) k (held x) sound
    (the_place blocks items k x live is) live

pub in_stack : (blocks : Blocks) (hs : List Held) (k i : ℕ) (h : Held) → IsSeen blocks hs k h
    → i < length (unwrap_or (get_or (map (seen blocks) hs) k None) []) → i < h.length
in_stack blocks hs k i h s within = omega (arith, ap length s.slots, length-slots_of blocks h.table h.length)

pub up_to_stack : (blocks : Blocks) (hs : List Held) (k n : ℕ) (h : Held) → IsSeen blocks hs k h
    → n ≤ length (unwrap_or (get_or (map (seen blocks) hs) k None) []) → n ≤ h.length
up_to_stack blocks hs k n h s within = omega (arith, ap length s.slots, length-slots_of blocks h.table h.length)

-- ---- a slot is read or written

pub block_live : (blocks : Blocks) (table : List ℕ) (j b : ℕ) → HoldsTable blocks table → j < length table
    → b ≡ get_or table j b → IsSome (block_at blocks b)
block_live blocks table j b holds within is =
    let at : get_or table j 0 ≡ b = sym (is ∙ get_or_default table j b 0 within) in
    full_live blocks b (rw at at (holds.full j within))

pub slot_read : (blocks : Blocks) (hs : List Held) (k i b : ℕ) (h : Held) (v : Value) → IsSeen blocks hs k h
    → i < h.length → b ≡ get_or h.table (i / 64) b → slice_get (values_at blocks b) (i % 64) ≡ Some v
    → slice_get (unwrap_or (get_or (map (seen blocks) hs) k None) []) i ≡ Some v
slot_read blocks hs k i b h v s within is read =
    let at : get_or h.table (i / 64) 0 ≡ b = sym (is ∙ get_or_default h.table (i / 64) b 0 (omega (arith, s.sized))) in
    let slot : slot_at blocks h.table i ≡ v = rw at (get_or_from_slice_get (values_at blocks b) (i % 64) v nil read) in
    rw s.slots (slice_get-get_or (slots_of blocks h.table h.length) i nil
    (omega (arith, length-slots_of blocks h.table h.length))
    ∙ ap Some (get_or-slots_of blocks h.table h.length i nil within ∙ slot))

pub record SetsSlot (old new : Blocks) (hs : List Held) (k i : ℕ) (v : Value) : Type 0 where
  pub sound : IsSound new hs
  pub seen_as : see new hs ≡ with_slot (see old hs) k i v

pub sets_slot : (blocks : Blocks) (hs : List Held) (k i b : ℕ) (h : Held) (v : Value) → IsSound blocks hs
    → IsStack hs k h → IsSeen blocks hs k h → i < h.length → b ≡ get_or h.table (i / 64) b
    → SetsSlot blocks (set blocks b (Some (set (values_at blocks b) (i % 64) v))) hs k i v
sets_slot blocks hs k i b h v sound at s within is =
    let in_table : i / 64 < length h.table = omega (arith, s.sized) in
    let is' : b ≡ get_or h.table (i / 64) 0 = is ∙ get_or_default h.table (i / 64) b 0 in_table in
    let full : length (values_at blocks b) ≡ 64 = rw (sym is') at (s.holds.full (i / 64) in_table) in
    let xs : List Value = set (values_at blocks b) (i % 64) v in
    let new : Blocks = set blocks b (Some xs) in
    let moves : Moves blocks new h.table h.table =
    write_step blocks blocks h.table h.table b (i / 64) xs (moves_none blocks h.table s.holds) in_table (sym is')
    (length-set (values_at blocks b) (i % 64) v ∙ full) in
    let changed : Changes blocks new hs k h =
    changes blocks new hs k h h sound at moves (whole_at blocks hs k h sound at) in
    let same : set hs k h ≡ hs = ap (set hs k) (sym (at.is h)) ∙ set-get_or hs k h in
    let slots : slots_of new h.table h.length ≡ set (slots_of blocks h.table h.length) i v =
    slot_written blocks h.table h.length i b v s.holds s.sized within is' in
    let tables : set (map table_of hs) k h.table ≡ map table_of hs = ap (set (map table_of hs) k) (sym s.table)
    ∙ set-get_or (map table_of hs) k [] in
    record {
      sound = subst (IsSound new) same changed.sound;
      seen_as = ap (see new) (sym same) ∙ (changed.seen_as ∙ rw (seen_live new h s.live, slots, tables, s.slots) refl);
    }

-- ---- a stack is closed, or cut

pub record Ends (old new : Blocks) (hs : List Held) (k : ℕ) (h : Held) (to : Bank) : Type 0 where
  pub sound : IsSound new (set hs k h)
  pub seen_as : see new (set hs k h) ≡ to

pub closes : (old new : Blocks) (hs : List Held) (k : ℕ) (h : Held) (after : List ℕ) → IsSound old hs → IsStack hs k h
    → Drops old new h.table after 0 → Ends old new hs k (record { live = false; length = 0; table = after })
    (closed (see old hs) k)
closes old new hs k h after sound at drops =
    let changed : Changes old new hs k (record { live = false; length = 0; table = after }) =
    changes old new hs k h (record { live = false; length = 0; table = after }) sound at drops.moves
    (record { sized = rw drops.front (omega arith); fits = omega arith; closed = λ _. refl }) in
    record {
      sound = changed.sound;
      seen_as = changed.seen_as ∙ rw drops.front refl;
    }

pub shrinks : (old new : Blocks) (hs : List Held) (k n keep : ℕ) (h : Held) (after : List ℕ) → IsSound old hs
    → IsStack hs k h → IsSeen old hs k h → n ≤ h.length → keep ≡ blocks_for (h.length - n)
    → Drops old new h.table after keep → Ends old new hs k
    (record { live = h.live; length = h.length - n; table = after }) (shrunk (see old hs) k n)
shrinks old new hs k n keep h after sound at s within keep_is drops =
    let m : ℕ = h.length - n in
    let g : Held = record { live = h.live; length = h.length - n; table = after } in
    let enough : keep ≤ length h.table = omega (arith, s.sized) in
    let sized : length after ≡ blocks_for m = ap length drops.front ∙ (length-take-le keep h.table enough ∙ keep_is) in
    let changed : Changes old new hs k g = changes old new hs k h g sound at drops.moves
    (record { sized = sized; fits = omega (arith, s.fits); closed = λ dead. cc (s.live, dead) }) in
    let slots : slots_of new after m ≡ take m (slots_of old h.table h.length) =
    first_slots old new h.table after h.length m keep s.sized (omega arith) keep_is drops in
    let size : length (slots_of old h.table h.length) ≡ h.length = length-slots_of old h.table h.length in
    let after_is : after ≡ take (blocks_for m) h.table = drops.front ∙ ap (λ j. take j h.table) keep_is in
    record {
      sound = changed.sound;
      seen_as = changed.seen_as ∙ rw (seen_live new g s.live, slots, after_is, s.slots, s.table, size) refl;
    }

-- ---- a stack grows

pub grows_sound : {T E : Type 0} (r : Result T E) (old new : Blocks) (hs : List Held) (k n : ℕ) (before h : Held)
    → IsSound old hs → IsStack hs k before → IsSeen old hs k before → OnOk r (StackGrows old new before h n)
    → OnErr r (new ≡ old) → OnErr r (h ≡ before) → IsSound new (set hs k h)
grows_sound (Ok u) old new hs k n before h sound at s grows same_blocks same_stack =
    (changes old new hs k before h sound at grows.moves
    (record { sized = grows.sized; fits = grows.fits; closed = λ dead. cc (s.live, grows.live, dead) })).sound
grows_sound (Err e) old new hs k n before h sound at s grows same_blocks same_stack =
    let same : set hs k h ≡ hs = ap (set hs k) (same_stack ∙ sym (at.is before)) ∙ set-get_or hs k before in
    rw (same, same_blocks) sound

pub grows_ok : {T E : Type 0} (r : Result T E) (old new : Blocks) (hs : List Held) (k n : ℕ) (before h : Held)
    → IsSound old hs → IsStack hs k before → IsSeen old hs k before → OnOk r (StackGrows old new before h n)
    → OnOk r (Grows (see old hs) (see new (set hs k h)) k n)
grows_ok (Ok u) old new hs k n before h sound at s grows =
    let changed : Changes old new hs k h = changes old new hs k before h sound at grows.moves
    (record { sized = grows.sized; fits = grows.fits; closed = λ dead. cc (s.live, grows.live, dead) }) in
    record {
      stacks = ap (λ b. b.stacks) changed.seen_as
          ∙ rw (seen_live new h (grows.live ∙ s.live), grows.slots, s.slots) refl;
      more = grows.more;
      tables = ap (λ b. b.tables) changed.seen_as ∙ rw (grows.behind, s.table) refl;
    }
grows_ok (Err e) old new hs k n before h sound at s grows = grows

pub grows_err : {T E : Type 0} (r : Result T E) (old new : Blocks) (hs : List Held) (k : ℕ) (before h : Held)
    → IsStack hs k before → OnErr r (new ≡ old) → OnErr r (h ≡ before) → OnErr r (see new (set hs k h) ≡ see old hs)
grows_err (Ok u) old new hs k before h at same_blocks same_stack = same_blocks
grows_err (Err e) old new hs k before h at same_blocks same_stack =
    let same : set hs k h ≡ hs = ap (set hs k) (same_stack ∙ sym (at.is before)) ∙ set-get_or hs k before in
    rw (same, same_blocks) refl

-- ---- a stack is opened

table_pushed : (hs : List Held) (s : ℕ) → table_at (hs ++ no_stack ∷ []) s ≡ table_at hs s
table_pushed hs s =
    let pushed : map table_of (hs ++ no_stack ∷ []) ≡ map table_of hs ++ [] ∷ [] = map_push table_of hs no_stack in
    let size : length (map table_of hs) ≡ length hs = length-map hs table_of in
    ap (λ ts. get_or ts s []) pushed ∙ (elim (cases_lt s (length hs)) as
    (λ _. get_or (map table_of hs ++ [] ∷ []) s [] ≡ get_or (map table_of hs) s []) [
      | inl below ↦ get_or_append_left (map table_of hs) ([] ∷ []) [] s (omega arith)
      | inr above ↦ elim (cases_eq s (length hs)) as
          (λ _. get_or (map table_of hs ++ [] ∷ []) s [] ≡ get_or (map table_of hs) s []) [
            | inl last ↦ get_or_push (map table_of hs) [] [] s (size ∙ sym last)
                ∙ sym (get_or_past (map table_of hs) s [] (omega arith))
            | inr differs ↦ get_or_past (map table_of hs ++ [] ∷ []) s [] (omega (arith, length_push (map table_of hs) []))
                ∙ sym (get_or_past (map table_of hs) s [] (omega arith))
          ]
    ])

pub opens : (blocks : Blocks) (items after : List Stack) (x : Stack) → after ≡ items ++ x ∷ [] → held x ≡ no_stack
    → IsSound blocks (map held items) → IsSound blocks (map held after)
opens blocks items after x pushed is sound =
    let hs : List Held = map held items in
    let now : map held after ≡ hs ++ no_stack ∷ [] = ap (map held) pushed
    ∙ (map_push held items x ∙ ap (λ h. hs ++ h ∷ []) is) in
    rw now (record {
      whole = All-push IsWhole hs no_stack sound.whole
          (record { sized = omega arith; fits = omega arith; closed = λ dead. refl });
      full = λ s j. rw (table_pushed hs s) (sound.full s j);
      apart = λ s t i j. rw (table_pushed hs s, table_pushed hs t) (sound.apart s t i j);
      total = ap (sum_by length) (map_push table_of hs no_stack)
          ∙ (sum_by_push length (map table_of hs) [] ∙ omega (arith, sound.total));
    })

-- ---- how many blocks there are

blocks_seen : (blocks : Blocks) (h : Held) → IsWhole h → length h.table ≡ blocks_of (seen blocks h)
blocks_seen blocks h whole = elim (h.live) as (λ t. (h.live ≡ t) → length h.table ≡ blocks_of (seen blocks h)) [
  | true ↦ λ live. rw live (whole.sized ∙ ap blocks_for (sym (length-slots_of blocks h.table h.length)))
  | false ↦ λ dead. rw dead (whole.sized ∙ ap blocks_for (whole.closed dead))
] refl

pub all_blocks : (blocks : Blocks) (hs : List Held) → IsSound blocks hs
    → live_blocks blocks ≡ sum_by blocks_of (map (seen blocks) hs)
all_blocks blocks hs sound =
    let lengths : length (map length (map table_of hs)) ≡ length (map blocks_of (map (seen blocks) hs)) =
    length-map (map table_of hs) length ∙ (length-map hs table_of
    ∙ sym (length-map (map (seen blocks) hs) blocks_of ∙ length-map hs (seen blocks))) in
    let same : map length (map table_of hs) ≡ map blocks_of (map (seen blocks) hs) =
    same_lists _ _ lengths (λ s d in_list.
    let within : s < length hs = omega (arith, length-map (map table_of hs) length, length-map hs table_of) in
    let h : Held = get_or hs s no_stack in
    get_or-map length (map table_of hs) s [] d (omega (arith, length-map hs table_of))
    ∙ (ap length (get_or-map table_of hs s no_stack [] within)
    ∙ (blocks_seen blocks h (sound.whole s no_stack within)
    ∙ sym (get_or-map blocks_of (map (seen blocks) hs) s None d (omega (arith, length-map hs (seen blocks)))
    ∙ ap blocks_of (get_or-map (seen blocks) hs s no_stack None within))))) in
    sym sound.total ∙ (sym (sum-map length (map table_of hs))
    ∙ (ap sum same ∙ sum-map blocks_of (map (seen blocks) hs)))
