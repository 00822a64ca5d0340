-- Slots that are reached by their places.
use Rattle.std.proofs.Common.{◌≡◌, ◌≢◌, ℕ, ◌+◌, ◌-◌, ◌*◌, ◌^◌, ◌/◌, ◌%◌, ◌<◌, ◌≤◌, min, List, [], ◌∷◌, ◌++◌, length, get_or, set, take, map, refl, ap, ◌∙◌, subst, arith, inl, inr}
use Rattle.std.specs.Prelude.{Some, None, IsSome, unwrap_or, slice_get}
use Rattle.std.proofs.lemmas.Bool.{cases_lt, cases_eq}
use Rattle.std.proofs.lemmas.List.{get_or_default, get_or_append_left, get_or_past, get_or-take, get_or-set_same, get_or-set_other, set_past, length-append, length-take}
use Rattle.rb_value.specs.declared.value.Value.{Value}
use Rattle.stack_bank.specs.Bank.{Bank, Grows, table, blocks_for, cut, closed, opened}
use Rattle.stack_bank.specs.Window.{Reaches}
use Rattle.stack_bank.specs.declared.window.Window.{Window}
use Rattle.stack_bank.specs.Inside.{Blocks, Held, see, no_stack, block_at, values_at, seen, IsSound}
use Rattle.stack_bank.proofs.Sound.{IsStack, IsSeen, seen_at, live_number}
use Rattle.stack_bank.proofs.Calls.{in_stack, block_live, slot_read, SetsSlot, sets_slot}

-- ---- the window of a run of blocks

-- the window reaches the slots in the blocks up to number run of the table, which follow one another
pub reaches_run :
    (blocks : Blocks) (hs : List Held) (k : ℕ) (h : Held) (w : Window) (n run : ℕ) →
    w.id.0 ≡ k → IsSeen blocks hs k h → w.base + n ≤ h.length → w.near ≡ min n (64 * (run + 1) - w.base) →
    w.start ≡ 64 * get_or h.table (w.base / 64) 0 + w.base % 64 →
    ((j : ℕ) → w.base / 64 ≤ j → j ≤ run → get_or h.table j 0 ≡ get_or h.table (w.base / 64) 0 + (j - w.base / 64)) →
    Reaches (see blocks hs) w
reaches_run blocks hs k h w n run id s within near start follow =
    let is : table (see blocks hs) w.id.0 ≡ h.table = ap (table (see blocks hs)) id ∙ s.table in
    record {
      within = λ i in_near. rw is (omega (arith, s.sized));
      place = λ i in_near. rw is (
          let step = follow ((w.base + i) / 64) (omega arith) (omega arith) in
          omega arith);
    }

-- ---- what is at a place

pub record AtPlace (blocks : Blocks) (hs : List Held) (k p q : ℕ) : Type 0 where
  pub stack : Held
  pub at : IsStack hs k stack
  pub s : IsSeen blocks hs k stack
  pub within : p < stack.length
  pub block : q / 64 ≡ get_or stack.table (p / 64) (q / 64)
  pub place : q % 64 ≡ p % 64
  pub live : IsSome (block_at blocks (q / 64))

pub at_place : (blocks : Blocks) (hs : List Held) (w : Window) (i : ℕ) → IsSound blocks hs → Reaches (see blocks hs) w
    → IsSome (get_or (map (seen blocks) hs) w.id.0 None)
    → w.base + i < length (unwrap_or (get_or (map (seen blocks) hs) w.id.0 None) []) → i < w.near
    → AtPlace blocks hs w.id.0 (w.base + i) (w.start + i)
at_place blocks hs w i sound reaches live within near =
    let k : ℕ = w.id.0 in
    let h : Held = get_or hs k no_stack in
    let in_hs : k < length hs = live_number blocks hs k live in
    let at : IsStack hs k h = record { within = in_hs; is = λ d. get_or_default hs k d no_stack in_hs } in
    let s = seen_at blocks hs k h sound at live in
    let in_h = in_stack blocks hs k (w.base + i) h s within in
    let place : w.start + i ≡ 64 * get_or h.table ((w.base + i) / 64) 0 + (w.base + i) % 64 =
    subst (λ t. w.start + i ≡ 64 * get_or t ((w.base + i) / 64) 0 + (w.base + i) % 64) s.table
    (reaches.place i near) in
    let in_table : (w.base + i) / 64 < length h.table = omega (arith, s.sized) in
    let block : (w.start + i) / 64 ≡ get_or h.table ((w.base + i) / 64) ((w.start + i) / 64) =
    (let b : (w.start + i) / 64 ≡ get_or h.table ((w.base + i) / 64) 0 = omega arith in b)
    ∙ get_or_default h.table ((w.base + i) / 64) 0 ((w.start + i) / 64) in_table in
    record {
      stack = h;
      at = at;
      s = s;
      within = in_h;
      block = block;
      place = omega arith;
      live = block_live blocks h.table ((w.base + i) / 64) ((w.start + i) / 64) s.holds in_table block;
    }

pub place_read : (blocks : Blocks) (hs : List Held) (k p q : ℕ) (v : Value) → AtPlace blocks hs k p q
    → slice_get (values_at blocks (q / 64)) (q % 64) ≡ Some v
    → slice_get (unwrap_or (get_or (map (seen blocks) hs) k None) []) p ≡ Some v
place_read blocks hs k p q v a is =
    slot_read blocks hs k p (q / 64) a.stack v a.s a.within a.block (rw a.place at is)

pub place_written : (blocks : Blocks) (hs : List Held) (k p q : ℕ) (v : Value) → IsSound blocks hs
    → AtPlace blocks hs k p q → SetsSlot blocks
    (set blocks (q / 64) (Some (set (values_at blocks (q / 64)) (q % 64) v))) hs k p v
place_written blocks hs k p q v sound a =
    rw a.place (sets_slot blocks hs k p (q / 64) a.stack v sound a.at a.s a.within a.block)

-- ---- while a window is good

pub reaches_same : (bank after : Bank) (w : Window) → after.tables ≡ bank.tables → Reaches bank w → Reaches after w
reaches_same bank after w same reaches =
    let is : table after w.id.0 ≡ table bank w.id.0 = ap (λ ts. get_or ts w.id.0 []) same in
    record {
      within = λ i near. rw is (reaches.within i near);
      place = λ i near. rw is (reaches.place i near);
    }

-- where the table keeps the blocks that the window reaches
pub reaches_kept : (bank after : Bank) (w : Window)
    → ((j : ℕ) → j < length (table bank w.id.0) → ((i : ℕ) × (i < w.near) × (j ≡ (w.base + i) / 64))
    → (j < length (table after w.id.0)) × (get_or (table after w.id.0) j 0 ≡ get_or (table bank w.id.0) j 0))
    → Reaches bank w → Reaches after w
reaches_kept bank after w kept reaches = record {
  within = λ i near. (kept ((w.base + i) / 64) (reaches.within i near) (i, near, refl)).0;
  place = λ i near. rw ((kept ((w.base + i) / 64) (reaches.within i near) (i, near, refl)).1) (reaches.place i near);
}

-- one table is set
table_set : (ts : List (List ℕ)) (id k j : ℕ) (t : List ℕ) → j < length (get_or ts k [])
    → (k ≡ id → (j < length t) × (get_or t j 0 ≡ get_or (get_or ts k []) j 0))
    → (j < length (get_or (set ts id t) k [])) × (get_or (get_or (set ts id t) k []) j 0 ≡ get_or (get_or ts k []) j 0)
table_set ts id k j t within here = elim (cases_eq k id) as
    (λ _. (j < length (get_or (set ts id t) k []))
    × (get_or (get_or (set ts id t) k []) j 0 ≡ get_or (get_or ts k []) j 0)) [
      | inl same ↦ elim (cases_lt id (length ts)) as
          (λ _. (j < length (get_or (set ts id t) k []))
          × (get_or (get_or (set ts id t) k []) j 0 ≡ get_or (get_or ts k []) j 0)) [
            | inl below ↦
                let is : get_or (set ts id t) k [] ≡ t = ap (λ n. get_or (set ts id t) n []) same
                ∙ get_or-set_same ts id t [] below in
                rw is (here same)
            | inr past ↦ rw (set_past ts id t past) (within, refl)
          ]
      | inr differs ↦ rw (get_or-set_other ts id k t [] differs) (within, refl)
    ]

pub reaches_grown : (old new : Bank) (id n : ℕ) (w : Window) → Grows old new id n → Reaches old w → Reaches new w
reaches_grown old new id n w grows reaches = reaches_kept old new w (λ j within used.
    let set_is = table_set old.tables id w.id.0 j (table old id ++ grows.more) within (λ same.
    let in_old : j < length (table old id) = rw same at within in (
      omega (arith, length-append (table old id) grows.more),
      rw same (get_or_append_left (table old id) grows.more 0 j in_old),
    )) in
    rw grows.tables set_is) reaches

-- a stack is cut above what the window reaches of it
pub reaches_cut : (bank : Bank) (id n : ℕ) (w : Window) → (w.id.0 ≡ id → w.base + w.near ≤ n) → Reaches bank w
    → Reaches (cut bank id n) w
reaches_cut bank id n w above reaches = reaches_kept bank (cut bank id n) w (λ j within used.
    table_set bank.tables id w.id.0 j (take (blocks_for n) (table bank id)) within (λ same.
    let in_old : j < length (table bank id) = rw same at within in
    let reached : w.base + w.near ≤ n = above same in
    let near : used.0 < w.near = used.1 in
    let block : j ≡ (w.base + used.0) / 64 = used.2 in
    let low : j < blocks_for n = omega arith in (
      omega (arith, length-take (blocks_for n) (table bank id)),
      rw same (get_or-take (blocks_for n) (table bank id) j 0 low),
    ))) reaches

pub reaches_closed : (bank : Bank) (id : ℕ) (w : Window) → w.id.0 ≢ id → Reaches bank w → Reaches (closed bank id) w
reaches_closed bank id w differs reaches = reaches_kept bank (closed bank id) w (λ j within used.
    table_set bank.tables id w.id.0 j [] within (λ same. absurd (differs same))) reaches

pub reaches_opened : (bank : Bank) (w : Window) → Reaches bank w → Reaches (opened bank) w
reaches_opened bank w reaches = reaches_kept bank (opened bank) w (λ j within used.
    elim (cases_lt w.id.0 (length bank.tables)) as
    (λ _. (j < length (table (opened bank) w.id.0))
    × (get_or (table (opened bank) w.id.0) j 0 ≡ get_or (table bank w.id.0) j 0)) [
      | inl below ↦ rw (get_or_append_left bank.tables ([] ∷ []) [] w.id.0 below) (within, refl)
      | inr past ↦ absurd (omega (arith, ap length (get_or_past bank.tables w.id.0 [] past)))
    ]) reaches

-- the number of a slot fits
pub slot_fits : (blocks : Blocks) (hs : List Held) (k p : ℕ) → IsSound blocks hs
    → IsSome (get_or (map (seen blocks) hs) k None) → p < length (unwrap_or (get_or (map (seen blocks) hs) k None) [])
    → p < 2 ^ 64
slot_fits blocks hs k p sound live within =
    let h : Held = get_or hs k no_stack in
    let in_hs : k < length hs = live_number blocks hs k live in
    let at : IsStack hs k h = record { within = in_hs; is = λ d. get_or_default hs k d no_stack in_hs } in
    let s = seen_at blocks hs k h sound at live in
    omega (arith, in_stack blocks hs k p h s within, s.fits)
