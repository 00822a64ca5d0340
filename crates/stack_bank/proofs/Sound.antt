-- All stacks of a bank.
use Rattle.std.proofs.Common.{◌≡◌, ◌≢◌, ◌⊎◌, ℕ, ◌+◌, ◌-◌, ◌^◌, ◌<◌, ◌≤◌, List, [], ◌∷◌, ◌++◌, length, get_or, set, map, Bool, true, false, refl, ap, sym, ◌∙◌, subst, arith, inl, inr}
use Rattle.std.specs.Prelude.{Option, Some, None, IsSome, unwrap_or, sum_by, All, if◌then◌else◌}
use Rattle.std.proofs.lemmas.Bool.{cases_lt, cases_eq}
use Rattle.std.proofs.lemmas.List.{same_lists, map-set, length-map, length-set, get_or-map, get_or_past, get_or-set_same, get_or-set_other}
use Rattle.std.proofs.lemmas.List.Sums.{sum_by-set}
use Rattle.std.proofs.lemmas.List.Elements.{All-set}
use Rattle.rb_value.specs.declared.value.Value.{Value}
use Rattle.slot_pool.specs.Pool.{live_blocks}
use Rattle.stack_bank.specs.declared.blocks.Stack.{Stack}
use Rattle.stack_bank.specs.Bank.{Bank, blocks_for}
use Rattle.stack_bank.specs.Inside.{Blocks, Held, held, see, no_stack, block_at, values_at, slots_of, seen, table_of, table_at, HoldsTable, IsOutside, Moves, IsWhole, IsSound}
use Rattle.stack_bank.proofs.Live.{full_live, same_values}
use Rattle.stack_bank.proofs.Slots.{slots_same}

pub holds_at : (blocks : Blocks) (hs : List Held) (s : ℕ) → IsSound blocks hs → HoldsTable blocks (table_at hs s)
holds_at blocks hs s sound = record {
  full = sound.full s;
  apart = λ i j in_i in_j same. (sound.apart s s i j in_i in_j same).1;
}

-- h is stack k
pub record IsStack (hs : List Held) (k : ℕ) (h : Held) : Type 0 where
  pub within : k < length hs
  pub is : (d : Held) → get_or hs k d ≡ h

pub table_is : (hs : List Held) (k : ℕ) (h : Held) → IsStack hs k h → table_at hs k ≡ h.table
table_is hs k h at = get_or-map table_of hs k h [] at.within ∙ ap table_of (at.is h)

pub whole_at : (blocks : Blocks) (hs : List Held) (k : ℕ) (h : Held) → IsSound blocks hs → IsStack hs k h → IsWhole h
whole_at blocks hs k h sound at = subst IsWhole (at.is h) (sound.whole k h at.within)

-- ---- one stack changes

tables_set : (hs : List Held) (k : ℕ) (h : Held) → map table_of (set hs k h) ≡ set (map table_of hs) k h.table
tables_set hs k h = map-set table_of hs k h

table_here : (hs : List Held) (k : ℕ) (h : Held) → k < length hs → table_at (set hs k h) k ≡ h.table
table_here hs k h within = ap (λ ts. get_or ts k []) (tables_set hs k h)
    ∙ get_or-set_same (map table_of hs) k h.table [] (omega (arith, length-map hs table_of))

table_other : (hs : List Held) (k s : ℕ) (h : Held) → s ≢ k → table_at (set hs k h) s ≡ table_at hs s
table_other hs k s h differs = ap (λ ts. get_or ts s []) (tables_set hs k h)
    ∙ get_or-set_other (map table_of hs) k s h.table [] differs

-- a block of another stack is as before, and not in the table
other_stack : (old new : Blocks) (hs : List Held) (k s j : ℕ) (after : List ℕ) → IsSound old hs
    → Moves old new (table_at hs k) after → s ≢ k → j < length (table_at hs s)
    → (block_at new (get_or (table_at hs s) j 0) ≡ block_at old (get_or (table_at hs s) j 0))
    × IsOutside after (get_or (table_at hs s) j 0)
other_stack old new hs k s j after sound moves differs within =
    let b : ℕ = get_or (table_at hs s) j 0 in
    moves.others b (full_live old b (sound.full s j within))
    (λ i in_i same. differs (sym (sound.apart k s i j in_i within same).0))

pub sound_moves : (old new : Blocks) (hs : List Held) (k : ℕ) (h : Held) → IsSound old hs → k < length hs
    → Moves old new (table_at hs k) h.table → IsWhole h → IsSound new (set hs k h)
sound_moves old new hs k h sound within moves whole =
    let here = table_here hs k h within in
    let P : ℕ → List ℕ → Type 0 = λ s t. (j : ℕ) → j < length t → length (values_at new (get_or t j 0)) ≡ 64 in
    record {
      whole = All-set IsWhole hs k h whole sound.whole;
      full = λ s. elim (cases_eq s k) as (λ _. P s (table_at (set hs k h) s)) [
        | inl same ↦ subst (λ t. P s t) (sym (ap (table_at (set hs k h)) same ∙ here)) moves.holds.full
        | inr differs ↦ subst (λ t. P s t) (sym (table_other hs k s h differs)) (λ j in_j.
            let kept = other_stack old new hs k s j h.table sound moves differs in_j in
            rw (same_values old new (get_or (table_at hs s) j 0) kept.0) (sound.full s j in_j))
      ];
      apart = λ s t i j.
          let Q : List ℕ → List ℕ → Type 0 = λ a b. i < length a → j < length b → get_or a i 0 ≡ get_or b j 0 → (s ≡ t)
          × (i ≡ j) in
          elim (cases_eq s k) as (λ _. Q (table_at (set hs k h) s) (table_at (set hs k h) t)) [
            | inl s_is ↦ subst (λ a. Q a (table_at (set hs k h) t)) (sym (ap (table_at (set hs k h)) s_is ∙ here)) (
                elim (cases_eq t k) as (λ _. Q h.table (table_at (set hs k h) t)) [
                  | inl t_is ↦ subst (λ b. Q h.table b) (sym (ap (table_at (set hs k h)) t_is ∙ here))
                      (λ in_i in_j same. (s_is ∙ sym t_is, moves.holds.apart i j in_i in_j same))
                  | inr differs ↦ subst (λ b. Q h.table b) (sym (table_other hs k t h differs))
                      (λ in_i in_j same. absurd
                      ((other_stack old new hs k t j h.table sound moves differs in_j).1 i in_i same))
                ])
            | inr s_differs ↦ subst (λ a. Q a (table_at (set hs k h) t)) (sym (table_other hs k s h s_differs)) (
                elim (cases_eq t k) as (λ _. Q (table_at hs s) (table_at (set hs k h) t)) [
                  | inl t_is ↦ subst (λ b. Q (table_at hs s) b) (sym (ap (table_at (set hs k h)) t_is ∙ here))
                      (λ in_i in_j same. absurd
                      ((other_stack old new hs k s i h.table sound moves s_differs in_i).1 j in_j (sym same)))
                  | inr differs ↦ subst (λ b. Q (table_at hs s) b) (sym (table_other hs k t h differs))
                      (λ in_i in_j same. sound.apart s t i j in_i in_j same)
                ])
          ];
      total =
          let sums : sum_by length (set (map table_of hs) k h.table) + length (get_or (map table_of hs) k []) ≡ sum_by
          length (map table_of hs) + length h.table =
          sum_by-set length (map table_of hs) k h.table [] (omega (arith, length-map hs table_of)) in
          ap (sum_by length) (tables_set hs k h) ∙ omega (arith, sound.total, moves.count);
    }

-- the other stacks are seen as before
pub seen_moves : (old new : Blocks) (hs : List Held) (k : ℕ) (h : Held) → IsSound old hs
    → Moves old new (table_at hs k) h.table → map (seen new) (set hs k h) ≡ set (map (seen old) hs) k (seen new h)
seen_moves old new hs k h sound moves =
    let x : Option (List Value) = seen new h in
    let lengths : length (set (map (seen new) hs) k x) ≡ length (set (map (seen old) hs) k x) =
    length-set (map (seen new) hs) k x ∙ (length-map hs (seen new)
    ∙ sym (length-set (map (seen old) hs) k x ∙ length-map hs (seen old))) in
    map-set (seen new) hs k h ∙ same_lists _ _ lengths (λ s d in_list.
    let within : s < length hs = omega (arith, length-set (map (seen new) hs) k x, length-map hs (seen new)) in
    elim (cases_eq s k) as (λ _. get_or (set (map (seen new) hs) k x) s d ≡ get_or (set (map (seen old) hs) k x) s d) [
      | inl same ↦
          rw same (get_or-set_same (map (seen new) hs) k x d (omega (arith, length-map hs (seen new)))
          ∙ sym (get_or-set_same (map (seen old) hs) k x d (omega (arith, length-map hs (seen old)))))
      | inr differs ↦
          let g : Held = get_or hs s no_stack in
          let table : table_at hs s ≡ g.table = get_or-map table_of hs s no_stack [] within in
          let same_blocks : (j : ℕ) → j < length g.table
          → block_at new (get_or g.table j 0) ≡ block_at old (get_or g.table j 0) =
          subst (λ t. (j : ℕ) → j < length t → block_at new (get_or t j 0) ≡ block_at old (get_or t j 0)) table
          (λ j in_j. (other_stack old new hs k s j h.table sound moves differs in_j).0) in
          let slots : slots_of new g.table g.length ≡ slots_of old g.table g.length =
          slots_same old new g.table g.length (sound.whole s no_stack within).sized same_blocks in
          get_or-set_other (map (seen new) hs) k s x d differs
          ∙ (get_or-map (seen new) hs s no_stack d within
          ∙ (rw slots refl
          ∙ sym (get_or-set_other (map (seen old) hs) k s x d differs ∙ get_or-map (seen old) hs s no_stack d within)))
    ])

-- ---- the stacks that a bank holds are those of its vector

pub stack_at : (items : List Stack) (k : ℕ) (x : Stack) → x ≡ get_or items k x → k < length items
    → IsStack (map held items) k (held x)
stack_at items k x is within = record {
  within = omega (arith, length-map items held);
  is = λ d. get_or-map held items k x d within ∙ sym (ap held is);
}

live_here : (blocks : Blocks) (h : Held) → IsSome (seen blocks h) → h.live ≡ true
live_here blocks h live = elim (h.live) as (λ t. IsSome (if t then Some (slots_of blocks h.table h.length) else None)
    → t ≡ true) [
      | true ↦ λ _. refl
      | false ↦ λ some. cc some
    ] live

pub seen_live : (blocks : Blocks) (h : Held) → h.live ≡ true → seen blocks h ≡ Some (slots_of blocks h.table h.length)
seen_live blocks h live = rw live refl

-- the number of a live stack is the number of one
pub live_number : (blocks : Blocks) (hs : List Held) (k : ℕ) → IsSome (get_or (map (seen blocks) hs) k None)
    → k < length hs
live_number blocks hs k live = elim (cases_lt k (length hs)) as (λ _. k < length hs) [
  | inl below ↦ below
  | inr past ↦ absurd (cc (get_or_past (map (seen blocks) hs) k None (omega (arith, length-map hs (seen blocks)))))
]

-- what is seen of stack k where it is live
pub record IsSeen (blocks : Blocks) (hs : List Held) (k : ℕ) (h : Held) : Type 0 where
  pub live : h.live ≡ true
  pub stack : get_or (map (seen blocks) hs) k None ≡ Some (slots_of blocks h.table h.length)
  pub slots : unwrap_or (get_or (map (seen blocks) hs) k None) [] ≡ slots_of blocks h.table h.length
  pub table : get_or (map table_of hs) k [] ≡ h.table
  pub holds : HoldsTable blocks h.table
  pub sized : length h.table ≡ blocks_for h.length
  pub fits : h.length < 2 ^ 64

pub seen_at : (blocks : Blocks) (hs : List Held) (k : ℕ) (h : Held) → IsSound blocks hs → IsStack hs k h
    → IsSome (get_or (map (seen blocks) hs) k None) → IsSeen blocks hs k h
seen_at blocks hs k h sound at some =
    let is : get_or (map (seen blocks) hs) k None ≡ seen blocks h = get_or-map (seen blocks) hs k h None at.within
    ∙ ap (seen blocks) (at.is h) in
    let live : h.live ≡ true = live_here blocks h (rw is at some) in
    let stack : get_or (map (seen blocks) hs) k None ≡ Some (slots_of blocks h.table h.length) = is
    ∙ seen_live blocks h live in
    let table : table_at hs k ≡ h.table = table_is hs k h at in
    record {
      live = live;
      stack = stack;
      slots = ap (λ o. unwrap_or o []) stack;
      table = table;
      holds = subst (HoldsTable blocks) table (holds_at blocks hs k sound);
      sized = (whole_at blocks hs k h sound at).sized;
      fits = (whole_at blocks hs k h sound at).fits;
    }

-- ---- what the calls leave

-- the stacks after a change of stack k, and what they are seen as
pub record Changes (old new : Blocks) (hs : List Held) (k : ℕ) (h : Held) : Type 0 where
  pub sound : IsSound new (set hs k h)
  pub seen_as : see new (set hs k h) ≡ record {
    stacks = set (map (seen old) hs) k (seen new h);
    tables =
        set (map table_of hs) k h.table;
  }

pub changes : (old new : Blocks) (hs : List Held) (k : ℕ) (before h : Held) → IsSound old hs → IsStack hs k before
    → Moves old new before.table h.table → IsWhole h → Changes old new hs k h
changes old new hs k before h sound at moves whole =
    let moves' : Moves old new (table_at hs k) h.table =
    subst (λ t. Moves old new t h.table) (sym (table_is hs k before at)) moves in
    record {
      sound = sound_moves old new hs k h sound at.within moves' whole;
      seen_as = rw (seen_moves old new hs k h sound moves', tables_set hs k h) refl;
    }
