-- Windows of a stack, and what a write to a slot leaves of them.
use Rattle.std.proofs.Common.{◌≡◌, ◌≢◌, ◌⊎◌, ℕ, ◌+◌, ◌-◌, ◌<◌, ◌≤◌, min, List, [], ◌∷◌, ◌++◌, length, get_or, set, take, drop, refl, ap, sym, ◌∙◌, subst, arith, inl, inr}
use Rattle.std.specs.Prelude.{Option, Some, None, IsSome, unwrap_or, slice_get}
use Rattle.std.proofs.lemmas.Bool.{cases_lt, cases_eq}
use Rattle.std.proofs.lemmas.List.{same_lists, length-set, length-take, length-take-le, length-drop, get_or-take, get_or-drop, get_or_past, get_or-set_same, get_or-set_other, get_or-append_right, get_or_append_left, drop-set-add, take_more, append_assoc}
use Rattle.std.proofs.lemmas.Option.{slice_get-get_or, get_or_from_slice_get, slice_get_within}
use Rattle.std.proofs.Math.Seq.{take-set-lt}
use Rattle.rb_value.specs.declared.value.Value.{Value}
use Rattle.stack_bank.specs.Bank.{Bank, stack, IsLive, slots, nil, with_slot}
use Rattle.vm_env.specs.Env.{Env, Open, Closed, contents, Lies, MeetsNot}

-- the n slots from base on
abbrev pub window : ℕ → ℕ → List Value → List Value
window base n xs = take n (drop base xs)

pub length-window : (base n : ℕ) (xs : List Value) → base + n ≤ length xs → length (window base n xs) ≡ n
length-window base n xs within = length-take-le n (drop base xs) (rw (length-drop base xs) (omega arith))

pub window_bound : (base n i : ℕ) (xs : List Value) → i < length (window base n xs) → i < n
window_bound base n i xs within = omega (arith, length-take n (drop base xs))

pub get_or-window : (base n i : ℕ) (xs : List Value) (d : Value) → i < n
    → get_or (window base n xs) i d ≡ get_or xs (base + i) d
get_or-window base n i xs d within = get_or-take n (drop base xs) i d within ∙ get_or-drop base xs i d

pub window_here : (base n i : ℕ) (xs : List Value) (v : Value) → i < n
    → window base n (set xs (base + i) v) ≡ set (window base n xs) i v
window_here base n i xs v within = rw (drop-set-add base xs i v) (take-set-lt n (drop base xs) i v within)

pub window_other : (base n p : ℕ) (xs : List Value) (v : Value) → ((j : ℕ) → j < n → base + j ≢ p)
    → window base n (set xs p v) ≡ window base n xs
window_other base n p xs v outside =
    let lengths : length (window base n (set xs p v)) ≡ length (window base n xs) =
    simp (length-take, length-drop, length-set) refl in
    same_lists _ _ lengths (λ j d in_list.
    let within : j < n = omega (arith, length-take n (drop base (set xs p v))) in
    get_or-window base n j (set xs p v) d within
    ∙ (get_or-set_other xs p (base + j) v d (outside j within) ∙ sym (get_or-window base n j xs d within)))

-- ---- one value of a window

pub window_value : (base n i : ℕ) (xs : List Value) (v : Value) → base + n ≤ length xs → i < n
    → slice_get xs (base + i) ≡ Some v → slice_get (window base n xs) i ≡ Some v
window_value base n i xs v lies within is =
    let slot : get_or (window base n xs) i nil ≡ v = get_or-window base n i xs nil within
    ∙ get_or_from_slice_get xs (base + i) v nil is in
    let size : length (window base n xs) ≡ n = length-window base n xs lies in
    slice_get-get_or (window base n xs) i nil (omega arith) ∙ ap Some slot

-- one value more is copied
pub window_more : (base n i : ℕ) (xs : List Value) (v : Value) (front now : List Value) → base + n ≤ length xs → i < n
    → slice_get xs (base + i) ≡ Some v → now ≡ front ++ window base i xs
    → now ++ v ∷ [] ≡ front ++ window base (i + 1) xs
window_more base n i xs v front now lies within is so_far =
    let slot : get_or (drop base xs) i nil ≡ v = get_or-drop base xs i nil
    ∙ get_or_from_slice_get xs (base + i) v nil is in
    let more : window base (i + 1) xs ≡ window base i xs ++ get_or (drop base xs) i nil ∷ [] =
    take_more (drop base xs) i nil (rw (length-drop base xs) (omega arith)) in
    rw (so_far, more, slot) (append_assoc front (window base i xs) (v ∷ []))

-- ---- a slot of a stack is written

live_within : (bank : Bank) (id : ℕ) → IsLive bank id → id < length bank.stacks
live_within bank id live = elim (cases_lt id (length bank.stacks)) as (λ _. id < length bank.stacks) [
  | inl below ↦ below
  | inr past ↦ absurd (cc (get_or_past bank.stacks id None past))
]

pub slots_here : (bank : Bank) (id p : ℕ) (v : Value) → IsLive bank id
    → slots (with_slot bank id p v) id ≡ set (slots bank id) p v
slots_here bank id p v live = ap (λ o. unwrap_or o [])
    (get_or-set_same bank.stacks id (Some (set (slots bank id) p v)) None (live_within bank id live))

pub slots_other : (bank : Bank) (id k p : ℕ) (v : Value) → k ≢ id → slots (with_slot bank id p v) k ≡ slots bank k
slots_other bank id k p v differs = ap (λ o. unwrap_or o [])
    (get_or-set_other bank.stacks id k (Some (set (slots bank id) p v)) None differs)

-- the window that has the slot
pub contents_here : (bank : Bank) (id base n i : ℕ) (v : Value) → IsLive bank id → i < n
    → contents (with_slot bank id (base + i) v) (Open id base n) ≡ set (contents bank (Open id base n)) i v
contents_here bank id base n i v live within =
    ap (window base n) (slots_here bank id (base + i) v live) ∙ window_here base n i (slots bank id) v within

-- every other window
pub contents_other : (bank : Bank) (other : Env) (id base n i : ℕ) (v : Value) → IsLive bank id → i < n
    → MeetsNot other id base n → contents (with_slot bank id (base + i) v) other ≡ contents bank other
contents_other bank (Open stack from count) id base n i v live within apart =
    elim (cases_eq stack id) as (λ _. contents (with_slot bank id (base + i) v) (Open stack from count) ≡ contents
    bank (Open stack from count)) [
      | inl same ↦
          let here : slots (with_slot bank id (base + i) v) stack ≡ set (slots bank stack) (base + i) v =
          ap (slots (with_slot bank id (base + i) v)) same
          ∙ (slots_here bank id (base + i) v live ∙ ap (λ k. set (slots bank k) (base + i) v) (sym same)) in
          ap (window from count) here
          ∙ window_other from count (base + i) (slots bank stack) v (λ j in_count. apart same j i in_count within)
      | inr differs ↦ ap (window from count) (slots_other bank id stack (base + i) v differs)
    ]
contents_other bank (Closed values) id base n i v live within apart = refl
