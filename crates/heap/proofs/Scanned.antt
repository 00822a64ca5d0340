-- Values of a store, and parts of keys, one more at a time.
use Rattle.std.proofs.Common.{◌≡◌, ◌≢◌, ℕ, zero, suc, ◌+◌, ◌<◌, ◌≤◌, List, [], ◌∷◌, ◌++◌, length, Bool, true, false, refl, arith, subst, sym}
use Rattle.std.specs.Prelude.{take, slice_index_or, ◌&&◌, if◌then◌else◌}
use Rattle.rb_value.specs.declared.value.Value.{Value}
use Rattle.rb_value.specs.declared.value.Value.TheVariants.{Nil, True, False, Int, Sym, Obj}
use Rattle.rb_value.specs.declared.key.KeyPart.{KeyPart}
use Rattle.def_core.specs.Store.{Store}
use Rattle.def_core.specs.Sound.{Census, IsValue, SoundPart, AllAre, has_object}
use Rattle.heap.specs.Operands.{own, has, has_all, has_symbol}

pub one_more : (k : Census) (vs : List Value) (n : ℕ) (v : Value) → AllAre (IsValue k) (take n vs) → n < length vs
    → slice_index_or vs n Nil ≡ v → IsValue k v → AllAre (IsValue k) (take (suc n) vs)
one_more k [] n v all lt e is = absurd (omega arith)
one_more k (x ∷ xs) zero v all lt e is = (subst (IsValue k) (sym e) is, tt)
one_more k (x ∷ xs) (suc n) v all lt e is = (all.0, one_more k xs n v all.1 (omega (arith, lt)) e is)

pub all_taken : (k : Census) (vs : List Value) (n : ℕ) → AllAre (IsValue k) (take n vs) → length vs ≤ n → AllAre (IsValue k) vs
all_taken k [] n all le = tt
all_taken k (x ∷ xs) zero all le = absurd (omega arith)
all_taken k (x ∷ xs) (suc n) all le = (all.0, all_taken k xs n all.1 (omega (arith, le)))

pub one_part_more : (k : Census) (ps : List KeyPart) (p : KeyPart) → AllAre (SoundPart k) ps → SoundPart k p
    → AllAre (SoundPart k) (ps ++ p ∷ [])
one_part_more k [] p all is = (is, tt)
one_part_more k (q ∷ ps) p all is = (all.0, one_part_more k ps p all.1 is)

-- Values that the store has, one more at a time.

has_own : (st : Store) (v : Value) → own st v ≡ v → has st v ≡ true
has_own st v = elim v as (λ (x : Value). own st x ≡ x → has st x ≡ true) [
  | Nil ↦ λ _. refl
  | True ↦ λ _. refl
  | False ↦ λ _. refl
  | Int n ↦ λ _. refl
  | Sym name ↦ elim (has_symbol st name) as (λ (b : Bool). (if b then Sym name else Nil) ≡ Sym name → b ≡ true) [
    | true ↦ λ _. refl
    | false ↦ λ e. cc
  ]
  | Obj id ↦ elim (has_object st.objects id) as (λ (b : Bool). (if b then Obj id else Nil) ≡ Obj id → b ≡ true) [
    | true ↦ λ _. refl
    | false ↦ λ e. cc
  ]
]

has_not : (st : Store) (v : Value) → own st v ≢ v → has st v ≡ false
has_not st v = elim (has st v) as (λ (b : Bool). ((if b then v else Nil) ≢ v) → b ≡ false) [
  | true ↦ λ different. absurd (different refl)
  | false ↦ λ _. refl
]

pub has_one_more : (st : Store) (vs : List Value) (n : ℕ) (v : Value) → has_all st (take n vs) ≡ true → n < length vs
    → slice_index_or vs n Nil ≡ v → own st v ≡ v → has_all st (take (suc n) vs) ≡ true
has_one_more st [] n v all lt e is = absurd (omega arith)
has_one_more st (x ∷ xs) zero v all lt e is = rw (e, has_own st v is) refl
has_one_more st (x ∷ xs) (suc n) v all lt e is =
    elim (has st x) as (λ (b : Bool). (b && has_all st (take n xs)) ≡ true → (b && has_all st (take (suc n) xs)) ≡ true) [
      | true ↦ λ rest. has_one_more st xs n v rest (omega (arith, lt)) e is
      | false ↦ λ h. h
    ] all

pub has_all_taken : (st : Store) (vs : List Value) (n : ℕ) → has_all st (take n vs) ≡ true → length vs ≤ n
    → has_all st vs ≡ true
has_all_taken st [] n all le = refl
has_all_taken st (x ∷ xs) zero all le = absurd (omega arith)
has_all_taken st (x ∷ xs) (suc n) all le =
    elim (has st x) as (λ (b : Bool). (b && has_all st (take n xs)) ≡ true → (b && has_all st xs) ≡ true) [
      | true ↦ λ rest. has_all_taken st xs n rest (omega (arith, le))
      | false ↦ λ h. h
    ] all

pub has_not_all : (st : Store) (vs : List Value) (n : ℕ) (v : Value) → n < length vs → slice_index_or vs n Nil ≡ v
    → own st v ≢ v → has_all st vs ≡ false
has_not_all st [] n v lt e not = absurd (omega arith)
has_not_all st (x ∷ xs) zero v lt e not = rw (e, has_not st v not) refl
has_not_all st (x ∷ xs) (suc n) v lt e not =
    elim (has st x) as (λ (b : Bool). (b && has_all st xs) ≡ false) [
      | true ↦ has_not_all st xs n v (omega (arith, lt)) e not
      | false ↦ refl
    ]
