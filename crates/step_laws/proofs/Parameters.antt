-- The variables with which the body of a method begins, and the registers in which ENTER puts their values.
use Rattle.std.proofs.Common.{◌≡◌, ℕ, zero, suc, ◌+◌, ◌<◌, ◌≤◌, List, [], ◌∷◌, ◌++◌, refl, sym, ap, ◌∙◌, subst, arith, length, length-set, get_or, set, Bool, true, false, get_or-set_same, get_or-set_other}
use Rattle.std.specs.Prelude.{if◌then◌else◌, Some, None}
use Rattle.rb_value.specs.declared.value.Value.{Value}
use Rattle.rb_value.specs.declared.value.Value.TheVariants.{Nil}
use Rattle.rb_value.specs.declared.exit.Slot.{Slot}
use Rattle.rb_value.specs.declared.exit.Slot.TheVariants.{V}
use Rattle.ir_core.specs.CoreForm.{Local, named, hidden, pattern, rest}
use Rattle.ir_core.specs.Program.{are_same}
use Rattle.scope_resolver.specs.Layout.{Slots, named_slots, block_slot, seek}
use Rattle.scope_resolver.specs.declared.seek.Search.{Search}
use Rattle.scope_resolver.specs.declared.seek.Search.TheVariants.{Found, Past}
use Rattle.def_eval.specs.Configuration.{all_nil}
use Rattle.def_eval.specs.Scopes.{same_local, value_in, with_values}

-- both sides compare locals alike
pub same_is : (x y : Local) → are_same x y ≡ same_local x y
same_is (named x) (named y) = refl
same_is (named x) (hidden d) = refl
same_is (named x) (pattern k) = refl
same_is (named x) rest = refl
same_is (hidden c) (named y) = refl
same_is (hidden c) (hidden d) = refl
same_is (hidden c) (pattern k) = refl
same_is (hidden c) rest = refl
same_is (pattern i) (named y) = refl
same_is (pattern i) (hidden d) = refl
same_is (pattern i) (pattern k) = refl
same_is (pattern i) rest = refl
same_is rest (named y) = refl
same_is rest (hidden d) = refl
same_is rest (pattern k) = refl
same_is rest rest = refl

-- Variables in the order of the slots of a body, with the values that the slots from number k on have.
abbrev pub Lined : Slots → ℕ → (ℕ → Value) → List (Local × Value) → Type 0
Lined [] k f [] = Unit {0}
Lined [] k f (v ∷ vs) = ⊥
Lined (None ∷ ss) k f vs = Lined ss (k + 1) f vs
Lined (Some y ∷ ss) k f [] = ⊥
Lined (Some y ∷ ss) k f (v ∷ vs) = (v.0 ≡ y) × (v.1 ≡ f k) × Lined ss (k + 1) f vs

found_stays : (x : Local) (ss : Slots) (i : ℕ) → seek x ss (Found i) ≡ Found i
found_stays x [] i = refl
found_stays x (s ∷ ss) i = found_stays x ss i

-- Where a local is sought from slot k on: at its slot it has the value of the slot, and else it isn't there.
pub data Sought (x : Local) (k : ℕ) (f : ℕ → Value) (vs : List (Local × Value)) (r : Search) : Type 0 where
  at : (i : ℕ) → k ≤ i → r ≡ Found i → value_in vs x ≡ Some (f i) → Sought x k f vs r
  nowhere : (i : ℕ) → k ≤ i → r ≡ Past i → value_in vs x ≡ None → Sought x k f vs r

further : (x : Local) (k : ℕ) (f : ℕ → Value) (vs : List (Local × Value)) (r : Search) → Sought x (k + 1) f vs r
    → Sought x k f vs r
further x k f vs r (at i le e v) = at i (omega (arith, le)) e v
further x k f vs r (nowhere i le e v) = nowhere i (omega (arith, le)) e v

pub sought : (x : Local) (ss : Slots) (k : ℕ) (f : ℕ → Value) (vs : List (Local × Value)) → Lined ss k f vs
    → Sought x k f vs (seek x ss (Past k))
sought x [] k f [] l = nowhere k (omega arith) refl refl
sought x [] k f (v ∷ vs) l = absurd l
sought x (None ∷ ss) k f vs l = further x k f vs (seek x ss (Past (k + 1))) (sought x ss (k + 1) f vs l)
sought x (Some y ∷ ss) k f [] l = absurd l
sought x (Some y ∷ ss) k f (v ∷ vs) l = by (are_same x y) refl (sought x ss (k + 1) f vs l.2)
  where
    same : (b : Bool) → are_same x y ≡ b → same_local x v.0 ≡ b
    same b e = ap (same_local x) l.0 ∙ sym (same_is x y) ∙ e

    by : (b : Bool) → are_same x y ≡ b → Sought x (k + 1) f vs (seek x ss (Past (k + 1)))
        → Sought x k f (v ∷ vs) (seek x ss (if are_same x y then Found k else Past (k + 1)))
    by true e later = at k (omega arith)
        (ap (λ (t : Bool). seek x ss (if t then Found k else Past (k + 1))) e ∙ found_stays x ss k)
        (ap (λ (t : Bool). if t then Some v.1 else value_in vs x) (same true e) ∙ ap Some l.1)
    by false e later =
        subst (λ (t : Bool). Sought x k f (v ∷ vs) (seek x ss (if t then Found k else Past (k + 1)))) (sym e)
        (beside later)
      where
        beside : Sought x (k + 1) f vs (seek x ss (Past (k + 1)))
            → Sought x k f (v ∷ vs) (seek x ss (Past (k + 1)))
        beside (at i le q u) =
            at i (omega (arith, le)) q (ap (λ (t : Bool). if t then Some v.1 else value_in vs x) (same false e) ∙ u)
        beside (nowhere i le q u) =
            nowhere i (omega (arith, le)) q (ap (λ (t : Bool). if t then Some v.1 else value_in vs x) (same false e) ∙ u)

-- Parameters with their values, before more variables.
pub lined_values : (xs : List Local) (us : List Value) (ss : Slots) (vs : List (Local × Value)) (k : ℕ) (f : ℕ → Value)
    → length us ≡ length xs → ((i : ℕ) → i < length us → f (k + i) ≡ get_or us i Nil) → Lined ss (k + length xs) f vs
    → Lined (named_slots xs ++ ss) k f (with_values xs us ++ vs)
lined_values [] us ss vs k f e are l = subst (λ (i : ℕ). Lined ss i f vs) (omega arith) l
lined_values (x ∷ xs) [] ss vs k f e are l = absurd (omega (arith, e))
lined_values (x ∷ xs) (u ∷ us) ss vs k f e are l = (
  refl,
  sym (subst (λ (i : ℕ). f i ≡ u) (omega arith) (are 0 (omega arith))),
  lined_values xs us ss vs (k + 1) f (omega (arith, e))
      (λ i lt. subst (λ (j : ℕ). f j ≡ get_or us i Nil) (omega arith) (are (suc i) (omega (arith, lt))))
      (subst (λ (i : ℕ). Lined ss i f vs) (omega arith) l),
)

pub lined_nils : (xs : List Local) (k : ℕ) (f : ℕ → Value) → ((i : ℕ) → k ≤ i → f i ≡ Nil)
    → Lined (named_slots xs) k f (all_nil xs)
lined_nils [] k f are = tt
lined_nils (x ∷ xs) k f are =
    (refl, sym (are k (omega arith)), lined_nils xs (k + 1) f (λ i le. are i (omega (arith, le))))

-- The slot of the block, which may have no name.
pub lined_block : (xs : List Local) (u : Value) (ss : Slots) (vs : List (Local × Value)) (k : ℕ) (f : ℕ → Value)
    → length xs ≤ 1 → f k ≡ u → Lined ss (k + 1) f vs
    → Lined (block_slot xs ++ ss) k f (with_values xs (u ∷ []) ++ vs)
lined_block [] u ss vs k f few e l = l
lined_block (x ∷ []) u ss vs k f few e l = (refl, sym e, l)
lined_block (x ∷ y ∷ xs) u ss vs k f few e l = absurd (omega (arith, few))

-- A row of registers that is written from one on.
abbrev pub set_row : List Slot → ℕ → List Value → List Slot
set_row rs a [] = rs
set_row rs a (v ∷ vs) = set_row (set rs a (V v)) (a + 1) vs

pub length_row : (rs : List Slot) (a : ℕ) (vs : List Value) → length (set_row rs a vs) ≡ length rs
length_row rs a [] = refl
length_row rs a (v ∷ vs) = length_row (set rs a (V v)) (a + 1) vs ∙ length-set rs a (V v)

pub row_below : (rs : List Slot) (a i : ℕ) (vs : List Value) → i < a → get_or (set_row rs a vs) i (V Nil) ≡ get_or rs i (V Nil)
row_below rs a i [] lt = refl
row_below rs a i (v ∷ vs) lt =
    row_below (set rs a (V v)) (a + 1) i vs (omega (arith, lt))
    ∙ get_or-set_other rs a i (V v) (V Nil) (omega (arith, lt))

pub row_at : (rs : List Slot) (a i : ℕ) (vs : List Value) → i < length vs → a + length vs ≤ length rs
    → get_or (set_row rs a vs) (a + i) (V Nil) ≡ V (get_or vs i Nil)
row_at rs a i [] lt le = absurd (omega (arith, lt))
row_at rs a zero (v ∷ vs) lt le =
    ap (λ (j : ℕ). get_or (set_row (set rs a (V v)) (a + 1) vs) j (V Nil)) (omega arith)
    ∙ row_below (set rs a (V v)) (a + 1) a vs (omega arith)
    ∙ get_or-set_same rs a (V v) (V Nil) (omega (arith, le))
row_at rs a (suc i) (v ∷ vs) lt le =
    ap (λ (j : ℕ). get_or (set_row (set rs a (V v)) (a + 1) vs) j (V Nil)) (omega arith)
    ∙ row_at (set rs a (V v)) (a + 1) i vs (omega (arith, lt)) (omega (arith, le, length-set rs a (V v)))

pub row_past : (rs : List Slot) (a i : ℕ) (vs : List Value) → a + length vs ≤ i
    → get_or (set_row rs a vs) i (V Nil) ≡ get_or rs i (V Nil)
row_past rs a i [] le = refl
row_past rs a i (v ∷ vs) le =
    row_past (set rs a (V v)) (a + 1) i vs (omega (arith, le))
    ∙ get_or-set_other rs a i (V v) (V Nil) (omega (arith, le))
