-- The symbols of the opening store are those of every later one.
use Rattle.std.proofs.Common.{◌≡◌, ℕ, suc, ◌+◌, ◌<◌, List, [], ◌∷◌, ◌++◌, refl, sym, ap, ◌∙◌, arith, length, length-append, Bool, true, false, true≢false}
use Rattle.std.specs.Prelude.{bytes_eq, is_some, nat_lt, not, position, if◌then◌else◌, Option, Some, None}
use Rattle.std.specs.List.{position_or_len}
use Rattle.std.proofs.lemmas.Bool.{lt-ltb}
use Rattle.std.proofs.lemmas.Bool.Decides.{nat_tests}
use Rattle.rb_value.specs.declared.value.SymId.{SymId}
use Rattle.def_core.specs.Store.{Store, symbol_number}
use Rattle.def_core.specs.Changes.{Interned, intern_at, intern}
use Rattle.rb_store.specs.Opening.{with_names}
use Rattle.ir_core.specs.CoreForm.{Name}
use Rattle.def_calls.specs.Rows
use Rattle.def_eval.specs.Source.{Source, all_names}
use Rattle.step_laws.specs.Site.{opening_store, number, IsThere}

place_more : (f : List ℕ → Bool) (xs ys : List (List ℕ)) → position_or_len f xs < length xs
    → position_or_len f (xs ++ ys) ≡ position_or_len f xs
place_more f [] ys h = absurd (omega (arith, h))
place_more f (x ∷ xs) ys h = at (place_more f xs ys) (f x) h
  where
    at : (position_or_len f xs < length xs → position_or_len f (xs ++ ys) ≡ position_or_len f xs) → (b : Bool)
        → (if not b then 1 + position_or_len f xs else 0) < suc (length xs)
        → (if not b then 1 + position_or_len f (xs ++ ys) else 0) ≡ (if not b then 1 + position_or_len f xs else 0)
    at further true h = refl
    at further false h = ap (λ (n : ℕ). 1 + n) (further (omega (arith, h)))

-- what is found stays where more comes behind
pub position_more : (f : List ℕ → Bool) (xs ys : List (List ℕ)) (i : ℕ) → position f xs ≡ Some i
    → position f (xs ++ ys) ≡ Some i
position_more f xs ys i e = at (nat_lt (position_or_len f xs) (length xs)) refl e
  where
    at : (b : Bool) → nat_lt (position_or_len f xs) (length xs) ≡ b
        → (if b then Some (position_or_len f xs) else None) ≡ Some i → position f (xs ++ ys) ≡ Some i
    at false g h = absurd (cc h)
    at true g h =
        let lt : position_or_len f xs < length xs = grind (arith, nat_tests, g) in
        let same = place_more f xs ys lt in
        let within : nat_lt (position_or_len f (xs ++ ys)) (length (xs ++ ys)) ≡ true =
        lt-ltb (position_or_len f (xs ++ ys)) (length (xs ++ ys)) (omega (arith, same, lt, length-append xs ys)) in
        ap (λ (b : Bool). if b then Some (position_or_len f (xs ++ ys)) else None) within ∙ ap Some same ∙ h

-- a store has the name at that place
pub record Has (st : Store) (x : Name) (i : ℕ) : Type 0 where
  pub at : position (bytes_eq x) st.symbols ≡ Some i

pub has_of : (st : Store) (x : Name) → is_some (position (bytes_eq x) st.symbols) ≡ true
    → (i : ℕ) × Has st x i
has_of st x e = by (position (bytes_eq x) st.symbols) refl e
  where
    by : (o : Option ℕ) → position (bytes_eq x) st.symbols ≡ o → is_some o ≡ true → (i : ℕ) × Has st x i
    by None g h = absurd (true≢false (sym h))
    by (Some i) g h = (i, record { at = g })

pub interned : (st : Store) (x : Name) (i : ℕ) → Has st x i
    → intern st x ≡ record { symbol = symbol_number i; store = st }
unfolding intern
interned st x i h = ap (intern_at st x) h.at

has_interned : (st : Store) (x y : Name) (i : ℕ) → Has st x i → Has (intern st y).store x i
unfolding intern
has_interned st x y i h = by (position (bytes_eq y) st.symbols)
  where
    by : (o : Option ℕ) → Has (intern_at st y o).store x i
    by None = record { at = position_more (bytes_eq x) st.symbols (y ∷ []) i h.at }
    by (Some k) = h

pub has_named : (ns : List Name) (st : Store) (x : Name) (i : ℕ) → Has st x i → Has (with_names st ns) x i
unfolding with_names
has_named [] st x i h = h
has_named (n ∷ ns) st x i h = has_named ns (intern st n).store x i (has_interned st x n i h)

objects_interned : (st : Store) (y : Name) → (intern st y).store.objects ≡ st.objects
unfolding intern
objects_interned st y = by (position (bytes_eq y) st.symbols)
  where
    by : (o : Option ℕ) → (intern_at st y o).store.objects ≡ st.objects
    by None = refl
    by (Some k) = refl

objects_named : (ns : List Name) (st : Store) → (with_names st ns).objects ≡ st.objects
unfolding with_names
objects_named [] st = refl
objects_named (n ∷ ns) st = objects_named ns (intern st n).store ∙ objects_interned st n

-- the opening store of a source
pub opening_has : (s : Source) (x : Name) (i : ℕ) → Has Rows.opening x i → Has (opening_store s) x i
unfolding opening_store
opening_has s x i h = has_named (all_names s) Rows.opening x i h

pub opening_objects : (s : Source) → (opening_store s).objects ≡ Rows.opening.objects
unfolding opening_store
opening_objects s = objects_named (all_names s) Rows.opening

-- a store with the same symbols
pub has_same : (st st' : Store) (x : Name) (i : ℕ) → st'.symbols ≡ st.symbols → Has st x i → Has st' x i
has_same st st' x i e h = record { at = ap (position (bytes_eq x)) e ∙ h.at }

-- a name of the core methods
unfoldable pub IsCoreName : Name → Type 0
IsCoreName x = is_some (position (bytes_eq x) Rows.opening.symbols) ≡ true

unfoldable pub the_symbol : Name → SymId
the_symbol x = (intern Rows.opening x).symbol

pub core_has : (x : Name) → IsCoreName x → (i : ℕ) × Has Rows.opening x i × (the_symbol x ≡ symbol_number i)
unfolding IsCoreName the_symbol
core_has x c =
    let h = has_of Rows.opening x c in
    (h.0, h.1, ap (λ (n : Interned). n.symbol) (interned Rows.opening x h.0 h.1))

pub number_is : (s : Source) (x : Name) → IsCoreName x → number s x ≡ the_symbol x
unfolding number
number_is s x c =
    let h = core_has x c in
    ap (λ (n : Interned). n.symbol) (interned (opening_store s) x h.0 (opening_has s x h.0 h.1)) ∙ sym h.2

pub interned_core : (s : Source) (st : Store) (x : Name) → st.symbols ≡ (opening_store s).symbols → IsCoreName x
    → intern st x ≡ record { symbol = the_symbol x; store = st }
interned_core s st x e c =
    let h = core_has x c in
    interned st x h.0 (has_same (opening_store s) st x h.0 e (opening_has s x h.0 h.1))
    ∙ ap (λ (i : SymId). record { symbol = i; store = st }) (sym h.2)

-- a name of the program keeps its number
pub steady_name : (s : Source) (st : Store) (x : Name) → st.symbols ≡ (opening_store s).symbols → IsThere s x
    → (intern st x).symbol ≡ number s x
unfolding IsThere number
steady_name s st x e t =
    let h = has_of (opening_store s) x t in
    ap (λ (n : Interned). n.symbol) (interned st x h.0 (has_same (opening_store s) st x h.0 e h.1))
    ∙ sym (ap (λ (n : Interned). n.symbol) (interned (opening_store s) x h.0 h.1))
