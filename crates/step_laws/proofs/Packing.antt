-- What an Array of arguments leaves as it is: the numbers of names, and what is called.
use Rattle.std.proofs.Common.{◌≡◌, ℕ, ◌+◌, ◌<◌, List, [], ◌∷◌, refl, sym, ap, ◌∙◌, arith, length, Bool, true, false}
use Rattle.std.specs.Prelude.{Option, Some, None, unwrap_or, position, bytes_eq}
use Rattle.std.proofs.lemmas.List.{get_or_push}
use Rattle.rb_value.specs.declared.value.Value.{Value}
use Rattle.rb_value.specs.declared.value.Value.TheVariants.{Obj}
use Rattle.rb_value.specs.declared.value.SymId.{SymId}
use Rattle.rb_value.specs.declared.exit.Slot.TheVariants.{V}
use Rattle.rb_value.specs.declared.key.Key.{Key}
use Rattle.rb_value.specs.declared.hash.HashContents.{HashContents}
use Rattle.rb_value.specs.declared.hash.HashItem.{HashItem}
use Rattle.rb_value.specs.Object.{Object}
use Rattle.rb_integer.specs.declared.ends.Bounds.{Bounds}
use Rattle.rb_integer.specs.declared.ends.Bounds.TheVariants.{Integers, Bytes}
use Rattle.rb_integer.specs.declared.ends.Ends.{Ends}
use Rattle.rb_integer.specs.declared.ends.Item.{Item}
use Rattle.rb_integer.specs.Ends as ends
use Rattle.def_core.specs.Bind.{elements_of, elements_in}
use Rattle.def_core.specs.Changes.{intern_at, intern}
use Rattle.def_core.specs.Store.{Store, absent, symbol_number, next_number, with_object}
use Rattle.def_rows.specs.Answers.{items_object}
use Rattle.def_rows.specs.RangeRows.{range_of, items}
use Rattle.def_calls.specs.Views.{kind_in, hash_of}
use Rattle.def_calls.specs.World.{World}
use Rattle.def_calls.specs.Values.{pairs_of, splat_hash, splat_items, splat_range, splat_array, splat}
use Rattle.def_eval.specs.Source.{Source}
use Rattle.def_machine.specs.State.{Registers, put}
use Rattle.step_laws.specs.Site.{Site}
use Rattle.step_laws.specs.Calm.{IsSteady}
use Rattle.step_laws.specs.Behind.{Holds, HoldsCall}
use Rattle.step_laws.proofs.Registers.{slot_other}

-- The number of a name is by the symbols alone.

abbrev number_by : Option ℕ → List (List ℕ) → SymId
number_by (Some i) ss = symbol_number i
number_by None ss = symbol_number (length ss)

interned_by : (st : Store) (x : List ℕ) (o : Option ℕ) → (intern_at st x o).symbol ≡ number_by o st.symbols
interned_by st x (Some i) = refl
interned_by st x None = refl

symbol_by : (st su : Store) (x : List ℕ) → su.symbols ≡ st.symbols → (intern su x).symbol ≡ (intern st x).symbol
unfolding intern
symbol_by st su x e =
    interned_by su x (position (bytes_eq x) su.symbols)
    ∙ ap (λ (ss : List (List ℕ)). number_by (position (bytes_eq x) ss) ss) e
    ∙ sym (interned_by st x (position (bytes_eq x) st.symbols))

pub steady_kept : (s : Source) (w u : World) → u.store.symbols ≡ w.store.symbols → IsSteady s w → IsSteady s u
steady_kept s w u e steady = record { names = λ x there. symbol_by w.store u.store x e ∙ steady.names x there }

-- A splat adds no symbol.

pairs_symbols : (ps : List (Key × HashItem)) (st : Store) → (pairs_of ps st).store.symbols ≡ st.symbols
pairs_symbols [] st = refl
pairs_symbols (p ∷ ps) st = pairs_symbols ps (with_object st (items_object (p.1.shown ∷ p.1.value ∷ [])))

hash_symbols : (st : Store) (v : Value) (o : Option HashContents) → (splat_hash st v o).store.symbols ≡ st.symbols
hash_symbols st v None = refl
hash_symbols st v (Some h) = pairs_symbols h.pairs st

items_symbols : (st : Store) (b : Bounds) (found : List Item) → (splat_items st b found).store.symbols ≡ st.symbols
items_symbols st (Integers a b) found = refl
items_symbols st (Bytes a b) found = refl

range_symbols : (st : Store) (v : Value) (o : Option Ends) → (splat_range st v o).store.symbols ≡ st.symbols
range_symbols st v None = hash_symbols st v (hash_of (kind_in st.objects v))
range_symbols st v (Some e) = items_symbols st e.bounds (items e.bounds (ends.count e.bounds e.is_exclusive))

array_symbols : (st : Store) (v : Value) (o : Option (List Value)) → (splat_array st v o).store.symbols ≡ st.symbols
array_symbols st v None = range_symbols st v (range_of st.objects v)
array_symbols st v (Some vs) = refl

pub splat_symbols : (st : Store) (v : Value) → (splat st v).store.symbols ≡ st.symbols
unfolding splat
splat_symbols st v = array_symbols st v (elements_in st.objects v)

-- a new Array has its elements
pub new_elements : (st : Store) (vs : List Value)
    → unwrap_or (elements_in (with_object st (items_object vs)).objects (Obj (next_number st))) (Obj (next_number st) ∷ [])
    ≡ vs
new_elements st vs =
    ap (λ (o : Object). unwrap_or (elements_of o.kind) (Obj (next_number st) ∷ []))
    (get_or_push st.objects (items_object vs) absent (length st.objects) refl)

-- What is called, and the items behind it.

pub items_held : (h : Site) (l : List Registers) (own : Bool) (r : ℕ) (recv : Value) (vs : List Value)
    → HoldsCall h l own r recv vs → Holds l h.list (r + 1) vs
items_held h l false r recv vs held = held.1
items_held h l true r recv vs held = held.1

pub called_held : (h : Site) (l : List Registers) (own : Bool) (r : ℕ) (recv : Value) (vs : List Value)
    → HoldsCall h l own r recv vs → HoldsCall h l own r recv []
called_held h l false r recv vs held = (held.0, tt)
called_held h l true r recv vs held = (held.0, tt)

-- other registers keep the items
pub items_kept : (h : Site) (l : List Registers) (r i : ℕ) (v : Value) (vs : List Value) → h.list < length l → i < r
    → Holds l h.list r vs → Holds (put l h.list i (V v)) h.list r vs
items_kept h l r i v [] lt below s = tt
items_kept h l r i v (u ∷ vs) lt below s =
    (slot_other l h.list i r (V v) lt (omega arith) ∙ s.0, items_kept h l (r + 1) i v vs lt (omega arith) s.1)
