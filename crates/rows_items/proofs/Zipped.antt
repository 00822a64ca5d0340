-- New Arrays, one after another.
use Rattle.std.proofs.Common.{◌≡◌, ℕ, zero, suc, ◌-◌, ◌<◌, ◌≤◌, List, [], ◌∷◌, ◌++◌, ap, sym, ◌∙◌, append_assoc, append-nil, arith}
use Rattle.rb_value.specs.declared.value.Value.{Value}
use Rattle.def_core.specs.Store.{Store}
use Rattle.rb_store.specs.Held.{Held}
use Rattle.heap.specs.Made.{array_given, with_array}
use Rattle.rows_items.specs.Zipped.{arrays_from, after_arrays}

-- one more
pub arrays_more : (row : Store → ℕ → List Value) (count place : ℕ) (held : Held) (vs : List Value) → place < count
    → after_arrays vs (arrays_from row (count - place) held place)
    ≡ after_arrays (vs ++ array_given held.store (row held.store place) ∷ [])
    (arrays_from row (count - suc place) (with_array held (row held.store place)) (suc place))
arrays_more row count place held vs lt =
    let e : count - place ≡ suc (count - suc place) = omega (arith, lt) in
    let rest : List Value × Held =
    arrays_from row (count - suc place) (with_array held (row held.store place)) (suc place) in
    ap (λ (n : ℕ). after_arrays vs (arrays_from row n held place)) e
    ∙ ap (λ (us : List Value). (us, rest.1))
    (sym (append_assoc vs (array_given held.store (row held.store place) ∷ []) rest.0))

-- no more
pub arrays_end : (row : Store → ℕ → List Value) (count place : ℕ) (held : Held) (vs : List Value) → count ≤ place
    → after_arrays vs (arrays_from row (count - place) held place) ≡ (vs, held)
arrays_end row count place held vs le =
    let e : count - place ≡ zero = omega (arith, le) in
    ap (λ (n : ℕ). after_arrays vs (arrays_from row n held place)) e
    ∙ ap (λ (us : List Value). (us, held)) (append-nil vs)
